-- The siblings on the path of a chunk, and that a proof with them is accepted (this project's own).
use Rattle.std.specs.Prelude.{◌≡◌, ℕ, ◌+◌, ◌-◌, ◌%◌, ◌^◌, ◌<◌, nat_eq, if◌then◌else◌, List}
use Rattle.raf_tree.specs.Hashing.{Hashing}
use Rattle.raf_tree.specs.Kept.{part}
use Rattle.raf_tree.specs.Tree.{leaves, node}
use Rattle.raf_tree.specs.Calls.{Content, answer, commitment_call, content_height}
use Rattle.raf_check.specs.Claim.{Claim, above}
use Rattle.raf_check.specs.Binding.{Accepted, TrueOf}

-- the index of a place's sibling: the other child of its parent
abbrev pub sibling : ℕ → ℕ
sibling j = if nat_eq (j % 2) 0 then j + 1 else j - 1

-- below a level, the parts of the bytes are the nodes of the siblings on a chunk's path
abbrev pub SiblingsTo : Hashing → List (List ℕ) → ℕ → ℕ → List ℕ → Type 0
SiblingsTo H chunks index level bytes = (l : ℕ) → l < level → part H.len l bytes ≡ node H (leaves H chunks) l (sibling (above index l))

-- a proof that tells what is committed to, with the height of its tree and the siblings in it, is accepted for the commitment
abbrev pub HonestProofs : Hashing → Type 0
HonestProofs H = (x : Content) (chunk : List ℕ) (p : Claim) → TrueOf chunk p x → p.height ≡ content_height x → p.index < 2 ^ p.height
    → SiblingsTo H x.chunks p.index p.height p.siblings → Accepted H (answer H (commitment_call H x)) chunk p
