-- What a proof claims, call by call (this project's own).
use Rattle.std.specs.Prelude.{ℕ, zero, suc, ◌+◌, ◌/◌, ◌%◌, ◌^◌, nat_eq, if◌then◌else◌, List, [], ◌∷◌, get_or}
use Rattle.raf_tree.specs.Hashing.{Hashing}
use Rattle.raf_tree.specs.Kept.{part}
use Rattle.raf_tree.specs.Calls.{Call, answer}
use Rattle.raf_tree.specs.Calls.Call.{Leaf, Parent, Empty, Commitment}

-- the index of a chunk; the size and the id of its file, and the height of the file's tree; and the siblings on the chunk's path, as the
-- bytes of one hash for each level, from level 0 up
pub record Claim : Type 0 where
  pub index : ℕ
  pub size : ℕ
  pub id : List ℕ
  pub height : ℕ
  pub siblings : List ℕ

abbrev pub claim_of : ℕ → ℕ → List ℕ → ℕ → List ℕ → Claim
claim_of index size id height siblings = record { index = index; size = size; id = id; height = height; siblings = siblings }

-- the index of the place at level l that a chunk is below
abbrev pub above : ℕ → ℕ → ℕ
above index l = index / 2 ^ l

-- the call of the parent of a place at level l and index j: of the place and its sibling, the one with the even index is the left child
abbrev pub parent_call : List ℕ → List ℕ → ℕ → ℕ → Call
parent_call own sibling l j =
    if nat_eq (j % 2) 0 then Parent own sibling (l + 1) (j / 2)
    else Parent sibling own (l + 1) (j / 2)

-- the call at level l on the path of a chunk, computed upward from its leaf
unfoldable pub path_call : Hashing → List ℕ → Claim → ℕ → Call
path_call H chunk p zero = Leaf chunk p.index
path_call H chunk p (suc l) = parent_call (answer H (path_call H chunk p l)) (part H.len l p.siblings) l (above p.index l)

-- the calls on that path from level l down to the leaf
unfoldable pub path_calls : Hashing → List ℕ → Claim → ℕ → List Call
path_calls H chunk p zero = path_call H chunk p 0 ∷ []
path_calls H chunk p (suc l) = path_call H chunk p (suc l) ∷ path_calls H chunk p l

-- the calls that a proof claims for a chunk, from the commitment down
abbrev pub claimed : Hashing → List ℕ → Claim → List Call
claimed H chunk p = Commitment (answer H (path_call H chunk p p.height)) p.id p.size ∷ path_calls H chunk p p.height

-- call number d of a list of calls, counted from 0
abbrev pub call_number : List Call → ℕ → Call
call_number calls d = get_or calls d (Empty 0 0)
