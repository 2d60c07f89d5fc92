-- What a proof that is accepted for a commitment says of each file with that commitment (this project's own).
use Rattle.std.specs.Prelude.{◌≡◌, ℕ, zero, suc, ◌+◌, ◌-◌, ◌*◌, ◌^◌, ◌<◌, ◌≤◌, ◌⊎◌, Bool, true, Decides, List, [], length, get_or, Result, OnOk}
use Rattle.counts.specs.Counts.{raised}
use Rattle.raf_tree.specs.Hashing.{Hashing}
use Rattle.raf_tree.specs.Calls.{Call, Content, answer, call_at, commitment_call, content_height}
use Rattle.raf_tree.specs.declared.place.Place.{Place}
use Rattle.raf_tree.specs.declared.place.Place.TheVariants as place
use Rattle.raf_check.specs.Claim.{Claim, above, claimed, call_number}

-- the proof is accepted for the commitment with this chunk: the first call that it claims answers with the commitment
abbrev pub Accepted : Hashing → List ℕ → List ℕ → Claim → Type 0
Accepted H value chunk p = answer H (call_number (claimed H chunk p) 0) ≡ value

-- the place of depth d on the path of a chunk, in a tree of height h: the commitment, the root, and then one level down at a time
abbrev pub place_at : ℕ → ℕ → ℕ → Place
place_at h index zero = place.Commitment
place_at h index (suc zero) = place.Node h 0
place_at h index (suc (suc d)) = place.Node (h - suc d) (above index (h - suc d))

-- the call at that place of what is committed to
abbrev pub call_along : Hashing → Content → ℕ → ℕ → Call
call_along H x index d = call_at H x (place_at (content_height x) index d)

-- there is a first depth at which the call that is claimed differs from that of what is committed to, and there both have one answer;
-- below the root the proof is one for a tree of that height
pub record Clashes (H : Hashing) (chunk : List ℕ) (p : Claim) (x : Content) : Type 0 where
  pub depth : ℕ
  pub within : depth < length (claimed H chunk p)
  pub equal : (d : ℕ) → d < depth → call_number (claimed H chunk p) d ≡ call_along H x p.index d
  pub differ : call_number (claimed H chunk p) depth ≡ call_along H x p.index depth → ⊥
  pub one_answer : answer H (call_number (claimed H chunk p) depth) ≡ answer H (call_along H x p.index depth)
  pub below_root : 2 ≤ depth → (p.height ≡ content_height x) × (p.index < 2 ^ content_height x)

-- it is the member of that index
abbrev pub IsMember : List (List ℕ) → ℕ → List ℕ → Type 0
IsMember chunks index chunk = (index < length chunks) × (get_or chunks index [] ≡ chunk)

-- what is committed to is as the proof tells: the chunk at the index, the id and the size
pub record TrueOf (chunk : List ℕ) (p : Claim) (x : Content) : Type 0 where
  pub member : IsMember x.chunks p.index chunk
  pub same_id : p.id ≡ x.context
  pub same_size : p.size ≡ x.size

-- whatever has this commitment, under whatever limit, is as the proof tells, or two different calls with one answer are named
abbrev pub Binds : Hashing → List ℕ → List ℕ → Claim → Type 0
Binds H value chunk p = (x : Content) → answer H (commitment_call H x) ≡ value → TrueOf chunk p x ⊎ Clashes H chunk p x

-- a proof of this index and height with these siblings can be checked by a hasher whose answers have this length: its tree has at most 63
-- levels above the leaves and a place for the chunk, and there is a sibling for each of these levels
pub record CanBeChecked (hash_len index height : ℕ) (siblings : List ℕ) : Type 0 where
  pub tall : height ≤ 63
  pub inside : index < 2 ^ height
  pub long : length siblings ≡ height * hash_len

-- what a check answers: yes exactly where the proof is accepted, and where it is it binds
pub record Checks (H : Hashing) (value chunk : List ℕ) (p : Claim) (yes : Bool) : Type 0 where
  pub exact : Decides yes (Accepted H value chunk p)
  pub binds : yes ≡ true → Binds H value chunk p

-- how many hashes a check asks in a tree of height h: one for each level above the leaf, one for the leaf and one for the commitment; no
-- more where the hasher fails
pub record CheckCalls {T E : Type 0} (h before now : ℕ) (result : Result T E) : Type 0 where
  pub later : before ≤ now
  pub most : now ≤ before + (h + 2)
  pub all : OnOk result (now ≡ raised before (h + 2))
