-- A proof as bytes (this project's own).
use Rattle.std.specs.Prelude.{◌≡◌, ◌⊎◌, ℕ, ℤ, pos, negsuc, ◌^◌, ◌<◌, ◌≤◌, Bool, List, [], ◌∷◌, ◌++◌, length, Option, Some, None, Result, IfOk}
use Rattle.std.specs.Int.{w32, w64, to_le_bytes}
use Rattle.raf_tree.specs.Hashing.{Hashing}
use Rattle.raf_check.specs.Claim.{Claim}
use Rattle.raf_check.specs.Binding.{Accepted, CanBeChecked, Checks, CheckCalls}

-- the 53 bytes before the siblings: the version 1; the index and the size, 8 bytes each; the file's id; the height, 4 bytes. Of each
-- number the least byte is the first
abbrev pub front : ℕ → ℕ → List ℕ → ℕ → List ℕ
front index size id height = (1 ∷ []) ++ to_le_bytes w64 index ++ to_le_bytes w64 size ++ id ++ to_le_bytes w32 height

-- all bytes of a proof
abbrev pub written : Claim → List ℕ
written p = front p.index p.size p.id p.height ++ p.siblings

-- the numbers have room in their fields, and the id has 32 bytes
pub record InRange (p : Claim) : Type 0 where
  pub index : p.index < 2 ^ 64
  pub size : p.size < 2 ^ 64
  pub id : length p.id ≡ 32
  pub height : p.height < 2 ^ 32

-- the bytes are this proof, which can be checked by a hasher whose answers have this length
pub record Says (hash_len : ℕ) (b : List ℕ) (p : Claim) : Type 0 where
  pub bytes : b ≡ written p
  pub fields : InRange p
  pub can : CanBeChecked hash_len p.index p.height p.siblings

-- the bytes are no such proof
abbrev pub IsNoProof : ℕ → List ℕ → Type 0
IsNoProof hash_len b = (p : Claim) → Says hash_len b p → ⊥

-- what a check of bytes answers: none where they are no such proof, and else what a check of that proof answers
abbrev pub ChecksBytes : Hashing → List ℕ → List ℕ → List ℕ → Option Bool → Type 0
ChecksBytes H value chunk bytes None = IsNoProof H.len bytes
ChecksBytes H value chunk bytes (Some answer) = (p : Claim) × Says H.len bytes p × Checks H value chunk p answer

-- the bytes are a proof that is accepted
abbrev pub AcceptedBytes : Hashing → List ℕ → List ℕ → List ℕ → Type 0
AcceptedBytes H value chunk bytes = (p : Claim) × Says H.len bytes p × Accepted H value chunk p

-- how many hashes a check of bytes asks: those of a check of the proof that they are, and none where they are none
pub record BytesCalls {E : Type 0} (hash_len : ℕ) (bytes : List ℕ) (before now : ℕ) (result : Result (Option Bool) E) : Type 0 where
  pub proof : (p : Claim) → Says hash_len bytes p → CheckCalls p.height before now result
  pub none : IfOk result (λ found. found ≡ None → now ≡ before)

-- bytes are one proof at most
abbrev pub OneProof : Type 0
OneProof = (p q : Claim) → InRange p → InRange q → written p ≡ written q → p ≡ q

-- a commitment and a chunk of lengths that a check by SHA-256 takes
abbrev pub FitLengths : List ℕ → List ℕ → Type 0
FitLengths value chunk = (length value ≡ 32) × (length chunk ≤ 2 ^ 60)

-- the numbers that a check answers by
abbrev pub IsStatus : ℤ → Type 0
IsStatus n = (n ≡ pos 1) ⊎ (n ≡ pos 0) ⊎ (n ≡ negsuc 0) ⊎ (n ≡ negsuc 1)
