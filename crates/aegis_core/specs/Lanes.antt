-- What both families of AEGIS share. A block is a list of 16 bytes, a lane a list of eight blocks
-- (AEGIS-128 family) or of six (AEGIS-256 family), and a state the list of its lanes. With one lane
-- this is AEGIS-128L or AEGIS-256; two and four lanes are the parallel modes of the AEGIS
-- specification.
use Rattle.std.specs.Prelude.{◌≡◌, ◌⊎◌, ℕ, zero, suc, ◌-◌, List, [], ◌∷◌, ◌++◌, replicate, fold, slice_index_or}
use Rattle.std.specs.Int.{w64, to_le_bytes}
use Rattle.aes_spec.specs.Bytes.{xor_bytes}

abbrev pub Block : Type 0
Block = List ℕ

abbrev pub Lane : Type 0
Lane = List Block

abbrev pub State : Type 0
State = List Lane

-- block i of a lane
abbrev pub at : Lane → ℕ → Block
at s i = slice_index_or s i []

-- f, n times
unfoldable pub times : {A : Type 0} → ℕ → (A → A) → A → A
times zero f x = x
times (suc n) f x = f (times n f x)

-- f 0, …, f (n - 1)
unfoldable pub lanes_from : (ℕ → Lane) → ℕ → State
lanes_from f zero = []
lanes_from f (suc n) = lanes_from f n ++ f n ∷ []

-- the constants C0 and C1 (AEGIS specification, "Conventions and Definitions")
abbrev pub c0 : Block
c0 = 0x00 ∷ 0x01 ∷ 0x01 ∷ 0x02 ∷ 0x03 ∷ 0x05 ∷ 0x08 ∷ 0x0d ∷ 0x15 ∷ 0x22 ∷ 0x37 ∷ 0x59 ∷ 0x90 ∷ 0xe9 ∷ 0x79 ∷ 0x62 ∷ []

abbrev pub c1 : Block
c1 = 0xdb ∷ 0x3d ∷ 0x18 ∷ 0x55 ∷ 0x6d ∷ 0xc2 ∷ 0x2f ∷ 0xf1 ∷ 0x20 ∷ 0x11 ∷ 0x31 ∷ 0x42 ∷ 0x73 ∷ 0xb5 ∷ 0x28 ∷ 0xdd ∷ []

-- the context of lane i of d: i, d - 1 and 14 zeros ("Parallel Modes"); one lane has zeros alone
abbrev pub context : ℕ → ℕ → Block
context d i = i ∷ (d - 1) ∷ replicate 14 0

-- two lengths in bits, as 64-bit numbers, the least significant byte first
abbrev pub lengths : ℕ → ℕ → Block
lengths first second = to_le_bytes w64 first ++ to_le_bytes w64 second

-- the exclusive or of blocks
abbrev pub xor_all : List Block → Block
xor_all bs = fold xor_bytes (replicate 16 0) bs

-- how many lanes a state may have
abbrev pub IsLaneCount : ℕ → Type 0
IsLaneCount n = (n ≡ 1) ⊎ ((n ≡ 2) ⊎ (n ≡ 4))
