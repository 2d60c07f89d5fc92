-- The part of the data that stands in a chunk.
use Rattle.std.proofs.Common.{◌≡◌, inl, inr, ℕ, ◌+◌, ◌-◌, ◌*◌, ◌<◌, ◌≤◌, min, Bool, true, false, ◌&&◌, cond, List, [], ◌∷◌, ◌++◌, length, take, drop, replicate, get_or, refl, sym, ◌∙◌, ap, arith, length-take, length-drop}
use Rattle.std.specs.Prelude.{nat_lt, nat_le, slice_index}
use Rattle.std.proofs.lemmas.List.{get_or-take, get_or-drop, take_all, drop_all, append-nil}
use Rattle.std.proofs.lemmas.Bool.{cases_lt}
use Rattle.std.proofs.lemmas.Bool.Decides.{nat_tests}
use Rattle.raf.specs.Apply.{overlaid}
use Rattle.raf.specs.Put.{put_chunk}
use Rattle.raf.specs.declared.planning.Plan.{Plan}
use Rattle.raf_format.specs.File.{Shape, chunk_len}
use Rattle.raf_io.specs.Storage.{resized}
use Rattle.raf_io.proofs.Splices.{length-resized}
use Rattle.raf.proofs.Overlaid.{byte, overlaid_is}

module _ (start offset len : ℕ) (bytes : List ℕ) (skip from n : ℕ) (s : skip ≡ min (offset - start) len) (f : from ≡ min (start - offset) (length bytes))
    (m : n ≡ min (len - skip) (length bytes - from)) where
  length_part : length (take n (drop from bytes)) ≡ n
  length_part = omega (arith, length-take n (drop from bytes), length-drop from bytes)

  same_byte : (k x : ℕ) → k < len → byte k skip (take n (drop from bytes)) x ≡ byte (start + k) offset bytes x
  same_byte k x lt = elim (cases_lt (start + k) offset) [
    | inl low ↦
        let a : nat_le skip k && nat_lt k (skip + length (take n (drop from bytes))) ≡ false = grind (arith, nat_tests, length_part) in
        let b : nat_le offset (start + k) && nat_lt (start + k) (offset + length bytes) ≡ false = grind (arith, nat_tests) in
        both a b
    | inr up ↦ elim (cases_lt (start + k) (offset + length bytes)) [
      | inl inside ↦
          let lo : skip ≤ k = omega arith in
          let hi : k < skip + n = omega arith in
          let a : nat_le skip k && nat_lt k (skip + length (take n (drop from bytes))) ≡ true = grind (arith, nat_tests, length_part) in
          let b : nat_le offset (start + k) && nat_lt (start + k) (offset + length bytes) ≡ true = grind (arith, nat_tests) in
          let at : from + (k - skip) ≡ start + k - offset = omega arith in
          ap (λ (t : Bool). cond t (slice_index (take n (drop from bytes)) (k - skip)) x) a
          ∙ get_or-take n (drop from bytes) (k - skip) 0 (omega arith)
          ∙ get_or-drop from bytes (k - skip) 0
          ∙ ap (λ (i : ℕ). get_or bytes i 0) at
          ∙ sym (ap (λ (t : Bool). cond t (slice_index bytes (start + k - offset)) x) b)
      | inr past ↦
          let a : nat_le skip k && nat_lt k (skip + length (take n (drop from bytes))) ≡ false = grind (arith, nat_tests, length_part) in
          let b : nat_le offset (start + k) && nat_lt (start + k) (offset + length bytes) ≡ false = grind (arith, nat_tests) in
          both a b
    ]
  ]
    where
      both : nat_le skip k && nat_lt k (skip + length (take n (drop from bytes))) ≡ false → nat_le offset (start + k) && nat_lt (start + k) (offset + length bytes) ≡ false
          → byte k skip (take n (drop from bytes)) x ≡ byte (start + k) offset bytes x
      both a b = ap (λ (t : Bool). cond t (slice_index (take n (drop from bytes)) (k - skip)) x) a ∙ sym (ap (λ (t : Bool). cond t (slice_index bytes (start + k - offset)) x) b)

  same_bytes : (k : ℕ) (x : List ℕ) → k + length x ≤ len → overlaid k skip (take n (drop from bytes)) x ≡ overlaid (start + k) offset bytes x
  same_bytes k [] le = refl
  same_bytes k (x ∷ xs) le =
      let e : start + k + 1 ≡ start + (k + 1) = omega arith in
      ap (λ (y : ℕ). y ∷ overlaid (k + 1) skip (take n (drop from bytes)) xs) (same_byte k x (omega (arith, le)))
      ∙ ap (λ (l : List ℕ). byte (start + k) offset bytes x ∷ l) (same_bytes (k + 1) xs (omega (arith, le)) ∙ sym (ap (λ (i : ℕ). overlaid i offset bytes xs) e))

pub overlaid_part : (start offset : ℕ) (bytes x : List ℕ) (skip from n : ℕ) → skip ≡ min (offset - start) (length x) → from ≡ min (start - offset) (length bytes)
    → n ≡ min (length x - skip) (length bytes - from) → overlaid 0 skip (take n (drop from bytes)) x ≡ overlaid start offset bytes x
overlaid_part start offset bytes x skip from n s f m =
    let e : start + 0 ≡ start = omega arith in
    same_bytes start offset (length x) bytes skip from n s f m 0 x (omega arith) ∙ ap (λ (i : ℕ). overlaid i offset bytes x) e

-- zeros behind the bytes that are kept
pub cleared : (kept : ℕ) (old now : List ℕ) → kept ≤ length old → now ≡ take kept old ++ replicate (length old - kept) 0 → now ≡ resized (length old) (take kept old)
cleared kept old now le is =
    let len : length (take kept old) ≡ kept = omega (arith, length-take kept old) in
    let n : length old - kept ≡ length old - length (take kept old) = omega (arith, len) in
    is
    ∙ ap (λ (k : ℕ). take kept old ++ replicate k 0) n
    ∙ ap (λ (l : List ℕ). l ++ replicate (length old - length (take kept old)) 0) (sym (take_all (length old) (take kept old) (omega (arith, len))))

module _ (start offset : ℕ) (bytes old : List ℕ) (kept skip from n : ℕ) (le : kept ≤ length old) (s : skip ≡ min (offset - start) (length old)) (f : from ≡ min (start - offset) (length bytes))
    (m : n ≡ min (length old - skip) (length bytes - from)) where
  abbrev zeroed : List ℕ
  zeroed = resized (length old) (take kept old)

  part_len : length (take n (drop from bytes)) ≡ n
  part_len = omega (arith, length-take n (drop from bytes), length-drop from bytes, m)

  same_len : length zeroed ≡ length old
  same_len = length-resized (length old) (take kept old)

  overlaid_there : overlaid start offset bytes zeroed ≡ take skip zeroed ++ take n (drop from bytes) ++ drop (skip + length (take n (drop from bytes))) zeroed
  overlaid_there =
      sym (overlaid_part start offset bytes zeroed skip from n (omega (arith, s, same_len)) f (omega (arith, m, same_len)))
      ∙ overlaid_is skip (take n (drop from bytes)) zeroed (omega (arith, part_len, m, s, same_len))

  -- the data's part was put over what is kept and zeros
  pub staged : (cleared_to now piece : List ℕ) → cleared_to ≡ take kept old ++ replicate (length old - kept) 0 → piece ≡ take n (drop from bytes)
      → now ≡ take skip cleared_to ++ piece ++ drop (skip + length piece) cleared_to → now ≡ overlaid start offset bytes zeroed
  staged cleared_to now piece c p is =
      is
      ∙ ap (λ (l : List ℕ). take skip l ++ piece ++ drop (skip + length piece) l) (cleared kept old cleared_to le c)
      ∙ ap (λ (l : List ℕ). take skip zeroed ++ l ++ drop (skip + length l) zeroed) p
      ∙ sym overlaid_there

-- the data covers all of the bytes
pub covers : (start offset : ℕ) (bytes old : List ℕ) → offset ≤ start → start - offset + length old ≤ length bytes
    → overlaid start offset bytes old ≡ take (length old) (drop (start - offset) bytes)
covers start offset bytes old le fits =
    let from : ℕ = start - offset in
    let part : List ℕ = take (length old) (drop from bytes) in
    let len : length part ≡ length old = omega (arith, length-take (length old) (drop from bytes), length-drop from bytes) in
    sym (overlaid_part start offset bytes old 0 from (length old) (omega arith) (omega arith) (omega arith))
    ∙ overlaid_is 0 part old (omega (arith, len))
    ∙ ap (λ (l : List ℕ). part ++ l) (drop_all (0 + length part) old (omega (arith, len))) ∙ append-nil part

-- data that covers a chunk whole is what the chunk becomes, whatever is kept
pub covered : (s : Shape) (p : Plan) (bytes m : List ℕ) (index len cs : ℕ) (kept : List ℕ) → len ≡ chunk_len s.chunk_size p.size index → cs ≡ s.chunk_size
    → ((old : List ℕ) → length old ≡ len → m ≡ overlaid (index * cs) p.offset bytes old) → m ≡ put_chunk s p bytes index kept
covered s p bytes m index len cs kept l c is =
    let old = resized (chunk_len s.chunk_size p.size index) kept in
    is old (length-resized _ kept ∙ sym l) ∙ ap (λ (k : ℕ). overlaid (index * k) p.offset bytes old) c
