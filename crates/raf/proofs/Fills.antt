-- What is kept of an old chunk is enough: the data covers the rest of it.
use Rattle.std.proofs.Common.{◌≡◌, inl, inr, ℕ, suc, ◌+◌, ◌-◌, ◌*◌, ◌<◌, ◌≤◌, min, Bool, true, false, ◌&&◌, not, cond, List, [], ◌∷◌, length, take, replicate, get_or, refl, sym, ◌∙◌, ap, arith, length-take}
use Rattle.std.specs.Prelude.{nat_lt, nat_le, slice_index, ◌⊎◌}
use Rattle.std.proofs.lemmas.List.{take_all, take-take, nil_from_length, get_or-append_right, get_or-replicate}
use Rattle.std.proofs.lemmas.Bool.{cases_lt}
use Rattle.std.proofs.lemmas.Bool.Decides.{nat_tests}
use Rattle.raf_io.specs.Storage.{resized}
use Rattle.raf_format.specs.File.{chunk_len}
use Rattle.raf.specs.Apply.{overlaid, new_chunk}
use Rattle.raf.specs.Plan.{kept_len, change_by}
use Rattle.raf.specs.declared.planning.Plan.{Plan}
use Rattle.raf_io.proofs.Splices.{resized_cut, resized_grown, length-resized}

-- the byte at a position
abbrev pub byte : ℕ → ℕ → List ℕ → ℕ → ℕ
byte position offset bytes x = cond {A = ℕ} (nat_le offset position && nat_lt position (offset + length bytes)) (slice_index bytes (position - offset)) x

-- two lists under the same data are one, where they differ at positions that it covers alone
pub overlaid_same : (position offset : ℕ) (bytes xs ys : List ℕ) → length xs ≡ length ys
    → ((k : ℕ) → k < length xs → ((offset ≤ position + k) × (position + k < offset + length bytes)) ⊎ (get_or xs k 0 ≡ get_or ys k 0))
    → overlaid position offset bytes xs ≡ overlaid position offset bytes ys
overlaid_same position offset bytes [] [] len same = refl
overlaid_same position offset bytes [] (y ∷ ys) len same = absurd (omega (arith, len))
overlaid_same position offset bytes (x ∷ xs) [] len same = absurd (omega (arith, len))
overlaid_same position offset bytes (x ∷ xs) (y ∷ ys) len same =
    ap (λ (z : ℕ). z ∷ overlaid (position + 1) offset bytes xs) first
    ∙ ap (λ (l : List ℕ). byte position offset bytes y ∷ l) (overlaid_same (position + 1) offset bytes xs ys (omega (arith, len)) rest)
  where
    first : byte position offset bytes x ≡ byte position offset bytes y
    first = elim (same 0 (omega arith)) [
      | inl covered ↦
          let t : nat_le offset position && nat_lt position (offset + length bytes) ≡ true = grind (arith, nat_tests) in
          ap (λ (t : Bool). cond t (slice_index bytes (position - offset)) x) t ∙ sym (ap (λ (t : Bool). cond t (slice_index bytes (position - offset)) y) t)
      | inr eq ↦ ap (λ (z : ℕ). byte position offset bytes z) eq
    ]

    rest : (k : ℕ) → k < length xs → ((offset ≤ position + 1 + k) × (position + 1 + k < offset + length bytes)) ⊎ (get_or xs k 0 ≡ get_or ys k 0)
    rest k lt = elim (same (suc k) (omega (arith, lt))) [
      | inl covered ↦ inl (omega (arith, covered.0), omega (arith, covered.1))
      | inr eq ↦ inr eq
    ]

-- past their end, resized bytes are zeros
resized_past : (n k : ℕ) (m : List ℕ) → length m ≤ k → k < n → get_or (resized n m) k 0 ≡ 0
resized_past n k m past lt =
    ap (λ (l : List ℕ). get_or l k 0) (resized_grown n m (omega (arith, past, lt)))
    ∙ get_or-append_right m (replicate (n - length m) 0) (length m) k 0 refl past
    ∙ get_or-replicate (n - length m) (k - length m) 0 0 (omega (arith, past, lt))

resized_none : (m : List ℕ) → resized 0 m ≡ []
resized_none m = nil_from_length (resized 0 m) (length-resized 0 m)

resized_kept : (n k : ℕ) (m : List ℕ) → k ≡ min (length m) n → resized n (take k m) ≡ resized n m
resized_kept n k m is = elim (cases_lt (length m) n) [
  | inl short ↦ ap (resized n) (take_all k m (omega (arith, is, short)))
  | inr long ↦
      let e : k ≡ n = omega (arith, is, long) in
      ap (λ (j : ℕ). resized n (take j m)) e
      ∙ resized_cut n (take n m) (omega (arith, length-take n m, long)) ∙ take-take n n m (omega arith) ∙ sym (resized_cut n m long)
]

module _ (chunk_size : ℕ) (p : Plan) (bytes : List ℕ) (index : ℕ) where
  start : ℕ
  start = index * chunk_size

  abbrev stop : ℕ
  stop = min (index * chunk_size + chunk_size) (min p.before p.size)

  abbrev stays : Bool
  stays = nat_lt (index * chunk_size) stop && not (nat_le p.offset (index * chunk_size) && nat_le stop (p.offset + length bytes))

  pub kept_short : kept_len chunk_size p (length bytes) index ≤ chunk_len chunk_size p.before index
  kept_short = grind (arith, nat_tests)

  -- the new chunk of what is kept is that of all old bytes
  pub kept_enough : (m : List ℕ) → length m ≡ chunk_len chunk_size p.before index
      → new_chunk chunk_size (change_by p bytes) index (take (kept_len chunk_size p (length bytes) index) m) ≡ new_chunk chunk_size (change_by p bytes) index m
  kept_enough m len = elim (cases_lt (index * chunk_size) stop) [
    | inr none ↦
        let t : stays ≡ false = grind (arith, nat_tests) in
        ap (λ (t : Bool). new_chunk chunk_size (change_by p bytes) index (take (cond {A = ℕ} t (stop - index * chunk_size) 0) m)) t
        ∙ elim (cases_lt (index * chunk_size) p.size) [
          | inl more ↦
              let e : m ≡ [] = nil_from_length m (omega (arith, len, none, more)) in
              sym (ap (new_chunk chunk_size (change_by p bytes) index) e)
          | inr less ↦
              let l : chunk_len chunk_size p.size index ≡ 0 = omega (arith, less) in
              ap (λ (n : ℕ). overlaid (index * chunk_size) p.offset bytes (resized n [])) l
              ∙ ap (λ (l : List ℕ). overlaid (index * chunk_size) p.offset bytes l) (resized_none [] ∙ sym (resized_none m))
              ∙ sym (ap (λ (n : ℕ). overlaid (index * chunk_size) p.offset bytes (resized n m)) l)
        ]
    | inl some ↦ elim (cases_lt (p.offset + length bytes) stop) [
      | inl open_end ↦ kept (grind (arith, nat_tests)) some
      | inr closed ↦ elim (cases_lt (index * chunk_size) p.offset) [
        | inl late ↦ kept (grind (arith, nat_tests)) some
        | inr early ↦ covered (grind (arith, nat_tests)) some early closed
      ]
    ]
  ]
    where
      kept : stays ≡ true → index * chunk_size < stop
          → new_chunk chunk_size (change_by p bytes) index (take (kept_len chunk_size p (length bytes) index) m) ≡ new_chunk chunk_size (change_by p bytes) index m
      kept t some =
          ap (λ (t : Bool). new_chunk chunk_size (change_by p bytes) index (take (cond {A = ℕ} t (stop - index * chunk_size) 0) m)) t
          ∙ ap (λ (l : List ℕ). overlaid (index * chunk_size) p.offset bytes l) (resized_kept (chunk_len chunk_size p.size index) (stop - index * chunk_size) m (omega (arith, len, some)))

      covered : stays ≡ false → index * chunk_size < stop → p.offset ≤ index * chunk_size → stop ≤ p.offset + length bytes
          → new_chunk chunk_size (change_by p bytes) index (take (kept_len chunk_size p (length bytes) index) m) ≡ new_chunk chunk_size (change_by p bytes) index m
      covered t some early closed =
          let n = chunk_len chunk_size p.size index in
          let ln = length-resized (chunk_len chunk_size p.size index) [] in
          let lm = length-resized (chunk_len chunk_size p.size index) m in
          ap (λ (t : Bool). new_chunk chunk_size (change_by p bytes) index (take (cond {A = ℕ} t (stop - index * chunk_size) 0) m)) t
          ∙ overlaid_same (index * chunk_size) p.offset bytes (resized (chunk_len chunk_size p.size index) []) (resized (chunk_len chunk_size p.size index) m) (ln ∙ sym lm)
          (λ k lt. elim (cases_lt (index * chunk_size + k) stop) [
            | inl inside ↦ inl (omega (arith, early), omega (arith, inside, closed))
            | inr past ↦ inr (resized_past (chunk_len chunk_size p.size index) k [] (omega arith) (omega (arith, lt, ln)) ∙ sym (resized_past (chunk_len chunk_size p.size index) k m (omega (arith, len, past, lt, ln)) (omega (arith, lt, ln))))
          ])
