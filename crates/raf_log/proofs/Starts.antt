-- Where entries begin, and what stands there.
use Rattle.std.proofs.Common.{◌≡◌, ℕ, zero, suc, ◌+◌, ◌-◌, ◌≤◌, List, [], ◌∷◌, ◌++◌, length, take, drop, Some, None, refl, sym, ◌∙◌, ap, subst, arith, append_assoc}
use Rattle.std.specs.Prelude.{slice_get, unwrap_or}
use Rattle.std.specs.Int.{w32, to_le_bytes}
use Rattle.std.proofs.Math.Seq.{drop-append-add}
use Rattle.std.proofs.lemmas.List.{take_at}
use Rattle.raf_log.specs.Entries.{spelled, spell, starts_from}
use Rattle.raf_log.specs.Log.{Spaced}
use Rattle.raf_log.proofs.Spelled.{head_long, spelled_long, spell_long}

-- an entry that is there
pub record Stood (at : ℕ) (es : List (List ℕ)) (i o : ℕ) : Type 0 where
  pub entry : List ℕ
  pub is : slice_get es i ≡ Some entry
  pub later : at ≤ o
  pub end : unwrap_or (slice_get (starts_from at es) (suc i)) (at + length (spell es)) ≡ o + 4 + length entry
  pub bytes : take (length entry) (drop (o + 4 - at) (spell es)) ≡ entry

pub stood : (at : ℕ) (es : List (List ℕ)) (i o : ℕ) → slice_get (starts_from at es) i ≡ Some o → Stood at es i o
stood at [] zero o is = absurd cc
stood at [] (suc i) o is = absurd cc
stood at (x ∷ es) zero o is =
    let o_is : o ≡ at = same at o is in
    let four : o + 4 - at ≡ length (to_le_bytes w32 (length x)) + 0 = omega (arith, o_is, head_long (length x)) in
    record {
      entry = x;
      is = refl;
      later = omega (arith, o_is);
      end = end es o_is;
      bytes =
          ap (λ (k : ℕ). take (length x) (drop k (spell (x ∷ es)))) four
          ∙ ap (λ (l : List ℕ). take (length x) (drop (length (to_le_bytes w32 (length x)) + 0) l)) (append_assoc (to_le_bytes w32 (length x)) x (spell es))
          ∙ ap (λ (l : List ℕ). take (length x) l) (drop-append-add (to_le_bytes w32 (length x)) (x ++ spell es) 0)
          ∙ take_at x (spell es) (length x) refl;
    }
  where
    same : (at o : ℕ) → Some at ≡ Some o → o ≡ at
    same at o e = cc

    end : (es : List (List ℕ)) → o ≡ at → unwrap_or (slice_get (starts_from at (x ∷ es)) (suc zero)) (at + length (spell (x ∷ es))) ≡ o + 4 + length x
    end [] o_is = omega (arith, o_is, spell_long x [])
    end (y ∷ es) o_is = omega (arith, o_is)
stood at (x ∷ es) (suc i) o is =
    let s : Stood (at + 4 + length x) es i o = stood (at + 4 + length x) es i o is in
    let total : at + 4 + length x + length (spell es) ≡ at + length (spell (x ∷ es)) = omega (arith, spell_long x es) in
    let past : o + 4 - at ≡ length (spelled x) + (o + 4 - (at + 4 + length x)) = omega (arith, spelled_long x, s.later) in
    record {
      entry = s.entry;
      is = s.is;
      later = omega (arith, s.later);
      end = ap (unwrap_or (slice_get (starts_from (at + 4 + length x) es) (suc i))) (sym total) ∙ s.end;
      bytes =
          ap (λ (k : ℕ). take (length s.entry) (drop k (spell (x ∷ es)))) past
          ∙ ap (λ (l : List ℕ). take (length s.entry) l) (drop-append-add (spelled x) (spell es) (o + 4 - (at + 4 + length x)))
          ∙ s.bytes;
    }

pub none_stood : (at : ℕ) (es : List (List ℕ)) (i : ℕ) → slice_get (starts_from at es) i ≡ None → slice_get es i ≡ None
none_stood at [] zero is = refl
none_stood at [] (suc i) is = refl
none_stood at (x ∷ es) zero is = absurd cc
none_stood at (x ∷ es) (suc i) is = none_stood (at + 4 + length x) es i is

-- an entry lies between its start and its end
pub record Lies (os : List ℕ) (i o end : ℕ) : Type 0 where
  pub least : o + 4 ≤ unwrap_or (slice_get os (suc i)) end
  pub most : unwrap_or (slice_get os (suc i)) end ≤ o + 4 + 65536
  pub within : unwrap_or (slice_get os (suc i)) end ≤ end

spaced_ends : (at : ℕ) (os : List ℕ) (end : ℕ) → Spaced at os end → at ≤ end
spaced_ends at [] end s = omega (arith, s)
spaced_ends at (o ∷ os) end s = omega (arith, s.1, spaced_ends (o + 4 + s.0) os end s.3)

pub lies : (at : ℕ) (os : List ℕ) (end i o : ℕ) → Spaced at os end → slice_get os i ≡ Some o → Lies os i o end
lies at [] end zero o s is = absurd cc
lies at [] end (suc i) o s is = absurd cc
lies at (p ∷ os) end zero o s is = go os (same p o is) s.3
  where
    same : (p o : ℕ) → Some p ≡ Some o → o ≡ p
    same p o e = cc

    go : (os : List ℕ) → o ≡ p → Spaced (p + 4 + s.0) os end → Lies (p ∷ os) zero o end
    go [] e r = record { least = omega (arith, e, r); most = omega (arith, e, r, s.2); within = omega arith }
    go (q ∷ os) e r = record { least = omega (arith, e, r.1); most = omega (arith, e, r.1, s.2); within = omega (arith, r.1, spaced_ends (p + 4 + s.0) (q ∷ os) end r) }
lies at (p ∷ os) end (suc i) o s is = let l : Lies os i o end = lies (p + 4 + s.0) os end i o s.3 is in record { least = l.least; most = l.most; within = l.within }

pub lies_at : (os : List ℕ) (end i o : ℕ) → Spaced 0 os end → slice_get os i ≡ Some o
    → (o + 4 ≤ unwrap_or (slice_get os (i + 1)) end) × (unwrap_or (slice_get os (i + 1)) end ≤ o + 4 + 65536) × (unwrap_or (slice_get os (i + 1)) end ≤ end)
lies_at os end i o s is =
    let next : i + 1 ≡ suc i = omega arith in
    let l : Lies os i o end = lies 0 os end i o s is in
    subst (λ (k : ℕ). (o + 4 ≤ unwrap_or (slice_get os k) end) × (unwrap_or (slice_get os k) end ≤ o + 4 + 65536) × (unwrap_or (slice_get os k) end ≤ end)) (sym next) (l.least, l.most, l.within)

-- the end that was found
pub ends_at : (now os : List ℕ) (i size end found : ℕ) → found ≡ unwrap_or (slice_get now (i + 1)) size → now ≡ os → size ≡ end → found ≡ unwrap_or (slice_get os (i + 1)) end
ends_at now os i size end found is same ends = is ∙ ap (λ (s : List ℕ). unwrap_or (slice_get s (i + 1)) size) same ∙ ap (λ (k : ℕ). unwrap_or (slice_get os (i + 1)) k) ends
