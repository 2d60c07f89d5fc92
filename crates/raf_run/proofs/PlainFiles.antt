-- A file none of whose chunks is missing, as one list of bytes.
use Rattle.std.proofs.Common.{◌≡◌, ℕ, zero, suc, ◌+◌, ◌-◌, ◌*◌, ◌/◌, ◌<◌, ◌≤◌, min, max, Bool, true, false, ◌&&◌, ◌||◌, List, [], ◌∷◌, ◌++◌, length, take, drop, replicate, Option, Some, None, refl, sym, ap, ◌∙◌, arith, subst, inl, inr}
use Rattle.std.specs.Prelude.{◌⊎◌, if◌then◌else◌, nat_lt, not, is_some, unwrap_or}
use Rattle.std.proofs.lemmas.Bool.{cases_lt}
use Rattle.std.proofs.lemmas.Bool.Decides.{nat_tests}
use Rattle.std.proofs.lemmas.List.{length-append, take_all, length-replicate, replicate-append-replicate}
use Rattle.raf_io.specs.Storage.{resized, spliced}
use Rattle.raf_io.proofs.Splices.{resized_cut, spliced_inside}
use Rattle.raf_format.specs.File.{File, chunk_count, chunk_len}
use Rattle.raf.specs.Change.{Change, write_change, truncate_change}
use Rattle.raf.specs.Concern.{is_touched, none_missing}
use Rattle.raf.specs.Apply.{bytes_between, overlaid, rebuilt, renewed, new_chunk, after}
use Rattle.raf.proofs.Overlaid.{overlaid_apart, overlaid_past, overlaid-append, overlaid_is}
use Rattle.raf.proofs.Pictures.{length-overlaid}

-- a chunk is the front of these bytes: a whole chunk, or all that is left
pub record Piece (s : ℕ) (c : Option (List ℕ)) (x : List ℕ) : Type 0 where
  pub front : List ℕ
  pub rest : List ℕ
  pub is : c ≡ Some front
  pub split : x ≡ front ++ rest
  pub some : 0 < length front
  pub most : length front ≤ s
  pub full : (length front ≡ s) ⊎ (rest ≡ [])

-- the chunks are these bytes, cut
abbrev pub AreCut : ℕ → List (Option (List ℕ)) → List ℕ → Type 0
AreCut s [] x = x ≡ []
AreCut s (c ∷ cs) x = (p : Piece s c x) × AreCut s cs p.rest

pub record IsPlain (F : File) (x : List ℕ) : Type 0 where
  pub size : F.size ≡ length x
  pub count : length F.chunks ≡ chunk_count F.shape.chunk_size F.size
  pub cut : AreCut F.shape.chunk_size F.chunks x

-- no bytes, no chunks
nothing : (s : ℕ) (cs : List (Option (List ℕ))) (x : List ℕ) → x ≡ [] → AreCut s cs x → cs ≡ []
nothing s [] x e h = refl
nothing s (c ∷ cs) x e h = absurd (omega (arith, ap length (sym e ∙ h.0.split), length-append h.0.front h.0.rest, h.0.some))

-- ---- what is read

read_step : (s end j : ℕ) (c : Option (List ℕ)) (cs : List (Option (List ℕ))) (x : List ℕ) (p : Piece s c x) → j * s + length x ≡ end
    → ((j + 1) * s + length p.rest ≡ end → bytes_between s 0 end (j + 1) cs ≡ p.rest) → (p.rest ≡ [] → cs ≡ []) → bytes_between s 0 end j (c ∷ cs) ≡ x
read_step s end j c cs x p e more last =
    ap (λ (c : Option (List ℕ)). take (end - max 0 (j * s)) (drop (0 - j * s) (unwrap_or c [])) ++ bytes_between s 0 end (j + 1) cs) p.is
    ∙ ap (λ (n : ℕ). take (end - max 0 (j * s)) (drop n p.front) ++ bytes_between s 0 end (j + 1) cs) none
    ∙ ap (λ (l : List ℕ). l ++ bytes_between s 0 end (j + 1) cs) (take_all (end - max 0 (j * s)) p.front (omega (arith, e, long)))
    ∙ ap (λ (l : List ℕ). p.front ++ l) (rest p.full)
    ∙ sym p.split
  where
    none : 0 - j * s ≡ 0
    none = omega arith

    long : length x ≡ length p.front + length p.rest
    long = ap length p.split ∙ length-append p.front p.rest

    next : (j + 1) * s ≡ j * s + s
    next = omega arith

    rest : (length p.front ≡ s) ⊎ (p.rest ≡ []) → bytes_between s 0 end (j + 1) cs ≡ p.rest
    rest (inl full) = more (omega (arith, next, long, full, e))
    rest (inr none) = ap (bytes_between s 0 end (j + 1)) (last none) ∙ sym none

read_from : (s end j : ℕ) (cs : List (Option (List ℕ))) (x : List ℕ) → AreCut s cs x → j * s + length x ≡ end → bytes_between s 0 end j cs ≡ x
read_from s end j [] x h e = sym h
read_from s end j (c ∷ cs) x h e = read_step s end j c cs x h.0 e (λ e. read_from s end (j + 1) cs h.0.rest h.1 e) (λ none. nothing s cs h.0.rest none h.1)

pub read_plain : (F : File) (x : List ℕ) → IsPlain F x → bytes_between F.shape.chunk_size 0 F.size 0 F.chunks ≡ x
read_plain F x h = read_from F.shape.chunk_size F.size 0 F.chunks x h.cut (omega (arith, h.size))

or_true : (t : Bool) → t || true ≡ true
or_true true = refl
or_true false = refl

pub none_missing_cut : (s : ℕ) (test : ℕ → Bool) (j : ℕ) (cs : List (Option (List ℕ))) (x : List ℕ) → AreCut s cs x → none_missing test j cs ≡ true
none_missing_cut s test j [] x h = refl
none_missing_cut s test j (c ∷ cs) x h =
    ap (λ (c : Option (List ℕ)). (not (test j) || is_some c) && none_missing test (j + 1) cs) h.0.is
    ∙ ap (λ (t : Bool). t && none_missing test (j + 1) cs) (or_true (not (test j)))
    ∙ none_missing_cut s test (j + 1) cs h.0.rest h.1

-- ---- what is written

length-rebuilt : (make : ℕ → Option (List ℕ) → Option (List ℕ)) (j n : ℕ) (cs : List (Option (List ℕ))) → length (rebuilt make j n cs) ≡ n
length-rebuilt make j zero cs = refl
length-rebuilt make j (suc n) [] = ap suc (length-rebuilt make (j + 1) n [])
length-rebuilt make j (suc n) (c ∷ cs) = ap suc (length-rebuilt make (j + 1) n cs)

resized_same : (n : ℕ) (m : List ℕ) → length m ≡ n → resized n m ≡ m
resized_same n m e = resized_cut n m (omega (arith, e)) ∙ take_all n m (omega (arith, e))

module _ (F : File) (K : Change) (from : K.from ≡ K.offset) (end : K.end ≡ K.offset + length K.bytes) (busy : 0 < length K.bytes) where
  abbrev pub s : ℕ
  s = F.shape.chunk_size

  abbrev pub over : ℕ → List ℕ → List ℕ
  over position x = overlaid position K.offset K.bytes x

  module _ (j : ℕ) (m : List ℕ) (long : length m ≡ chunk_len s K.size j) where
    touched_in : j * s < K.end → K.from < j * s + length m → is_touched F K j ≡ true
    touched_in begins ends = grind (arith, nat_tests)

    untouched : is_touched F K j ≡ false → over (j * s) m ≡ m
    untouched out = elim (cases_lt (j * s) K.end) [
      | inr past ↦ overlaid_past (j * s) K.offset K.bytes m (omega (arith, past, end))
      | inl begins ↦ elim (cases_lt K.from (j * s + length m)) [
        | inr before ↦ overlaid_apart (j * s) K.offset K.bytes m (omega (arith, before, from))
        | inl ends ↦ let odd : true ≡ false = sym (touched_in begins ends) ∙ out in (cc)
      ]
    ]

    renewed_one : renewed F K j (Some m) ≡ Some (over (j * s) m)
    renewed_one = go (is_touched F K j) refl
      where
        go : (t : Bool) → is_touched F K j ≡ t → (if t then Some (new_chunk s K j m) else Some m) ≡ Some (over (j * s) m)
        go true is = ap (λ (l : List ℕ). Some (over (j * s) l)) (resized_same (chunk_len s K.size j) m long)
        go false is = ap (λ (l : List ℕ). Some l) (sym (untouched is))

  written_step : (j : ℕ) (c : Option (List ℕ)) (cs : List (Option (List ℕ))) (x : List ℕ) (p : Piece s c x) → j * s + length x ≡ K.size
      → ((j + 1) * s + length p.rest ≡ K.size → AreCut s (rebuilt (renewed F K) (j + 1) (length cs) cs) (over ((j + 1) * s) p.rest)) → (p.rest ≡ [] → cs ≡ [])
      → AreCut s (rebuilt (renewed F K) j (length (c ∷ cs)) (c ∷ cs)) (over (j * s) x)
  written_step j c cs x p e more last = (
    record {
      front = over (j * s) p.front;
      rest = over (j * s + length p.front) p.rest;
      is = ap (renewed F K j) p.is ∙ renewed_one j p.front (len p.full);
      split = ap (over (j * s)) p.split ∙ overlaid-append (j * s) K.offset K.bytes p.front p.rest;
      some = omega (arith, p.some, length-overlaid (j * s) K.offset K.bytes p.front);
      most = omega (arith, p.most, length-overlaid (j * s) K.offset K.bytes p.front);
      full = full p.full;
    },
    rest p.full,
  )
    where
      long : length x ≡ length p.front + length p.rest
      long = ap length p.split ∙ length-append p.front p.rest

      next : (j + 1) * s ≡ j * s + s
      next = omega arith

      len : (length p.front ≡ s) ⊎ (p.rest ≡ []) → length p.front ≡ min s (K.size - j * s)
      len (inl full) = omega (arith, full, long, e)
      len (inr none) = omega (arith, ap length none, long, e, p.most)

      full : (length p.front ≡ s) ⊎ (p.rest ≡ []) → (length (over (j * s) p.front) ≡ s) ⊎ (over (j * s + length p.front) p.rest ≡ [])
      full (inl all) = inl (length-overlaid (j * s) K.offset K.bytes p.front ∙ all)
      full (inr none) = inr (ap (over (j * s + length p.front)) none)

      rest : (length p.front ≡ s) ⊎ (p.rest ≡ []) → AreCut s (rebuilt (renewed F K) (j + 1) (length cs) cs) (over (j * s + length p.front) p.rest)
      rest (inl all) =
          let place : (j + 1) * s ≡ j * s + length p.front = omega (arith, next, all) in
          subst (λ (n : ℕ). AreCut s (rebuilt (renewed F K) (j + 1) (length cs) cs) (over n p.rest)) place (more (omega (arith, next, long, all, e)))
      rest (inr none) =
          subst (λ (l : List (Option (List ℕ))). AreCut s (rebuilt (renewed F K) (j + 1) (length l) l) (over (j * s + length p.front) p.rest)) (sym (last none))
          (ap (over (j * s + length p.front)) none)

  written_from : (j : ℕ) (cs : List (Option (List ℕ))) (x : List ℕ) → AreCut s cs x → j * s + length x ≡ K.size → AreCut s (rebuilt (renewed F K) j (length cs) cs) (over (j * s) x)
  written_from j [] x h e = ap (over (j * s)) h
  written_from j (c ∷ cs) x h e = written_step j c cs x h.0 e (λ e. written_from (j + 1) cs h.0.rest h.1 e) (λ none. nothing s cs h.0.rest none h.1)

pub write_plain : (F : File) (x : List ℕ) (offset b : ℕ) (bytes : List ℕ) → offset + length (b ∷ bytes) ≤ length x → IsPlain F x → IsPlain (after F (write_change F.size offset (b ∷ bytes))) (spliced offset (b ∷ bytes) x)
write_plain F x offset b bytes fits h = record {
  size = same ∙ h.size ∙ sym long;
  count = length-rebuilt (renewed F K) 0 (chunk_count F.shape.chunk_size K.size) F.chunks;
  cut = subst (λ (l : List ℕ). AreCut F.shape.chunk_size (rebuilt (renewed F K) 0 (chunk_count F.shape.chunk_size K.size) F.chunks) l) is
      (subst (λ (n : ℕ). AreCut F.shape.chunk_size (rebuilt (renewed F K) 0 n F.chunks) (overlaid 0 offset (b ∷ bytes) x)) count
      (subst (λ (p : ℕ). AreCut F.shape.chunk_size (rebuilt (renewed F K) 0 (length F.chunks) F.chunks) (overlaid p offset (b ∷ bytes) x)) start
      (written_from F K (omega (arith, h.size, fits)) refl (omega arith) 0 F.chunks x h.cut (omega (arith, same, h.size)))));
}
  where
    K : Change
    K = write_change F.size offset (b ∷ bytes)

    same : max F.size (offset + length (b ∷ bytes)) ≡ F.size
    same = omega (arith, h.size, fits)

    start : 0 * F.shape.chunk_size ≡ 0
    start = omega arith

    count : length F.chunks ≡ chunk_count F.shape.chunk_size K.size
    count = h.count ∙ ap (chunk_count F.shape.chunk_size) (sym same)

    is : overlaid 0 offset (b ∷ bytes) x ≡ spliced offset (b ∷ bytes) x
    is = overlaid_is offset (b ∷ bytes) x fits ∙ spliced_inside offset (b ∷ bytes) x fits

    long : length (spliced offset (b ∷ bytes) x) ≡ length x
    long = ap length (sym is) ∙ length-overlaid 0 offset (b ∷ bytes) x

-- ---- what is made longer, from nothing

module _ (F : File) (n : ℕ) where
  abbrev pub Grown : Change
  Grown = truncate_change F.shape.chunk_size 0 n

  grown_one : (j : ℕ) → j * F.shape.chunk_size < n → 0 < F.shape.chunk_size → renewed F Grown j None ≡ Some (replicate (chunk_len F.shape.chunk_size n j) 0)
  grown_one j begins some =
      ap (λ (t : Bool). if t then Some (new_chunk F.shape.chunk_size Grown j []) else None) touched
      ∙ ap (λ (l : List ℕ). Some l) (overlaid_past (j * F.shape.chunk_size) 0 [] (resized (chunk_len F.shape.chunk_size n j) []) (omega arith) ∙ zeros (chunk_len F.shape.chunk_size n j))
    where
      start : (if nat_lt n 0 then n / F.shape.chunk_size * F.shape.chunk_size else 0) ≡ 0
      start = grind (arith, nat_tests)

      touched : is_touched F Grown j ≡ true
      touched = grind (arith, nat_tests, start)

      zeros : (k : ℕ) → resized k [] ≡ replicate k 0
      zeros k = ap (λ (l : List ℕ). l ++ replicate (k - 0) 0) (take_all k [] (omega arith)) ∙ ap (λ (m : ℕ). replicate m 0) (let e : k - 0 ≡ k = omega arith in e)

  grown_from : (k j : ℕ) → 0 < F.shape.chunk_size → n ≤ (j + k) * F.shape.chunk_size → ((i : ℕ) → i < j + k → i * F.shape.chunk_size < n)
      → AreCut F.shape.chunk_size (rebuilt (renewed F Grown) j k []) (replicate (n - j * F.shape.chunk_size) 0)
  grown_from zero j some enough below = let none : n - j * F.shape.chunk_size ≡ 0 = omega (arith, enough) in ap (λ (m : ℕ). replicate m 0) none
  grown_from (suc k) j some enough below = (
    record {
      front = replicate len 0;
      rest = replicate (n - (j + 1) * F.shape.chunk_size) 0;
      is = grown_one j begins some;
      split = ap (λ (m : ℕ). replicate m 0) sum ∙ sym (replicate-append-replicate len (n - (j + 1) * F.shape.chunk_size) 0);
      some = omega (arith, length-replicate {A = ℕ} len 0, begins, some);
      most = omega (arith, length-replicate {A = ℕ} len 0);
      full = full (cases_lt n ((j + 1) * F.shape.chunk_size));
    },
    grown_from k (j + 1) some (omega (arith, enough)) (λ i lt. below i (omega (arith, lt))),
  )
    where
      len : ℕ
      len = chunk_len F.shape.chunk_size n j

      next : (j + 1) * F.shape.chunk_size ≡ j * F.shape.chunk_size + F.shape.chunk_size
      next = omega arith

      begins : j * F.shape.chunk_size < n
      begins = below j (omega arith)

      sum : n - j * F.shape.chunk_size ≡ min F.shape.chunk_size (n - j * F.shape.chunk_size) + (n - (j + 1) * F.shape.chunk_size)
      sum = omega (arith, next, begins)

      full : (n < (j + 1) * F.shape.chunk_size) ⊎ ((j + 1) * F.shape.chunk_size ≤ n) → (length {A = ℕ} (replicate len 0) ≡ F.shape.chunk_size) ⊎ (replicate {A = ℕ} (n - (j + 1) * F.shape.chunk_size) 0 ≡ [])
      full (inl last) = let none : n - (j + 1) * F.shape.chunk_size ≡ 0 = omega (arith, last) in inr (ap (λ (m : ℕ). replicate m 0) none)
      full (inr whole) = inl (omega (arith, length-replicate {A = ℕ} len 0, next, whole))

pub grow_plain : (F : File) (n count : ℕ) → F.size ≡ 0 → F.chunks ≡ [] → 0 < F.shape.chunk_size → chunk_count F.shape.chunk_size n ≡ count → n ≤ count * F.shape.chunk_size
    → ((i : ℕ) → i < count → i * F.shape.chunk_size < n) → IsPlain (after F (truncate_change F.shape.chunk_size F.size n)) (replicate n 0)
grow_plain F n count empty none some is enough below = record {
  size = sym (length-replicate {A = ℕ} n 0);
  count = length-rebuilt (renewed F (truncate_change F.shape.chunk_size F.size n)) 0 (chunk_count F.shape.chunk_size n) F.chunks;
  cut = rw (empty, none, is) whole;
}
  where
    first : n - 0 * F.shape.chunk_size ≡ n
    first = omega arith

    whole : AreCut F.shape.chunk_size (rebuilt (renewed F (truncate_change F.shape.chunk_size 0 n)) 0 count []) (replicate n 0)
    whole = subst (λ (m : ℕ). AreCut F.shape.chunk_size (rebuilt (renewed F (truncate_change F.shape.chunk_size 0 n)) 0 count []) (replicate m 0)) first
        (grown_from F n count 0 some (omega (arith, enough)) (λ i lt. below i (omega (arith, lt))))
