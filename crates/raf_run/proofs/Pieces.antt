-- The pieces of a conversion: which random bytes their writes ask, and what refuses them first.
use Rattle.std.proofs.Common.{◌≡◌, ℕ, zero, suc, ◌+◌, ◌-◌, ◌*◌, ◌/◌, ◌<◌, ◌≤◌, min, max, Bool, true, false, ◌&&◌, ◌||◌, List, [], ◌∷◌, ◌++◌, length, Option, Some, None, refl, sym, ap, ◌∙◌, arith, subst, inl, inr}
use Rattle.std.specs.Prelude.{if◌then◌else◌, nat_lt, not, is_some, slice_get, ⊤}
use Rattle.std.specs.List.{concat}
use Rattle.std.proofs.Math.Nat.{mul-le-mul_left, lt-div-mul-add}
use Rattle.std.proofs.lemmas.Bool.{cases_lt}
use Rattle.std.proofs.lemmas.Bool.Decides.{nat_tests}
use Rattle.std.proofs.lemmas.List.{length-append}
use Rattle.raf_format.specs.File.{File, chunk_count, chunk_len}
use Rattle.raf_io.specs.declared.errors.ErrorKind.{ErrorKind}
use Rattle.raf.specs.Apply.{apply, after, rebuilt, renewed, new_chunk}
use Rattle.raf.specs.Change.{Change, write_change}
use Rattle.raf.specs.Concern.{can_have, valid, needed, meets, is_touched, none_missing, sum_where}
use Rattle.raf.specs.Converted.{ArePieces, writes}
use Rattle.raf.specs.Image.{asked_by, asked_in}
use Rattle.raf.specs.Read.{IsByteOf}
use Rattle.raf.specs.declared.command.Command.{Command}
use Rattle.raf.specs.declared.command.Command.TheVariants as command
use Rattle.raf.proofs.Places.{starts_below}
use Rattle.raf.proofs.Conversions.{can_have_less}
use Rattle.raf_run.specs.Conversions.{piece_len}
use Rattle.raf_run.specs.ConversionLaws.{asked_at, piece_refusal}

-- ---- chunks of which none is missing

abbrev pub AllThere : List (Option (List ℕ)) → Type 0
AllThere [] = ⊤
AllThere (None ∷ cs) = ⊥
AllThere (Some m ∷ cs) = AllThere cs

or_true : (t : Bool) → t || true ≡ true
or_true true = refl
or_true false = refl

none_missing_there : (test : ℕ → Bool) (j : ℕ) (cs : List (Option (List ℕ))) → AllThere cs → none_missing test j cs ≡ true
none_missing_there test j [] there = refl
none_missing_there test j (None ∷ cs) there = absurd there
none_missing_there test j (Some m ∷ cs) there =
    ap (λ (t : Bool). t && none_missing test (j + 1) cs) (or_true (not (test j))) ∙ none_missing_there test (j + 1) cs there

one_more : (c : Option (List ℕ)) (cs : List (Option (List ℕ))) → is_some c ≡ true → AllThere cs → AllThere (c ∷ cs)
one_more None cs is there = let odd : false ≡ true = is in (cc)
one_more (Some m) cs is there = there

all_rebuilt : (make : ℕ → Option (List ℕ) → Option (List ℕ)) → ((i : ℕ) (m : List ℕ) → is_some (make i (Some m)) ≡ true) → (j n : ℕ) (cs : List (Option (List ℕ))) → AllThere cs
    → ((i : ℕ) → j + length cs ≤ i → i < j + n → is_some (make i None) ≡ true) → AllThere (rebuilt make j n cs)
all_rebuilt make keeps j zero cs there new = tt
all_rebuilt make keeps j (suc n) [] there new =
    one_more (make j None) (rebuilt make (j + 1) n []) (new j (omega arith) (omega arith))
    (all_rebuilt make keeps (j + 1) n [] tt (λ i lo hi. new i (omega (arith, lo)) (omega (arith, hi))))
all_rebuilt make keeps j (suc n) (None ∷ cs) there new = absurd there
all_rebuilt make keeps j (suc n) (Some m ∷ cs) there new =
    one_more (make j (Some m)) (rebuilt make (j + 1) n cs) (keeps j m)
    (all_rebuilt make keeps (j + 1) n cs there (λ i lo hi. new i (omega (arith, lo)) (omega (arith, hi))))

length-rebuilt : (make : ℕ → Option (List ℕ) → Option (List ℕ)) (j n : ℕ) (cs : List (Option (List ℕ))) → length (rebuilt make j n cs) ≡ n
length-rebuilt make j zero cs = refl
length-rebuilt make j (suc n) [] = ap suc (length-rebuilt make (j + 1) n [])
length-rebuilt make j (suc n) (c ∷ cs) = ap suc (length-rebuilt make (j + 1) n cs)

mul_le : (a b n : ℕ) → a ≤ b → a * n ≤ b * n
mul_le a b n le =
    let x : a * n ≡ n * a = omega arith in
    let y : b * n ≡ n * b = omega arith in
    let step : n * a ≤ n * b = mul-le-mul_left n le in
    omega (arith, x, y, step)

-- the chunks of a size reach up to it
ends_above : (cs size : ℕ) → 0 < cs → size ≤ chunk_count cs size * cs
ends_above cs size some =
    let above : size + cs - 1 < (size + cs - 1) / cs * cs + cs = lt-div-mul-add some in
    omega (arith, above, some)

-- ---- a piece that is put at the end of a file

module _ (G : File) (o x : ℕ) (xs : List ℕ) (at : G.size ≡ o) (there : AllThere G.chunks) (can : can_have None G (o + length (x ∷ xs)) ≡ true) where
  abbrev pub K : Change
  K = write_change G.size o (x ∷ xs)

  end : max G.size (o + length (x ∷ xs)) ≡ o + length (x ∷ xs)
  end = omega (arith, at)

  from : min o G.size ≡ o
  from = omega (arith, at)

  is_valid : valid None G (command.Write o (x ∷ xs)) ≡ true
  is_valid = rw (end, can, none_missing_there (needed G (command.Write o (x ∷ xs))) 0 G.chunks there) refl

  pub applied : (apply None G (command.Write o (x ∷ xs))).1 ≡ after G (write_change G.size o (x ∷ xs))
  applied = rw is_valid refl

  pub asked : asked_by None G (command.Write o (x ∷ xs)) ≡ asked_at G.shape.nonce_len G.shape.chunk_size o (length (x ∷ xs))
  asked =
      rw is_valid
      (λ k. sum_where (λ (i : ℕ). meets (i * G.shape.chunk_size) (chunk_len G.shape.chunk_size (end k) i) (from k) (o + length (x ∷ xs))) (λ _. G.shape.nonce_len) 0 (chunk_count G.shape.chunk_size (end k)))

  pub size : (after G (write_change G.size o (x ∷ xs))).size ≡ o + length (x ∷ xs)
  size = end

  pub counted : length (after G (write_change G.size o (x ∷ xs))).chunks ≡ chunk_count G.shape.chunk_size (after G (write_change G.size o (x ∷ xs))).size
  counted = length-rebuilt (renewed G K) 0 (chunk_count G.shape.chunk_size K.size) G.chunks

  module _ (some : 0 < G.shape.chunk_size) (count : length G.chunks ≡ chunk_count G.shape.chunk_size G.size) where
    touched : (i : ℕ) → 0 + length G.chunks ≤ i → i < 0 + chunk_count G.shape.chunk_size (max G.size (o + length (x ∷ xs))) → is_touched G K i ≡ true
    touched i lo hi =
        let below : i * G.shape.chunk_size < max G.size (o + length (x ∷ xs)) = starts_below G.shape.chunk_size (max G.size (o + length (x ∷ xs))) i some (omega (arith, hi)) in
        let reach : G.size ≤ chunk_count G.shape.chunk_size G.size * G.shape.chunk_size = ends_above G.shape.chunk_size G.size some in
        let up : chunk_count G.shape.chunk_size G.size * G.shape.chunk_size ≤ i * G.shape.chunk_size = mul_le (chunk_count G.shape.chunk_size G.size) i G.shape.chunk_size (omega (arith, lo, count)) in
        let a : min o G.size < o + length (x ∷ xs) = omega arith in
        let b : i * G.shape.chunk_size < o + length (x ∷ xs) = omega (arith, below, at) in
        let c : min o G.size < i * G.shape.chunk_size + min G.shape.chunk_size (max G.size (o + length (x ∷ xs)) - i * G.shape.chunk_size) = omega (arith, below, reach, up, some, at) in
        grind (arith, nat_tests)

    keeps : (i : ℕ) (m : List ℕ) → is_some (renewed G K i (Some m)) ≡ true
    keeps i m = go (is_touched G K i)
      where
        go : (t : Bool) → is_some (if t then Some (new_chunk G.shape.chunk_size K i m) else Some m) ≡ true
        go true = refl
        go false = refl

    made : (i : ℕ) → is_touched G K i ≡ true → is_some (renewed G K i None) ≡ true
    made i is = ap (λ (t : Bool). is_some (if t then Some (new_chunk G.shape.chunk_size K i []) else None)) is

    pub all_there : AllThere (after G (write_change G.size o (x ∷ xs))).chunks
    all_there = all_rebuilt (renewed G K) keeps 0 (chunk_count G.shape.chunk_size K.size) G.chunks there (λ i lo hi. made i (touched i lo hi))

-- ---- a piece that is read

none_missing_where : (test : ℕ → Bool) (j : ℕ) (cs : List (Option (List ℕ))) → ((i : ℕ) → i < length cs → test (j + i) ≡ true → (m : List ℕ) × (slice_get cs i ≡ Some (Some m)))
    → none_missing test j cs ≡ true
none_missing_where test j [] h = refl
none_missing_where test j (c ∷ cs) h =
    ap (λ (t : Bool). t && none_missing test (j + 1) cs) (first (test j) refl)
    ∙ none_missing_where test (j + 1) cs (λ i lt is. let e : j + 1 + i ≡ j + suc i = omega arith in h (suc i) (omega (arith, lt)) (ap test (sym e) ∙ is))
  where
    there : test j ≡ true → is_some c ≡ true
    there is =
        let e : j + 0 ≡ j = omega arith in
        let p = h 0 (omega arith) (ap test e ∙ is) in
        some c p.0 p.1
      where
        some : (c : Option (List ℕ)) (m : List ℕ) → Some c ≡ Some (Some m) → is_some c ≡ true
        some (Some n) m e = refl
        some None m e = let odd : ◌≡◌ {A = Option (Option (List ℕ))} (Some None) (Some (Some m)) = e in (cc)

    first : (t : Bool) → test j ≡ t → not t || is_some c ≡ true
    first false is = refl
    first true is = there is

-- one chunk alone has a position
pub one_index : (cs i j p : ℕ) → i * cs ≤ p → p < i * cs + cs → j * cs ≤ p → p < j * cs + cs → i ≡ j
one_index cs i j p lo hi lo' hi' = elim (cases_lt i j) [
  | inl less ↦
      let up : (i + 1) * cs ≤ j * cs = mul_le (i + 1) j cs (omega (arith, less)) in
      let next : (i + 1) * cs ≡ i * cs + cs = omega arith in
      absurd (omega (arith, up, next, hi, lo'))
  | inr more ↦ elim (cases_lt j i) [
    | inl less ↦
        let up : (j + 1) * cs ≤ i * cs = mul_le (j + 1) i cs (omega (arith, less)) in
        let next : (j + 1) * cs ≡ j * cs + cs = omega arith in
        absurd (omega (arith, up, next, hi', lo))
    | inr least ↦ omega (arith, more, least)
  ]
]

some_size : (i cs o : ℕ) → o < i * cs + cs → 0 < cs
some_size i cs o lt = elim (cases_lt 0 cs) [
  | inl some ↦ some
  | inr none ↦
      let zero : cs ≡ 0 = omega (arith, none) in
      let e : i * cs + cs ≡ i * 0 + 0 = ap (λ (n : ℕ). i * n + n) zero in
      let f : i * 0 + 0 ≡ 0 = omega arith in
      absurd (omega (arith, lt, e, f))
]

-- a file of which these bytes are read misses no chunk that the read needs
module _ (F : File) (short : (i : ℕ) (m : List ℕ) → slice_get F.chunks i ≡ Some (Some m) → length m ≤ F.shape.chunk_size) (offset len : ℕ)
    (bytes : (p : ℕ) → offset ≤ p → p < offset + len → (byte : ℕ) × IsByteOf F.shape.chunk_size F.chunks p byte) where
  found_at : (i : ℕ) → offset < min (offset + len) F.size → i * F.shape.chunk_size < min (offset + len) F.size → offset < i * F.shape.chunk_size + F.shape.chunk_size → 0 < F.shape.chunk_size
      → (m : List ℕ) × (slice_get F.chunks i ≡ Some (Some m))
  found_at i some begins ends below = go (bytes (max offset (i * F.shape.chunk_size)) (omega arith) (omega (arith, some, begins)))
    where
      go : (byte : ℕ) × IsByteOf F.shape.chunk_size F.chunks (max offset (i * F.shape.chunk_size)) byte → (m : List ℕ) × (slice_get F.chunks i ≡ Some (Some m))
      go (byte, (j, m, found, lo, hi, is)) = (m, subst (λ (n : ℕ). slice_get F.chunks n ≡ Some (Some m)) same found)
        where
          wide : length m ≤ F.shape.chunk_size
          wide = short j m found

          same : j ≡ i
          same = one_index F.shape.chunk_size j i (max offset (i * F.shape.chunk_size)) lo (omega (arith, hi, wide)) (omega arith) (omega (arith, ends, below, begins))

  pub none_missing_read : none_missing (needed F (command.Read offset len)) 0 F.chunks ≡ true
  none_missing_read = none_missing_where (needed F (command.Read offset len)) 0 F.chunks at
    where
      at : (i : ℕ) → i < length F.chunks → needed F (command.Read offset len) (0 + i) ≡ true → (m : List ℕ) × (slice_get F.chunks i ≡ Some (Some m))
      at i lt is =
          let a : offset < min (offset + len) F.size = grind (arith, nat_tests) in
          let b : i * F.shape.chunk_size < min (offset + len) F.size = grind (arith, nat_tests) in
          let c : offset < i * F.shape.chunk_size + F.shape.chunk_size = grind (arith, nat_tests) in
          found_at i a b c (some_size i F.shape.chunk_size offset c)

-- ---- pieces that were moved

-- pieces of a file from an offset on, whose writes to a file with such nonces and chunks find the random bytes that they ask; the next
-- piece's write finds too few
abbrev pub Wants : File → ℕ → ℕ → ℕ → ℕ → List (List ℕ) → Type 0
Wants F nonce_len chunk_size o left [] = left < asked_at nonce_len chunk_size o (min piece_len (F.size - o))
Wants F nonce_len chunk_size o left (p ∷ ps) =
    (asked_at nonce_len chunk_size o (length p) ≤ left)
    × Wants F nonce_len chunk_size (o + length p) (left - asked_at nonce_len chunk_size o (length p)) ps

pub count_step : (s : ℕ) → 0 < s → chunk_count 65536 s ≡ suc (chunk_count 65536 (s - min 65536 s))
count_step s some = omega arith

module _ (F : File) where
  -- a piece that nothing refuses
  no_refusal : (nonce_len chunk_size n o left : ℕ) → none_missing (needed F (command.Read o (min piece_len (F.size - o)))) 0 F.chunks ≡ true
      → asked_at nonce_len chunk_size o (min piece_len (F.size - o)) ≤ left
      → piece_refusal nonce_len chunk_size F (suc n) o left
      ≡ piece_refusal nonce_len chunk_size F n (o + min piece_len (F.size - o)) (left - asked_at nonce_len chunk_size o (min piece_len (F.size - o)))
  no_refusal nonce_len chunk_size n o left none enough =
      let not_short : nat_lt left (asked_at nonce_len chunk_size o (min piece_len (F.size - o))) ≡ false = grind (arith, nat_tests) in
      rw (none, not_short) refl

  -- the first of some pieces, once it is known of the others
  module _ (G : File) (o left x : ℕ) (xs : List ℕ) (ps : List (List ℕ)) (at : G.size ≡ o) (in_size : o ≤ F.size) (lt : 0 < F.size - o) (len : length (x ∷ xs) ≡ min piece_len (F.size - o))
      (are : ArePieces piece_len (F.size - o - piece_len) ps) (there : AllThere G.chunks) (can : can_have None G F.size ≡ true)
      (read : (at len : ℕ) → at + len ≤ o + length ((x ∷ xs) ++ concat ps) → none_missing (needed F (command.Read at len)) 0 F.chunks ≡ true)
      (enough : asked_in None G (command.Write o (x ∷ xs) ∷ writes (o + length (x ∷ xs)) ps) ≤ left) where
    abbrev P : ℕ → ℕ → ℕ → Option ErrorKind
    P = piece_refusal G.shape.nonce_len G.shape.chunk_size F

    abbrev c : Command
    c = command.Write o (x ∷ xs)

    abbrev pub next : File
    next = after G (write_change G.size o (x ∷ xs))

    all : length ((x ∷ xs) ++ concat ps) ≡ length (x ∷ xs) + length (concat ps)
    all = length-append (x ∷ xs) (concat ps)

    left_over : F.size - o - min 65536 (F.size - o) ≡ F.size - (o + length (x ∷ xs))
    left_over = omega (arith, len)

    pub fits_piece : can_have None G (o + length (x ∷ xs)) ≡ true
    fits_piece = can_have_less None G (o + length (x ∷ xs)) F.size (omega (arith, len, in_size)) can

    asks : asked_by None G (command.Write o (x ∷ xs)) ≡ asked_at G.shape.nonce_len G.shape.chunk_size o (length (x ∷ xs))
    asks = asked G o x xs at there fits_piece

    sum : asked_in None G (command.Write o (x ∷ xs) ∷ writes (o + length (x ∷ xs)) ps)
        ≡ asked_by None G (command.Write o (x ∷ xs)) + asked_in None (after G (write_change G.size o (x ∷ xs))) (writes (o + length (x ∷ xs)) ps)
    sum = ap (λ (H : File). asked_by None G (command.Write o (x ∷ xs)) + asked_in None H (writes (o + length (x ∷ xs)) ps)) (applied G o x xs at there fits_piece)

    none : none_missing (needed F (command.Read o (min piece_len (F.size - o)))) 0 F.chunks ≡ true
    none = read o (min piece_len (F.size - o)) (omega (arith, len, all))

    fits : asked_at G.shape.nonce_len G.shape.chunk_size o (min piece_len (F.size - o)) ≤ left
    fits =
        let a : asked_at G.shape.nonce_len G.shape.chunk_size o (length (x ∷ xs)) ≡ asked_at G.shape.nonce_len G.shape.chunk_size o (min piece_len (F.size - o)) =
        ap (asked_at G.shape.nonce_len G.shape.chunk_size o) len in
        omega (arith, a, asks, sum, enough)

    pub in_size_more : o + length (x ∷ xs) ≤ F.size
    in_size_more = omega (arith, len, in_size)

    pub are_more : ArePieces piece_len (F.size - (o + length (x ∷ xs))) ps
    are_more = let e : F.size - o - 65536 ≡ F.size - (o + length (x ∷ xs)) = omega (arith, len) in subst (λ (k : ℕ). ArePieces piece_len k ps) e are

    pub read_more : (at len : ℕ) → at + len ≤ o + length (x ∷ xs) + length (concat ps) → none_missing (needed F (command.Read at len)) 0 F.chunks ≡ true
    read_more at len le = read at len (omega (arith, le, all))

    pub enough_more : asked_in None (after G (write_change G.size o (x ∷ xs))) (writes (o + length (x ∷ xs)) ps) ≤ left - asked_by None G (command.Write o (x ∷ xs))
    enough_more = omega (arith, sum, enough)

    pub first : (n : ℕ) → n ≡ chunk_count piece_len (F.size - o)
        → P (chunk_count piece_len (F.size - (o + length (x ∷ xs)))) (o + length (x ∷ xs)) (left - asked_by None G c)
        ≡ P (chunk_count piece_len (F.size - (o + length (x ∷ xs) + length (concat ps)))) (o + length (x ∷ xs) + length (concat ps)) (left - asked_by None G c - asked_in None next (writes (o + length (x ∷ xs)) ps))
        → P n o left ≡ P (chunk_count piece_len (F.size - (o + length ((x ∷ xs) ++ concat ps)))) (o + length ((x ∷ xs) ++ concat ps)) (left - asked_in None G (c ∷ writes (o + length (x ∷ xs)) ps))
    first n n_is more =
        ap (λ (n : ℕ). P n o left) (n_is ∙ count_step (F.size - o) lt ∙ ap (λ (k : ℕ). suc (chunk_count 65536 k)) left_over)
        ∙ no_refusal G.shape.nonce_len G.shape.chunk_size (chunk_count piece_len (F.size - (o + length (x ∷ xs)))) o left none fits
        ∙ ap (λ (l : ℕ). P (chunk_count piece_len (F.size - (o + length (x ∷ xs)))) (o + l) (left - asked_at G.shape.nonce_len G.shape.chunk_size o l)) (sym len)
        ∙ ap (λ (a : ℕ). P (chunk_count piece_len (F.size - (o + length (x ∷ xs)))) (o + length (x ∷ xs)) (left - a)) (sym asks)
        ∙ more
        ∙ ap (λ (p : ℕ). P (chunk_count piece_len (F.size - p)) p (left - asked_by None G c - asked_in None next (writes (o + length (x ∷ xs)) ps))) place
        ∙ ap (λ (l : ℕ). P (chunk_count piece_len (F.size - (o + length ((x ∷ xs) ++ concat ps)))) (o + length ((x ∷ xs) ++ concat ps)) l) rest
      where
        place : o + length (x ∷ xs) + length (concat ps) ≡ o + length ((x ∷ xs) ++ concat ps)
        place = omega (arith, all)

        rest : left - asked_by None G (command.Write o (x ∷ xs)) - asked_in None (after G (write_change G.size o (x ∷ xs))) (writes (o + length (x ∷ xs)) ps)
            ≡ left - asked_in None G (command.Write o (x ∷ xs) ∷ writes (o + length (x ∷ xs)) ps)
        rest = omega (arith, sum)

  -- the first cause is that of what is left
  pub moved_on : (ps : List (List ℕ)) (G : File) (o n left : ℕ) → G.size ≡ o → o ≤ F.size → ArePieces piece_len (F.size - o) ps → 0 < G.shape.chunk_size → AllThere G.chunks
      → length G.chunks ≡ chunk_count G.shape.chunk_size G.size → can_have None G F.size ≡ true
      → ((at len : ℕ) → at + len ≤ o + length (concat ps) → none_missing (needed F (command.Read at len)) 0 F.chunks ≡ true)
      → n ≡ chunk_count piece_len (F.size - o) → asked_in None G (writes o ps) ≤ left
      → piece_refusal G.shape.nonce_len G.shape.chunk_size F n o left
      ≡ piece_refusal G.shape.nonce_len G.shape.chunk_size F (chunk_count piece_len (F.size - (o + length (concat ps)))) (o + length (concat ps)) (left - asked_in None G (writes o ps))
  moved_on [] G o n left at in_size are some there count can read n_is enough =
      let none : o ≡ o + 0 = omega arith in
      let all : left ≡ left - 0 = omega arith in
      ap (λ (n : ℕ). piece_refusal G.shape.nonce_len G.shape.chunk_size F n o left) n_is
      ∙ ap (λ (p : ℕ). piece_refusal G.shape.nonce_len G.shape.chunk_size F (chunk_count piece_len (F.size - p)) p left) none
      ∙ ap (λ (l : ℕ). piece_refusal G.shape.nonce_len G.shape.chunk_size F (chunk_count piece_len (F.size - (o + 0))) (o + 0) l) all
  moved_on ([] ∷ ps) G o n left at in_size (lt, len, are) some there count can read n_is enough = absurd (omega (arith, lt, len))
  moved_on ((x ∷ xs) ∷ ps) G o n left at in_size (lt, len, are) some there count can read n_is enough =
      let fits = fits_piece G o left x xs ps at in_size lt len are there can read enough in
      first G o left x xs ps at in_size lt len are there can read enough n n_is
      (moved_on ps (after G (write_change G.size o (x ∷ xs))) (o + length (x ∷ xs)) (chunk_count piece_len (F.size - (o + length (x ∷ xs)))) (left - asked_by None G (command.Write o (x ∷ xs)))
      (size G o x xs at there fits) (in_size_more G o left x xs ps at in_size lt len are there can read enough) (are_more G o left x xs ps at in_size lt len are there can read enough) some
      (all_there G o x xs at there fits some count) (counted G o x xs at there fits) can (read_more G o left x xs ps at in_size lt len are there can read enough) refl
      (enough_more G o left x xs ps at in_size lt len are there can read enough))

  -- the pieces find their random bytes, where all of them do
  pub wants : (ps : List (List ℕ)) (G : File) (o left : ℕ) → G.size ≡ o → o ≤ F.size → ArePieces piece_len (F.size - o) ps → 0 < G.shape.chunk_size → AllThere G.chunks
      → length G.chunks ≡ chunk_count G.shape.chunk_size G.size → can_have None G F.size ≡ true
      → ((at len : ℕ) → at + len ≤ o + length (concat ps) → none_missing (needed F (command.Read at len)) 0 F.chunks ≡ true)
      → asked_in None G (writes o ps) ≤ left
      → left - asked_in None G (writes o ps) < asked_at G.shape.nonce_len G.shape.chunk_size (o + length (concat ps)) (min piece_len (F.size - (o + length (concat ps))))
      → Wants F G.shape.nonce_len G.shape.chunk_size o left ps
  wants [] G o left at in_size are some there count can read enough few =
      let none : o + 0 ≡ o = omega arith in
      let more : left < asked_at G.shape.nonce_len G.shape.chunk_size (o + 0) (min piece_len (F.size - (o + 0))) = omega (arith, few) in
      subst (λ (p : ℕ). left < asked_at G.shape.nonce_len G.shape.chunk_size p (min piece_len (F.size - p))) none more
  wants ([] ∷ ps) G o left at in_size (lt, len, are) some there count can read enough few = absurd (omega (arith, lt, len))
  wants ((x ∷ xs) ∷ ps) G o left at in_size (lt, len, are) some there count can read enough few =
      let fits = fits_piece G o left x xs ps at in_size lt len are there can read enough in
      let a = asks G o left x xs ps at in_size lt len are there can read enough in
      let s = sum G o left x xs ps at in_size lt len are there can read enough in
      let l = all G o left x xs ps at in_size lt len are there can read enough in
      let place : o + length ((x ∷ xs) ++ concat ps) ≡ o + length (x ∷ xs) + length (concat ps) = omega (arith, l) in
      let few_at = subst (λ (p : ℕ). left - asked_in None G (writes o ((x ∷ xs) ∷ ps)) < asked_at G.shape.nonce_len G.shape.chunk_size p (min piece_len (F.size - p))) place few in
      let rest = wants ps (after G (write_change G.size o (x ∷ xs))) (o + length (x ∷ xs)) (left - asked_by None G (command.Write o (x ∷ xs)))
      (size G o x xs at there fits) (in_size_more G o left x xs ps at in_size lt len are there can read enough) (are_more G o left x xs ps at in_size lt len are there can read enough) some
      (all_there G o x xs at there fits some count) (counted G o x xs at there fits) can (read_more G o left x xs ps at in_size lt len are there can read enough)
      (enough_more G o left x xs ps at in_size lt len are there can read enough) (omega (arith, few_at, s)) in (
        omega (arith, a, s, enough),
        subst (λ (n : ℕ). Wants F G.shape.nonce_len G.shape.chunk_size (o + length (x ∷ xs)) (left - n) ps) a rest,
      )
