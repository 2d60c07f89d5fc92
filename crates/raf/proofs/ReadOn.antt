-- A read goes on by a chunk.
use Rattle.std.proofs.Common.{◌≡◌, true, ℕ, zero, suc, ◌+◌, ◌-◌, ◌*◌, ◌<◌, ◌≤◌, max, List, [], ◌∷◌, ◌++◌, length, take, drop, Option, Some, Ok, Err, refl, sym, ◌∙◌, ap, subst, arith, add_assoc}
use Rattle.std.specs.Prelude.{unwrap_or}
use Rattle.raf_format.specs.Cipher.{Cipher, IsLawful}
use Rattle.raf_format.specs.File.{shape_of, layout_len, chunk_count, record_start, record_len, chunk_at}
use Rattle.raf.specs.Concern.{sum_where}
use Rattle.raf.specs.Apply.{bytes_between}
use Rattle.raf.specs.Outside.{Outside, Moved}
use Rattle.raf.specs.Loaded.{Sound, Loads}
use Rattle.raf.specs.Read.{Filled, ReadSoFar, Unread, with_chunk, chunks_of, reached}
use Rattle.raf_io.specs.Kinds.{kind_of}
use Rattle.raf_format.specs.declared.header.Header.{Header}
use Rattle.raf_io.specs.declared.errors.Error.{Error}
use Rattle.raf.proofs.Between.{filled_more}
use Rattle.raf.proofs.Chunks.{get_chunk, chunk_length, chunks_short}
use Rattle.raf.proofs.Places.{within_layout}
use Rattle.raf.proofs.Moves.{moved_same, moved_less, moved_then, quiet_same, quiet_then, kept_same, kept_then, unopened_later}

pub sum_all-push : (f : ℕ → ℕ) (i n : ℕ) → sum_where (λ _. true) f i (n + 1) ≡ sum_where (λ _. true) f i n + f (i + n)
sum_all-push f i zero = let e : i ≡ i + 0 = omega arith in omega (arith, ap f e)
sum_all-push f i (suc n) =
    let n_is : suc n + 1 ≡ suc (n + 1) = omega arith in
    let e : i + 1 + n ≡ i + suc n = omega arith in
    ap (sum_where (λ _. true) f i) n_is
    ∙ ap (λ (x : ℕ). f i + x) (sum_all-push f (i + 1) n)
    ∙ ap (λ (x : ℕ). f i + (sum_where (λ _. true) f (i + 1) n + f x)) e
    ∙ sym (add_assoc (f i) (sum_where (λ _. true) f (i + 1) n) (f (i + suc n)))

-- the sum up to an index and at it
pub sum_to : (f : ℕ → ℕ) (first index : ℕ) → first ≤ index → sum_where (λ _. true) f first (index + 1 - first) ≡ sum_where (λ _. true) f first (index - first) + f index
sum_to f first index le =
    let n : index + 1 - first ≡ index - first + 1 = omega arith in
    let e : first + (index - first) ≡ index = omega arith in
    ap (sum_where (λ _. true) f first) n ∙ omega (arith, sum_all-push f first (index - first), ap f e)

pub sum_grows : (f : ℕ → ℕ) (first n k : ℕ) → sum_where (λ _. true) f first n ≤ sum_where (λ _. true) f first (n + k)
sum_grows f first n zero = let e : n + 0 ≡ n = omega arith in omega (arith, ap (sum_where (λ _. true) f first) e)
sum_grows f first n (suc k) = let e : n + suc k ≡ n + k + 1 = omega arith in omega (arith, sum_grows f first n k, sum_all-push f first (n + k), ap (sum_where (λ _. true) f first) e)

-- nothing is read yet
pub filled_none : (cs : ℕ) (chunks : List (Option (List ℕ))) (offset first : ℕ) (old : List ℕ) → first * cs ≤ offset → Filled cs chunks offset first first old old
filled_none cs chunks offset first old le =
    let none : reached cs offset (length old) first ≡ 0 = omega (arith, le) in
    record {
      len = refl;
      bytes = subst (λ (k : ℕ). take k old ≡ bytes_between cs offset (offset + k) 0 chunks) (sym none) (sym (nothing 0 chunks));
      opened = λ k lt. absurd (omega (arith, lt, none));
      rest = refl;
      there = λ i least most. absurd (omega (arith, least, most));
    }
  where
    nothing : (j : ℕ) (l : List (Option (List ℕ))) → bytes_between cs offset (offset + 0) j l ≡ []
    nothing j [] = refl
    nothing j (c ∷ l) =
        let n : offset + 0 - max offset (j * cs) ≡ 0 = omega arith in
        ap (λ (k : ℕ). take k (drop (offset - j * cs) (unwrap_or c [])) ++ bytes_between cs offset (offset + 0) (j + 1) l) n ∙ nothing (j + 1) l

pub read_none : (C : Cipher) (K : List ℕ) (h : Header) (offset first : ℕ) (old now : Outside) (before : List ℕ) → now ≡ old → first * h.chunk_size ≤ offset
    → ReadSoFar C K h offset first first old now before before
read_none C K h offset first old now before same le = record {
  filled = λ b tells long. filled_none h.chunk_size (chunks_of C K h b) offset first before le;
  quiet = quiet_same old now same;
  kept = kept_same old now same;
  moved = moved_less old now 0 0 0 0 0 (layout_len (shape_of C h) h.file_size) (sum_where (λ _. true) (record_len (shape_of C h) h.file_size) first (first - first)) 0 0 0
      (moved_same old now same) (omega arith) (omega arith) (omega arith) (omega arith) (omega arith);
  strays = λ b tells long. ap (λ (x : Outside). x.strays) same;
}

module _ (C : Cipher) (lawful : IsLawful C) (K : List ℕ) (h : Header) (sound : Sound C h) (offset first index : ℕ) (old mid new : Outside) (before now m : List ℕ)
    (so_far : ReadSoFar C K h offset first index old mid before now) (least : first ≤ index) (lt : index < chunk_count h.chunk_size h.file_size) where
  some : 1 ≤ h.chunk_size
  some = omega (arith, sound.least)

  place : record_start (shape_of C h) index + record_len (shape_of C h) h.file_size index ≤ layout_len (shape_of C h) h.file_size
  place = within_layout (shape_of C h) h.file_size index some lt

  moved_on : Moved mid new (record_start (shape_of C h) index + record_len (shape_of C h) h.file_size index) (record_len (shape_of C h) h.file_size index) 0 0 0
      → Moved old new (layout_len (shape_of C h) h.file_size) (sum_where (λ _. true) (record_len (shape_of C h) h.file_size) first (index + 1 - first)) 0 0 0
  moved_on moved =
      moved_less old new _ _ _ _ _ (layout_len (shape_of C h) h.file_size) (sum_where (λ _. true) (record_len (shape_of C h) h.file_size) first (index + 1 - first)) 0 0 0
      (moved_then old mid new _ _ _ _ _ _ _ _ _ _ so_far.moved moved)
      (omega (arith, place)) (omega (arith, sum_to (record_len (shape_of C h) h.file_size) first index least)) (omega arith) (omega arith) (omega arith)

  pub read_more : (u : Unit {0}) → Loads C K h index mid new m (Ok u) → offset + length before ≤ h.file_size → index * h.chunk_size < offset + length before → offset < (index + 1) * h.chunk_size
      → (buf : List ℕ) → buf ≡ with_chunk h.chunk_size offset index m now
      → ReadSoFar C K h offset first (index + 1) old new before buf
  read_more u loads inside begins ends buf is = record {
    filled = λ b tells long.
        let opened : chunk_at C K h b index ≡ Some m = loads.loaded b (so_far.kept.bytes ∙ tells) in
        subst (Filled h.chunk_size (chunks_of C K h b) offset first (index + 1) before) (sym is)
        (filled_more h.chunk_size h.file_size offset first index (chunks_of C K h b) before now m (chunks_short C lawful K h b long some) (so_far.filled b tells long)
        (get_chunk C K h b index lt ∙ ap (λ (o : Option (List ℕ)). Some o) opened) (chunk_length C lawful K h b long some index m lt opened) inside begins ends);
    quiet = quiet_then old mid new so_far.quiet loads.quiet;
    kept = kept_then old mid new so_far.kept loads.kept;
    moved = moved_on loads.moved;
    strays = λ b tells long. loads.strays b (so_far.kept.bytes ∙ tells) long ∙ so_far.strays b tells long;
  }

  pub read_stops : (e : Error) → Loads C K h index mid new m (Err e) → (stop : ℕ) → index < stop → Unread C K h offset first stop old new before now e
  read_stops e loads stop below = record {
    index = index;
    among = (least, below);
    filled = so_far.filled;
    missing = λ b tells auth. get_chunk C K h b index lt ∙ ap (λ (o : Option (List ℕ)). Some o) (loads.missing b (so_far.kept.bytes ∙ tells) auth);
    kind = unopened_later (kind_of e) old mid new so_far.quiet loads.kinds;
    kept = kept_then old mid new so_far.kept loads.kept;
    moved =
        let n : stop - first ≡ index + 1 - first + (stop - (index + 1)) = omega (arith, least, below) in
        moved_less old new _ _ _ _ _ (layout_len (shape_of C h) h.file_size) (sum_where (λ _. true) (record_len (shape_of C h) h.file_size) first (stop - first)) 0 0 0
        (moved_on loads.moved) (omega arith)
        (omega (arith, sum_grows (record_len (shape_of C h) h.file_size) first (index + 1 - first) (stop - (index + 1)), ap (sum_where (λ _. true) (record_len (shape_of C h) h.file_size) first) n))
        (omega arith) (omega arith) (omega arith);
    strays = λ b tells long. loads.strays b (so_far.kept.bytes ∙ tells) long ∙ so_far.strays b tells long;
  }
