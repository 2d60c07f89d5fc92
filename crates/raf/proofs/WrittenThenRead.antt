-- What was written is read again.
use Rattle.std.proofs.Common.{◌≡◌, inl, inr, Bool, true, false, cond, ◌&&◌, ℕ, zero, suc, ◌+◌, ◌-◌, ◌*◌, ◌<◌, ◌≤◌, min, max, List, [], ◌∷◌, ◌++◌, length, take, drop, Option, Some, None, refl, sym, ◌∙◌, ap, subst, arith, length-take, length-drop, take-append-drop}
use Rattle.std.specs.Prelude.{◌⊎◌, nat_lt, nat_le, slice_get, slice_index, unwrap_or}
use Rattle.std.proofs.lemmas.List.{drop_more, drop_all, drop-drop, take_all, append-nil, nil_from_length}
use Rattle.std.proofs.lemmas.Bool.{cases_lt}
use Rattle.std.proofs.lemmas.Bool.Decides.{nat_tests}
use Rattle.raf_io.specs.Storage.{resized}
use Rattle.raf_io.proofs.Splices.{length-resized}
use Rattle.raf_format.specs.File.{File, chunk_count, chunk_len}
use Rattle.raf_format.specs.Cipher.{Cipher, IsLawful}
use Rattle.raf_tree.specs.Hashing.{Hashing}
use Rattle.raf.specs.Change.{Change, write_change}
use Rattle.raf.specs.Concern.{is_touched, valid}
use Rattle.raf.specs.Due.{Due, Answers}
use Rattle.raf.specs.Due.Due.{Exactly}
use Rattle.raf.specs.Apply.{bytes_between, overlaid, rebuilt, renewed, new_chunk, after, answer, changed, cause_of}
use Rattle.raf.specs.Handle.{Handle, Holds, limit_of}
use Rattle.raf.specs.Stepped.{Stepped, Answered}
use Rattle.raf.specs.declared.command.Command.{Command}
use Rattle.raf.specs.declared.command.Command.TheVariants as command
use Rattle.raf.specs.declared.command.Reply.{Reply}
use Rattle.raf.specs.declared.command.Reply.TheVariants.{Bytes, Wrote, Refused}
use Rattle.raf_io.specs.declared.errors.ErrorKind.{ErrorKind}
use Rattle.raf_io.specs.declared.errors.ErrorKind.TheVariants.{Broken}
use Rattle.raf.proofs.Places.{counts_below}
use Rattle.raf.proofs.Chunks.{chunks_short}
use Rattle.raf.proofs.Pictures.{length-overlaid}

-- the front and the back of what lies over bytes
take_overlaid : (n p o : ℕ) (d xs : List ℕ) → take n (overlaid p o d xs) ≡ overlaid p o d (take n xs)
take_overlaid zero p o d xs = refl
take_overlaid (suc n) p o d [] = refl
take_overlaid (suc n) p o d (x ∷ xs) =
    ap (λ (l : List ℕ). cond (nat_le o p && nat_lt p (o + length d)) (slice_index d (p - o)) x ∷ l) (take_overlaid n (p + 1) o d xs)

drop_overlaid : (n p o : ℕ) (d xs : List ℕ) → drop n (overlaid p o d xs) ≡ overlaid (p + n) o d (drop n xs)
drop_overlaid zero p o d xs = let e : p ≡ p + 0 = omega arith in ap (λ (n : ℕ). overlaid n o d xs) e
drop_overlaid (suc n) p o d [] = refl
drop_overlaid (suc n) p o d (x ∷ xs) = let e : p + 1 + n ≡ p + suc n = omega arith in drop_overlaid n (p + 1) o d xs ∙ ap (λ (k : ℕ). overlaid k o d (drop n xs)) e

-- bytes that the data covers are a part of it
overlaid_within : (p o : ℕ) (d xs : List ℕ) → o ≤ p → p + length xs ≤ o + length d → overlaid p o d xs ≡ take (length xs) (drop (p - o) d)
overlaid_within p o d [] le most = refl
overlaid_within p o d (x ∷ xs) le most =
    let inside : nat_le o p && nat_lt p (o + length d) ≡ true = grind (arith, nat_tests) in
    let next : p + 1 - o ≡ p - o + 1 = omega arith in
    ap (λ (t : Bool). cond t (slice_index d (p - o)) x ∷ overlaid (p + 1) o d xs) inside
    ∙ ap (λ (l : List ℕ). slice_index d (p - o) ∷ l) (overlaid_within (p + 1) o d xs (omega arith) (omega arith))
    ∙ ap (λ (n : ℕ). slice_index d (p - o) ∷ take (length xs) (drop n d)) next
    ∙ ap (λ (l : List ℕ). take (suc (length xs)) l) (sym (drop_more d (p - o) 0 (omega arith)))

-- a part and what follows it
parts : (t a b : ℕ) (d : List ℕ) → a + t ≡ b ⊎ ((length d ≤ a + t) × (length d ≤ b)) → take t (drop a d) ++ drop b d ≡ drop a d
parts t a b d (inl is) =
    ap (λ (l : List ℕ). take t (drop a d) ++ l) (ap (λ (n : ℕ). drop n d) (let e : b ≡ a + t = omega (arith, is) in e) ∙ sym (drop-drop t a d)) ∙ take-append-drop t (drop a d)
parts t a b d (inr (most, past)) =
    ap (λ (l : List ℕ). take t (drop a d) ++ l) (drop_all b d past) ∙ append-nil (take t (drop a d)) ∙ take_all t (drop a d) (omega (arith, length-drop a d, most))

module _ (F : File) (K : Change) (some : 0 < F.shape.chunk_size) (busy : 0 < length K.bytes) (least : K.from ≤ K.offset) (end_is : K.end ≡ K.offset + length K.bytes) (long : K.end ≤ K.size) where
  abbrev pub s : ℕ
  s = F.shape.chunk_size

  abbrev pub o : ℕ
  o = K.offset

  abbrev pub d : List ℕ
  d = K.bytes

  abbrev pub e : ℕ
  e = K.offset + length K.bytes

  -- a chunk in the range is touched
  touched_in : (j : ℕ) → j * s < e → o < (j + 1) * s → is_touched F K j ≡ true
  touched_in j begins ends =
      let next : (j + 1) * s ≡ j * s + s = omega arith in
      grind (arith, nat_tests)

  -- the part of a touched chunk that the range takes
  part : (j : ℕ) (old : List ℕ) → j * s < e → o < (j + 1) * s
      → take (e - max o (j * s)) (drop (o - j * s) (new_chunk s K j old)) ≡ take (min (e - max o (j * s)) (chunk_len s K.size j - (o - j * s))) (drop (j * s - o) d)
  part j old begins ends =
      ap (λ (l : List ℕ). take m l) (drop_overlaid k (j * s) o d X)
      ∙ take_overlaid m (j * s + k) o d (drop k X)
      ∙ overlaid_within (j * s + k) o d (take m (drop k X)) (omega arith) (omega (arith, len, begins))
      ∙ ap (λ (n : ℕ). take n (drop (j * s + k - o) d)) len
      ∙ ap (λ (n : ℕ). take (min m (chunk_len s K.size j - k)) (drop n d)) (let is : j * s + k - o ≡ j * s - o = omega arith in is)
    where
      k : ℕ
      k = o - j * s

      m : ℕ
      m = e - max o (j * s)

      X : List ℕ
      X = resized (chunk_len s K.size j) old

      len : length (take (e - max o (j * s)) (drop (o - j * s) (resized (chunk_len s K.size j) old))) ≡ min (e - max o (j * s)) (chunk_len s K.size j - (o - j * s))
      len = omega (arith, length-take (e - max o (j * s)) (drop (o - j * s) (resized (chunk_len s K.size j) old)), length-drop (o - j * s) (resized (chunk_len s K.size j) old), length-resized (chunk_len s K.size j) old)

  short_new : (j : ℕ) (c : Option (List ℕ)) → length (unwrap_or c []) ≤ s → length (unwrap_or (renewed F K j c) []) ≤ s
  short_new j c short = go (is_touched F K j)
    where
      go : (t : Bool) → length (unwrap_or (cond t (Some (new_chunk s K j (unwrap_or c []))) c) []) ≤ s
      go false = short
      go true = omega (arith, length-overlaid (j * s) o d (resized (chunk_len s K.size j) (unwrap_or c [])), length-resized (chunk_len s K.size j) (unwrap_or c []))

  -- one chunk, and what follows it
  step : (j : ℕ) (c : Option (List ℕ)) → length (unwrap_or c []) ≤ s
      → take (e - max o (j * s)) (drop (o - j * s) (unwrap_or (renewed F K j c) [])) ++ drop ((j + 1) * s - o) d ≡ drop (j * s - o) d
  step j c short = elim (cases_lt (j * s) e) [
    | inr past ↦
        let none : e - max o (j * s) ≡ 0 = omega (arith, past) in
        ap (λ (n : ℕ). take n (drop (o - j * s) (unwrap_or (renewed F K j c) [])) ++ drop ((j + 1) * s - o) d) none
        ∙ drop_all ((j + 1) * s - o) d (omega (arith, past, next))
        ∙ sym (drop_all (j * s - o) d (omega (arith, past)))
    | inl begins ↦ elim (cases_lt o ((j + 1) * s)) [
      | inr before ↦
          ap (λ (l : List ℕ). take (e - max o (j * s)) l ++ drop ((j + 1) * s - o) d)
          (drop_all (o - j * s) (unwrap_or (renewed F K j c) []) (omega (arith, short_new j c short, before, next)))
          ∙ ap (λ (l : List ℕ). l ++ drop ((j + 1) * s - o) d) (take_all (e - max o (j * s)) [] (omega arith))
          ∙ ap (λ (n : ℕ). drop n d) (let is : (j + 1) * s - o ≡ j * s - o = omega (arith, before, next) in is)
      | inl ends ↦
          ap (λ (t : Bool). take (e - max o (j * s)) (drop (o - j * s) (unwrap_or (cond t (Some (new_chunk s K j (unwrap_or c []))) c) [])) ++ drop ((j + 1) * s - o) d) (touched_in j begins ends)
          ∙ ap (λ (l : List ℕ). l ++ drop ((j + 1) * s - o) d) (part j (unwrap_or c []) begins ends)
          ∙ parts (min (e - max o (j * s)) (chunk_len s K.size j - (o - j * s))) (j * s - o) ((j + 1) * s - o) d (fitting begins ends)
    ]
  ]
    where
      next : (j + 1) * s ≡ j * s + s
      next = omega arith

      fitting : j * s < e → o < (j + 1) * s → let t = min (e - max o (j * s)) (chunk_len s K.size j - (o - j * s)) in
          (j * s - o + t ≡ (j + 1) * s - o) ⊎ ((length d ≤ j * s - o + t) × (length d ≤ (j + 1) * s - o))
      fitting begins ends = elim (cases_lt ((j + 1) * s) e) [
        | inl within ↦ inl (omega (arith, begins, ends, within, next, end_is, long))
        | inr last ↦ inr (omega (arith, begins, ends, last, next, end_is, long), omega (arith, last))
      ]

  between_rebuilt : (j n : ℕ) (old : List (Option (List ℕ))) → e ≤ (j + n) * s → ((i : ℕ) (m : List ℕ) → slice_get old i ≡ Some (Some m) → length m ≤ s)
      → bytes_between s o e j (rebuilt (renewed F K) j n old) ≡ drop (j * s - o) d
  between_rebuilt j zero old enough short = sym (drop_all (j * s - o) d (omega (arith, enough)))
  between_rebuilt j (suc n) [] enough short =
      ap (λ (l : List ℕ). take (e - max o (j * s)) (drop (o - j * s) (unwrap_or (renewed F K j None) [])) ++ l)
      (between_rebuilt (j + 1) n [] (omega (arith, enough)) short)
      ∙ step j None (omega arith)
  between_rebuilt j (suc n) (c ∷ chunks) enough short =
      ap (λ (l : List ℕ). take (e - max o (j * s)) (drop (o - j * s) (unwrap_or (renewed F K j c) [])) ++ l)
      (between_rebuilt (j + 1) n chunks (omega (arith, enough)) (λ i m is. short (suc i) m is))
      ∙ step j c (short_of c (λ m is. short 0 m (ap (λ (o : Option (List ℕ)). Some o) is)))
    where
      short_of : (c : Option (List ℕ)) → ((m : List ℕ) → c ≡ Some m → length m ≤ s) → length (unwrap_or c []) ≤ s
      short_of None short = omega arith
      short_of (Some m) short = short m refl

  -- the bytes of the range are the data
  pub between_written : ((i : ℕ) (m : List ℕ) → slice_get F.chunks i ≡ Some (Some m) → length m ≤ s)
      → bytes_between s o e 0 (rebuilt (renewed F K) 0 (chunk_count s K.size) F.chunks) ≡ d
  between_written short =
      between_rebuilt 0 (chunk_count s K.size) F.chunks (omega (arith, long, end_is, enough)) short
      ∙ ap (λ (n : ℕ). drop n d) (let is : 0 * s - o ≡ 0 = omega arith in is)
    where
      enough : K.size ≤ (0 + chunk_count s K.size) * s
      enough = elim (cases_lt (chunk_count s K.size * s) K.size) [
        | inl lt ↦ absurd (omega (arith, counts_below s K.size (chunk_count s K.size) (omega (arith, some)) lt))
        | inr ge ↦ omega (arith, ge)
      ]

module _ (C : Cipher) (lawful : IsLawful C) (E : List ℕ → Hashing) (old mid new : Handle) (F : File) (held : Holds C old F) (offset n m len : ℕ) (buf : List ℕ) (wide : length buf ≡ len) where
  short_chunks : (i : ℕ) (c : List ℕ) → slice_get F.chunks i ≡ Some (Some c) → length c ≤ F.shape.chunk_size
  short_chunks = subst (λ (F : File). (i : ℕ) (c : List ℕ) → slice_get F.chunks i ≡ Some (Some c) → length c ≤ F.shape.chunk_size) (sym held.file)
      (chunks_short C lawful (C.chunk_key old.key old.header.id) old.header held.bytes held.is_file.length_fits (omega (arith, held.is_file.says.fields.least)))

  wrote : (P : Reply → Type 0) (c : Command) (t : Bool) → Answers P (cond {A = Due × File} t (answer F c, changed F c) (Exactly (Refused (cause_of (limit_of old) F c)), F)).0 (Wrote n)
      → (cond {A = Due × File} t (answer F c, changed F c) (Exactly (Refused (cause_of (limit_of old) F c)), F)).1 ≡ changed F c
  wrote P c true due = refl
  wrote P c false due = absurd (other due)
    where
      other : Wrote n ≡ Refused (cause_of (limit_of old) F c) → ⊥
      other is = cc

  got : (P : Reply → Type 0) (G : File) (t : Bool) (x y : List ℕ) (kind : ErrorKind) → Answers P (cond {A = Due × File} t (Exactly (Bytes x), G) (Exactly (Refused kind), G)).0 (Bytes y) → y ≡ x
  got P G true x y kind due = same due
    where
      same : Bytes y ≡ Bytes x → y ≡ x
      same is = cc
  got P G false x y kind due = absurd (other due)
    where
      other : Bytes y ≡ Refused kind → ⊥
      other is = cc

  whole : (d : List ℕ) → length d ≡ len → take m buf ≡ d → buf ≡ d
  whole d long is = sym (take_all m buf (omega (arith, ap length is, length-take m buf, long, wide))) ∙ is

  pub read_written : (d : List ℕ) → length d ≡ len → Stepped C E old mid (command.Write offset d) (Wrote n) → Stepped C E mid new (command.Read offset len) (Bytes (take m buf)) → buf ≡ d
  read_written [] long w r = nil_from_length buf (omega (arith, wide, long))
  read_written (x ∷ xs) long w r = go old.broken refl
    where
      d : List ℕ
      d = x ∷ xs

      K : Change
      K = write_change F.size offset (x ∷ xs)

      some : 0 < F.shape.chunk_size
      some = subst (λ (F : File). 0 < F.shape.chunk_size) (sym held.file) (omega (arith, held.is_file.says.fields.least))

      go : (t : Bool) → old.broken ≡ t → buf ≡ x ∷ xs
      go true set = absurd (no_reply (w.barred set).0)
        where
          no_reply : Wrote n ≡ Refused Broken → ⊥
          no_reply is = cc
      go false unmarked =
          let a : Answered C E old mid F held.bytes (command.Write offset (x ∷ xs)) (Wrote n) = (w.went unmarked).answered F held refl in
          let G : File = after F K in
          let holds : Holds C mid (after F (write_change F.size offset (x ∷ xs))) = subst (Holds C mid) (wrote _ (command.Write offset (x ∷ xs)) (valid (limit_of old) F (command.Write offset (x ∷ xs))) a.due) a.holds in
          let b : Answered C E mid new (after F (write_change F.size offset (x ∷ xs))) holds.bytes (command.Read offset len) (Bytes (take m buf)) = (r.went a.unmarked).answered (after F (write_change F.size offset (x ∷ xs))) holds refl in
          let is = got _ (after F (write_change F.size offset (x ∷ xs))) (valid (limit_of mid) (after F (write_change F.size offset (x ∷ xs))) (command.Read offset len)) _ (take m buf) _ b.due in
          let end : min (offset + len) (max F.size (offset + length (x ∷ xs))) ≡ offset + length (x ∷ xs) = omega (arith, long) in
          whole (x ∷ xs) long (is
          ∙ ap (λ (k : ℕ). bytes_between F.shape.chunk_size offset k 0 (rebuilt (renewed F (write_change F.size offset (x ∷ xs))) 0 (chunk_count F.shape.chunk_size (max F.size (offset + length (x ∷ xs)))) F.chunks)) end
          ∙ between_written F (write_change F.size offset (x ∷ xs)) some (omega arith) (omega arith) refl (omega arith) short_chunks)
