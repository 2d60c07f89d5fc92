-- What reads and writes do to the bytes of a file none of whose chunks is missing.
use Rattle.std.proofs.Common.{◌≡◌, inl, inr, ℕ, zero, suc, ◌+◌, ◌-◌, ◌*◌, ◌<◌, ◌≤◌, min, max, Bool, true, false, cond, ◌&&◌, ◌||◌, not, List, [], ◌∷◌, length, take, drop, Option, Some, None, refl, sym, ◌∙◌, ap, subst, arith, length-drop}
use Rattle.std.specs.Prelude.{◌⊎◌, nat_lt, is_some}
use Rattle.std.specs.List.{concat}
use Rattle.std.proofs.lemmas.List.{take_all}
use Rattle.std.proofs.lemmas.Bool.{cases_lt, false≢true}
use Rattle.std.proofs.lemmas.Bool.Decides.{nat_tests}
use Rattle.raf_io.specs.Storage.{resized, spliced}
use Rattle.raf_io.proofs.Splices.{length-resized}
use Rattle.raf_format.specs.Cipher.{Cipher, IsLawful}
use Rattle.raf_format.specs.File.{File, chunk_count, layout_len, shape_of, chunk_at, chunks_from, file_of}
use Rattle.raf_format.specs.declared.header.Header.{Header}
use Rattle.raf.specs.Change.{Change, write_change}
use Rattle.raf.specs.Concern.{none_missing, needed, fits, is_read}
use Rattle.raf.specs.Due.{Due, is_refused}
use Rattle.raf.specs.Due.Due.{Exactly}
use Rattle.raf.specs.Apply.{apply, answer, changed, cause_of, after, overlaid, rebuilt, renewed, bytes_between}
use Rattle.raf.specs.Handle.{Handle, Holds}
use Rattle.raf.specs.Session.{present}
use Rattle.raf.specs.Content.{IsWhole, IsWholeTo, content, Written, Contents}
use Rattle.raf.specs.declared.command.Command.{Command}
use Rattle.raf.specs.declared.command.Command.TheVariants as command
use Rattle.raf.specs.declared.command.Reply.TheVariants.{Bytes, Wrote, Refused}
use Rattle.raf_io.specs.declared.errors.ErrorKind.TheVariants.{AuthenticationFailed, Overflow, MerkleNotEnabled}
use Rattle.raf.proofs.Places.{starts_below, counts_below}
use Rattle.raf.proofs.Chunks.{chunk_length, length-chunks}
use Rattle.raf.proofs.Pictures.{length-overlaid}
use Rattle.raf.proofs.Cuts.{pieces, renew, Sized, joined, between, over, written, sized, cut}

both : (a b : Bool) → a && b ≡ true → (a ≡ true) × (b ≡ true)
both true b e = (refl, e)
both false b e = absurd (false≢true e)

there : (t s : Bool) → t ≡ true → not t || s ≡ true → s ≡ true
there true s is e = e
there false s is e = absurd (false≢true is)

some_of : (c : Option (List ℕ)) → is_some c ≡ true → (m : List ℕ) × (c ≡ Some m)
some_of (Some m) e = (m, refl)
some_of None e = absurd (false≢true e)

-- ---- chunks that are there

pub missing_none : (test : ℕ → Bool) (j : ℕ) (cs : List (Option (List ℕ))) → none_missing (λ _. true) j cs ≡ true → none_missing test j cs ≡ true
missing_none test j [] e = refl
missing_none test j (c ∷ cs) e =
    let p = both (is_some c) (none_missing (λ _. true) (j + 1) cs) e in
    ap (λ (t : Bool). (not (test j) || t) && none_missing test (j + 1) cs) p.0
    ∙ go (test j) ∙ missing_none test (j + 1) cs p.1
  where
    go : (t : Bool) → (not t || true) && none_missing test (j + 1) cs ≡ none_missing test (j + 1) cs
    go true = refl
    go false = refl

-- a test that passes no more indexes than two others together
missing_either : (t u v : ℕ → Bool) (j : ℕ) (cs : List (Option (List ℕ))) → ((i : ℕ) → v i ≡ true → (t i ≡ true) ⊎ (u i ≡ true))
    → none_missing t j cs ≡ true → none_missing u j cs ≡ true → none_missing v j cs ≡ true
missing_either t u v j [] either a b = refl
missing_either t u v j (c ∷ cs) either a b =
    let p = both (not (t j) || is_some c) (none_missing t (j + 1) cs) a in
    let q = both (not (u j) || is_some c) (none_missing u (j + 1) cs) b in
    ap (λ (s : Bool). s && none_missing v (j + 1) cs) (here p.0 q.0 (v j) refl) ∙ missing_either t u v (j + 1) cs either p.1 q.1
  where
    here : not (t j) || is_some c ≡ true → not (u j) || is_some c ≡ true → (s : Bool) → v j ≡ s → not s || is_some c ≡ true
    here p q false is = refl
    here p q true is = elim (either j is) [ inl x ↦ there (t j) (is_some c) x p | inr y ↦ there (u j) (is_some c) y q ]

-- where an index that is there passes, nothing is missing
missing_all : (t : ℕ → Bool) (j : ℕ) (cs : List (Option (List ℕ))) → ((i : ℕ) → i < j + length cs → t i ≡ true) → none_missing t j cs ≡ true → none_missing (λ _. true) j cs ≡ true
missing_all t j [] all a = refl
missing_all t j (c ∷ cs) all a =
    let p = both (not (t j) || is_some c) (none_missing t (j + 1) cs) a in
    ap (λ (s : Bool). s && none_missing (λ _. true) (j + 1) cs) (there (t j) (is_some c) (all j (omega arith)) p.0)
    ∙ missing_all t (j + 1) cs (λ i lt. all i (omega (arith, lt))) p.1

pieces_there : (s j n : ℕ) (x : List ℕ) → none_missing (λ _. true) j (pieces s j n x) ≡ true
pieces_there s j zero x = refl
pieces_there s j (suc n) x = pieces_there s (j + 1) n x

length-pieces : (s j n : ℕ) (x : List ℕ) → length (pieces s j n x) ≡ n
length-pieces s j zero x = refl
length-pieces s j (suc n) x = ap suc (length-pieces s (j + 1) n x)

enough : (cs size : ℕ) → 1 ≤ cs → size ≤ chunk_count cs size * cs
enough cs size some = elim (cases_lt (chunk_count cs size * cs) size) [
  | inl lt ↦ absurd (omega (arith, counts_below cs size (chunk_count cs size) some lt))
  | inr ge ↦ omega (arith, ge)
]

-- ---- a file's chunks are its bytes, cut

module _ (C : Cipher) (lawful : IsLawful C) (K : List ℕ) (h : Header) (b : List ℕ) (long : length b ≡ layout_len (shape_of C h) h.file_size) (some : 1 ≤ h.chunk_size) where
  sized_chunks : (j n : ℕ) → j + n ≤ chunk_count h.chunk_size h.file_size → none_missing (λ _. true) j (chunks_from C K h b j n) ≡ true → Sized h.chunk_size h.file_size j (chunks_from C K h b j n)
  sized_chunks j zero le e = tt
  sized_chunks j (suc n) le e =
      let p = both (is_some (chunk_at C K h b j)) (none_missing (λ _. true) (j + 1) (chunks_from C K h b (j + 1) n)) e in
      let m = some_of (chunk_at C K h b j) p.0 in
      (m.0, m.1, chunk_length C lawful K h b long some j m.0 (omega (arith, le)) m.1, sized_chunks (j + 1) n (omega (arith, le)) p.1)

module _ (C : Cipher) (lawful : IsLawful C) (h : Handle) (F : File) (held : Holds C h F) where
  abbrev G : File
  G = file_of C h.key h.header held.bytes

  abbrev s : ℕ
  s = h.header.chunk_size

  abbrev n : ℕ
  n = chunk_count h.header.chunk_size h.header.file_size

  some : 1 ≤ h.header.chunk_size
  some = omega (arith, held.is_file.says.fields.least)

  count : length G.chunks ≡ chunk_count h.header.chunk_size h.header.file_size
  count = length-chunks C (C.chunk_key h.key h.header.id) h.header held.bytes 0 n

  ends_at : IsWholeTo G.size G → IsWhole G
  ends_at all = missing_all (λ i. nat_lt (i * s) h.header.file_size) 0 G.chunks (λ i lt. let below = starts_below s h.header.file_size i some (omega (arith, lt, count)) in grind (arith, nat_tests)) all

  module _ (whole : IsWhole G) where
    are : Sized h.header.chunk_size h.header.file_size 0 G.chunks
    are = sized_chunks C lawful (C.chunk_key h.key h.header.id) h.header held.bytes held.is_file.length_fits some 0 n (omega arith) whole

    long_at : length (content G) ≡ h.header.file_size
    long_at = sized s h.header.file_size G.chunks are (omega (arith, ap (λ (k : ℕ). k * s) count, enough s h.header.file_size some))

    cut_at : G.chunks ≡ pieces h.header.chunk_size 0 (chunk_count h.header.chunk_size h.header.file_size) (content G)
    cut_at = cut s h.header.file_size G.chunks are (λ i lt. starts_below s h.header.file_size i some (omega (arith, lt, count))) ∙ ap (λ (k : ℕ). pieces s 0 k (content G)) count

    read_at : (limit : Option ℕ) (offset len : ℕ) → (apply limit G (command.Read offset len)).0 ≡ Exactly (Bytes (take len (drop offset (content G))))
    read_at limit offset len =
        let x = content G in
        let end = min (offset + len) h.header.file_size in
        let z : max offset (0 * s) ≡ offset = omega arith in
        ap (λ (t : Bool). (cond {A = Due × File} (t && true) (answer G (command.Read offset len), changed G (command.Read offset len)) (Exactly (Refused (cause_of limit G (command.Read offset len))), G)).0)
        (missing_none (needed G (command.Read offset len)) 0 G.chunks whole)
        ∙ ap (λ (l : List ℕ). Exactly (Bytes l))
        (ap (bytes_between s offset end 0) cut_at
        ∙ between s offset end 0 n x (omega (arith, enough s h.header.file_size some))
        ∙ ap (λ (k : ℕ). take (min (offset + len) h.header.file_size - k) (drop k (content G))) z
        ∙ clipped)
      where
        clipped : take (min (offset + len) h.header.file_size - offset) (drop offset (content G)) ≡ take len (drop offset (content G))
        clipped = elim (cases_lt h.header.file_size (offset + len)) [
          | inr within ↦ let e : min (offset + len) h.header.file_size - offset ≡ len = omega arith in ap (λ (k : ℕ). take k (drop offset (content G))) e
          | inl past ↦
              take_all (min (offset + len) h.header.file_size - offset) (drop offset (content G)) (omega (arith, length-drop offset (content G), long_at, past))
              ∙ sym (take_all len (drop offset (content G)) (omega (arith, length-drop offset (content G), long_at, past)))
        ]

    module _ (offset x : ℕ) (xs : List ℕ) where
      abbrev d : List ℕ
      d = x ∷ xs

      abbrev K : Change
      K = write_change h.header.file_size offset (x ∷ xs)

      abbrev size : ℕ
      size = max h.header.file_size (offset + length (x ∷ xs))

      abbrev y : List ℕ
      y = overlaid 0 offset (x ∷ xs) (resized (max (length (content G)) (offset + length (x ∷ xs))) (content G))

      made : (after G K).chunks ≡ pieces h.header.chunk_size 0 (chunk_count h.header.chunk_size (max h.header.file_size (offset + length (x ∷ xs)))) y
      made =
          ap (rebuilt (renewed G K) 0 (chunk_count s size)) cut_at
          ∙ ap (λ (k : ℕ). rebuilt (renew s (max k (offset + length (x ∷ xs))) (min offset k) (offset + length (x ∷ xs)) offset (x ∷ xs)) 0 (chunk_count s size) (pieces s 0 n (content G))) (sym long_at)
          ∙ written s offset (x ∷ xs) (content G) (chunk_count s size) n (omega (arith, some)) (omega arith) (omega (arith, long_at, enough s h.header.file_size some))
          (λ i lt. omega (arith, long_at, starts_below s size i some lt))

      whole_after : IsWhole (after G K)
      whole_after = subst (λ (l : List (Option (List ℕ))). none_missing (λ _. true) 0 l ≡ true) (sym made) (pieces_there s 0 (chunk_count s size) y)

      content_after : content (after G K) ≡ spliced offset (x ∷ xs) (content G)
      content_after =
          let long : length y ≡ size = length-overlaid 0 offset (x ∷ xs) (resized (max (length (content G)) (offset + length (x ∷ xs))) (content G)) ∙ length-resized (max (length (content G)) (offset + length (x ∷ xs))) (content G) ∙ ap (λ (k : ℕ). max k (offset + length (x ∷ xs))) long_at in
          let z : 0 * s ≡ 0 = omega arith in
          ap (λ (l : List (Option (List ℕ))). concat (present l)) made
          ∙ joined s 0 (chunk_count s size) y (omega (arith, long, enough s size some))
          ∙ ap (λ (k : ℕ). drop k y) z
          ∙ over offset (x ∷ xs) (content G)

      module _ (limit : Option ℕ) where
        abbrev c : Command
        c = command.Write offset (x ∷ xs)

        at : (t u : Bool) → fits limit G (command.Write offset (x ∷ xs)) ≡ t → none_missing (needed G (command.Write offset (x ∷ xs))) 0 G.chunks ≡ u
            → apply limit G (command.Write offset (x ∷ xs))
            ≡ cond {A = Due × File} ((t && u) && true) (Exactly (Wrote (length (x ∷ xs))), after G K)
            (Exactly (Refused (cond (not t) Overflow (cond (not u) AuthenticationFailed MerkleNotEnabled))), G)
        at t u e f =
            ap (λ (t : Bool). cond {A = Due × File} ((t && none_missing (needed G c) 0 G.chunks) && true) (Exactly (Wrote (length (x ∷ xs))), after G K)
            (Exactly (Refused (cond (not t) Overflow (cond (not (none_missing (needed G c) 0 G.chunks)) AuthenticationFailed MerkleNotEnabled))), G)) e
            ∙ ap (λ (u : Bool). cond {A = Due × File} ((t && u) && true) (Exactly (Wrote (length (x ∷ xs))), after G K)
            (Exactly (Refused (cond (not t) Overflow (cond (not u) AuthenticationFailed MerkleNotEnabled))), G)) f

        written_at : fits limit G (command.Write offset (x ∷ xs)) ≡ true → Written limit G offset (x ∷ xs)
        written_at fit =
            let is : apply limit G (command.Write offset (x ∷ xs)) ≡ (Exactly (Wrote (length (x ∷ xs))), after G K) = at true true fit (missing_none (needed G c) 0 G.chunks whole) in
            record {
              due = ap (λ (p : Due × File). p.0) is;
              whole = subst (λ (p : Due × File). IsWhole p.1) (sym is) whole_after;
              content_is = ap (λ (p : Due × File). content p.1) is ∙ content_after;
            }

        overflown_at : fits limit G (command.Write offset (x ∷ xs)) ≡ false → apply limit G (command.Write offset (x ∷ xs)) ≡ (Exactly (Refused Overflow), G)
        overflown_at unfit = at false true unfit (missing_none (needed G c) 0 G.chunks whole)

-- ---- chunk by chunk

module _ (F : File) (limit : Option ℕ) (offset len : ℕ) where
  abbrev nm : Bool
  nm = none_missing (needed F (command.Read offset len)) 0 F.chunks

  abbrev due : Bool → Due
  due t = (cond {A = Due × File} t (answer F (command.Read offset len), changed F (command.Read offset len)) (Exactly (Refused (cause_of limit F (command.Read offset len))), F)).0

  read_there : is_refused (apply limit F (command.Read offset len)).0 ≡ false → none_missing (needed F (command.Read offset len)) 0 F.chunks ≡ true
  read_there = go (nm && true) refl
    where
      go : (t : Bool) → none_missing (needed F (command.Read offset len)) 0 F.chunks && true ≡ t → is_refused (due t) ≡ false → none_missing (needed F (command.Read offset len)) 0 F.chunks ≡ true
      go true e r = (both nm true e).0
      go false e r = absurd (false≢true (sym r))

  missing_of : is_refused (apply limit F (command.Read offset len)).0 ≡ true → none_missing (λ _. true) 0 F.chunks ≡ false
  missing_of = go (nm && true) refl
    where
      other : none_missing (needed F (command.Read offset len)) 0 F.chunks && true ≡ false → (t : Bool) → none_missing (λ _. true) 0 F.chunks ≡ t → t ≡ false
      other e false is = refl
      other e true is = absurd (false≢true (sym e ∙ ap (λ (t : Bool). t && true) (missing_none (needed F (command.Read offset len)) 0 F.chunks is)))

      go : (t : Bool) → none_missing (needed F (command.Read offset len)) 0 F.chunks && true ≡ t → is_refused (due t) ≡ true → none_missing (λ _. true) 0 F.chunks ≡ false
      go true e r = absurd (false≢true r)
      go false e r = other e (none_missing (λ _. true) 0 F.chunks) refl

  goes_on_at : (end : ℕ) → 1 ≤ F.shape.chunk_size → IsWholeTo end F → offset ≤ end → offset + len ≤ F.size → is_refused (apply limit F (command.Read offset len)).0 ≡ false → IsWholeTo (offset + len) F
  goes_on_at end some so_far le within fine =
      missing_either (λ i. nat_lt (i * F.shape.chunk_size) end) (needed F (command.Read offset len)) (λ i. nat_lt (i * F.shape.chunk_size) (offset + len)) 0 F.chunks either so_far (read_there fine)
    where
      either : (i : ℕ) → nat_lt (i * F.shape.chunk_size) (offset + len) ≡ true → (nat_lt (i * F.shape.chunk_size) end ≡ true) ⊎ (is_read F offset len i ≡ true)
      either i is = elim (cases_lt (i * F.shape.chunk_size) end) [
        | inl lt ↦ inl (grind (arith, nat_tests))
        | inr ge ↦
            let lt : i * F.shape.chunk_size < offset + len = grind (arith, nat_tests) in
            let a : offset < min (offset + len) F.size = omega (arith, lt, ge, le, within) in
            let b : i * F.shape.chunk_size < min (offset + len) F.size = omega (arith, lt, within) in
            let c : offset < i * F.shape.chunk_size + F.shape.chunk_size = omega (arith, ge, le, some) in
            inr (grind (arith, nat_tests))
      ]

begins_at : (F : File) → IsWholeTo 0 F
begins_at F = nothing 0 F.chunks
  where
    nothing : (j : ℕ) (cs : List (Option (List ℕ))) → none_missing (λ i. nat_lt (i * F.shape.chunk_size) 0) j cs ≡ true
    nothing j [] = refl
    nothing j (c ∷ cs) =
        let no : nat_lt (j * F.shape.chunk_size) 0 ≡ false = grind (arith, nat_tests) in
        ap (λ (t : Bool). (not t || is_some c) && none_missing (λ i. nat_lt (i * F.shape.chunk_size) 0) (j + 1) cs) no ∙ nothing (j + 1) cs

pub contents : (C : Cipher) → IsLawful C → Contents C
contents C lawful = record {
  long = λ h F held. subst (λ (F : File). IsWhole F → length (content F) ≡ F.size) (sym held.file) (long_at C lawful h F held);
  read = λ h F held. subst (λ (F : File). IsWhole F → (limit : Option ℕ) (offset len : ℕ) → (apply limit F (command.Read offset len)).0 ≡ Exactly (Bytes (take len (drop offset (content F))))) (sym held.file)
      (read_at C lawful h F held);
  written = λ h F held. subst (λ (F : File). IsWhole F → (limit : Option ℕ) (offset x : ℕ) (xs : List ℕ) → fits limit F (command.Write offset (x ∷ xs)) ≡ true → Written limit F offset (x ∷ xs)) (sym held.file)
      (λ whole limit offset x xs. written_at C lawful h F held whole offset x xs limit);
  overflown = λ h F held. subst (λ (F : File). IsWhole F → (limit : Option ℕ) (offset x : ℕ) (xs : List ℕ) → fits limit F (command.Write offset (x ∷ xs)) ≡ false → apply limit F (command.Write offset (x ∷ xs)) ≡ (Exactly (Refused Overflow), F)) (sym held.file)
      (λ whole limit offset x xs. overflown_at C lawful h F held whole offset x xs limit);
  begins = begins_at;
  goes_on = λ h F held limit end offset len. goes_on_at F limit offset len end (subst (λ (F : File). 1 ≤ F.shape.chunk_size) (sym held.file) (some C lawful h F held));
  ends = λ h F held. subst (λ (F : File). IsWholeTo F.size F → IsWhole F) (sym held.file) (ends_at C lawful h F held);
  missing = missing_of;
}
