-- What is due to a change: it is refused by its numbers or for a missing chunk, or carried out.
use Rattle.std.proofs.Common.{◌≡◌, inl, inr, ℕ, zero, suc, ◌+◌, ◌*◌, ◌/◌, ◌<◌, ◌≤◌, min, Bool, true, false, cond, not, ◌&&◌, ◌||◌, List, [], ◌∷◌, length, get_or, Option, Some, None, refl, sym, ◌∙◌, ap, arith}
use Rattle.std.specs.Prelude.{nat_lt, nat_le, is_some}
use Rattle.std.proofs.lemmas.Bool.{cases_Bool, ltb-true, lt-ltb}
use Rattle.std.proofs.lemmas.Bool.Decides.{nat_tests}
use Rattle.raf_format.specs.Cipher.{Cipher}
use Rattle.raf_format.specs.File.{File, Shape, IsFile, shape_of, chunk_count, chunk_at, file_of}
use Rattle.raf.specs.Due.{Due}
use Rattle.raf.specs.Due.Due.{Exactly}
use Rattle.raf.specs.Concern.{none_missing, is_merkle, is_touched, is_needed, needed, fits, can_have}
use Rattle.raf.specs.Apply.{apply, answer, changed, after}
use Rattle.raf.specs.Change.{Change, change_of}
use Rattle.raf.specs.Plan.{Ranged, plan_of, kept_len}
use Rattle.raf.specs.Put.{KeptOf, Misses}
use Rattle.raf.specs.declared.command.Command.{Command}
use Rattle.raf.specs.declared.command.Command.TheVariants as command
use Rattle.raf.specs.declared.command.Reply.{Reply}
use Rattle.raf.specs.declared.command.Reply.TheVariants.{Refused}
use Rattle.raf_io.specs.declared.errors.ErrorKind.{ErrorKind}
use Rattle.raf_io.specs.declared.errors.ErrorKind.TheVariants.{AuthenticationFailed, Overflow, MerkleNotEnabled}
use Rattle.raf_format.specs.declared.header.Header.{Header}
use Rattle.raf.proofs.StillSteps.{may_change}
use Rattle.raf.proofs.Chunks.{length-chunks}
use Rattle.raf.proofs.Pictures.{chunks_at}
use Rattle.raf.proofs.Spans.{count_above}
use Rattle.raf.proofs.Fills.{kept_short}
use Rattle.raf.proofs.Ranges.{touched_ranged, needed_kept}

pub all_there : (test : ℕ → Bool) (index : ℕ) (chunks : List (Option (List ℕ))) → ((k : ℕ) → k < length chunks → test (index + k) ≡ true → is_some (get_or chunks k None) ≡ true) → none_missing test index chunks ≡ true
all_there test index [] there = refl
all_there test index (c ∷ chunks) there =
    let e : index + 0 ≡ index = omega arith in
    let rest : none_missing test (index + 1) chunks ≡ true =
    all_there test (index + 1) chunks (λ k lt on. let e : index + 1 + k ≡ index + suc k = omega arith in there (suc k) (omega (arith, lt)) (sym (ap test e) ∙ on)) in
    elim (cases_Bool (test index)) [
      | inl on ↦
          ap (λ (t : Bool). (not t || is_some c) && none_missing test (index + 1) chunks) on
          ∙ ap (λ (t : Bool). (false || t) && none_missing test (index + 1) chunks) (there 0 (omega arith) (ap test e ∙ on)) ∙ rest
      | inr off ↦ ap (λ (t : Bool). (not t || is_some c) && none_missing test (index + 1) chunks) off ∙ rest
    ]

pub one_missing : (test : ℕ → Bool) (index : ℕ) (chunks : List (Option (List ℕ))) (k : ℕ) → k < length chunks → test (index + k) ≡ true → get_or chunks k None ≡ None → none_missing test index chunks ≡ false
one_missing test index [] k lt on none = absurd (omega (arith, lt))
one_missing test index (c ∷ chunks) zero lt on none =
    let e : index + 0 ≡ index = omega arith in
    ap (λ (t : Bool). (not t || is_some c) && none_missing test (index + 1) chunks) (sym (ap test e) ∙ on)
    ∙ ap (λ (o : Option (List ℕ)). (false || is_some o) && none_missing test (index + 1) chunks) none
one_missing test index (c ∷ chunks) (suc k) lt on none =
    let e : index + 1 + k ≡ index + suc k = omega arith in
    ap (λ (t : Bool). (not (test index) || is_some c) && t) (one_missing test (index + 1) chunks k (omega (arith, lt)) (ap test e ∙ on) none)
    ∙ off (not (test index) || is_some c)
  where
    off : (t : Bool) → (t && false) ≡ false
    off true = refl
    off false = refl

-- where not all is there, one is missing
pub found_missing : (test : ℕ → Bool) (index : ℕ) (chunks : List (Option (List ℕ))) → none_missing test index chunks ≡ false
    → (k : ℕ) × (k < length chunks) × (test (index + k) ≡ true) × (get_or chunks k None ≡ None)
found_missing test index [] missing = absurd (no missing)
  where
    no : true ≡ false → ⊥
    no e = cc
found_missing test index (c ∷ chunks) missing = elim (cases_Bool (test index)) [
  | inr off ↦ later (found_missing test (index + 1) chunks (sym (ap (λ (t : Bool). (not t || is_some c) && none_missing test (index + 1) chunks) off) ∙ missing))
  | inl on ↦ here on c refl (λ rest. found_missing test (index + 1) chunks rest) (sym (ap (λ (t : Bool). (not t || is_some c) && none_missing test (index + 1) chunks) on) ∙ missing)
]
  where
    later : (k : ℕ) × (k < length chunks) × (test (index + 1 + k) ≡ true) × (get_or chunks k None ≡ None) → (k : ℕ) × (k < length (c ∷ chunks)) × (test (index + k) ≡ true) × (get_or (c ∷ chunks) k None ≡ None)
    later found =
        let e : index + suc found.0 ≡ index + 1 + found.0 = omega arith in
        (suc found.0, omega (arith, found.1), ap test e ∙ found.2, found.3)

    here : test index ≡ true → (d : Option (List ℕ)) → c ≡ d
        → (none_missing test (index + 1) chunks ≡ false → (k : ℕ) × (k < length chunks) × (test (index + 1 + k) ≡ true) × (get_or chunks k None ≡ None))
        → is_some c && none_missing test (index + 1) chunks ≡ false
        → (k : ℕ) × (k < length (c ∷ chunks)) × (test (index + k) ≡ true) × (get_or (c ∷ chunks) k None ≡ None)
    here on None is find rest = let e : index + 0 ≡ index = omega arith in (0, omega arith, ap test e ∙ on, is)
    here on (Some m) is find rest = later (find (sym (ap (λ (o : Option (List ℕ)). is_some o && none_missing test (index + 1) chunks) is) ∙ rest))

-- the chunks that a change needs, over a file that opens
module _ (C : Cipher) (key b : List ℕ) (h : Header) (K : Change) (is_file : IsFile C key b h) (ranged : Ranged h.chunk_size h.file_size K) where
  abbrev F : File
  F = file_of C key h b

  abbrev s : Shape
  s = shape_of C h

  least : 16 ≤ h.chunk_size
  least = is_file.says.fields.least

  at : (i : ℕ) → i < chunk_count h.chunk_size h.file_size → get_or F.chunks i None ≡ chunk_at C (C.chunk_key key h.id) h b i
  at i lt =
      let e : 0 + i ≡ i = omega arith in
      chunks_at C (C.chunk_key key h.id) b h 0 (chunk_count h.chunk_size h.file_size) i lt ∙ ap (chunk_at C (C.chunk_key key h.id) h b) e

  in_range : (i : ℕ) → is_touched F K i ≡ true → (K.from / h.chunk_size ≤ i) × (i < chunk_count h.chunk_size K.end)
  in_range i on =
      let t : nat_le (K.from / h.chunk_size) i && nat_lt i (chunk_count h.chunk_size K.end) ≡ true = sym (touched_ranged s least h.file_size K ranged F refl i) ∙ on in
      (grind (arith, nat_tests), grind (arith, nat_tests))

  needed_touched : (i : ℕ) → is_needed F K i ≡ true → is_touched F K i ≡ true
  needed_touched i on =
      go (is_touched F K i) (nat_lt (i * h.chunk_size) (min (i * h.chunk_size + h.chunk_size) (min h.file_size K.size))) (not (nat_le K.offset (i * h.chunk_size) && nat_le (min (i * h.chunk_size + h.chunk_size) (min h.file_size K.size)) (K.offset + length K.bytes))) on
    where
      go : (s t u : Bool) → (s && t && u) ≡ true → s ≡ true
      go true t u e = refl
      go false t u e = e

  -- of a chunk that is needed something is kept
  kept_some : (i : ℕ) → is_needed F K i ≡ true → 0 < kept_len h.chunk_size (plan_of s h.file_size K) (length K.bytes) i
  kept_some i on =
      let t : nat_lt 0 (kept_len h.chunk_size (plan_of s h.file_size K) (length K.bytes) i) ≡ true = sym (needed_kept s least h.file_size K ranged F refl refl i (needed_touched i on)) ∙ on in
      ltb-true 0 _ t

  -- all that is needed was opened
  pub kept_there : (kept : ℕ → List ℕ) → KeptOf C (C.chunk_key key h.id) h (plan_of s h.file_size K) (length K.bytes) b kept → none_missing (is_needed F K) 0 F.chunks ≡ true
  kept_there kept right = all_there (is_needed F K) 0 F.chunks each
    where
      each : (k : ℕ) → k < length F.chunks → is_needed F K (0 + k) ≡ true → is_some (get_or F.chunks k None) ≡ true
      each k lt needed =
          let e : 0 + k ≡ k = omega arith in
          let had : k < chunk_count h.chunk_size h.file_size = omega (arith, lt, length-chunks C (C.chunk_key key h.id) h b 0 (chunk_count h.chunk_size h.file_size)) in
          let on : is_needed F K k ≡ true = sym (ap (is_needed F K) e) ∙ needed in
          let r = in_range k (needed_touched k on) in
          let found = (right k r.0 r.1).1 (kept_some k on) in
          ap is_some (at k had ∙ found.1)

  -- one that is needed is missing, and so not all is there
  pub misses_one : Misses C (C.chunk_key key h.id) h (plan_of s h.file_size K) (length K.bytes) b → none_missing (is_needed F K) 0 F.chunks ≡ false
  misses_one misses =
      let i = misses.0 in
      let some = misses.3 in
      let e : 0 + misses.0 ≡ misses.0 = omega arith in
      let inside : nat_le (K.from / h.chunk_size) misses.0 && nat_lt misses.0 (chunk_count h.chunk_size K.end) ≡ true = both misses.0 misses.1 misses.2 in
      let touched : is_touched F K misses.0 ≡ true = touched_ranged s least h.file_size K ranged F refl misses.0 ∙ inside in
      let on : is_needed F K misses.0 ≡ true = needed_kept s least h.file_size K ranged F refl refl misses.0 touched ∙ lt-ltb 0 _ some in
      let had : misses.0 < chunk_count h.chunk_size h.file_size = count_above h.chunk_size h.file_size least misses.0 (omega (arith, some, kept_short h.chunk_size (plan_of s h.file_size K) K.bytes misses.0)) in
      one_missing (is_needed F K) 0 F.chunks misses.0 (omega (arith, had, length-chunks C (C.chunk_key key h.id) h b 0 (chunk_count h.chunk_size h.file_size))) (ap (is_needed F K) e ∙ on) (at misses.0 had ∙ misses.4)
    where
      both : (i : ℕ) → K.from / h.chunk_size ≤ i → i < chunk_count h.chunk_size K.end → nat_le (K.from / h.chunk_size) i && nat_lt i (chunk_count h.chunk_size K.end) ≡ true
      both i le lt = grind (arith, nat_tests)

  -- and the other way round
  pub one_misses : none_missing (is_needed F K) 0 F.chunks ≡ false → Misses C (C.chunk_key key h.id) h (plan_of s h.file_size K) (length K.bytes) b
  one_misses missing =
      let found = found_missing (is_needed F K) 0 F.chunks missing in
      let e : 0 + found.0 ≡ found.0 = omega arith in
      let on : is_needed F K found.0 ≡ true = sym (ap (is_needed F K) e) ∙ found.2 in
      let r = in_range found.0 (needed_touched found.0 on) in
      let had : found.0 < chunk_count h.chunk_size h.file_size = omega (arith, found.1, length-chunks C (C.chunk_key key h.id) h b 0 (chunk_count h.chunk_size h.file_size)) in
      (found.0, r.0, r.1, kept_some found.0 on, sym (at found.0 had) ∙ found.3)

-- the file of a header's numbers, with these chunks
abbrev pub with_chunks : Cipher → Header → List (Option (List ℕ)) → File
with_chunks C h chunks = record { shape = shape_of C h; id = h.id; size = h.file_size; chunks = chunks }

-- a command that changes the file of this header in this way, and what it answers then
pub record Alters (C : Cipher) (h : Header) (c : Command) (K : Change) (done : Reply) : Type 0 where
  pub change : (chunks : List (Option (List ℕ))) → change_of (with_chunks C h chunks) c ≡ Some K
  pub answers : (F : File) → answer F c ≡ Exactly done
  pub kind : may_change c ≡ true

-- what it needs is what its change needs
pub needed_by : (F : File) (c : Command) → may_change c ≡ true → needed F c ≡ (λ i. elim (change_of F c) [ None ↦ false | Some K ↦ is_needed F K i ])
needed_by F (command.Read offset len) kind = absurd cc
needed_by F (command.Write offset bytes) kind = refl
needed_by F (command.Truncate size) kind = refl
needed_by F command.Size kind = absurd cc
needed_by F command.Sync kind = absurd cc
needed_by F command.Rebuild kind = absurd cc
needed_by F command.Verify kind = absurd cc
needed_by F command.Commitment kind = absurd cc

pub no_merkle : (c : Command) → may_change c ≡ true → is_merkle c ≡ false
no_merkle (command.Read offset len) kind = refl
no_merkle (command.Write offset bytes) kind = refl
no_merkle (command.Truncate size) kind = refl
no_merkle command.Size kind = refl
no_merkle command.Sync kind = refl
no_merkle command.Rebuild kind = absurd cc
no_merkle command.Verify kind = absurd cc
no_merkle command.Commitment kind = absurd cc

-- the three arms
module _ (C : Cipher) (h : Header) (c : Command) (K : Change) (done : Reply) (alters : Alters C h c K done) (limit : Option ℕ) (chunks : List (Option (List ℕ))) where
  abbrev G : File
  G = with_chunks C h chunks

  pub fits_is : fits limit G c ≡ can_have limit G K.size
  fits_is = ap (λ (o : Option Change). elim o [ None ↦ true | Some L ↦ can_have limit (with_chunks C h chunks) L.size ]) (alters.change chunks)

  pub needed_is : needed G c ≡ is_needed G K
  needed_is = needed_by G c alters.kind ∙ ap {B = ℕ → Bool} (λ (o : Option Change) (i : ℕ). elim o [ None ↦ false | Some L ↦ is_needed (with_chunks C h chunks) L i ]) (alters.change chunks)

  changed_is : changed G c ≡ after G K
  changed_is = ap (λ (o : Option Change). elim o [ None ↦ with_chunks C h chunks | Some L ↦ after (with_chunks C h chunks) L ]) (alters.change chunks)

  abbrev arms : Bool → Bool → Bool → Due × File
  arms fits there plain =
      cond {A = Due × File} (fits && there && (plain || is_some limit)) (answer G c, changed G c)
      (Exactly (Refused (cond {A = ErrorKind} (not fits) Overflow (cond {A = ErrorKind} (not there) AuthenticationFailed MerkleNotEnabled))), G)

  arms_are : apply limit G c ≡ arms (can_have limit G K.size) (none_missing (is_needed G K) 0 chunks) true
  arms_are =
      ap (λ (t : Bool). arms t (none_missing (needed G c) 0 chunks) (not (is_merkle c))) fits_is
      ∙ ap (λ (test : ℕ → Bool). arms (can_have limit G K.size) (none_missing test 0 chunks) (not (is_merkle c))) needed_is
      ∙ ap (λ (t : Bool). arms (can_have limit G K.size) (none_missing (is_needed G K) 0 chunks) (not t)) (no_merkle c alters.kind)

  pub arm_overflow : can_have limit G K.size ≡ false → apply limit G c ≡ (Exactly (Refused Overflow), G)
  arm_overflow past = arms_are ∙ ap (λ (t : Bool). arms t (none_missing (is_needed G K) 0 chunks) true) past

  pub arm_missing : can_have limit G K.size ≡ true → none_missing (is_needed G K) 0 chunks ≡ false → apply limit G c ≡ (Exactly (Refused AuthenticationFailed), G)
  arm_missing fits missing =
      arms_are ∙ ap (λ (t : Bool). arms t (none_missing (is_needed G K) 0 chunks) true) fits ∙ ap (λ (t : Bool). arms true t true) missing

  pub arm_done : can_have limit G K.size ≡ true → none_missing (is_needed G K) 0 chunks ≡ true → apply limit G c ≡ (Exactly done, after G K)
  arm_done fits there =
      arms_are ∙ ap (λ (t : Bool). arms t (none_missing (is_needed G K) 0 chunks) true) fits ∙ ap (λ (t : Bool). arms true t true) there
      ∙ ap (λ (d : Due). (d, changed G c)) (alters.answers G) ∙ ap (λ (H : File). (Exactly done, H)) changed_is
