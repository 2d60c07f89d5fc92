-- What a change asks, by its plan.
use Rattle.std.proofs.Common.{◌≡◌, inl, inr, ℕ, ◌+◌, ◌-◌, ◌*◌, ◌≤◌, min, Bool, true, false, cond, List, length, Option, Some, None, refl, sym, ◌∙◌, ap, arith}
use Rattle.std.specs.Prelude.{nat_lt, nat_eq, if◌then◌else◌}
use Rattle.std.proofs.lemmas.Bool.{cases_lt, cases_eq}
use Rattle.std.proofs.lemmas.Bool.Decides.{nat_tests}
use Rattle.raf_tree.specs.Tree.{height}
use Rattle.raf_format.specs.Cipher.{Cipher}
use Rattle.raf_format.specs.File.{File, Shape, shape_of, chunk_count, record_len}
use Rattle.raf.specs.Due.{is_refused}
use Rattle.raf.specs.Concern.{is_touched, touched, needed, size_after, sum_where}
use Rattle.raf.specs.Apply.{apply}
use Rattle.raf.specs.Change.{Change}
use Rattle.raf.specs.Image.{asked_by, changes_by, traffic_by, tree_traffic, moved_chunks, calls_by}
use Rattle.raf.specs.Meaning.{Concerned}
use Rattle.raf.specs.Plan.{Ranged, plan_of}
use Rattle.raf.specs.Put.{needed_records, new_records, changes_of}
use Rattle.raf.specs.declared.planning.Plan.{Plan}
use Rattle.raf.specs.declared.command.Command.{Command}
use Rattle.raf.specs.declared.command.Command.TheVariants as command
use Rattle.raf.specs.declared.command.Reply.{Reply}
use Rattle.raf_format.specs.declared.header.Header.{Header}
use Rattle.raf.proofs.StillSteps.{may_change}
use Rattle.raf.proofs.Arms.{Alters, with_chunks, needed_is}
use Rattle.raf.proofs.Plans.{spans, until_parts, some_moved}
use Rattle.raf.proofs.Totals.{touched_each, touched_records, needed_total}

pub no_traffic : (limit : Option ℕ) (F : File) (c : Command) → may_change c ≡ true → tree_traffic limit F c ≡ 0
no_traffic None F c kind = refl
no_traffic (Some most) F (command.Read offset len) kind = refl
no_traffic (Some most) F (command.Write offset bytes) kind = refl
no_traffic (Some most) F (command.Truncate size) kind = refl
no_traffic (Some most) F command.Size kind = refl
no_traffic (Some most) F command.Sync kind = refl
no_traffic (Some most) F command.Rebuild kind = absurd cc
no_traffic (Some most) F command.Verify kind = absurd cc
no_traffic (Some most) F command.Commitment kind = refl

pub calls_are : (most : ℕ) (F : File) (c : Command) → may_change c ≡ true
    → calls_by (Some most) F c ≡ cond {A = ℕ} (is_refused (apply (Some most) F c).0) 0 (min (moved_chunks F c * (2 * height most + 1)) (2 * moved_chunks F c + 3 * height most))
calls_are most F (command.Read offset len) kind = absurd cc
calls_are most F (command.Write offset bytes) kind = refl
calls_are most F (command.Truncate size) kind = refl
calls_are most F command.Size kind = absurd cc
calls_are most F command.Sync kind = absurd cc
calls_are most F command.Rebuild kind = absurd cc
calls_are most F command.Verify kind = absurd cc
calls_are most F command.Commitment kind = absurd cc

module _ (C : Cipher) (h : Header) (c : Command) (K : Change) (done : Reply) (alters : Alters C h c K done) (least : 16 ≤ h.chunk_size) (ranged : Ranged h.chunk_size h.file_size K)
    (limit : Option ℕ) (chunks : List (Option (List ℕ))) where
  abbrev G : File
  G = with_chunks C h chunks

  abbrev s : Shape
  s = shape_of C h

  abbrev p : Plan
  p = plan_of (shape_of C h) h.file_size K

  pub size_is : size_after G c ≡ K.size
  size_is = ap (λ (o : Option Change). elim o [ None ↦ h.file_size | Some L ↦ L.size ]) (alters.change chunks)

  pub touched_is : touched G c ≡ is_touched G K
  touched_is = ap {B = ℕ → Bool} (λ (o : Option Change) (i : ℕ). elim o [ None ↦ false | Some L ↦ is_touched (with_chunks C h chunks) L i ]) (alters.change chunks)

  sum_touched : (f : ℕ → ℕ) → sum_where (touched G c) f 0 (chunk_count h.chunk_size (size_after G c)) ≡ sum_where (is_touched G K) f 0 (chunk_count h.chunk_size K.size)
  sum_touched f =
      ap (λ (test : ℕ → Bool). sum_where test f 0 (chunk_count h.chunk_size (size_after G c))) touched_is
      ∙ ap (λ (n : ℕ). sum_where (is_touched G K) f 0 (chunk_count h.chunk_size n)) size_is

  sum_each : (v : ℕ) → sum_where (touched G c) (λ _. v) 0 (chunk_count h.chunk_size (size_after G c)) ≡ (p.end - p.first) * v
  sum_each v = sum_touched (λ _. v) ∙ touched_each s h.file_size least K ranged G refl v

  pub asked_is : is_refused (apply limit G c).0 ≡ false → asked_by limit G c ≡ (p.end - p.first) * C.nonce_len
  asked_is calm = ap (λ (t : Bool). cond {A = ℕ} t 0 (sum_where (touched G c) (λ _. C.nonce_len) 0 (chunk_count h.chunk_size (size_after G c)))) calm ∙ sum_each C.nonce_len

  pub asked_none : is_refused (apply limit G c).0 ≡ true → asked_by limit G c ≡ 0
  asked_none refused = ap (λ (t : Bool). cond {A = ℕ} t 0 (sum_where (touched G c) (λ _. C.nonce_len) 0 (chunk_count h.chunk_size (size_after G c)))) refused

  pub changes_is : is_refused (apply limit G c).0 ≡ false → changes_by limit G c ≡ changes_of p
  changes_is calm =
      ap (λ (t : Bool). cond {A = ℕ} t 0 (sum_where (touched G c) (λ _. 1) 0 (chunk_count h.chunk_size (size_after G c))
      + (if nat_eq (size_after G c) h.file_size then 0 else 1) + (if nat_lt (size_after G c) h.file_size then 1 else 0))) calm
      ∙ ap (λ (n : ℕ). n + (if nat_eq (size_after G c) h.file_size then 0 else 1) + (if nat_lt (size_after G c) h.file_size then 1 else 0)) (sum_each 1)
      ∙ ap (λ (n : ℕ). (p.end - p.first) * 1 + (if nat_eq n h.file_size then 0 else 1) + (if nat_lt n h.file_size then 1 else 0)) size_is
      ∙ parts (if nat_eq K.size h.file_size then 0 else 1) (if nat_lt K.size h.file_size then 1 else 0)
    where
      parts : (a b : ℕ) → (p.end - p.first) * 1 + a + b ≡ (p.end - p.first) + (a + b)
      parts a b = omega arith

  pub traffic_is : traffic_by limit G c ≡ needed_records s p (length K.bytes) + (new_records s p + (if nat_eq p.size p.before then 0 else 96))
  traffic_is =
      let need = ap (λ (test : ℕ → Bool). sum_where test (record_len s h.file_size) 0 (chunk_count h.chunk_size h.file_size)) (needed_is C h c K done alters limit chunks)
      ∙ needed_total s h.file_size least K ranged G refl refl in
      let put = ap (λ (n : ℕ). sum_where (touched G c) (record_len s n) 0 (chunk_count h.chunk_size (size_after G c))) size_is
      ∙ sum_touched (record_len s K.size) ∙ touched_records s h.file_size least K ranged G refl in
      let head = ap (λ (n : ℕ). cond {A = ℕ} (nat_eq n h.file_size) 0 96) size_is in
      add (sum_where (needed G c) (record_len s h.file_size) 0 (chunk_count h.chunk_size h.file_size)) (sum_where (touched G c) (record_len s (size_after G c)) 0 (chunk_count h.chunk_size (size_after G c)))
      (if nat_eq (size_after G c) h.file_size then 0 else 96) (tree_traffic limit G c) _ _ _ need put head (no_traffic limit G c alters.kind)
    where
      add : (a b d t a' b' d' : ℕ) → a ≡ a' → b ≡ b' → d ≡ d' → t ≡ 0 → a + b + d + t ≡ a' + (b' + d')
      add a b d t a' b' d' x y z w = omega (arith, x, y, z, w)

  pub moved_is : moved_chunks G c ≡ p.until - p.first
  moved_is =
      let n = sum_each 1 in
      let k = ap (λ (n : ℕ). chunk_count h.chunk_size h.file_size - chunk_count h.chunk_size n) size_is in
      add (sum_where (touched G c) (λ _. 1) 0 (chunk_count h.chunk_size (size_after G c))) (chunk_count h.chunk_size h.file_size - chunk_count h.chunk_size (size_after G c)) _ _ n k
      ∙ sym (until_parts s least h.file_size K ranged)
    where
      add : (a b x y : ℕ) → a ≡ x * 1 → b ≡ y → a + b ≡ x + y
      add a b x y e f = omega (arith, e, f)

  -- it makes a call of the storage
  pub concerned : Concerned G c
  concerned =
      let some = some_moved s least h.file_size K ranged in
      let sp = spans s least h.file_size K ranged in
      elim (cases_lt p.first p.end) [
        | inl many ↦ count _ _ _ _ (omega (arith, sum_each 1, many))
        | inr none ↦ elim (cases_eq K.size h.file_size) [
          | inl same ↦ absurd (omega (arith, until_parts s least h.file_size K ranged, some, none, ap (chunk_count h.chunk_size) same))
          | inr other ↦
              let t : nat_eq K.size h.file_size ≡ false = grind (arith, nat_tests) in
              head _ _ _ _ (ap (λ (n : ℕ). cond {A = ℕ} (nat_eq n h.file_size) 0 1) size_is ∙ ap (λ (t : Bool). cond {A = ℕ} t 0 1) t)
        ]
      ]
    where
      count : (a b d t : ℕ) → 1 ≤ b → 1 ≤ a + b + d + t
      count a b d t le = omega (arith, le)

      head : (a b d t : ℕ) → d ≡ 1 → 1 ≤ a + b + d + t
      head a b d t is = omega (arith, is)

-- the hashes of a change, where there is a tree
module _ (C : Cipher) (h : Header) (c : Command) (K : Change) (done : Reply) (alters : Alters C h c K done) (least : 16 ≤ h.chunk_size) (ranged : Ranged h.chunk_size h.file_size K)
    (most : ℕ) (chunks : List (Option (List ℕ))) where
  abbrev M : File
  M = with_chunks C h chunks

  abbrev q : Plan
  q = plan_of (shape_of C h) h.file_size K

  pub calls_is : is_refused (apply (Some most) M c).0 ≡ false
      → calls_by (Some most) M c ≡ min ((q.until - q.first) * (2 * height most + 1)) (2 * (q.until - q.first) + 3 * height most)
  calls_is calm =
      calls_are most M c alters.kind
      ∙ ap (λ (t : Bool). cond {A = ℕ} t 0 (min (moved_chunks M c * (2 * height most + 1)) (2 * moved_chunks M c + 3 * height most))) calm
      ∙ ap (λ (n : ℕ). min (n * (2 * height most + 1)) (2 * n + 3 * height most)) (moved_is C h c K done alters least ranged (Some most) chunks)

  pub calls_none : is_refused (apply (Some most) M c).0 ≡ true → calls_by (Some most) M c ≡ 0
  calls_none refused =
      calls_are most M c alters.kind
      ∙ ap (λ (t : Bool). cond {A = ℕ} t 0 (min (moved_chunks M c * (2 * height most + 1)) (2 * moved_chunks M c + 3 * height most))) refused
