-- A change asks no more than its command may.
use Rattle.std.proofs.Common.{◌≡◌, inl, inr, ℕ, ◌+◌, ◌-◌, ◌*◌, ◌≤◌, min, max, true, false, List, length, Option, Some, None, refl, ◌∙◌, ap, subst, arith}
use Rattle.std.specs.Option.{option_map}
use Rattle.std.proofs.lemmas.Bool.{cases_lt}
use Rattle.std.proofs.lemmas.Nat.{mul-le}
use Rattle.raf_tree.specs.Kept.{Kept}
use Rattle.raf_tree.specs.Tree.{height}
use Rattle.raf_format.specs.Cipher.{Cipher}
use Rattle.raf_format.specs.File.{File, Shape, shape_of, layout_len, file_layout}
use Rattle.raf.specs.Due.{Due, is_refused}
use Rattle.raf.specs.Due.Due.{Exactly}
use Rattle.raf.specs.Concern.{can_have, is_needed, none_missing}
use Rattle.raf.specs.Apply.{apply}
use Rattle.raf.specs.Change.{Change}
use Rattle.raf.specs.Image.{calls_by}
use Rattle.raf.specs.Outside.{Outside, Moved}
use Rattle.raf.specs.Plan.{Ranged, plan_of}
use Rattle.raf.specs.Put.{ChangeMoved, Hashed, needed_records}
use Rattle.raf.specs.Stepped.{Bounded}
use Rattle.raf.specs.declared.planning.Plan.{Plan}
use Rattle.raf.specs.declared.command.Command.{Command}
use Rattle.raf.specs.declared.command.Reply.{Reply}
use Rattle.raf_format.specs.declared.header.Header.{Header}
use Rattle.raf.proofs.Moves.{moved_less}
use Rattle.raf.proofs.Arms.{Alters, with_chunks, arm_done, arm_missing}
use Rattle.raf.proofs.Plans.{spans, some_moved, end_until}
use Rattle.raf.proofs.Amounts.{asked_is, changes_is, traffic_is, calls_is}

-- the most chunks that a tree has room for
abbrev pub limit_by : Option Kept → Option ℕ
limit_by tree = option_map (λ t. t.max_chunks) tree

-- the hashes of a plan are no more than those of its command
pub fewest : (n m high x : ℕ) → m ≤ n → x ≤ m + 2 * n * high → x ≤ m + n + 3 * high → x ≤ min (n * (2 * high + 1)) (2 * n + 3 * high)
fewest n m high x le paths pass = omega (arith, le, paths, pass)

pub fewest_one : (n high x : ℕ) → 1 ≤ n → x ≤ 1 → x ≤ min (n * (2 * high + 1)) (2 * n + 3 * high)
fewest_one n high x some one = omega (arith, some, one, mul-le 1 1 n (2 * high + 1) some (omega arith))

module _ (C : Cipher) (h : Header) (c : Command) (K : Change) (done : Reply) (alters : Alters C h c K done) (calm : is_refused (Exactly done) ≡ false)
    (least : 16 ≤ h.chunk_size) (ranged : Ranged h.chunk_size h.file_size K) (tree : Option Kept) (chunks : List (Option (List ℕ))) (fits : can_have (limit_by tree) (with_chunks C h chunks) K.size ≡ true) where
  abbrev G : File
  G = with_chunks C h chunks

  abbrev s : Shape
  s = shape_of C h

  abbrev p : Plan
  p = plan_of (shape_of C h) h.file_size K

  abbrev limit : Option ℕ
  limit = limit_by tree

  -- where no chunk that is needed is missing
  pub accepted : none_missing (is_needed G K) 0 chunks ≡ true → is_refused (apply limit G c).0 ≡ false
  accepted there = ap (λ (d : Due × File). is_refused d.0) (arm_done C h c K done alters limit chunks fits there) ∙ calm

  pub refused : none_missing (is_needed G K) 0 chunks ≡ false → is_refused (apply limit G c).0 ≡ true
  refused missing = ap (λ (d : Due × File). is_refused d.0) (arm_missing C h c K done alters limit chunks fits missing)

  hashes_within : (t : Option Kept) → tree ≡ t → (old new : Outside) → none_missing (is_needed G K) 0 chunks ≡ true → Hashed p tree old.calls new.calls → new.calls - old.calls ≤ calls_by limit G c
  hashes_within None is old new there hashed = omega (arith, hashed.none is)
  hashes_within (Some t) is old new there hashed =
      let n = p.until - p.first in
      let some = some_moved s least h.file_size K ranged in
      let order = spans s least h.file_size K ranged in
      let limit_is : limit_by tree ≡ Some t.max_chunks = ap limit_by is in
      let still : is_refused (apply (Some t.max_chunks) G c).0 ≡ false = subst (λ (l : Option ℕ). is_refused (apply l G c).0 ≡ false) limit_is (accepted there) in
      let most : calls_by limit G c ≡ min ((p.until - p.first) * (2 * height t.max_chunks + 1)) (2 * (p.until - p.first) + 3 * height t.max_chunks) =
      ap (λ (l : Option ℕ). calls_by l G c) limit_is ∙ calls_is C h c K done alters least ranged t.max_chunks chunks still in
      let within : new.calls - old.calls ≤ min ((p.until - p.first) * (2 * height t.max_chunks + 1)) (2 * (p.until - p.first) + 3 * height t.max_chunks) = elim (cases_lt 0 p.count) [
        | inl had ↦
            let a = hashed.paths t is had in
            let b = hashed.pass t is had in
            fewest (p.until - p.first) (p.end - p.first) (height t.max_chunks) (new.calls - old.calls) (omega (arith, end_until s least h.file_size K ranged)) (omega (arith, a)) (omega (arith, b))
        | inr none ↦
            let e = hashed.empty (omega (arith, none)) in
            fewest_one (p.until - p.first) (height t.max_chunks) (new.calls - old.calls) (omega (arith, some)) (omega (arith, e, none, order.below))
      ] in
      omega (arith, most, within)

  -- a change that is accepted
  pub bounded_done : (old new : Outside) → none_missing (is_needed G K) 0 chunks ≡ true → ChangeMoved s p (length K.bytes) old new → Hashed p tree old.calls new.calls → Bounded limit old new G c
  bounded_done old new there moved hashed =
      let arm = arm_done C h c K done alters limit chunks fits there in
      let still = accepted there in
      moved_less old new (max (layout_len s h.file_size) (layout_len s K.size)) _ _ _ (new.calls - old.calls) _ _ _ _ _ moved
      (omega (arith, ap (λ (d : Due × File). file_layout d.1) arm))
      (omega (arith, traffic_is C h c K done alters least ranged limit chunks))
      (omega (arith, asked_is C h c K done alters least ranged limit chunks still))
      (omega (arith, changes_is C h c K done alters least ranged limit chunks still))
      (hashes_within tree refl old new there hashed)

  -- one that stopped as it opened what it needs
  pub bounded_early : (old new : Outside) → Moved old new (layout_len s h.file_size) (needed_records s p (length K.bytes)) 0 0 0 → Bounded limit old new G c
  bounded_early old new moved =
      moved_less old new (layout_len s h.file_size) (needed_records s p (length K.bytes)) 0 0 0 _ _ _ _ _ moved
      (omega arith) (omega (arith, traffic_is C h c K done alters least ranged limit chunks)) (omega arith) (omega arith) (omega arith)
