-- A change that was made ready is carried out: the touched chunks, the header and the cut, and the tree.
use Rattle.std.proofs.Common.{◌≡◌, inl, inr, ℕ, ◌+◌, ◌-◌, ◌*◌, ◌≤◌, Bool, true, false, cond, List, length, drop, Option, Some, None, Result, Ok, Err, refl, sym, ◌∙◌, ap, subst, arith, length-drop}
use Rattle.std.specs.Prelude.{if◌then◌else◌, nat_lt, nat_eq}
use Rattle.std.specs.Result.{OnOk, OnErr, IfErr}
use Rattle.std.proofs.lemmas.Nat.{mul-le}
use Rattle.counts.specs.Counts.{Rose}
use Rattle.raf_io.specs.Source.{TakesAtMost}
use Rattle.raf_io.specs.Kinds.{kind_of}
use Rattle.raf_tree.specs.Hashing.{Hashing}
use Rattle.raf_tree.specs.Kept.{Kept, tree_height}
use Rattle.raf_tree.specs.Tree.{height}
use Rattle.raf_tree.specs.Steps.{Updated, UpdateCalls}
use Rattle.raf_format.specs.Cipher.{Cipher}
use Rattle.raf_format.specs.File.{Shape, shape_of, chunk_count, layout_len}
use Rattle.raf.specs.Handle.{HasRoom}
use Rattle.raf.specs.Outside.{Outside, Kept as Kept_, Quiet, Caused, Moved}
use Rattle.raf.specs.Plan.{Planned}
use Rattle.raf.specs.Put.{new_records, changes_of, Hashed}
use Rattle.raf.specs.Carry.{SameTree, OfTrees, HasTree, Hindered, Stores, Finishes, Commits, TrimmedTo}
use Rattle.raf.specs.declared.planning.Plan.{Plan}
use Rattle.raf_format.specs.declared.header.Header.{Header}
use Rattle.raf_io.specs.declared.errors.Error.{Error}
use Rattle.raf_io.specs.declared.errors.ErrorKind.{ErrorKind}
use Rattle.raf_io.specs.declared.errors.ErrorKind.TheVariants.{Io, Rng, Hash}
use Rattle.raf.proofs.Moves.{moved_then, moved_less, quiet_then, caused_later}
use Rattle.raf.proofs.SameTrees.{same_tree_then, same_room}
use Rattle.raf.proofs.Spared.{spared_torn, spared_trimmed}
use Rattle.raf.proofs.PutRecords.{on_ok, if_err}
use Rattle.raf.proofs.Prepared.{on_err, on_err_any, if_err_and}

-- what was hashed, counted exactly
pub moved_calls : (a b : Outside) (end traffic asked changes calls : ℕ) → Moved a b end traffic asked changes calls → Moved a b end traffic asked changes (b.calls - a.calls)
moved_calls a b end traffic asked changes calls m = record {
  exact = m.exact;
  setting = m.setting;
  io_later = m.io_later;
  rng_later = m.rng_later;
  hash_later = m.hash_later;
  reach_later = m.reach_later;
  reach_most = m.reach_most;
  traffic_later = m.traffic_later;
  traffic_most = m.traffic_most;
  asked_later = m.asked_later;
  asked_most = m.asked_most;
  changes_later = m.changes_later;
  changes_most = m.changes_most;
  calls_later = m.calls_later;
  calls_most = omega (arith, m.calls_later);
  strays_later = m.strays_later;
}

-- only the leaves were hashed
pub hashed_leaves : (p : Plan) (tree : Option Kept) (old new : ℕ) → (tree ≡ None → new ≡ old) → new ≤ old + (p.end - p.first) → Hashed p tree old new
hashed_leaves p tree old new none most = record {
  none = none;
  empty = λ zero. omega (arith, most);
  paths = λ t is some. omega (arith, most);
  pass = λ t is some. omega (arith, most);
}

-- and then the nodes
pub hashed_nodes : (p : Plan) (tree tree₁ : Option Kept) (old mid new : ℕ) {T E : Type 0} (r : Result T E) → SameTree tree tree₁ → (tree ≡ None → mid ≡ old) → mid ≤ old + (p.end - p.first)
    → (tree₁ ≡ None → new ≡ mid) → ((t : Kept) → tree₁ ≡ Some t → UpdateCalls p.count p.first p.until (tree_height t) mid new r) → Hashed p tree old new
hashed_nodes p None None old mid new r same none most none' calls = record {
  none = λ is. none' refl ∙ none is;
  empty = λ zero. omega (arith, none' refl, most);
  paths = λ t is some. absurd (gone t is);
  pass = λ t is some. absurd (gone t is);
}
  where
    gone : (t : Kept) → None ≡ Some t → ⊥
    gone t is = cc
hashed_nodes p None (Some u) old mid new r same none most none' calls = absurd same
hashed_nodes p (Some t) None old mid new r same none most none' calls = absurd same
hashed_nodes p (Some t) (Some u) old mid new r same none most none' calls = record {
  none = λ is. absurd (gone is);
  empty = λ zero. omega (arith, (calls u refl).none zero, most);
  paths = λ t' is some. let k = tall t' is in omega (arith, (calls u refl).paths some, ap (λ (n : ℕ). 2 * (p.until - p.first) * n) k, most);
  pass = λ t' is some. let k = tall t' is in omega (arith, (calls u refl).pass some, k, most);
}
  where
    gone : Some t ≡ None → ⊥
    gone is = cc

    tall : (t' : Kept) → Some t ≡ Some t' → tree_height u ≡ tree_height t'
    tall t' is =
        let e : t ≡ t' = cc is in
        ap height same.max_chunks ∙ ap (λ (k : Kept). tree_height k) e

module _ (C : Cipher) (E : List ℕ → Hashing) (key K : List ℕ) (h : Header) (p : Plan) (bytes : List ℕ) (kept : ℕ → List ℕ) (nonce : List ℕ) (planned : Planned (shape_of C h) p (length bytes)) where
  abbrev s : Shape
  s = shape_of C h

  -- a tree has room for what it is updated over
  pub update_room : (tree tree₁ : Option Kept) → HasRoom p.count tree → HasRoom (chunk_count h.chunk_size p.before) tree → SameTree tree tree₁
      → (t : Kept) → tree₁ ≡ Some t → (p.count ≤ t.max_chunks) × (p.until ≤ t.max_chunks)
  update_room tree tree₁ room old_room same t is =
      let a = same_room p.count tree tree₁ same room t is in
      let b = same_room (chunk_count h.chunk_size p.before) tree tree₁ same old_room t is in
      (a, go (nat_lt p.size p.before) planned.until b (omega (arith, a, planned.count, planned.spans.below)))
    where
      go : (less : Bool) → p.until ≡ cond {A = ℕ} less (chunk_count h.chunk_size p.before) p.end → chunk_count h.chunk_size p.before ≤ t.max_chunks → p.end ≤ t.max_chunks → p.until ≤ t.max_chunks
      go true u b e = omega (arith, u, b)
      go false u b e = omega (arith, u, e)

  -- the chunks weren't all put
  pub commits_unstored : (old new : Outside) (tree tree' : Option Kept) (e : Error) → Stores C E K h p bytes kept nonce old new tree tree' (Err e) → Commits C E key K h p bytes kept nonce old new tree tree' (Err e)
  commits_unstored old new tree tree' e st = record {
    stored = tt;
    spared = λ b told l. spared_torn s p (length bytes) planned b new.bytes l (st.torn b told);
    same = st.same;
    left = st.left;
    failed = st.failed;
    asks = λ _. st.some;
    drained = st.drained;
    began = st.began;
    quiet = tt;
    moved = moved_calls old new _ _ _ _ (p.end - p.first) (moved_less old new _ _ _ _ _ (layout_len s p.size) (new_records s p + (if nat_eq p.size p.before then 0 else 96)) ((p.end - 1 - p.first) * C.nonce_len) (changes_of p) (p.end - p.first) st.moved
        (omega arith) (omega arith) (omega arith) (omega arith) (omega arith));
    hashed = hashed_leaves p tree old.calls new.calls st.none st.moved.calls_most;
    strays = st.strays;
  }

  module _ (old mid : Outside) (tree tree₁ : Option Kept) (x : Unit {0}) (st : Stores C E K h p bytes kept nonce old mid tree tree₁ (Ok x)) where
    taken_most : TakesAtMost old.left ((p.end - 1 - p.first) * C.nonce_len) mid.left
    taken_most = (
      drop C.nonce_len st.stored.nonces,
      omega (arith, length-drop C.nonce_len st.stored.nonces, st.stored.drawn, mul-le (p.end - p.first) C.nonce_len (p.end - 1 - p.first + 1) C.nonce_len (omega arith) (omega arith)),
      st.stored.taken,
    )

    -- header or cut failed
    pub commits_unfinished : (new : Outside) (e : Error) → Finishes C key h p mid new (Err e) → Commits C E key K h p bytes kept nonce old new tree tree₁ (Err e)
    commits_unfinished new e f = record {
      stored = tt;
      spared = λ b told l. spared_trimmed s p (length bytes) planned old.bytes mid.bytes new.bytes b told l st.torn f.trimmed;
      same = st.same;
      left = subst (λ (o : Option (List ℕ)). TakesAtMost old.left ((p.end - 1 - p.first) * C.nonce_len) o) (sym f.left) taken_most;
      failed = subst (λ (k : ErrorKind). Hindered ((p.end - 1 - p.first) * C.nonce_len) k old new tree₁) (sym f.failed.0) (caused_later Io old mid new st.quiet f.failed.1);
      asks = λ rng. absurd (differ (sym f.failed.0 ∙ rng));
      drained = λ rng. absurd (differ (sym f.failed.0 ∙ rng));
      began = inl (omega (arith, f.began, st.moved.changes_later));
      quiet = tt;
      moved = moved_calls old new _ _ _ _ _ (moved_less old new _ _ _ _ _ (layout_len s p.size) (new_records s p + (if nat_eq p.size p.before then 0 else 96)) ((p.end - 1 - p.first) * C.nonce_len) (changes_of p) (p.end - p.first)
          (moved_then old mid new _ _ _ _ _ _ _ _ _ _ st.moved f.moved)
          (omega (arith, planned.layout)) (omega arith) (omega arith) (omega arith) (omega arith));
      hashed = hashed_leaves p tree old.calls new.calls
          (λ is. let z : new.calls ≡ mid.calls = omega (arith, f.moved.calls_later, f.moved.calls_most) in z ∙ st.none is)
          (omega (arith, f.moved.calls_most, st.moved.calls_most));
      strays = f.strays ∙ st.strays;
    }
      where
        differ : Io ≡ Rng → ⊥
        differ is = cc

    -- and then the nodes are made, whether or not that fails
    pub commits_updated : (r : Result (Unit {0}) Error) (fin new : Outside) (tree' : Option Kept) (y : Unit {0}) → Finishes C key h p mid fin (Ok y)
        → OnOk r (OfTrees E fin.setting tree₁ tree' (λ H. Updated H p.count p.first p.until)) → SameTree tree₁ tree' → OnErr r (HasTree tree') → Kept_ fin new → IfErr r (λ e. (kind_of e ≡ Hash) × Caused Hash fin new)
        → OnOk r (Quiet fin new) → Moved fin new 0 0 0 0 (new.calls - fin.calls) → OnErr r (Rose fin.calls new.calls)
        → ((t : Kept) → tree₁ ≡ Some t → UpdateCalls p.count p.first p.until (tree_height t) fin.calls new.calls r) → (tree₁ ≡ None → new.calls ≡ fin.calls) → new.strays ≡ fin.strays
        → Commits C E key K h p bytes kept nonce old new tree tree' r
    commits_updated r fin new tree' y f updated same there kept_ failed quiet moved began calls none strays =
        let q = quiet_then old mid fin st.quiet f.quiet in
        let calls_mid : fin.calls ≡ mid.calls = omega (arith, f.moved.calls_later, f.moved.calls_most) in
        record {
          stored = on_ok r _ _ (λ (up : OfTrees E fin.setting tree₁ tree' (λ H. Updated H p.count p.first p.until)). (
            mid,
            tree₁,
            st.stored,
            kept_.left ∙ f.left,
            st.same,
            subst (λ (o : Option (List ℕ)). OfTrees E o tree₁ tree' (λ H. Updated H p.count p.first p.until)) (f.moved.setting ∙ st.moved.setting) up,
            λ b told. kept_.bytes ∙ f.finished b told,
          )) updated;
          spared = λ b told l. spared_trimmed s p (length bytes) planned old.bytes mid.bytes new.bytes b told l st.torn (λ b told. subst (λ (o : Option (List ℕ)). TrimmedTo p.before p.size p.layout b o) (sym kept_.bytes) (f.trimmed b told));
          same = same_tree_then tree tree₁ tree' st.same same;
          left = on_err_any r _ (subst (λ (o : Option (List ℕ)). TakesAtMost old.left ((p.end - 1 - p.first) * C.nonce_len) o) (sym (kept_.left ∙ f.left)) taken_most);
          failed = if_err_and r _ _ _ (λ e (why : (kind_of e ≡ Hash) × Caused Hash fin new) (has : HasTree tree').
              subst (λ (k : ErrorKind). Hindered ((p.end - 1 - p.first) * C.nonce_len) k old new tree') (sym why.0) (caused_later Hash old fin new q why.1, has)) failed there;
          asks = if_err r _ _ (λ e (why : (kind_of e ≡ Hash) × Caused Hash fin new) rng. absurd (differ (sym why.0 ∙ rng))) failed;
          drained = if_err r _ _ (λ e (why : (kind_of e ≡ Hash) × Caused Hash fin new) rng. absurd (differ (sym why.0 ∙ rng))) failed;
          began = on_err r _ _ (λ (rose : Rose fin.calls new.calls). inr (omega (arith, rose, f.moved.calls_later, st.moved.calls_later))) began;
          quiet = on_ok r _ _ (λ (last : Quiet fin new). quiet_then old fin new q last) quiet;
          moved = moved_calls old new _ _ _ _ _ (moved_less old new _ _ _ _ _ (layout_len s p.size) (new_records s p + (if nat_eq p.size p.before then 0 else 96)) ((p.end - 1 - p.first) * C.nonce_len) (changes_of p) (p.end - p.first + 0 + (new.calls - fin.calls))
              (moved_then old fin new _ _ _ _ _ _ _ _ _ _ (moved_then old mid fin _ _ _ _ _ _ _ _ _ _ st.moved f.moved) moved)
              (omega (arith, planned.layout)) (omega arith) (omega arith) (omega arith) (omega arith));
          hashed = hashed_nodes p tree tree₁ old.calls fin.calls new.calls r st.same (λ is. calls_mid ∙ st.none is) (omega (arith, calls_mid, st.moved.calls_most)) none calls;
          strays = strays ∙ f.strays ∙ st.strays;
        }
      where
        differ : Hash ≡ Rng → ⊥
        differ is = cc
