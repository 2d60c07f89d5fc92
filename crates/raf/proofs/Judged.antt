-- The verdict on two contents, from what was compared.
use Rattle.std.proofs.Common.{◌≡◌, inl, inr, ℕ, ◌+◌, ◌-◌, Bool, true, false, List, [], Some, Result, Ok, Err, refl, sym, ◌∙◌, ap, subst, arith}
use Rattle.std.specs.Result.{IsErrAnd}
use Rattle.raf_io.specs.Kinds.{kind_of}
use Rattle.raf_io.specs.declared.errors.ErrorKind.{ErrorKind}
use Rattle.std.specs.Bool.{Decides}
use Rattle.std.proofs.lemmas.Bool.{true≢false}
use Rattle.raf_io.specs.declared.errors.Error.{Error}
use Rattle.raf_tree.specs.Hashing.{Hashing}
use Rattle.raf_tree.specs.Kept.{Kept as Tree, kept, tree_height}
use Rattle.raf_tree.specs.Tree.{leaves, node, root}
use Rattle.raf_tree.specs.Calls.{Content, Call, call_at, commitment_call, content_height, node_call}
use Rattle.raf_tree.specs.Calls.Call.{Commitment}
use Rattle.raf_tree.specs.Clash.{SameContent, Fits, FirstClash}
use Rattle.raf_tree.specs.Walk.{SameNode, BindingLaws}
use Rattle.raf_tree.specs.declared.place.Place.{Place}
use Rattle.raf_tree.specs.declared.place.Place.TheVariants as place
use Rattle.raf_format.specs.Cipher.{Cipher}
use Rattle.raf_format.specs.File.{File}
use Rattle.raf.specs.Handle.{Handle}
use Rattle.raf.specs.Outside.{Outside, Kept, Moved}
use Rattle.raf.specs.Clash.{HasContent, Judges, Compared, Looked, WhyNotCompared, committed, long, height_in}
use Rattle.raf.specs.Clashing.{FoundBelow, AsksBoth}
use Rattle.raf.proofs.Moves.{moved_less}
use Rattle.raf.proofs.Clashes.{looked_less, looked_same}
use Rattle.raf.proofs.ChunkLooks.{with_outside}
use Rattle.raf.specs.declared.clashing.Verdict.{Verdict}
use Rattle.raf.specs.declared.clashing.Verdict.TheVariants.{Unequal, Same, Clash}

-- what a file has, by its content
pub commitment_is : (C : Cipher) (E : List ℕ → Hashing) (setting : List ℕ) (h : Handle) (x : Content) (has : HasContent C E setting h x)
    → committed (E setting) x ≡ (E setting).commitment (kept has.tree (tree_height has.tree) 0) h.header.id h.header.file_size
commitment_is C E setting h x has =
    let H : Hashing = E setting in
    let top = kept has.tree (tree_height has.tree) 0 in
    ap (λ (c : Content). committed H c) has.is
    ∙ ap (λ (r : List ℕ). H.commitment r has.file.id has.file.size) (sym has.grown.keeps.root)
    ∙ ap (λ (f : File). H.commitment top f.id f.size) has.holds.file

pub root_is : (C : Cipher) (E : List ℕ → Hashing) (setting : List ℕ) (h : Handle) (x : Content) (has : HasContent C E setting h x)
    → root (E setting) (content_height x) (leaves (E setting) x.chunks) ≡ kept has.tree (tree_height has.tree) 0
root_is C E setting h x has =
    ap (λ (c : Content). root (E setting) (content_height c) (leaves (E setting) c.chunks)) has.is ∙ sym has.grown.keeps.root

pub context_is : (C : Cipher) (E : List ℕ → Hashing) (setting : List ℕ) (h : Handle) (x : Content) (has : HasContent C E setting h x) → x.context ≡ h.header.id
context_is C E setting h x has = ap (λ (c : Content). c.context) has.is ∙ ap (λ (f : File). f.id) has.holds.file

pub size_is : (C : Cipher) (E : List ℕ → Hashing) (setting : List ℕ) (h : Handle) (x : Content) (has : HasContent C E setting h x) → x.size ≡ h.header.file_size
size_is C E setting h x has = ap (λ (c : Content). c.size) has.is ∙ ap (λ (f : File). f.size) has.holds.file

pub height_is : (C : Cipher) (E : List ℕ → Hashing) (setting : List ℕ) (h : Handle) (x : Content) (has : HasContent C E setting h x) → content_height x ≡ tree_height has.tree
height_is C E setting h x has = ap (λ (c : Content). content_height c) has.is

abbrev root_of : Call → List ℕ
root_of (Commitment r c s) = r
root_of _ = []

abbrev context_of : Call → List ℕ
context_of (Commitment r c s) = c
context_of _ = []

abbrev size_of : Call → ℕ
size_of (Commitment r c s) = s
size_of _ = 0

module _ (H : Hashing) (x y : Content) (one : committed H x ≡ committed H y) (laws : BindingLaws H x y one) where
  -- the ids or the sizes differ
  pub judged_context : (x.context ≡ y.context → ⊥) → Judges H x y (Clash place.Commitment place.Commitment)
  judged_context other = (one, λ same. other same.context, laws.commitments (λ e. other (ap context_of e)))

  pub judged_size : (x.size ≡ y.size → ⊥) → Judges H x y (Clash place.Commitment place.Commitment)
  judged_size other = (one, λ same. other same.size, laws.commitments (λ e. other (ap size_of e)))

  -- the roots do, where the heights are the same or the chunks aren't
  pub judged_root : (root H (content_height x) (leaves H x.chunks) ≡ root H (content_height y) (leaves H y.chunks) → ⊥)
      → (x.chunks ≡ y.chunks → content_height x ≡ content_height y) → Judges H x y (Clash place.Commitment place.Commitment)
  judged_root other when = (
    one,
    λ same. other (ap (λ (h : ℕ). root H h (leaves H x.chunks)) (when same.chunks) ∙ ap (λ (c : List (List ℕ)). root H (content_height y) (leaves H c)) same.chunks),
    laws.commitments (λ e. other (ap root_of e)),
  )

  -- the heights alone
  pub judged_heights : commitment_call H x ≡ commitment_call H y → (content_height x ≡ content_height y → ⊥) → (x.chunks ≡ y.chunks → ⊥)
      → Judges H x y (Clash (place.Node (content_height x) 0) (place.Node (content_height y) 0))
  judged_heights calls heights other = (one, λ same. other same.chunks, laws.roots calls heights)

  -- nothing does
  pub judged_same : x.context ≡ y.context → x.size ≡ y.size → x.chunks ≡ y.chunks → Judges H x y Same
  judged_same context size chunks = (one, record { context = context; size = size; chunks = chunks })

  pub calls_are : root H (content_height x) (leaves H x.chunks) ≡ root H (content_height y) (leaves H y.chunks) → x.context ≡ y.context → x.size ≡ y.size
      → commitment_call H x ≡ commitment_call H y
  calls_are roots context size =
      ap (λ (r : List ℕ). Commitment r x.context x.size) roots ∙ ap (λ (c : List ℕ). Commitment (root H (content_height y) (leaves H y.chunks)) c x.size) context
      ∙ ap (λ (s : ℕ). Commitment (root H (content_height y) (leaves H y.chunks)) y.context s) size

  -- all calls are those of the same content, in trees of one height
  same_call_at : SameContent x y → content_height x ≡ content_height y → (p : Place) → call_at H x p ≡ call_at H y p
  same_call_at same heights place.Commitment =
      calls_are (ap (λ (h : ℕ). root H h (leaves H x.chunks)) heights ∙ ap (λ (c : List (List ℕ)). root H (content_height y) (leaves H c)) same.chunks) same.context same.size
  same_call_at same heights (place.Node l j) = ap (λ (c : List (List ℕ)). node_call H c l j) same.chunks

  -- a walk down trees of one height, from the same roots
  pub judged_below : (verdict : Verdict) → Fits x → Fits y → content_height x ≡ content_height y → commitment_call H x ≡ commitment_call H y
      → FoundBelow H x y (content_height x) verdict → Judges H x y verdict
  judged_below Unequal fits_x fits_y heights calls found = absurd found
  judged_below Same fits_x fits_y heights calls found =
      judged_same (ap context_of calls) (ap size_of calls) (laws.same fits_x fits_y heights found)
  judged_below (Clash p q) fits_x fits_y heights calls found =
      let first : FirstClash H x y p p = laws.below calls heights p found.1 in
      subst (λ (r : Place). Judges H x y (Clash p r)) found.0 (one, λ same. first.differ (same_call_at same heights p), first)

  pub same_roots : content_height x ≡ content_height y → root H (content_height x) (leaves H x.chunks) ≡ root H (content_height y) (leaves H y.chunks)
      → SameNode H x y (content_height x) 0
  same_roots heights roots = roots ∙ ap (λ (h : ℕ). node H (leaves H y.chunks) h 0) (sym heights)

-- the commitments were compared, and they differ
pub asked_one : (C : Cipher) (a : Handle) (p : Outside) → Kept a.outside p → Moved a.outside p 0 0 0 0 1 → p.strays ≡ a.outside.strays → Looked C 0 1 a (with_outside a p)
asked_one C a p kept moved strays = record {
  key = refl;
  header = refl;
  tree = refl;
  broken = refl;
  kept = kept;
  moved = moved_less a.outside p _ _ _ _ _ (long C a) 0 0 0 1 moved (omega arith) (omega arith) (omega arith) (omega arith) (omega arith);
  strays = λ b tells far. strays;
}

pub compared_unequal : (C D : Cipher) (E : List ℕ → Hashing) (a b : Handle) (p q : Outside) (r : Bool) → (a.broken ≡ false) × (b.broken ≡ false) → r ≡ false
    → (let was : Result Bool Error = Ok r in AsksBoth a.tree b.tree a.outside b.outside p q was)
    → ((t u : Tree) → a.tree ≡ Some t → b.tree ≡ Some u → (s : List ℕ) → a.outside.setting ≡ Some s → b.outside.setting ≡ Some s
    → Decides r ((E s).commitment (kept t (tree_height t) 0) a.header.id a.header.file_size ≡ (E s).commitment (kept u (tree_height u) 0) b.header.id b.header.file_size))
    → Compared C D E a b (with_outside a p) (with_outside b q) (Ok Unequal)
compared_unequal C D E a b p q r unmarked other (inr missing) same = absurd missing.3
compared_unequal C D E a b p q r unmarked other (inl both) same = record {
  judged = λ s x y has_x has_y one.
      true≢false (sym ((same has_x.tree has_y.tree has_x.kept has_y.kept s has_x.hashed has_y.hashed).1
      (sym (commitment_is C E s a x has_x) ∙ one ∙ commitment_is D E s b y has_y)) ∙ other);
  comparable = record { unmarked = unmarked; hashed = both.0 };
  quiet = both.1.quiet;
  refused = tt;
  first = looked_less C 0 1 (long C a - 96) (height_in a.tree + 1) a (with_outside a p) (omega arith) (omega arith) (asked_one C a p both.1.kept.0 both.1.first both.1.strays.0);
  second = looked_less D 0 1 (long D b - 96) (height_in b.tree + 1) b (with_outside b q) (omega arith) (omega arith) (asked_one D b q both.1.kept.1 both.1.second both.1.strays.1);
}

-- it was refused before that
pub compared_refused : {S : Type 0} (C D : Cipher) (E : List ℕ → Hashing) (a b : Handle) (p q : Outside) (e : Error) (r : Result Verdict Error) → IsErrAnd r (λ x. x ≡ e)
    → (a.broken ≡ false) × (b.broken ≡ false) → (let was : Result S Error = Err e in AsksBoth a.tree b.tree a.outside b.outside p q was) → Compared C D E a b (with_outside a p) (with_outside b q) r
compared_refused C D E a b p q e (Ok v) is unmarked asks = absurd is
compared_refused C D E a b p q e (Err x) is unmarked (inl both) = record {
  judged = λ s x y has_x has_y. tt;
  comparable = tt;
  quiet = tt;
  refused = subst (λ (k : ErrorKind). WhyNotCompared C D a b (with_outside a p) (with_outside b q) k) (sym (ap kind_of is ∙ both.1.failed.0))
      (record { unmarked = unmarked; hashed = both.0 }, both.1.failed.1);
  first = looked_less C 0 1 (long C a - 96) (height_in a.tree + 1) a (with_outside a p) (omega arith) (omega arith) (asked_one C a p both.1.kept.0 both.1.first both.1.strays.0);
  second = looked_less D 0 1 (long D b - 96) (height_in b.tree + 1) b (with_outside b q) (omega arith) (omega arith) (asked_one D b q both.1.kept.1 both.1.second both.1.strays.1);
}
compared_refused C D E a b p q e (Err x) is unmarked (inr missing) = record {
  judged = λ s x y has_x has_y. tt;
  comparable = tt;
  quiet = tt;
  refused = subst (λ (k : ErrorKind). WhyNotCompared C D a b (with_outside a p) (with_outside b q) k) (sym (ap kind_of is ∙ missing.3))
      (unmarked.0, unmarked.1, missing.0, ap (with_outside a) missing.1, ap (with_outside b) missing.2);
  first = subst (λ (o : Outside). Looked C (long C a - 96) (height_in a.tree + 1) a (with_outside a o)) (sym missing.1) (looked_less C 0 0 (long C a - 96) (height_in a.tree + 1) a a (omega arith) (omega arith) (looked_same C 0 0 a));
  second = subst (λ (o : Outside). Looked D (long D b - 96) (height_in b.tree + 1) b (with_outside b o)) (sym missing.2) (looked_less D 0 0 (long D b - 96) (height_in b.tree + 1) b b (omega arith) (omega arith) (looked_same D 0 0 b));
}

-- the commitments are equal, and nothing more was asked
pub compared_equal : (C D : Cipher) (E : List ℕ → Hashing) (a b : Handle) (p q : Outside) (r : Bool) (v : Verdict) → (a.broken ≡ false) × (b.broken ≡ false) → r ≡ true
    → (let was : Result Bool Error = Ok r in AsksBoth a.tree b.tree a.outside b.outside p q was)
    → ((t u : Tree) → a.tree ≡ Some t → b.tree ≡ Some u → (s : List ℕ) → a.outside.setting ≡ Some s → b.outside.setting ≡ Some s
    → Decides r ((E s).commitment (kept t (tree_height t) 0) a.header.id a.header.file_size ≡ (E s).commitment (kept u (tree_height u) 0) b.header.id b.header.file_size))
    → ((s : List ℕ) (x y : Content) → HasContent C E s a x → HasContent D E s b y → committed (E s) x ≡ committed (E s) y → Judges (E s) x y v)
    → Compared C D E a b (with_outside a p) (with_outside b q) (Ok v)
compared_equal C D E a b p q r v unmarked equal (inr missing) same judge = absurd missing.3
compared_equal C D E a b p q r v unmarked equal (inl both) same judge = record {
  judged = λ s x y has_x has_y. judge s x y has_x has_y
      (commitment_is C E s a x has_x ∙ (same has_x.tree has_y.tree has_x.kept has_y.kept s has_x.hashed has_y.hashed).0 equal ∙ sym (commitment_is D E s b y has_y));
  comparable = record { unmarked = unmarked; hashed = both.0 };
  quiet = both.1.quiet;
  refused = tt;
  first = looked_less C 0 1 (long C a - 96) (height_in a.tree + 1) a (with_outside a p) (omega arith) (omega arith) (asked_one C a p both.1.kept.0 both.1.first both.1.strays.0);
  second = looked_less D 0 1 (long D b - 96) (height_in b.tree + 1) b (with_outside b q) (omega arith) (omega arith) (asked_one D b q both.1.kept.1 both.1.second both.1.strays.1);
}
