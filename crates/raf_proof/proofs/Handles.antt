-- A file of which nothing but its hasher was asked.
use Rattle.std.proofs.Common.{◌≡◌, ℕ, ◌+◌, ◌≤◌, List, Option, Some, None, Result, Ok, Err, IsErrAnd, refl, sym, ap, subst, ◌∙◌, arith}
use Rattle.raf_tree.specs.Hashing.{Hashing}
use Rattle.raf_tree.specs.Kept.{Kept}
use Rattle.raf_io.specs.declared.errors.Error.{Error}
use Rattle.raf.specs.Outside.{Outside}
use Rattle.raf.specs.Handle.{Handle, OfTree, Paired}
use Rattle.raf.specs.Given.{Asked, OnlyAsked}

pub asked_then : (m n : ℕ) (a b c : Outside) → Asked m a b → Asked n b c → Asked (m + n) a c
asked_then m n a b c first second = record {
  same = second.same ∙ ap (λ (o : Outside). record o { hash_faults = c.hash_faults; calls = c.calls }) first.same;
  faults_later = omega (arith, first.faults_later, second.faults_later);
  calls_later = omega (arith, first.calls_later, second.calls_later);
  calls_most = omega (arith, first.calls_most, second.calls_most);
}

pub only_asked_then : (m n : ℕ) (a b c : Handle) → OnlyAsked m a b → OnlyAsked n b c → OnlyAsked (m + n) a c
only_asked_then m n a b c first second = record {
  same = second.same ∙ ap (λ (h : Handle). record h { outside = c.outside }) first.same;
  asked = asked_then m n a.outside b.outside c.outside first.asked second.asked;
}

pub only_asked_less : (m n : ℕ) (a b : Handle) → m ≤ n → OnlyAsked m a b → OnlyAsked n a b
only_asked_less m n a b le o = record {
  same = o.same;
  asked = record { same = o.asked.same; faults_later = o.asked.faults_later; calls_later = o.asked.calls_later; calls_most = omega (arith, o.asked.calls_most) };
}

pub only_asked_none : (h : Handle) → OnlyAsked 0 h h
only_asked_none h = record { same = refl; asked = record { same = refl; faults_later = omega arith; calls_later = omega arith; calls_most = omega arith } }

-- no more than this was asked
pub only_asked_exact : (m n : ℕ) (a b : Handle) → b.outside.calls ≤ a.outside.calls + n → OnlyAsked m a b → OnlyAsked n a b
only_asked_exact m n a b most o = record {
  same = o.same;
  asked = record { same = o.asked.same; faults_later = o.asked.faults_later; calls_later = o.asked.calls_later; calls_most = most };
}

-- what stays
module _ (m : ℕ) (a b : Handle) (o : OnlyAsked m a b) where
  pub same_tree : b.tree ≡ a.tree
  same_tree = ap (λ (h : Handle). h.tree) o.same

  pub same_setting : b.outside.setting ≡ a.outside.setting
  same_setting = ap (λ (x : Outside). x.setting) o.asked.same

-- of two handles with one tree and one setting
pub at_tree : (E : List ℕ → Hashing) (h : Handle) (P : Hashing → Kept → Type 0) (setting : List ℕ) (t : Kept) → OfTree E h P → h.outside.setting ≡ Some setting → h.tree ≡ Some t → P (E setting) t
at_tree E h P setting t o set is =
    let s = o.0 in
    let u = o.1 in
    let a : h.outside.setting ≡ Some s = o.2 in
    let b : h.tree ≡ Some u = o.3 in
    let same : s ≡ setting = cc in
    let tree : u ≡ t = cc in
    subst (λ (v : Kept). P (E setting) v) tree (subst (λ (r : List ℕ). P (E r) u) same o.4)

pub of_tree : (E : List ℕ → Hashing) (a b : Handle) (P Q : Hashing → Kept → Type 0) → b.outside.setting ≡ a.outside.setting → b.tree ≡ a.tree → ((setting : List ℕ) (t : Kept) → P (E setting) t → Q (E setting) t) → OfTree E a P → OfTree E b Q
of_tree E a b P Q setting tree then o = (o.0, o.1, setting ∙ o.2, tree ∙ o.3, then o.0 o.1 o.4)

pub paired_len : (E : List ℕ → Hashing) (setting : Option (List ℕ)) (tree : Option Kept) (s : List ℕ) (t : Kept) → Paired E setting tree → setting ≡ Some s → tree ≡ Some t → (E s).len ≡ t.hash_len
paired_len E setting tree s t paired set is = subst (λ (o : Option Kept). Paired E (Some s) o) is (subst (λ (o : Option (List ℕ)). Paired E o tree) set paired)

-- what holds of an error holds of it where it is handed on
pub handed_on : {T : Type 0} (r : Result T Error) (e : Error) (P : Result T Error → Type 0) → IsErrAnd r (λ x. x ≡ e) → P (Err e) → P r
handed_on (Ok x) e P is holds = absurd is
handed_on (Err x) e P is holds = subst (λ (k : Error). P (Err k)) (sym is) holds
