-- The siblings on the path of a chunk are gathered.
use Rattle.std.proofs.Common.{◌≡◌, ℕ, ◌+◌, ◌-◌, ◌*◌, ◌%◌, ◌^◌, ◌<◌, ◌≤◌, true, false, inl, inr, List, [], ◌++◌, length, take, drop, Some, Result, Ok, Err, refl, sym, ap, subst, ◌∙◌, arith, eq-eqb, ne_eqb, length-append, length-take}
use Rattle.std.proofs.lemmas.Bool.{cases_eq, cases_lt, cond-true, cond-false, true≢false}
use Rattle.std.proofs.lemmas.List.{take_all, drop_at, drop-append-le, take-append-le, length-drop}
use Rattle.std.proofs.lemmas.Nat.{shr_below}
use Rattle.std.proofs.Math.Nat.{pow-suc, mul-le-mul_left}
use Rattle.std.proofs.Common.{add-one}
use Rattle.counts.specs.Counts.{Rose}
use Rattle.raf_tree.specs.Hashing.{Hashing}
use Rattle.raf_tree.specs.Kept.{Kept, Keeps, part, tree_height}
use Rattle.raf_tree.specs.Tree.{leaves, node}
use Rattle.raf_tree.specs.Made.{IsHashLen}
use Rattle.raf_io.specs.Kinds.{kind_of}
use Rattle.raf_io.specs.declared.errors.Error.{Error}
use Rattle.raf_io.specs.declared.errors.ErrorKind.{ErrorKind}
use Rattle.raf_io.specs.declared.errors.ErrorKind.TheVariants as kind
use Rattle.raf_io.specs.declared.errors.Reason.TheVariants as reason
use Rattle.raf.specs.Handle.{Handle, OfTree, WithTree}
use Rattle.raf.specs.Given.{IsPlace, OnlyAsked, WhyNoNode, IsNodeOf, Given}
use Rattle.raf_check.specs.Claim.{above}
use Rattle.raf_check.specs.Siblings.{sibling, SiblingsTo}
use Rattle.raf_proof.specs.Proving.{Ready, Gathered, Ungathered}
use Rattle.raf_proof.proofs.Handles.{at_tree, same_tree, same_setting}

-- the sibling is on the same level
pub sibling_inside : (j n : ℕ) → 1 ≤ n → j < 2 ^ n → sibling j < 2 ^ n
sibling_inside j n some inside =
    let e : 2 ^ n ≡ 2 ^ (n - 1) * 2 = ap (λ (k : ℕ). 2 ^ k) (let up : n ≡ n - 1 + 1 = omega arith in up ∙ add-one (n - 1)) ∙ pow-suc 2 (n - 1) in
    elim (cases_eq (j % 2) 0) [
      | inl even ↦ let is : sibling j ≡ j + 1 = cond-true _ _ _ (eq-eqb (j % 2) 0 even) in omega arith
      | inr odd ↦ let is : sibling j ≡ j - 1 = cond-false _ _ _ (ne_eqb (j % 2) 0 odd) in omega arith
    ]

pub above_inside : (index h l : ℕ) → l ≤ h → index < 2 ^ h → above index l < 2 ^ (h - l)
above_inside index h l le inside = shr_below index (h - l) l (let e : h ≡ h - l + l = omega arith in subst (λ (k : ℕ). index < 2 ^ k) e inside)

-- parts of what is put behind
pub part_front : (len k : ℕ) (xs ys : List ℕ) → len * k + len ≤ length xs → part len k (xs ++ ys) ≡ part len k xs
unfolding part
part_front len k xs ys fits =
    ap (take len) (drop-append-le (len * k) xs ys (omega arith))
    ∙ take-append-le len (drop (len * k) xs) ys (omega (arith, length-drop (len * k) xs))

pub part_back : (len k : ℕ) (xs ys : List ℕ) → length xs ≡ len * k → length ys ≡ len → part len k (xs ++ ys) ≡ ys
unfolding part
part_back len k xs ys at size = ap (take len) (drop_at xs ys (len * k) at) ∙ take_all len ys (omega arith)

module _ (E : List ℕ → Hashing) (height len index : ℕ) (old now new : Handle) (ready : OfTree E old (Ready height len index)) where
  abbrev t : Kept
  t = ready.1

  abbrev H : Hashing
  H = E ready.0

  abbrev is : Ready height len index H t
  is = ready.4

  -- the place that is asked for
  pub place : (level : ℕ) → OnlyAsked level old now → level < height → (u : Kept) → now.tree ≡ Some u → IsPlace u level (sibling (above index level))
  place level asked low u tree =
      let a : old.tree ≡ Some t = ready.3 in
      let b : now.tree ≡ old.tree = same_tree level old now asked in
      let e : t ≡ u = cc in
      subst (λ (T : Kept). IsPlace T level (sibling (above index level))) e (
        omega (arith, is.is_height),
        subst (λ (k : ℕ). sibling (above index level) < 2 ^ (k - level)) is.is_height
            (sibling_inside (above index level) (height - level) (omega arith) (above_inside index height level (omega arith) is.inside)),
      )

  -- one more
  pub gather_more : (level : ℕ) (siblings bytes bytes' : List ℕ) → OnlyAsked level old now → Gathered E index len level old now siblings → Given E level (sibling (above index level)) now new bytes bytes' (Ok tt) → length bytes' ≡ 64
      → Gathered E index len (level + 1) old new (siblings ++ take len bytes')
  gather_more level siblings bytes bytes' asked so_far given size = record {
    long = omega (arith, length-append siblings (take len bytes'), length-take len bytes', so_far.long, is.bounds.1);
    right = right;
    quiet = given.quiet ∙ so_far.quiet;
  }
    where
      taken : length (take len bytes') ≡ len
      taken = omega (arith, length-take len bytes', is.bounds.1)

      right : WithTree E old (λ K u. (chunks : List (List ℕ)) → Keeps K u (leaves K chunks) → SiblingsTo K chunks index (level + 1) (siblings ++ take len bytes'))
      right setting u set tree chunks keeps l low =
          let width : (E setting).len ≡ len = at_tree E old (λ K v. K.len ≡ len) setting u (ready.0, ready.1, ready.2, ready.3, sym is.is_len) set tree in
          elim (cases_lt l level) [
            | inl before ↦
                part_front (E setting).len l siblings (take len bytes') (omega (arith, so_far.long, mul-le-mul_left {m = l + 1} {n = level} len (omega arith), width, ap (λ (k : ℕ). k * l) width))
                ∙ so_far.right setting u set tree chunks keeps l before
            | inr from ↦
                let here : level ≡ l = omega arith in
                let node_is : IsNodeOf (E setting) u level (sibling (above index level)) (take (E setting).len bytes') =
                (at_tree E now (λ K v. (K.len ≤ length bytes) × IsNodeOf K v level (sibling (above index level)) (take K.len bytes')) setting u given.given.1 (same_setting level old now asked ∙ set) (same_tree level old now asked ∙ tree)).1 in
                subst (λ (k : ℕ). part (E setting).len k (siblings ++ take len bytes') ≡ node (E setting) (leaves (E setting) chunks) k (sibling (above index k))) here
                (part_back (E setting).len level siblings (take len bytes') (omega (arith, so_far.long, ap (λ (k : ℕ). k * level) width)) (taken ∙ sym width)
                ∙ ap (λ (k : ℕ). take k bytes') (sym width)
                ∙ node_is (leaves (E setting) chunks) keeps)
          ]

  -- or why not
  pub ungathered : (level : ℕ) (k : ErrorKind) → old.broken ≡ false → OnlyAsked level old now → now.outside.hash_faults ≡ old.outside.hash_faults
      → WhyNoNode E 64 level (sibling (above index level)) now new k → Ungathered old new k
  ungathered level kind.Broken unmarked asked quiet why =
      let same : now.broken ≡ old.broken = ap (λ (h : Handle). h.broken) asked.same in
      let marked : now.broken ≡ true = why.0 in
      absurd cc
  ungathered level kind.MerkleNotEnabled unmarked asked quiet why =
      let none = why.1 in
      let a : old.tree ≡ Some t = ready.3 in
      let b : now.tree ≡ old.tree = same_tree level old now asked in
      absurd cc
  ungathered level (kind.InvalidArgument reason.CommitmentBuffer) unmarked asked quiet why =
      let short = at_tree E now (λ K v. 64 < K.len) ready.0 ready.1 why.1 (same_setting level old now asked ∙ ready.2) (same_tree level old now asked ∙ ready.3) in
      absurd (omega (arith, short, is.is_len, is.bounds.1))
  ungathered level kind.Hash unmarked asked quiet why = subst (λ (n : ℕ). Rose n new.outside.hash_faults) quiet why.1.4.2
  ungathered level _ unmarked asked quiet why = absurd why
