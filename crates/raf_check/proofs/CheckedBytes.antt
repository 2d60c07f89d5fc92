-- Bytes are checked as the one proof that they are.
use Rattle.std.proofs.Common.{◌≡◌, ◌↔◌, ℕ, pos, ◌-◌, Bool, true, false, List, Some, None, Result, length, take, drop, sym, ap, subst, ◌∙◌, arith, length-drop}
use Rattle.std.proofs.lemmas.List.{take_all}
use Rattle.raf_tree.specs.Hashing.{Hashing}
use Rattle.raf_check.specs.Claim.{Claim, claim_of}
use Rattle.raf_check.specs.Binding.{Accepted, Binds, CanBeChecked, Checks, CheckCalls}
use Rattle.raf_check.specs.Written.{written, InRange, Says, ChecksBytes, AcceptedBytes}
use Rattle.raf_check.proofs.Written as one

-- the siblings as they are lent
abbrev pub lent : List ℕ → List ℕ
lent b = take (length b - 53) (drop 53 b)

pub lent_is : (b id : List ℕ) (index size height : ℕ) → b ≡ written (claim_of index size id height (drop 53 b)) → b ≡ written (claim_of index size id height (lent b))
lent_is b id index size height is =
    let e : lent b ≡ drop 53 b = take_all (length b - 53) (drop 53 b) (omega (arith, length-drop 53 b)) in
    is ∙ ap (λ (s : List ℕ). written (claim_of index size id height s)) (sym e)

pub lent_fields : (b id : List ℕ) (index size height : ℕ) → InRange (claim_of index size id height (drop 53 b)) → InRange (claim_of index size id height (lent b))
lent_fields b id index size height fields = record { index = fields.index; size = fields.size; id = fields.id; height = fields.height }

-- where the bytes are no proof, they are none that is accepted
pub none_accepted : (H : Hashing) (value chunk b : List ℕ) → ((p : Claim) → Says H.len b p → ⊥) → (None ≡ Some true) ↔ AcceptedBytes H value chunk b
none_accepted H value chunk b none = (λ e. cc, λ a. absurd (none a.0 a.1))

module _ (H : Hashing) (value chunk b : List ℕ) (p : Claim) (is : b ≡ written p) (fields : InRange p) where
  same : (q : Claim) → Says H.len b q → p ≡ q
  same q says = one.one_proof p q fields says.fields (sym is ∙ says.bytes)

  pub none_said : (CanBeChecked H.len p.index p.height p.siblings → ⊥) → (q : Claim) → Says H.len b q → ⊥
  none_said not q says = not (subst (λ (k : Claim). CanBeChecked H.len k.index k.height k.siblings) (sym (same q says)) says.can)

  pub said : CanBeChecked H.len p.index p.height p.siblings → Says H.len b p
  said can = record { bytes = is; fields = fields; can = can }

  pub exactly : (answer : Bool) → Says H.len b p → Checks H value chunk p answer → (Some answer ≡ Some true) ↔ AcceptedBytes H value chunk b
  exactly answer says checks = (
    λ e. let yes : answer ≡ true = cc in (p, says, checks.exact.0 yes),
    λ a. ap Some (checks.exact.1 (subst (λ (k : Claim). Accepted H value chunk k) (sym (same a.0 a.1)) a.2)),
  )

  pub as_many : {T E : Type 0} (before now : ℕ) (r : Result T E) → CheckCalls p.height before now r → (q : Claim) → Says H.len b q → CheckCalls q.height before now r
  as_many before now r calls q says = subst (λ (k : Claim). CheckCalls k.height before now r) (same q says) calls

-- what an answer says of the commitment that was copied
pub said_binds : (H : Hashing) (copy value chunk b : List ℕ) (answer : Bool) → copy ≡ value → answer ≡ true → ChecksBytes H copy chunk b (Some answer) → (p : Claim) × Says H.len b p × Binds H value chunk p
said_binds H copy value chunk b answer is one checks = (checks.0, checks.1, subst (λ (v : List ℕ). Binds H v chunk checks.0) is (checks.2.binds one))

pub not_accepted : (H : Hashing) (copy value chunk b : List ℕ) (answer : Bool) → copy ≡ value → answer ≡ false → ((Some answer ≡ Some true) ↔ AcceptedBytes H copy chunk b) → (pos 0 ≡ pos 1) ↔ AcceptedBytes H value chunk b
not_accepted H copy value chunk b answer is zero_is exact = (
  λ e. absurd cc,
  λ a. let e : Some answer ≡ Some true = exact.1 (subst (λ (v : List ℕ). AcceptedBytes H v chunk b) (sym is) a) in absurd cc,
)
