-- The chunks that a read needs, and whether they are there.
use Rattle.std.proofs.Common.{◌≡◌, inl, inr, Bool, true, false, cond, not, ◌&&◌, ◌||◌, ℕ, zero, suc, ◌+◌, ◌-◌, ◌*◌, ◌/◌, ◌<◌, ◌≤◌, min, List, [], ◌∷◌, length, Option, Some, None, refl, sym, ◌∙◌, ap, subst, arith}
use Rattle.std.specs.Prelude.{is_some, slice_get, if◌then◌else◌}
use Rattle.std.proofs.lemmas.Bool.{cases_lt, false≢true}
use Rattle.std.proofs.lemmas.Bool.Decides.{nat_tests}
use Rattle.std.proofs.lemmas.Nat.{le-div, div_below}
use Rattle.raf.specs.Due.{Due}
use Rattle.raf.specs.Due.Due.{Exactly}
use Rattle.raf_format.specs.File.{File}
use Rattle.raf.specs.Concern.{meets, none_missing, needed, sum_where}
use Rattle.raf.specs.Apply.{apply, bytes_between}
use Rattle.raf.specs.declared.command.Command.TheVariants.{Read}
use Rattle.raf.specs.declared.command.Reply.TheVariants.{Bytes, Refused}
use Rattle.raf_io.specs.declared.errors.ErrorKind.TheVariants.{AuthenticationFailed, MerkleNotEnabled}

-- what is due to a read, by whether its chunks are there
pub apply_read : (limit : Option ℕ) (F : File) (offset len : ℕ) (t : Bool) → none_missing (needed F (Read offset len)) 0 F.chunks ≡ t
    → apply limit F (Read offset len)
    ≡ cond {A = Due × File} t (Exactly (Bytes (bytes_between F.shape.chunk_size offset (min (offset + len) F.size) 0 F.chunks)), F) (Exactly (Refused AuthenticationFailed), F)
apply_read limit F offset len t is =
    ap (λ (t : Bool). cond {A = Due × File} (t && true) (Exactly (Bytes (bytes_between F.shape.chunk_size offset (min (offset + len) F.size) 0 F.chunks)), F)
    (Exactly (Refused (cond (not t) AuthenticationFailed MerkleNotEnabled)), F)) is
    ∙ go t
  where
    go : (t : Bool) → cond {A = Due × File} (t && true) (Exactly (Bytes (bytes_between F.shape.chunk_size offset (min (offset + len) F.size) 0 F.chunks)), F)
        (Exactly (Refused (cond (not t) AuthenticationFailed MerkleNotEnabled)), F)
        ≡ cond {A = Due × File} t (Exactly (Bytes (bytes_between F.shape.chunk_size offset (min (offset + len) F.size) 0 F.chunks)), F) (Exactly (Refused AuthenticationFailed), F)
    go true = refl
    go false = refl

-- the chunks of a range, by numbers
pub met : (start cs from end : ℕ) → meets start cs from end ≡ true → (start < end) × (from < start + cs) × (from < end)
met start cs from end is = (
  elim (cases_lt start end) [ inl lt ↦ lt | inr ge ↦ let f : meets start cs from end ≡ false = grind (arith, nat_tests) in absurd (false≢true (sym f ∙ is)) ],
  elim (cases_lt from (start + cs)) [ inl lt ↦ lt | inr ge ↦ let f : meets start cs from end ≡ false = grind (arith, nat_tests) in absurd (false≢true (sym f ∙ is)) ],
  elim (cases_lt from end) [ inl lt ↦ lt | inr ge ↦ let f : meets start cs from end ≡ false = grind (arith, nat_tests) in absurd (false≢true (sym f ∙ is)) ],
)

pub meets_true : (start cs from end : ℕ) → from < end → start < end → from < start + cs → meets start cs from end ≡ true
meets_true start cs from end some begins ends = grind (arith, nat_tests)

-- a chunk that a range meets is one from that of its first position up to that of its last
pub met_among : (cs from n index : ℕ) → 1 ≤ cs → 0 < n → index * cs < from + n → from < index * cs + cs → (from / cs ≤ index) × (index < (from + n - 1) / cs + 1)
met_among cs from n index some had begins ends =
    let next : (index + 1) * cs ≡ index * cs + cs = omega arith in
    let below : from / cs < index + 1 = div_below from cs (index + 1) some (omega (arith, ends, next)) in
    let least : index ≤ (from + n - 1) / cs = le-div index (from + n - 1) cs some (omega (arith, begins, had)) in (
      omega (arith, below),
      omega (arith, least),
    )

some_there : (o : Option (List ℕ)) (m : List ℕ) → Some o ≡ Some (Some m) → is_some o ≡ true
some_there None m is = cc
some_there (Some x) m is = refl

-- all chunks that pass the test are there
pub all_there : (test : ℕ → Bool) (j : ℕ) (chunks : List (Option (List ℕ)))
    → ((k : ℕ) → k < length chunks → test (j + k) ≡ true → (m : List ℕ) × (slice_get chunks k ≡ Some (Some m))) → none_missing test j chunks ≡ true
all_there test j [] there = refl
all_there test j (c ∷ chunks) there = go (test j) refl (all_there test (j + 1) chunks (λ k lt is.
    let e : j + 1 + k ≡ j + suc k = omega arith in
    there (suc k) (omega (arith, lt)) (subst (λ (i : ℕ). test i ≡ true) e is)))
  where
    first : test j ≡ true → is_some c ≡ true
    first is =
        let e : j ≡ j + 0 = omega arith in
        let found = there 0 (omega arith) (subst (λ (i : ℕ). test i ≡ true) e is) in
        some_there c found.0 found.1

    go : (t : Bool) → test j ≡ t → none_missing test (j + 1) chunks ≡ true → (not (test j) || is_some c) && none_missing test (j + 1) chunks ≡ true
    go true is rest = ap (λ (t : Bool). (not t || is_some c) && none_missing test (j + 1) chunks) is ∙ ap (λ (t : Bool). t && none_missing test (j + 1) chunks) (first is) ∙ rest
    go false is rest = ap (λ (t : Bool). (not t || is_some c) && none_missing test (j + 1) chunks) is ∙ rest

-- one that passes the test is missing
pub one_missing : (test : ℕ → Bool) (j k : ℕ) (chunks : List (Option (List ℕ))) → slice_get chunks k ≡ Some None → test (j + k) ≡ true → none_missing test j chunks ≡ false
one_missing test j k [] found is = cc
one_missing test j zero (c ∷ chunks) found is =
    let e : j + 0 ≡ j = omega arith in
    let here : c ≡ None = inner c found in
    ap (λ (t : Bool). (not t || is_some c) && none_missing test (j + 1) chunks) (ap test (sym e) ∙ is)
    ∙ ap (λ (o : Option (List ℕ)). is_some o && none_missing test (j + 1) chunks) here
  where
    inner : (o : Option (List ℕ)) → Some o ≡ Some None → o ≡ None
    inner o is = cc
one_missing test j (suc k) (c ∷ chunks) found is =
    let e : j + suc k ≡ j + 1 + k = omega arith in
    ap (λ (t : Bool). (not (test j) || is_some c) && t) (one_missing test (j + 1) k chunks found (ap test (sym e) ∙ is))
    ∙ go (not (test j) || is_some c)
  where
    go : (t : Bool) → t && false ≡ false
    go true = refl
    go false = refl

-- the sum over indexes that pass the test is no less than that over some of them
pub sum_within : (test : ℕ → Bool) (f : ℕ → ℕ) (j n first k : ℕ) → j ≤ first → first + k ≤ j + n → ((i : ℕ) → first ≤ i → i < first + k → test i ≡ true)
    → sum_where (λ _. true) f first k ≤ sum_where test f j n
sum_within test f j n first zero le within pass = omega arith
sum_within test f j zero first (suc k) le within pass = absurd (omega (arith, le, within))
sum_within test f j (suc n) first (suc k) le within pass = elim (cases_lt j first) [
  | inl early ↦ omega (arith, sum_within test f (j + 1) n first (suc k) (omega (arith, early)) (omega (arith, within)) pass)
  | inr late ↦
      let e : first ≡ j = omega (arith, le, late) in
      let here : test j ≡ true = subst (λ (i : ℕ). test i ≡ true) e (pass first (omega arith) (omega arith)) in
      let rest = sum_within test f (j + 1) n (first + 1) k (omega (arith, e)) (omega (arith, within)) (λ i least most. pass i (omega (arith, least)) (omega (arith, most))) in
      let one : (if test j then f j else 0) ≡ f first = ap (λ (t : Bool). if t then f j else 0) here ∙ ap f (sym e) in
      add_le (f first) (sum_where (λ _. true) f (first + 1) k) (if test j then f j else 0) (sum_where test f (j + 1) n) one rest
]
  where
    add_le : (a s b t : ℕ) → b ≡ a → s ≤ t → a + s ≤ b + t
    add_le a s b t e l = omega (arith, e, l)
