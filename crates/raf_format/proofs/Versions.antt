-- The tags of the versions.
use Rattle.std.proofs.Common.{◌≡◌, ◌≢◌, inl, inr, cond, ℕ, ◌≤◌, Bool, false, refl, sym, ◌∙◌, ap, arith}
use Rattle.std.specs.Prelude.{nat_eq}
use Rattle.std.proofs.lemmas.Bool.{cases_eq}
use Rattle.std.proofs.lemmas.Bool.Decides.{nat_tests}
use Rattle.raf_format.specs.Cipher.{IsTagLen}
use Rattle.raf_format.specs.Version.{tag_len_of}

pub tag_of_one : 16 ≡ tag_len_of 1
unfolding tag_len_of
tag_of_one = refl

pub tag_of_two : 32 ≡ tag_len_of 2
unfolding tag_len_of
tag_of_two = refl

pub tag_of_other : (version : ℕ) → version ≢ 2 → 16 ≡ tag_len_of version
unfolding tag_len_of
tag_of_other version other =
    let t : nat_eq version 2 ≡ false = grind (arith, nat_tests) in
    ap (λ (t : Bool). cond t 32 16) (sym t)

pub is_tag_len : (version : ℕ) → IsTagLen (tag_len_of version)
is_tag_len version = elim (cases_eq version 2) [
  | inl two ↦ inr (ap tag_len_of two ∙ sym tag_of_two)
  | inr other ↦ inl (sym (tag_of_other version other))
]

pub tag_least : (t : ℕ) → IsTagLen t → 16 ≤ t
tag_least t is = elim is [ inl e ↦ omega (arith, e) | inr e ↦ omega (arith, e) ]

pub tag_most : (t : ℕ) → IsTagLen t → t ≤ 32
tag_most t is = elim is [ inl e ↦ omega (arith, e) | inr e ↦ omega (arith, e) ]
