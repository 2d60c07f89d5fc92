-- A tag has as many bytes as it should, and a block has bytes.
use Rattle.std.proofs.Common.{◌≡◌, ◌⊎◌, ℕ, ◌<◌, List, [], ◌∷◌, ◌++◌, length, refl, sym, ◌∙◌, arith, length-append, inl, inr, subst}
use Rattle.std.specs.Prelude.{fold, replicate, map}
use Rattle.std.specs.List.{flat_map}
use Rattle.aes_spec.specs.Bytes.{xor_bytes}
use Rattle.aegis_core.specs.Lanes.{State, Block, xor_all}
use Rattle.aegis_core.specs.Lanes128.{first_seven, low_four, high_four, tag_of_128, final_lane_128}
use Rattle.aegis_core.specs.Lanes256.{all_six, low_three, high_three, tag_of_256, final_lane_256}
use Rattle.aegis_core.specs.Family.{Family, family_128, family_256}
use Rattle.aegis_core.specs.Sealing.{family_of}
use Rattle.aegis_core.specs.declared.variant.Variant.{Variant}
use Rattle.aegis_core.specs.declared.variant.Variant.TheVariants.{Aegis128L, Aegis128X2, Aegis128X4, Aegis256, Aegis256X2, Aegis256X4}
use Rattle.aegis_core.proofs.BytesLemmas.{length-on_bytes}

length-fold_xor : (z : Block) (bs : List Block) → length (fold xor_bytes z bs) ≡ length z
length-fold_xor z [] = refl
length-fold_xor z (b ∷ bs) = length-fold_xor (xor_bytes z b) bs ∙ length-on_bytes _ z b

length-xor_all : (bs : List Block) → length (xor_all bs) ≡ 16
length-xor_all bs = length-fold_xor (replicate 16 0) bs

length-two : (a b : List Block) → length (xor_all a ++ xor_all b) ≡ 32
length-two a b =
    let la : length (xor_all a) ≡ 16 = length-xor_all a in
    let lb : length (xor_all b) ≡ 16 = length-xor_all b in
    omega (arith, length-append (xor_all a) (xor_all b))

length-tag_of_128 : (t : ℕ) (lanes : State) → ((t ≡ 16) ⊎ (t ≡ 32)) → length (tag_of_128 t lanes) ≡ t
unfolding tag_of_128
length-tag_of_128 t lanes h =
    let P : ℕ → Type 0 = λ j. length (tag_of_128 j lanes) ≡ j in
    elim h as (λ _. length (tag_of_128 t lanes) ≡ t) [
      | inl a ↦ subst P (sym a) (length-xor_all (flat_map first_seven lanes))
      | inr b ↦ subst P (sym b) (length-two (flat_map low_four lanes) (flat_map high_four lanes))
    ]

length-tag_of_256 : (t : ℕ) (lanes : State) → ((t ≡ 16) ⊎ (t ≡ 32)) → length (tag_of_256 t lanes) ≡ t
unfolding tag_of_256
length-tag_of_256 t lanes h =
    let P : ℕ → Type 0 = λ j. length (tag_of_256 j lanes) ≡ j in
    elim h as (λ _. length (tag_of_256 t lanes) ≡ t) [
      | inl a ↦ subst P (sym a) (length-xor_all (flat_map all_six lanes))
      | inr b ↦ subst P (sym b) (length-two (flat_map low_three lanes) (flat_map high_three lanes))
    ]

-- what the laws of sealing need of a family
pub record IsSound (f : Family) : Type 0 where
  pub some : 0 < f.rate
  pub tag : (t first second : ℕ) (s : State) → ((t ≡ 16) ⊎ (t ≡ 32)) → length (f.finalise t first second s) ≡ t

sound_128 : (d : ℕ) → 0 < d → IsSound (family_128 d)
sound_128 d h = record {
  some = omega arith;
  tag = λ t first second s e. length-tag_of_128 t (map (final_lane_128 first second) s) e;
}

sound_256 : (d : ℕ) → 0 < d → IsSound (family_256 d)
sound_256 d h = record {
  some = omega arith;
  tag = λ t first second s e. length-tag_of_256 t (map (final_lane_256 first second) s) e;
}

pub sound : (v : Variant) → IsSound (family_of v)
sound Aegis128L = sound_128 1 (omega arith)
sound Aegis128X2 = sound_128 2 (omega arith)
sound Aegis128X4 = sound_128 4 (omega arith)
sound Aegis256 = sound_256 1 (omega arith)
sound Aegis256X2 = sound_256 2 (omega arith)
sound Aegis256X4 = sound_256 4 (omega arith)
