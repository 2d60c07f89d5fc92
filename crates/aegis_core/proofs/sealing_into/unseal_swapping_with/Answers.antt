use Rattle.std.proofs.Common.{length}
use Rattle.aegis_core.specs.declared.variant.Variant.TheVariants.{Aegis128L, Aegis128X2, Aegis128X4, Aegis256, Aegis256X2, Aegis256X4}
use Rattle.aegis_core.proofs.VariantLemmas.{seal_as, seal_none, on_true, on_false}
use Rattle.aegis_core.proofs.sealing_into.unseal_swapping_with.Goals as goal

pub returns-in-Aegis128L-clause-message : goal.returns-in-Aegis128L-clause-message
returns-in-Aegis128L-clause-message g c =
    on_true c.unseal_lanes_swapping.result _ _ (λ sealed. seal_as c.args.variant Aegis128L _ (length c.args.tag.now) c.args.key.now c.args.nonce.now c.args.ad.now c.unseal_lanes_swapping.new.m _ c.in-Aegis128L.is c.blank.ensures sealed)
    c.unseal_lanes_swapping.ensures.message

pub returns-in-Aegis128L-clause-none : goal.returns-in-Aegis128L-clause-none
returns-in-Aegis128L-clause-none g c =
    on_false c.unseal_lanes_swapping.result _ _ (λ none m. seal_none c.args.variant Aegis128L _ (length c.args.tag.now) c.args.key.now c.args.nonce.now c.args.ad.now m _ c.in-Aegis128L.is c.blank.ensures (none m))
    c.unseal_lanes_swapping.ensures.none

pub returns-in-Aegis128X2-clause-message : goal.returns-in-Aegis128X2-clause-message
returns-in-Aegis128X2-clause-message g c =
    on_true c.unseal_lanes_swapping-in-Aegis128X2.result _ _ (λ sealed. seal_as c.args.variant Aegis128X2 _ (length c.args.tag.now) c.args.key.now c.args.nonce.now c.args.ad.now c.unseal_lanes_swapping-in-Aegis128X2.new.m _ c.in-Aegis128X2.is c.blank-in-Aegis128X2.ensures sealed)
    c.unseal_lanes_swapping-in-Aegis128X2.ensures.message

pub returns-in-Aegis128X2-clause-none : goal.returns-in-Aegis128X2-clause-none
returns-in-Aegis128X2-clause-none g c =
    on_false c.unseal_lanes_swapping-in-Aegis128X2.result _ _ (λ none m. seal_none c.args.variant Aegis128X2 _ (length c.args.tag.now) c.args.key.now c.args.nonce.now c.args.ad.now m _ c.in-Aegis128X2.is c.blank-in-Aegis128X2.ensures (none m))
    c.unseal_lanes_swapping-in-Aegis128X2.ensures.none

pub returns-in-Aegis128X4-clause-message : goal.returns-in-Aegis128X4-clause-message
returns-in-Aegis128X4-clause-message g c =
    on_true c.unseal_lanes_swapping-in-Aegis128X4.result _ _ (λ sealed. seal_as c.args.variant Aegis128X4 _ (length c.args.tag.now) c.args.key.now c.args.nonce.now c.args.ad.now c.unseal_lanes_swapping-in-Aegis128X4.new.m _ c.in-Aegis128X4.is c.blank-in-Aegis128X4.ensures sealed)
    c.unseal_lanes_swapping-in-Aegis128X4.ensures.message

pub returns-in-Aegis128X4-clause-none : goal.returns-in-Aegis128X4-clause-none
returns-in-Aegis128X4-clause-none g c =
    on_false c.unseal_lanes_swapping-in-Aegis128X4.result _ _ (λ none m. seal_none c.args.variant Aegis128X4 _ (length c.args.tag.now) c.args.key.now c.args.nonce.now c.args.ad.now m _ c.in-Aegis128X4.is c.blank-in-Aegis128X4.ensures (none m))
    c.unseal_lanes_swapping-in-Aegis128X4.ensures.none

pub returns-in-Aegis256-clause-message : goal.returns-in-Aegis256-clause-message
returns-in-Aegis256-clause-message g c =
    on_true c.unseal_lanes_swapping-in-Aegis256.result _ _ (λ sealed. seal_as c.args.variant Aegis256 _ (length c.args.tag.now) c.args.key.now c.args.nonce.now c.args.ad.now c.unseal_lanes_swapping-in-Aegis256.new.m _ c.in-Aegis256.is c.blank-in-Aegis256.ensures sealed)
    c.unseal_lanes_swapping-in-Aegis256.ensures.message

pub returns-in-Aegis256-clause-none : goal.returns-in-Aegis256-clause-none
returns-in-Aegis256-clause-none g c =
    on_false c.unseal_lanes_swapping-in-Aegis256.result _ _ (λ none m. seal_none c.args.variant Aegis256 _ (length c.args.tag.now) c.args.key.now c.args.nonce.now c.args.ad.now m _ c.in-Aegis256.is c.blank-in-Aegis256.ensures (none m))
    c.unseal_lanes_swapping-in-Aegis256.ensures.none

pub returns-in-Aegis256X2-clause-message : goal.returns-in-Aegis256X2-clause-message
returns-in-Aegis256X2-clause-message g c =
    on_true c.unseal_lanes_swapping-in-Aegis256X2.result _ _ (λ sealed. seal_as c.args.variant Aegis256X2 _ (length c.args.tag.now) c.args.key.now c.args.nonce.now c.args.ad.now c.unseal_lanes_swapping-in-Aegis256X2.new.m _ c.in-Aegis256X2.is c.blank-in-Aegis256X2.ensures sealed)
    c.unseal_lanes_swapping-in-Aegis256X2.ensures.message

pub returns-in-Aegis256X2-clause-none : goal.returns-in-Aegis256X2-clause-none
returns-in-Aegis256X2-clause-none g c =
    on_false c.unseal_lanes_swapping-in-Aegis256X2.result _ _ (λ none m. seal_none c.args.variant Aegis256X2 _ (length c.args.tag.now) c.args.key.now c.args.nonce.now c.args.ad.now m _ c.in-Aegis256X2.is c.blank-in-Aegis256X2.ensures (none m))
    c.unseal_lanes_swapping-in-Aegis256X2.ensures.none

pub returns-in-Aegis256X4-clause-message : goal.returns-in-Aegis256X4-clause-message
returns-in-Aegis256X4-clause-message g c =
    on_true c.unseal_lanes_swapping-in-Aegis256X4.result _ _ (λ sealed. seal_as c.args.variant Aegis256X4 _ (length c.args.tag.now) c.args.key.now c.args.nonce.now c.args.ad.now c.unseal_lanes_swapping-in-Aegis256X4.new.m _ c.in-Aegis256X4.is c.blank-in-Aegis256X4.ensures sealed)
    c.unseal_lanes_swapping-in-Aegis256X4.ensures.message

pub returns-in-Aegis256X4-clause-none : goal.returns-in-Aegis256X4-clause-none
returns-in-Aegis256X4-clause-none g c =
    on_false c.unseal_lanes_swapping-in-Aegis256X4.result _ _ (λ none m. seal_none c.args.variant Aegis256X4 _ (length c.args.tag.now) c.args.key.now c.args.nonce.now c.args.ad.now m _ c.in-Aegis256X4.is c.blank-in-Aegis256X4.ensures (none m))
    c.unseal_lanes_swapping-in-Aegis256X4.ensures.none
