use Rattle.std.proofs.Common.{length}
use Rattle.aegis_core.specs.declared.variant.Variant.TheVariants.{Aegis128L, Aegis128X2, Aegis128X4, Aegis256, Aegis256X2, Aegis256X4}
use Rattle.aegis_core.proofs.VariantLemmas.{seal_as}
use Rattle.aegis_core.proofs.sealing_into.seal_into_with.Goals as goal

pub returns-in-Aegis128L : goal.returns-in-Aegis128L
returns-in-Aegis128L g c =
    seal_as c.args.variant Aegis128L _ (length c.args.tag.now) c.args.key.now c.args.nonce.now c.args.ad.now c.args.m.now _ c.in-Aegis128L.is c.blank.ensures c.seal_lanes_into.ensures

pub returns-in-Aegis128X2 : goal.returns-in-Aegis128X2
returns-in-Aegis128X2 g c =
    seal_as c.args.variant Aegis128X2 _ (length c.args.tag.now) c.args.key.now c.args.nonce.now c.args.ad.now c.args.m.now _ c.in-Aegis128X2.is c.blank-in-Aegis128X2.ensures c.seal_lanes_into-in-Aegis128X2.ensures

pub returns-in-Aegis128X4 : goal.returns-in-Aegis128X4
returns-in-Aegis128X4 g c =
    seal_as c.args.variant Aegis128X4 _ (length c.args.tag.now) c.args.key.now c.args.nonce.now c.args.ad.now c.args.m.now _ c.in-Aegis128X4.is c.blank-in-Aegis128X4.ensures c.seal_lanes_into-in-Aegis128X4.ensures

pub returns-in-Aegis256 : goal.returns-in-Aegis256
returns-in-Aegis256 g c =
    seal_as c.args.variant Aegis256 _ (length c.args.tag.now) c.args.key.now c.args.nonce.now c.args.ad.now c.args.m.now _ c.in-Aegis256.is c.blank-in-Aegis256.ensures c.seal_lanes_into-in-Aegis256.ensures

pub returns-in-Aegis256X2 : goal.returns-in-Aegis256X2
returns-in-Aegis256X2 g c =
    seal_as c.args.variant Aegis256X2 _ (length c.args.tag.now) c.args.key.now c.args.nonce.now c.args.ad.now c.args.m.now _ c.in-Aegis256X2.is c.blank-in-Aegis256X2.ensures c.seal_lanes_into-in-Aegis256X2.ensures

pub returns-in-Aegis256X4 : goal.returns-in-Aegis256X4
returns-in-Aegis256X4 g c =
    seal_as c.args.variant Aegis256X4 _ (length c.args.tag.now) c.args.key.now c.args.nonce.now c.args.ad.now c.args.m.now _ c.in-Aegis256X4.is c.blank-in-Aegis256X4.ensures c.seal_lanes_into-in-Aegis256X4.ensures
