use Rattle.std.proofs.Common.{ℕ, List, [], ◌++◌, replicate, ◌∙◌, ap}
use Rattle.aegis_core.specs.Sealing.{mac}
use Rattle.aegis_core.specs.declared.variant.Variant.TheVariants.{Aegis256}
use Rattle.raf_format.proofs.keys.long_mac.Goals as goal

pub returns : goal.returns
returns c =
    let key = c.copy_from_slice.new.self in
    let nonce : List ℕ = replicate 32 0 in
    let front = c.args.front.now in
    let back = c.args.back.now in
    c.finalize.ensures key nonce (front ++ back) (c.update-2.ensures.holds key nonce front (c.update.ensures.holds key nonce [] c.new-mac.ensures.holds))
    ∙ ap (λ (k : List ℕ). mac Aegis256 32 k nonce (front ++ back)) c.copy_from_slice.ensures.after
