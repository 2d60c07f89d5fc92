use Rattle.std.proofs.Common.{ℕ, List, [], ◌++◌, replicate, ◌∙◌, ap}
use Rattle.aegis_core.specs.Sealing.{mac}
use Rattle.aegis_core.specs.declared.variant.Variant.TheVariants.{Aegis128L}
use Rattle.raf_format.proofs.keys.short_mac.Goals as goal

pub returns : goal.returns
returns g c =
    let key = c.copy_from_slice.new.self in
    let nonce : List ℕ = replicate 16 0 in
    let front = c.args.front.now in
    let back = c.args.back.now in
    c.finalize.ensures key nonce (front ++ back) (c.update-2.ensures.holds key nonce front (c.update.ensures.holds key nonce [] c.new-mac.ensures.holds))
    ∙ ap (λ (k : List ℕ). mac Aegis128L g.row.TAG_BYTES k nonce (front ++ back)) c.copy_from_slice.ensures.after
