use Rattle.std.proofs.Common.{ℕ, List, sym, ◌∙◌, ap}
use Rattle.aegis_core.specs.Keys.{header_mac}
use Rattle.raf_format.specs.Cipher.{cipher_of}
use Rattle.raf_format.proofs.Ciphers.{header_key_is, header_mac_is}
use Rattle.raf_format.proofs.keys.header_tag_of.Goals as goal

pub returns : goal.returns
returns g c =
    let v = g.A.Algorithm.variant in
    let key = g.A.Algorithm.key_list c.args.key.now in
    c.tag_of.ensures v (sym c.key_bytes.ensures.len)
    ∙ ap (λ (k : List ℕ). header_mac v k c.args.head.now) (c.key_bytes.ensures.is ∙ c.key_for-header_key.ensures ∙ sym (header_key_is v key c.args.id.now))
    ∙ sym (header_mac_is v ((cipher_of v).header_key key c.args.id.now) c.args.head.now)
