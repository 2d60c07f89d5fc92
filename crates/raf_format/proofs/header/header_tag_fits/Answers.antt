use Rattle.std.proofs.Common.{List, ℕ, take, drop, ◌∙◌, ap}
use Rattle.raf_format.specs.Cipher.{cipher_of}
use Rattle.raf_format.proofs.Headers.{front_tag, tag_compared}
use Rattle.raf_format.proofs.header.header_tag_fits.Goals as goal

pub returns : goal.returns
returns g c =
    let C = cipher_of g.A.Algorithm.variant in
    let key = g.A.Algorithm.key_list c.args.key.now in
    let b = c.args.bytes.now in
    let tag = c.header_tag_of-tag.ensures
    ∙ ap (λ (id : List ℕ). C.header_mac (C.header_key key id) c.copy_from_slice-2.new.self) c.copy_from_slice.ensures.after
    ∙ ap (λ (head : List ℕ). C.header_mac (C.header_key key (take 32 (drop 32 b))) head) c.copy_from_slice-2.ensures.after
    ∙ front_tag C key b in
    tag_compared C key b c.header_tag_of-tag.result c.eq.result tag c.eq.ensures
