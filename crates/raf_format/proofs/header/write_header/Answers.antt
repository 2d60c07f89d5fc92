use Rattle.std.proofs.Common.{◌≡◌, List, ℕ, ◌++◌, length, ◌∙◌, ap, rules}
use Rattle.raf_format.specs.Cipher.{cipher_of}
use Rattle.raf_format.specs.Header.{head_of}
use Rattle.raf_format.proofs.Ciphers.{lawful}
use Rattle.raf_format.proofs.Headers.{head_tag}
use Rattle.raf_format.proofs.SealedHeaders.{sealed_says, sealed_tagged}
use Rattle.raf_format.proofs.header.write_header.Goals as goal

pub returns-clause-header : goal.returns-clause-header
returns-clause-header g c =
    let C = cipher_of g.A.Algorithm.variant in
    let key = g.A.Algorithm.key_list c.args.key.now in
    let h = c.args.header.now in
    let len : length h.id ≡ 32 = search rules in
    let tag = c.copy_from_slice-2.ensures.after ∙ c.header_tag_of.ensures
    ∙ ap (λ (x : List ℕ). C.header_mac (C.header_key key h.id) x) c.head_bytes-head.ensures
    ∙ head_tag C key h len in
    ap (λ (x : List ℕ). x ++ c.copy_from_slice-2.new.self) (c.copy_from_slice.ensures.after ∙ c.head_bytes-head.ensures)
    ∙ ap (λ (x : List ℕ). head_of h ++ x) tag

pub returns-clause-says : goal.returns-clause-says
returns-clause-says g c = λ fields.
    sealed_says (cipher_of g.A.Algorithm.variant) (lawful g.A.Algorithm.variant) (g.A.Algorithm.key_list c.args.key.now) _ c.args.header.now (returns-clause-header g c) fields

pub returns-clause-tagged : goal.returns-clause-tagged
returns-clause-tagged g c =
    let len : length c.args.header.now.id ≡ 32 = search rules in
    sealed_tagged (cipher_of g.A.Algorithm.variant) (lawful g.A.Algorithm.variant) (g.A.Algorithm.key_list c.args.key.now) _ c.args.header.now (returns-clause-header g c) len
