use Rattle.std.proofs.Common.{◌∙◌, ℕ, List, Some, sym, ap}
use Rattle.raf_format.specs.Cipher.{cipher_of}
use Rattle.raf.proofs.Verified.{compared}
use Rattle.raf.proofs.verifying.compare.Goals as goal

pub returns-in-Ok : goal.returns-in-Ok
returns-in-Ok g c =
    let C = cipher_of g.A.Algorithm.variant in
    let K = g.A.Algorithm.key_list c.args.chunk_key.now in
    let l = c.in-Ok.ensures in
    let r = c.is_leaf.ensures in
    compared C K c.args.header.now g.H.MerkleHasher.hashing c.args.tree.now c.args.index c.args.parts.now c.load.new.parts c.is_leaf.new.self c.chunk_of-chunk.result.now
    c.requires.sound c.requires.there (λ b tells. l.loaded b tells ∙ ap (λ (m : List ℕ). Some m) (sym c.chunk_of-chunk.ensures.chunk)) l.quiet l.kept l.moved l.strays
    c.is_leaf.result r.same r.kept r.failed r.quiet r.moved r.strays
