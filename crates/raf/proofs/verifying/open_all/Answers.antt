use Rattle.std.proofs.Common.{arith, ◌∙◌}
use Rattle.raf_format.specs.Cipher.{cipher_of}
use Rattle.raf.proofs.Verified.{there_more}
use Rattle.raf.proofs.verifying.open_all.Goals as goal

pub loop-index-preserved : goal.loop-index-preserved
loop-index-preserved g c =
    let C = cipher_of g.A.Algorithm.variant in
    let K = g.A.Algorithm.key_list c.args.chunk_key.now in
    let l = c.in_ok-load.ensures in
    record {
      buf = c.load.auto.buf ∙ c.loop-index.invariant.buf;
      so_far = there_more C K c.args.header.now c.args.parts.now c.loop-index.index c.loop-index.parts c.load.new.parts c.requires.sound
          (omega (arith, c.loop-index-test.true, c.count_of-index-end.ensures)) c.loop-index.invariant.so_far l.kept l.moved l.strays (λ b tells. (_, l.loaded b tells)) l.quiet;
    }
