use Rattle.std.proofs.Common.{◌≡◌, Some, None, length, take, ap, arith, length-take}
use Rattle.std.specs.Bool.{OnTrue, OnFalse}
use Rattle.aegis_stream.proofs.Buffers.{joined}
use Rattle.aegis_stream.proofs.pending.Pending.open.Goals as goal

pub returns-then-self-eq-HEAD_BYTES-clause-message : goal.returns-then-self-eq-HEAD_BYTES-clause-message
returns-then-self-eq-HEAD_BYTES-clause-message c =
    let u = c.self.inside in
    let five : length c.args.self.now ≡ 5 = omega (arith, ap length c.self.view_is, length-take u.filled u.buffer.items, c.self.invariant, c.if-self-eq-HEAD_BYTES.true) in
    joined (OnTrue c.open_behind.result) c.args.key.now c.args.nonce.now c.args.self.now c.args.rest.now c.args.len (Some (take c.args.len c.open_behind.new.out)) five
    (omega (arith, c.requires.whole)) c.open_behind.ensures.message

pub returns-then-self-eq-HEAD_BYTES-clause-none : goal.returns-then-self-eq-HEAD_BYTES-clause-none
returns-then-self-eq-HEAD_BYTES-clause-none c =
    let u = c.self.inside in
    let five : length c.args.self.now ≡ 5 = omega (arith, ap length c.self.view_is, length-take u.filled u.buffer.items, c.self.invariant, c.if-self-eq-HEAD_BYTES.true) in
    joined (OnFalse c.open_behind.result) c.args.key.now c.args.nonce.now c.args.self.now c.args.rest.now c.args.len None five (omega (arith, c.requires.whole)) c.open_behind.ensures.none
