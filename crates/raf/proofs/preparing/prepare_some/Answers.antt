use Rattle.std.proofs.Common.{Result}
use Rattle.raf_format.specs.Cipher.{cipher_of}
use Rattle.raf.specs.Carry.{Prepares}
use Rattle.raf_io.specs.declared.errors.Error.{Error}
use Rattle.raf.proofs.Tears.{handed_result}
use Rattle.raf.proofs.Prepared.{prepares_unopened, prepares_unopened_last, prepares_drawn}
use Rattle.raf.proofs.preparing.prepare_some.Goals as goal

pub returns-in_err-load_first : goal.returns-in_err-load_first
returns-in_err-load_first g c =
    let C = cipher_of g.A.Algorithm.variant in
    let K = g.A.Algorithm.key_list c.args.chunk_key.now in
    let h = c.args.header.now in
    let p = c.args.plan.now in
    let e = c.in_err-load_first.field-0.0 in
    handed_result c.from_residual.result e (λ (r : Result (Unit {0}) Error). Prepares C K h p c.args.len c.args.parts.now c.load_first.new.parts c.load_first.new.buf c.args.second.now r) c.from_residual.ensures.1
    (prepares_unopened C K h p c.args.len c.requires.planned c.requires.size c.requires.some c.args.parts.now c.load_first.new.parts c.load_first.new.buf c.args.second.now e c.in_err-load_first.ensures)

pub returns-in_err-load_needed : goal.returns-in_err-load_needed
returns-in_err-load_needed g c =
    let C = cipher_of g.A.Algorithm.variant in
    let K = g.A.Algorithm.key_list c.args.chunk_key.now in
    let h = c.args.header.now in
    let p = c.args.plan.now in
    let e = c.in_err-load_needed.field-0.0 in
    handed_result c.from_residual-in_err-load_needed.result e
    (λ (r : Result (Unit {0}) Error). Prepares C K h p c.args.len c.args.parts.now c.load_needed.new.parts c.load_first.new.buf c.load_needed.new.buf r) c.from_residual-in_err-load_needed.ensures.1
    (prepares_unopened_last C K h p c.args.len c.requires.planned c.requires.size c.requires.some c.args.parts.now c.load_first.new.parts c.load_first.new.buf c.in_ok-load_first.field-0 c.in_ok-load_first.ensures
    c.load_needed.new.parts c.load_needed.new.buf e c.in_err-load_needed.ensures)

pub returns : goal.returns
returns g c =
    let C = cipher_of g.A.Algorithm.variant in
    let K = g.A.Algorithm.key_list c.args.chunk_key.now in
    prepares_drawn C K c.args.header.now c.args.plan.now c.args.len c.requires.planned c.requires.size c.requires.some c.args.parts.now c.load_first.new.parts c.load_first.new.buf c.in_ok-load_first.field-0 c.in_ok-load_first.ensures
    c.load_needed.new.parts c.load_needed.new.buf c.in_ok-load_needed.field-0 c.draw.result c.draw.new.parts c.draw.new.first c.draw.new.second c.in_ok-load_needed.ensures c.draw.ensures
