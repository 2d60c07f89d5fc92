use Rattle.raf_tree.specs.Sha.{sha_hashing}
use Rattle.raf_check.proofs.CheckedBytes.{said_binds, not_accepted}
use Rattle.raf_check.proofs.sha.check_number.Goals as goal

pub returns-in-Some-true-clause-binds : goal.returns-in-Some-true-clause-binds
returns-in-Some-true-clause-binds c = λ one.
    said_binds sha_hashing c.copy_from_slice.new.self c.args.commitment.now c.args.chunk.now c.args.bytes.now c.in-Some-true.field-0 c.copy_from_slice.ensures.after c.in-Some-true.field-0-test c.in-Some-true.ensures.checks

pub returns-in-Some-false-clause-accepted : goal.returns-in-Some-false-clause-accepted
returns-in-Some-false-clause-accepted c = λ fit.
    not_accepted sha_hashing c.copy_from_slice.new.self c.args.commitment.now c.args.chunk.now c.args.bytes.now c.in-Some-false.field-0 c.copy_from_slice.ensures.after c.in-Some-false.field-0-test c.in-Some-false.ensures.exact
