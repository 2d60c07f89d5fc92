use Rattle.std.proofs.Common.{Result}
use Rattle.std.specs.Prelude.{if◌then◌else◌, is_ok}
use Rattle.raf_format.specs.Cipher.{cipher_of}
use Rattle.raf.specs.Handle.{handle_of}
use Rattle.raf.specs.Put.{Changing}
use Rattle.raf.specs.Stepped.{with_size}
use Rattle.raf_io.specs.declared.errors.Error.{Error}
use Rattle.raf.proofs.Tears.{handed_result}
use Rattle.raf.proofs.Changed.{changing_unprepared, changing_carried, changing_cut}
use Rattle.raf.proofs.carrying.carry.Goals as goal

pub returns-in_err-prepare-clause-changing : goal.returns-in_err-prepare-clause-changing
returns-in_err-prepare-clause-changing g c =
    let C = cipher_of g.A.Algorithm.variant in
    let E = g.H.MerkleHasher.hashing in
    let K = g.A.Algorithm.key_list c.args.chunk_key.now in
    let key = g.A.Algorithm.key_list c.args.key.now in
    let h = c.args.header.now in
    let p = c.args.plan.now in
    let e = c.in_err-prepare.field-0.0 in
    handed_result c.from_residual.result e
    (λ (r : Result (Unit {0}) Error). Changing C E K p c.args.bytes.now (handle_of c.args.parts.now key h c.args.tree.now c.args.broken.now)
    (handle_of c.prepare.new.parts key (if is_ok r then with_size h p.size else h) c.args.tree.now c.args.broken.now) r) c.from_residual.ensures.1
    (changing_unprepared C E K h p c.args.bytes.now c.requires.planned c.requires.size key c.args.parts.now c.prepare.new.parts c.args.tree.now c.args.broken.now c.prepare.new.first c.prepare.new.second e c.requires.unmarked
    c.in_err-prepare.ensures)

pub returns-in-Ok-clause-changing : goal.returns-in-Ok-clause-changing
returns-in-Ok-clause-changing g c =
    changing_carried (cipher_of g.A.Algorithm.variant) g.H.MerkleHasher.hashing (g.A.Algorithm.key_list c.args.chunk_key.now) c.args.header.now c.args.plan.now c.args.bytes.now c.requires.planned c.requires.size (g.A.Algorithm.key_list c.args.key.now)
    c.args.parts.now c.prepare.new.parts c.commit.new.parts c.args.tree.now c.commit.new.tree c.args.broken.now c.requires.unmarked c.prepare.new.first c.prepare.new.second c.in_ok-prepare.field-0 c.in_ok-prepare.ensures c.in-Ok.field-0 c.in-Ok.ensures

pub returns-in-Err-clause-changing : goal.returns-in-Err-clause-changing
returns-in-Err-clause-changing g c =
    changing_cut (cipher_of g.A.Algorithm.variant) g.H.MerkleHasher.hashing (g.A.Algorithm.key_list c.args.chunk_key.now) c.args.header.now c.args.plan.now c.args.bytes.now c.requires.planned c.requires.size (g.A.Algorithm.key_list c.args.key.now)
    c.args.parts.now c.prepare.new.parts c.commit.new.parts c.args.tree.now c.commit.new.tree c.args.broken.now c.requires.unmarked c.prepare.new.first c.prepare.new.second c.in_ok-prepare.field-0 c.in_ok-prepare.ensures c.in-Err.e c.in-Err.ensures
