use Rattle.std.proofs.Common.{◌≡◌, ◌+◌, ◌-◌, length, arith}
use Rattle.std.proofs.lemmas.Slice.{drop-put_mid}
use Rattle.aegis_core.proofs.bytes.put_block.Goals as goal

pub returns-clause-rest : goal.returns-clause-rest
returns-clause-rest g c =
    let long : length c.copy_from_slice.new.self ≡ c.args.at + 16 - c.args.at = omega (arith, c.copy_from_slice.ensures.len, c.copy_from_slice.auto.self) in
    drop-put_mid c.args.at (c.args.at + 16 - c.args.at) c.args.out.now c.copy_from_slice.new.self (c.args.at + 16) (omega arith) (omega arith) long
