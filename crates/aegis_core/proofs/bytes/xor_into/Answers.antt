use Rattle.std.proofs.Common.{◌≡◌, take, arith, add-one, sym, ◌∙◌}
use Rattle.std.specs.Prelude.{bit_xor}
use Rattle.aes_spec.specs.Bytes.{xor_bytes}
use Rattle.aegis_core.proofs.BytesLemmas.{on_bytes-nil, on_bytes_more, on_bytes_all}
use Rattle.aegis_core.proofs.bytes.xor_into.Goals as goal

pub bytes-init : goal.bytes-init
bytes-init c = sym (on_bytes-nil bit_xor c.args.out.now)

pub bytes-preserved : goal.bytes-preserved
bytes-preserved c =
    let e : c.bytes.out ≡ xor_bytes c.args.out.now (take c.bytes.i c.args.keystream.now) = c.bytes.invariant in
    rw (e, add-one) (on_bytes_more bit_xor c.args.out.now c.args.keystream.now c.bytes.i (omega arith) (omega arith))

pub returns : goal.returns
returns c =
    let e : c.bytes.out ≡ xor_bytes c.args.out.now (take c.bytes.i c.args.keystream.now) = c.bytes.invariant in
    e ∙ on_bytes_all bit_xor c.args.out.now c.args.keystream.now c.bytes.i (omega arith)
