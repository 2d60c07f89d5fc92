use Rattle.std.proofs.Common.{◌≡◌, length, replicate}
use Rattle.aes_spec.specs.Bytes.{xor_bytes}
use Rattle.aegis_core.proofs.SealLemmas.{state_after, text_of}
use Rattle.aegis_core.proofs.crypt.xor_stream_all.Given as goal

abbrev pub invariant-each : goal.invariant-each
invariant-each g l =
    let f = g.S.LaneState.family l.initial.state in
    let s = g.S.LaneState.lanes l.initial.state in
    record {
      same : g.S.LaneState.family l.state ≡ f;
      lanes : g.S.LaneState.lanes l.state ≡ state_after f s (replicate (length l.initial.mc) 0) l.i;
      text : l.mc ≡ xor_bytes l.initial.mc (text_of f s (replicate (length l.initial.mc) 0) l.i);
    }
