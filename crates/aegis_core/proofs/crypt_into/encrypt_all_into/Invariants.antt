use Rattle.std.proofs.Common.{◌≡◌, ◌*◌, take}
use Rattle.aegis_core.proofs.SealLemmas.{state_after, text_of}
use Rattle.aegis_core.proofs.crypt_into.encrypt_all_into.Given as goal

abbrev pub invariant-each : goal.invariant-each
invariant-each g l =
    let f = g.S.LaneState.family l.initial.state in
    let s = g.S.LaneState.lanes l.initial.state in
    record {
      same : g.S.LaneState.family l.state ≡ g.S.LaneState.family l.initial.state;
      lanes : g.S.LaneState.lanes l.state ≡ state_after f s l.m l.i;
      text : take (l.i * (g.S.LaneState.family l.initial.state).rate) l.c ≡ text_of f s l.m l.i;
    }
