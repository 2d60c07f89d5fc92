use Rattle.std.proofs.Common.{◌≡◌, ◌*◌, ◌++◌, drop}
use Rattle.aegis_core.proofs.SealLemmas.{state_after, text_of}
use Rattle.aegis_core.proofs.crypt.encrypt_all.Given as goal

abbrev pub invariant-each : goal.invariant-each
invariant-each g l =
    let c = g.S.LaneState.family l.initial.state in
    let s = g.S.LaneState.lanes l.initial.state in
    record {
      same : g.S.LaneState.family l.state ≡ g.S.LaneState.family l.initial.state;
      lanes : g.S.LaneState.lanes l.state ≡ state_after c s l.initial.mc l.i;
      text : l.mc ≡ text_of c s l.initial.mc l.i ++ drop (l.i * (g.S.LaneState.family l.initial.state).rate) l.initial.mc;
    }
