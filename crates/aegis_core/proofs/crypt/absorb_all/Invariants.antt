use Rattle.std.proofs.Common.{◌≡◌}
use Rattle.aegis_core.proofs.SealLemmas.{state_after}
use Rattle.aegis_core.proofs.crypt.absorb_all.Given as goal

abbrev pub invariant-each : goal.invariant-each
invariant-each g l =
    record {
      same : g.S.LaneState.family l.state ≡ g.S.LaneState.family l.initial.state;
      lanes : g.S.LaneState.lanes l.state ≡ state_after (g.S.LaneState.family l.initial.state) (g.S.LaneState.lanes l.initial.state) l.input l.i;
    }
