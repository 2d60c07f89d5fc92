use Rattle.std.proofs.Common.{◌≡◌, ◌*◌, take, drop}
use Rattle.aegis_core.proofs.SealLemmas.{state_after, text_of}
use Rattle.aegis_core.proofs.LoopLemmas.{half_way}
use Rattle.aegis_core.proofs.crypt_into.decrypt_all_swapping.Given as goal

abbrev pub invariant-each : goal.invariant-each
invariant-each g l =
    let f = g.S.LaneState.family l.initial.state in
    let s = g.S.LaneState.lanes l.initial.state in
    record {
      same : g.S.LaneState.family l.state ≡ g.S.LaneState.family l.initial.state;
      lanes : g.S.LaneState.lanes l.state ≡ state_after f s (half_way l.initial.c l.m (l.i * (g.S.LaneState.family l.initial.state).rate)) l.i;
      text : take (l.i * (g.S.LaneState.family l.initial.state).rate) l.initial.c
          ≡ text_of f s (half_way l.initial.c l.m (l.i * (g.S.LaneState.family l.initial.state).rate)) l.i;
      swapped : l.c ≡ half_way l.initial.c l.initial.m (l.i * (g.S.LaneState.family l.initial.state).rate);
      rest : drop (l.i * (g.S.LaneState.family l.initial.state).rate) l.m ≡ drop (l.i * (g.S.LaneState.family l.initial.state).rate) l.initial.m;
    }
