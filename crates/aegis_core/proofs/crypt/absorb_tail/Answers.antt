use Rattle.std.proofs.Common.{sym, arith}
use Rattle.aegis_core.proofs.LoopLemmas.{absorb_short, most_along, tail_fits}
use Rattle.aegis_core.proofs.SealLemmas.{absorbed_tail_none}
use Rattle.aegis_core.proofs.crypt.absorb_tail.Goals as goal

pub returns-then-tail-eq0-clause-updated : goal.returns-then-tail-eq0-clause-updated
returns-then-tail-eq0-clause-updated g c = sym (absorbed_tail_none (g.S.LaneState.family c.args.state.now) _ c.args.tail.now (omega arith))

pub returns-clause-updated : goal.returns-clause-updated
returns-clause-updated g c =
    absorb_short (g.S.LaneState.family c.args.state.now) _ _ c.args.tail.now c.padded_block-last.result c.rate-rate.result c.rate-rate.ensures.rate (most_along c.rate-rate.result _ c.rate-rate.ensures.rate c.rate-rate.ensures.most)
    (omega arith) (omega arith) c.padded_block-last.ensures c.absorb.ensures.updated

pub padded_block-last-requires : goal.padded_block-last-requires
padded_block-last-requires g c =
    tail_fits c.args.tail.now c.rate-rate.result _ c.rate-rate.ensures.rate c.rate-rate.ensures.most c.requires
