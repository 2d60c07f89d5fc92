use Rattle.std.proofs.Common.{rules, arith, ◌≡◌, ◌+◌, ◌-◌, List, ℕ, true, length, take, drop, ◌++◌, refl, sym, ap, subst}
use Rattle.std.proofs.lemmas.Result.{err_from_is_err_and}
use Rattle.raf_format.specs.Cipher.{cipher_of}
use Rattle.raf_log.specs.Kinds.{log_kind}
use Rattle.raf_log.specs.Sweep.{Shows}
use Rattle.raf_log.proofs.Sweeps.{begins, goes_on, shows_back, holds_on, shows_on, front_of, asked_first, asked_on, asked_done, refused_later, no_memory, not_formed, not_ended, found_all}
use Rattle.raf_log.proofs.opening.find_entries.Goals as goal
use Rattle.raf_log.proofs.opening.find_entries.Goals.{then-not-walk-via-then-not-walk, then-not-walk-via-else-not-walk+then-walk-size}

pub loop-end-init : goal.loop-end-init
loop-end-init g c = record {
  swept = begins (cipher_of g.A.Algorithm.variant) c.contents.ensures c.args.raf.now c.read_piece.new.raf c.size-size.result c.new-walk.result.starts.items c.new-walk.result.next c.new-walk.result.formed
      c.in_ok-read_piece.ensures.read.passed.calm c.read_piece.ensures.asked c.size-size.ensures c.new-walk.ensures.begins;
  shows = λ F held whole. refl;
  small = (omega arith, omega arith);
  within = omega arith;
  begins = λ _. omega arith;
  near = λ _. (omega arith, omega (arith, c.new-walk.ensures.formed.1));
  spaced = c.new-walk.ensures.spaced;
  line = c.in-Ok.ensures.line;
  window = c.in-Ok.ensures.window;
}

pub returns-in_err-read_piece-clause-asked : goal.returns-in_err-read_piece-clause-asked
returns-in_err-read_piece-clause-asked g c = asked_first (cipher_of g.A.Algorithm.variant) c.contents.ensures c.args.raf.now c.read_piece.new.raf c.read_piece.ensures.asked

pub returns-in-Err-clause-asked : goal.returns-in-Err-clause-asked
returns-in-Err-clause-asked g c = asked_first (cipher_of g.A.Algorithm.variant) c.contents.ensures c.args.raf.now c.read_piece.new.raf c.read_piece.ensures.asked

pub returns-in-Err-clause-refused : goal.returns-in-Err-clause-refused
returns-in-Err-clause-refused g c = no_memory (cipher_of g.A.Algorithm.variant) c.args.raf.now c.read_piece.new.raf c.in_ok-read_piece.ensures.read.passed.calm

pub returns-in_err-held-clause-refused : goal.returns-in_err-held-clause-refused
returns-in_err-held-clause-refused g c =
    let C = cipher_of g.A.Algorithm.variant in
    let p = err_from_is_err_and c.from_residual-in_err-held.result c.from_residual-in_err-held.ensures.1 in
    rw (p.1, p.2) (refused_later C c.args.raf.now c.loop-end.raf c.sweep_on.new.raf (log_kind c.in_err-held.field-0.0) c.loop-end.invariant.swept.calm c.in_err-held.ensures.refused)

pub returns-in_err-held-clause-asked : goal.returns-in_err-held-clause-asked
returns-in_err-held-clause-asked g c =
    let C = cipher_of g.A.Algorithm.variant in
    let i = c.loop-end.invariant in
    asked_on C c.contents.ensures c.args.raf.now c.loop-end.raf c.sweep_on.new.raf c.loop-end.end c.size-size.result c.min-len.result c.loop-end-test.true c.min-len.ensures i.swept.size_is i.swept.calm.looked
    c.sweep_on.ensures.asked i.swept.reaches

pub loop-end-preserved : goal.loop-end-preserved
loop-end-preserved g c =
    let C = cipher_of g.A.Algorithm.variant in
    let i = c.loop-end.invariant in
    let e = c.in_ok-held.ensures in
    let looked = i.swept.calm.looked in
    let front : take c.loop-end.held c.deref_mut.result.now ≡ take c.loop-end.held c.loop-end.window.items = ap (λ (l : List ℕ). take c.loop-end.held l) c.deref_mut.ensures.value in
    let shows : Shows C c.loop-end.raf (c.loop-end.end - c.loop-end.held) (take c.loop-end.held c.deref_mut.result.now) =
    subst (λ (l : List ℕ). Shows C c.loop-end.raf (c.loop-end.end - c.loop-end.held) l) (sym front)
    (shows_on C c.contents.ensures c.args.raf.now c.loop-end.raf looked (c.loop-end.end - c.loop-end.held) (take c.loop-end.held c.loop-end.window.items) i.shows) in
    let kept : take c.in_ok-held.held (take c.loop-end.window.len (c.sweep_on.new.window ++ drop (length c.sweep_on.new.window) c.loop-end.window.items)) ≡ take c.in_ok-held.held c.sweep_on.new.window =
    front_of c.in_ok-held.held c.loop-end.window.len c.sweep_on.new.window c.loop-end.window.items (omega (arith, e.most.0, i.window))
    (omega (arith, e.most.1, c.sweep_on.auto.window, c.deref_mut.ensures.len, i.window, c.min-len.ensures, i.small.0)) in
    record {
      swept =
          goes_on C c.contents.ensures c.args.raf.now c.loop-end.raf c.sweep_on.new.raf c.loop-end.end c.size-size.result c.min-len.result c.loop-end-test.true c.min-len.ensures i.swept.size_is looked
          c.sweep_on.ensures.asked i.swept.reaches c.loop-end.walk.starts.items c.loop-end.walk.next c.loop-end.walk.formed i.swept e.passed
          c.sweep_on.new.walk.starts.items c.sweep_on.new.walk.next c.sweep_on.new.walk.formed
          (λ F held whole w. e.walked shows F (holds_on C c.args.raf.now c.loop-end.raf F looked held) whole w);
      shows =
          subst (λ (l : List ℕ). Shows C c.args.raf.now (c.loop-end.end + c.min-len.result - c.in_ok-held.held) l) (sym kept)
          (shows_back C c.contents.ensures c.args.raf.now c.loop-end.raf looked _ _ (e.shows shows));
      small = (e.most.0, omega (arith, e.most.1, i.small.1));
      within = omega (arith, c.min-len.ensures, i.within);
      begins = e.begins;
      near = e.near;
      spaced = e.spaced i.spaced;
      line = i.line;
      window = i.window;
    }

pub returns-then-not-walk-clause-asked : goal.returns-then-not-walk-clause-asked
returns-then-not-walk-clause-asked g c = asked_done (cipher_of g.A.Algorithm.variant) c.contents.ensures c.args.raf.now c.loop-end.raf c.loop-end.end c.size-size.result c.loop-end.invariant.swept.reaches

pub returns-clause-asked : goal.returns-clause-asked
returns-clause-asked g c = asked_done (cipher_of g.A.Algorithm.variant) c.contents.ensures c.args.raf.now c.loop-end.raf c.loop-end.end c.size-size.result c.loop-end.invariant.swept.reaches

pub returns-then-not-walk-clause-refused : goal.returns-then-not-walk-clause-refused
returns-then-not-walk-clause-refused g c =
    let C = cipher_of g.A.Algorithm.variant in
    let i = c.loop-end.invariant in
    let done : c.loop-end.end ≡ c.size-size.result = omega (arith, i.within, c.loop-end-test.false) in
    elim c.then-not-walk.branch [
      | then-not-walk-via-then-not-walk w ↦
          not_formed C c.contents.ensures c.args.raf.now c.loop-end.raf c.loop-end.end c.size-size.result c.loop-end.walk.starts.items c.loop-end.walk.next c.loop-end.walk.formed i.swept done (search rules)
      | then-not-walk-via-else-not-walk+then-walk-size w ↦
          let formed : c.loop-end.walk.formed ≡ true = search rules in
          not_ended C c.contents.ensures c.args.raf.now c.loop-end.raf c.loop-end.end c.size-size.result c.loop-end.walk.starts.items c.loop-end.walk.next c.loop-end.walk.formed i.swept done formed
          w.if-walk-size.true (omega (arith, done, (i.near formed).0))
    ]

pub returns-clause-found : goal.returns-clause-found
returns-clause-found g c =
    let C = cipher_of g.A.Algorithm.variant in
    let i = c.loop-end.invariant in
    let done : c.loop-end.end ≡ c.size-size.result = omega (arith, i.within, c.loop-end-test.false) in
    let formed : c.loop-end.walk.formed ≡ true = search rules in
    found_all C c.contents.ensures c.args.raf.now c.loop-end.raf c.loop-end.end c.size-size.result c.loop-end.walk.starts.items c.loop-end.walk.next c.loop-end.walk.formed i.swept done formed c.if-walk-size.false
