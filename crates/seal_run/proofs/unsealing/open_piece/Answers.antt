use Rattle.std.proofs.Common.{◌≡◌, ◌+◌, ◌-◌, ◌^◌, ◌<◌, ◌≤◌, ℕ, min, Bool, List, ◌++◌, None, length, take, drop, refl, sym, ap, ◌∙◌, subst, arith, length-append, length-take, length-drop, take-append-drop}
use Rattle.std.proofs.lemmas.List.{take_all}
use Rattle.std.proofs.Math.Seq.{take-add}
use Rattle.std.specs.Io.KnownBytes.{Appends}
use Rattle.counts.specs.Counts.{Rose}
use Rattle.program_io.specs.Streams.{AppendsPrefix}
use Rattle.program_io.proofs.StreamLemmas.{whole_drop}
use Rattle.aegis_stream.specs.Unspell.{unspell}
use Rattle.aegis_stream.specs.Opening.{Took, IsFed, IsRefused, is_ended, refusal_of}
use Rattle.seal_run.specs.Steps.{GoesOn, Releases}
use Rattle.seal_run.proofs.Known.{of_err, of_ok}
use Rattle.seal_run.proofs.Opened.{Opened, frames_most, take_min, opened_more, fed_stands, fed_front, refused_all}
use Rattle.seal_run.proofs.unsealing.open_piece.Goals as goal

pub feed-requires-clause-frames : goal.feed-requires-clause-frames
feed-requires-clause-frames g c =
    let taken : List ℕ = c.requires.took.0 in
    let piece : List ℕ = c.args.piece.now in
    let at : ℕ = c.loop-at.at in
    let d = c.loop-at.invariant.opened taken c.requires.took.1 in
    let few = frames_most c.loop-at.opener (taken ++ take at piece) d.took in
    omega (arith, few, c.requires.took.2, length-append taken (take at piece), length-take at piece)

pub returns-in_default-clause-opens : goal.returns-in_default-clause-opens
returns-in_default-clause-opens g c = λ taken t.
    let piece : List ℕ = c.args.piece.now in
    let at : ℕ = c.loop-at.at in
    let d = c.loop-at.invariant.opened taken t in
    let slice = whole_drop at piece in
    let r : IsRefused c.loop-at.opener c.feed.new.self (taken ++ take at piece) (drop at piece) c.loop-at.message c.feed.new.out c.in_default.field-0 =
    rw slice at (c.in_default.ensures.feeds (taken ++ take at piece) d.took) in
    let all = refused_all c.args.opener.now c.loop-at.opener taken (take at piece) (g.K.Sink.written c.args.sink.now) (g.K.Sink.written c.loop-at.sink) d c.feed.new.self (drop at piece) c.loop-at.message c.feed.new.out c.in_default.field-0 r
    c.loop-at.invariant.going piece (sym (take-append-drop at piece)) in
    ((c.in_default.field-0, all.0), (d.text, all.1, d.appended), c.loop-at.invariant.faults)

pub returns-then-is_err-clause-opens : goal.returns-then-is_err-clause-opens
returns-then-is_err-clause-opens g c = λ taken t.
    let piece : List ℕ = c.args.piece.now in
    let at : ℕ = c.loop-at.at in
    let n : ℕ = c.in-Ok.fed.taken in
    let out : List ℕ = c.feed.new.out in
    let d = c.loop-at.invariant.opened taken t in
    let slice = whole_drop at piece in
    let f : IsFed c.loop-at.opener c.feed.new.self (taken ++ take at piece) (drop at piece) c.loop-at.message out c.in-Ok.fed =
    rw slice at (c.in-Ok.ensures.feeds (taken ++ take at piece) d.took) in
    let is : take c.min-len.result out ≡ take c.in-Ok.fed.written out = ap (λ (k : ℕ). take k out) c.min-len.ensures ∙ take_min c.in-Ok.fed.written out in
    let front : AppendsPrefix (g.K.Sink.written c.loop-at.sink) (g.K.Sink.written c.write_whole.new.sink) (take c.in-Ok.fed.written out) =
    subst (AppendsPrefix (g.K.Sink.written c.loop-at.sink) (g.K.Sink.written c.write_whole.new.sink)) is c.write_whole.ensures.prefix in (
      fed_front c.args.opener.now c.loop-at.opener taken (take at piece) (g.K.Sink.written c.args.sink.now) (g.K.Sink.written c.loop-at.sink) d c.feed.new.self (drop at piece) c.loop-at.message out c.in-Ok.fed f
          (take (at + n) piece) (take-add at n piece) (g.K.Sink.written c.write_whole.new.sink) piece (drop (at + n) piece) (sym (take-append-drop (at + n) piece)) front,
      omega (arith, c.write_whole.ensures.cause.later, c.loop-at.invariant.faults),
      subst (λ (k : ℕ). Rose k (g.K.Sink.faults c.write_whole.new.sink)) c.loop-at.invariant.faults (of_err c.write_whole.result c.if-is_err.ensures.value c.write_whole.ensures.cause.failed),
    )

pub loop-at-preserved : goal.loop-at-preserved
loop-at-preserved g c =
    let piece : List ℕ = c.args.piece.now in
    let at : ℕ = c.loop-at.at in
    let n : ℕ = c.in-Ok.fed.taken in
    let out : List ℕ = c.feed.new.out in
    let slice = whole_drop at piece in
    let d = λ (taken : List ℕ) (t : Took c.args.opener.now taken). c.loop-at.invariant.opened taken t in
    let f = λ (taken : List ℕ) (t : Took c.args.opener.now taken).
    let fed : IsFed c.loop-at.opener c.feed.new.self (taken ++ take at piece) (drop at piece) c.loop-at.message out c.in-Ok.fed =
    rw slice at (c.in-Ok.ensures.feeds (taken ++ take at piece) (c.loop-at.invariant.opened taken t).took) in
    fed in
    let first = f c.requires.took.0 c.requires.took.1 in
    let is : take c.min-len.result out ≡ take c.in-Ok.fed.written out = ap (λ (k : ℕ). take k out) c.min-len.ensures ∙ take_min c.in-Ok.fed.written out in
    let all : Appends (g.K.Sink.written c.loop-at.sink) (g.K.Sink.written c.write_whole.new.sink) (take c.in-Ok.fed.written out) =
    subst (Appends (g.K.Sink.written c.loop-at.sink) (g.K.Sink.written c.write_whole.new.sink)) is (of_ok c.write_whole.result c.if-is_err.ensures.value c.write_whole.ensures.whole) in
    record {
      within = omega (arith, first.within, length-drop at piece, c.loop-at.invariant.within);
      wide = omega (arith, c.feed.auto.out, c.loop-at.invariant.wide);
      going = first.going.1;
      opened = λ taken t.
          opened_more c.args.opener.now c.loop-at.opener taken (take at piece) (g.K.Sink.written c.args.sink.now) (g.K.Sink.written c.loop-at.sink) (d taken t) c.feed.new.self (drop at piece) c.loop-at.message out c.in-Ok.fed (f taken t)
          (take (at + n) piece) (take-add at n piece) (g.K.Sink.written c.write_whole.new.sink) all;
      stands = λ taken t _.
          fed_stands c.args.opener.now c.loop-at.opener taken (take at piece) (g.K.Sink.written c.args.sink.now) (g.K.Sink.written c.loop-at.sink) (d taken t) c.feed.new.self (drop at piece) c.loop-at.message out c.in-Ok.fed (f taken t)
          (take (at + n) piece) (take-add at n piece);
      faults = of_ok c.write_whole.result c.if-is_err.ensures.value c.write_whole.ensures.cause.kept ∙ c.loop-at.invariant.faults;
      tells = c.write_whole.ensures.tells ∙ c.loop-at.invariant.tells;
    }

pub returns-clause-opens : goal.returns-clause-opens
returns-clause-opens g c = λ taken t.
    let piece : List ℕ = c.args.piece.now in
    let at : ℕ = c.loop-at.at in
    let all : take at piece ≡ piece = take_all at piece (omega (arith, c.loop-at-test.false)) in
    let d : Opened c.args.opener.now c.loop-at.opener taken piece (g.K.Sink.written c.args.sink.now) (g.K.Sink.written c.loop-at.sink) =
    subst (λ (l : List ℕ). Opened c.args.opener.now c.loop-at.opener taken l (g.K.Sink.written c.args.sink.now) (g.K.Sink.written c.loop-at.sink)) all (c.loop-at.invariant.opened taken t) in
    let stands = c.loop-at.invariant.stands taken t (omega (arith, c.loop-at-test.false, c.requires.some)) in (
      record {
        key = d.key_is;
        going = c.loop-at.invariant.going;
        took = d.took;
        ended = stands.0 ∙ ap (λ (l : List ℕ). is_ended (unspell c.args.opener.now.key (taken ++ l)).state) all;
        due = ap (λ (l : List ℕ). refusal_of (unspell c.args.opener.now.key (taken ++ l)).state) (sym all) ∙ stands.1;
      },
      (d.text, d.releases, d.appended),
      c.loop-at.invariant.faults,
    )
