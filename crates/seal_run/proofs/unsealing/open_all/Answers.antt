use Rattle.std.proofs.Common.{◌≡◌, ◌+◌, ◌-◌, ◌<◌, ◌≤◌, ℕ, min, Bool, true, false, cond, List, [], ◌++◌, length, take, drop, Option, refl, sym, ap, ◌∙◌, subst, arith, length-append, length-take, length-drop}
use Rattle.std.proofs.lemmas.List.{take-append-le, length-take-le}
use Rattle.std.specs.Io.KnownBytes.{Consumes}
use Rattle.counts.specs.Counts.{Rose}
use Rattle.program_io.specs.Streams.{Intake, Output, intake_of, output_of}
use Rattle.seal_run.specs.Ends.{most_bytes}
use Rattle.seal_run.specs.Unsealing.{Unseals}
use Rattle.seal_run.specs.declared.ends.StreamEnd.{StreamEnd}
use Rattle.seal_run.proofs.Known.{taken_bytes, taken_kept}
use Rattle.seal_run.proofs.Unsealed.{so_far_none, so_far_front, ends_here, ends_long, counts_here, piece_opened, piece_stops, piece_counts}
use Rattle.seal_run.proofs.unsealing.open_all.Goals as goal

pub loop-taken-init : goal.loop-taken-init
loop-taken-init g c = record {
  opened = so_far_none c.args.opener.now.key c.args.opener.now (g.S.Source.left c.args.source.now) (g.K.Sink.written c.args.sink.now) refl c.requires.going c.requires.took;
  within = omega arith;
  wide = (c.requires.piece, c.requires.message);
  faults = (refl, refl);
  tells = (refl, refl);
}

pub returns-in_default : goal.returns-in_default
returns-in_default g c =
    let key : List ℕ = c.args.opener.now.key in
    let left : Option (List ℕ) = g.S.Source.left c.args.source.now in
    let now : Option (List ℕ) = g.S.Source.left c.loop-taken.source in
    let next : Option (List ℕ) = g.S.Source.left c.read.new.self in
    let written : Option (List ℕ) = g.K.Sink.written c.args.sink.now in
    let mid : Option (List ℕ) = g.K.Sink.written c.loop-taken.sink in
    let o = c.loop-taken.opener in
    let f = c.loop-taken.invariant.opened in
    let source : Intake = intake_of g.S.Source.left g.S.Source.faults c.args.source.now c.read.new.self in
    let sink : Output = output_of g.K.Sink.written g.K.Sink.faults c.args.sink.now c.loop-taken.sink in
    record {
      runs = record {
        count = (c.loop-taken.invariant.faults.1, subst (λ (n : ℕ). Rose n (g.S.Source.faults c.read.new.self)) c.loop-taken.invariant.faults.0 c.in_default.ensures.cause.failed);
        later = (omega (arith, c.in_default.ensures.cause.later, c.loop-taken.invariant.faults.0), omega (arith, c.loop-taken.invariant.faults.1));
        most = taken_kept left now next f.bytes (most_bytes + 1) f.consumed c.in_default.ensures.bytes (omega (arith, f.long, c.loop-taken.invariant.within));
        tells = (c.in_default.ensures.tells ∙ c.loop-taken.invariant.tells.0, c.loop-taken.invariant.tells.1);
      };
      writes = so_far_front key o left now written mid c.loop-taken.taken c.loop-taken.ended f c.loop-taken.invariant.within;
    }

pub returns-then-count-eq0 : goal.returns-then-count-eq0
returns-then-count-eq0 g c =
    let key : List ℕ = c.args.opener.now.key in
    let left : Option (List ℕ) = g.S.Source.left c.args.source.now in
    let now : Option (List ℕ) = g.S.Source.left c.loop-taken.source in
    let next : Option (List ℕ) = g.S.Source.left c.read.new.self in
    let written : Option (List ℕ) = g.K.Sink.written c.args.sink.now in
    let mid : Option (List ℕ) = g.K.Sink.written c.loop-taken.sink in
    let o = c.loop-taken.opener in
    let f = c.loop-taken.invariant.opened in
    let source : Intake = intake_of g.S.Source.left g.S.Source.faults c.args.source.now c.read.new.self in
    let sink : Output = output_of g.K.Sink.written g.K.Sink.faults c.args.sink.now c.loop-taken.sink in
    let none : c.in-Ok.count ≡ 0 = omega arith in
    let consumed : Consumes now next [] = subst (λ (n : ℕ). Consumes now next (take n c.read.new.buf)) none c.in-Ok.ensures.bytes.0 in
    let end = c.in-Ok.ensures.bytes.1 none (omega (arith, c.read.auto.buf, length-take c.min-room.result c.loop-taken.piece, c.min-room.ensures, c.loop-taken.invariant.wide.0, c.loop-taken-test.true)) in
    subst (Unseals key source sink) (sym c.at_end.ensures) (record {
      runs = record {
        count = counts_here key o source sink now c.loop-taken.taken c.loop-taken.ended c.loop-taken.invariant.faults.1 (c.in-Ok.ensures.cause.kept ∙ c.loop-taken.invariant.faults.0);
        later = (omega (arith, c.in-Ok.ensures.cause.later, c.loop-taken.invariant.faults.0), omega (arith, c.loop-taken.invariant.faults.1));
        most = taken_bytes left now next f.bytes [] (most_bytes + 1) f.consumed consumed (omega (arith, f.long, c.loop-taken.invariant.within));
        tells = (c.in-Ok.ensures.tells ∙ c.loop-taken.invariant.tells.0, c.loop-taken.invariant.tells.1);
      };
      writes = ends_here key o source sink now c.loop-taken.taken c.loop-taken.invariant.within consumed end c.loop-taken.ended f;
    })

pub returns-in-Err : goal.returns-in-Err
returns-in-Err g c =
    let key : List ℕ = c.args.opener.now.key in
    let left : Option (List ℕ) = g.S.Source.left c.args.source.now in
    let now : Option (List ℕ) = g.S.Source.left c.loop-taken.source in
    let next : Option (List ℕ) = g.S.Source.left c.read.new.self in
    let written : Option (List ℕ) = g.K.Sink.written c.args.sink.now in
    let mid : Option (List ℕ) = g.K.Sink.written c.loop-taken.sink in
    let o = c.loop-taken.opener in
    let f = c.loop-taken.invariant.opened in
    let count : ℕ = c.in-Ok.count in
    let buf : List ℕ = c.read.new.buf in
    let rest : List ℕ = drop c.min-room.result c.loop-taken.piece in
    let piece : List ℕ = take count (buf ++ rest) in
    let is : piece ≡ take count buf = take-append-le count buf rest (omega (arith, c.in-Ok.ensures.bound.0)) in
    let len : length piece ≡ count = ap length is ∙ sym c.in-Ok.ensures.bound.1 in
    let consumed : Consumes now next piece = subst (Consumes now next) (sym is) c.in-Ok.ensures.bytes.0 in
    let wide : length buf ≡ c.min-room.result = omega (arith, c.read.auto.buf, length-take c.min-room.result c.loop-taken.piece, c.min-room.ensures, c.loop-taken.invariant.wide.0) in
    let most : c.loop-taken.taken + length piece ≤ most_bytes = omega (arith, len, wide, c.in-Ok.ensures.bound.0, c.min-room.ensures, c.loop-taken-test.true) in
    let n = c.open_piece.new.opener in
    let after : Option (List ℕ) = g.K.Sink.written c.open_piece.new.sink in
    let faults : ℕ = g.K.Sink.faults c.loop-taken.sink in
    let faults_after : ℕ = g.K.Sink.faults c.open_piece.new.sink in
    let stopped = c.in-Err.ensures.opens f.bytes f.took in
    let counts = piece_counts key o n left now next written mid after c.loop-taken.taken c.loop-taken.ended f piece consumed most faults faults_after
    (g.S.Source.faults c.args.source.now) (g.S.Source.faults c.read.new.self) (g.K.Sink.faults c.args.sink.now) c.in-Err.end stopped
    (c.in-Ok.ensures.cause.kept ∙ c.loop-taken.invariant.faults.0) c.loop-taken.invariant.faults.1 in
    record {
      runs = record {
        count = counts.0;
        later = (omega (arith, c.in-Ok.ensures.cause.later, c.loop-taken.invariant.faults.0), counts.1);
        most = taken_bytes left now next f.bytes piece (most_bytes + 1) f.consumed consumed (omega (arith, f.long, most));
        tells = (c.in-Ok.ensures.tells ∙ c.loop-taken.invariant.tells.0, c.in-Err.ensures.tells ∙ c.loop-taken.invariant.tells.1);
      };
      writes = piece_stops key o n left now next written mid after c.loop-taken.taken c.loop-taken.ended f piece consumed most faults faults_after
          (g.S.Source.faults c.args.source.now) (g.S.Source.faults c.read.new.self) (g.K.Sink.faults c.args.sink.now) c.in-Err.end stopped;
    }

pub loop-taken-preserved : goal.loop-taken-preserved
loop-taken-preserved g c =
    let key : List ℕ = c.args.opener.now.key in
    let left : Option (List ℕ) = g.S.Source.left c.args.source.now in
    let now : Option (List ℕ) = g.S.Source.left c.loop-taken.source in
    let next : Option (List ℕ) = g.S.Source.left c.read.new.self in
    let written : Option (List ℕ) = g.K.Sink.written c.args.sink.now in
    let mid : Option (List ℕ) = g.K.Sink.written c.loop-taken.sink in
    let o = c.loop-taken.opener in
    let f = c.loop-taken.invariant.opened in
    let count : ℕ = c.in-Ok.count in
    let buf : List ℕ = c.read.new.buf in
    let rest : List ℕ = drop c.min-room.result c.loop-taken.piece in
    let piece : List ℕ = take count (buf ++ rest) in
    let is : piece ≡ take count buf = take-append-le count buf rest (omega (arith, c.in-Ok.ensures.bound.0)) in
    let len : length piece ≡ count = ap length is ∙ sym c.in-Ok.ensures.bound.1 in
    let consumed : Consumes now next piece = subst (Consumes now next) (sym is) c.in-Ok.ensures.bytes.0 in
    let wide : length buf ≡ c.min-room.result = omega (arith, c.read.auto.buf, length-take c.min-room.result c.loop-taken.piece, c.min-room.ensures, c.loop-taken.invariant.wide.0) in
    let most : c.loop-taken.taken + length piece ≤ most_bytes = omega (arith, len, wide, c.in-Ok.ensures.bound.0, c.min-room.ensures, c.loop-taken-test.true) in
    let n = c.open_piece.new.opener in
    let after : Option (List ℕ) = g.K.Sink.written c.open_piece.new.sink in
    let faults : ℕ = g.K.Sink.faults c.loop-taken.sink in
    let faults_after : ℕ = g.K.Sink.faults c.open_piece.new.sink in
    let opened = c.in-Ok-open_piece.ensures.opens f.bytes f.took in
    record {
      opened = piece_opened key o n left now next written mid after c.loop-taken.taken c.loop-taken.ended f piece consumed most faults faults_after c.in-Ok-open_piece.now opened (c.loop-taken.taken + count) (omega (arith, len));
      within = omega (arith, most, len);
      wide = (
        omega (arith, length-append buf rest, length-drop c.min-room.result c.loop-taken.piece, wide, c.min-room.ensures, c.loop-taken.invariant.wide.0),
        omega (arith, c.open_piece.auto.message, c.loop-taken.invariant.wide.1),
      );
      faults = (c.in-Ok.ensures.cause.kept ∙ c.loop-taken.invariant.faults.0, opened.2 ∙ c.loop-taken.invariant.faults.1);
      tells = (c.in-Ok.ensures.tells ∙ c.loop-taken.invariant.tells.0, c.in-Ok-open_piece.ensures.tells ∙ c.loop-taken.invariant.tells.1);
    }

pub returns-in-Ok-eq0 : goal.returns-in-Ok-eq0
returns-in-Ok-eq0 g c =
    let key : List ℕ = c.args.opener.now.key in
    let left : Option (List ℕ) = g.S.Source.left c.args.source.now in
    let now : Option (List ℕ) = g.S.Source.left c.loop-taken.source in
    let next : Option (List ℕ) = g.S.Source.left c.read-2.new.self in
    let written : Option (List ℕ) = g.K.Sink.written c.args.sink.now in
    let mid : Option (List ℕ) = g.K.Sink.written c.loop-taken.sink in
    let o = c.loop-taken.opener in
    let f = c.loop-taken.invariant.opened in
    let source : Intake = intake_of g.S.Source.left g.S.Source.faults c.args.source.now c.read-2.new.self in
    let sink : Output = output_of g.K.Sink.written g.K.Sink.faults c.args.sink.now c.loop-taken.sink in
    let none : c.in-Ok-eq0.field-0 ≡ 0 = omega arith in
    let consumed : Consumes now next [] = subst (λ (n : ℕ). Consumes now next (take n c.read-2.new.buf)) none c.in-Ok-eq0.ensures.bytes.0 in
    let end = c.in-Ok-eq0.ensures.bytes.1 none (omega (arith, c.read-2.auto.buf, length-take 1 c.loop-taken.piece, c.loop-taken.invariant.wide.0)) in
    subst (Unseals key source sink) (sym c.at_end-in-Ok-eq0.ensures) (record {
      runs = record {
        count = counts_here key o source sink now c.loop-taken.taken c.loop-taken.ended c.loop-taken.invariant.faults.1 (c.in-Ok-eq0.ensures.cause.kept ∙ c.loop-taken.invariant.faults.0);
        later = (omega (arith, c.in-Ok-eq0.ensures.cause.later, c.loop-taken.invariant.faults.0), omega (arith, c.loop-taken.invariant.faults.1));
        most = taken_bytes left now next f.bytes [] (most_bytes + 1) f.consumed consumed (omega (arith, f.long, c.loop-taken.invariant.within));
        tells = (c.in-Ok-eq0.ensures.tells ∙ c.loop-taken.invariant.tells.0, c.loop-taken.invariant.tells.1);
      };
      writes = ends_here key o source sink now c.loop-taken.taken c.loop-taken.invariant.within consumed end c.loop-taken.ended f;
    })

pub returns-in-Ok-read : goal.returns-in-Ok-read
returns-in-Ok-read g c =
    let key : List ℕ = c.args.opener.now.key in
    let left : Option (List ℕ) = g.S.Source.left c.args.source.now in
    let now : Option (List ℕ) = g.S.Source.left c.loop-taken.source in
    let next : Option (List ℕ) = g.S.Source.left c.read-2.new.self in
    let written : Option (List ℕ) = g.K.Sink.written c.args.sink.now in
    let mid : Option (List ℕ) = g.K.Sink.written c.loop-taken.sink in
    let o = c.loop-taken.opener in
    let f = c.loop-taken.invariant.opened in
    let source : Intake = intake_of g.S.Source.left g.S.Source.faults c.args.source.now c.read-2.new.self in
    let sink : Output = output_of g.K.Sink.written g.K.Sink.faults c.args.sink.now c.loop-taken.sink in
    let p : List ℕ = take c.in-Ok-read.field-0 c.read-2.new.buf in
    let some : 0 < c.in-Ok-read.field-0 = omega arith in
    let len : length p ≡ c.in-Ok-read.field-0 = sym c.in-Ok-read.ensures.bound.1 in
    let one : length p ≤ 1 = omega (arith, len, c.in-Ok-read.ensures.bound.0, c.read-2.auto.buf, length-take 1 c.loop-taken.piece) in
    let full : c.loop-taken.taken ≡ most_bytes = omega (arith, c.loop-taken-test.false, c.loop-taken.invariant.within) in
    record {
      runs = record {
        count = (c.loop-taken.invariant.faults.1, c.in-Ok-read.ensures.cause.kept ∙ c.loop-taken.invariant.faults.0);
        later = (omega (arith, c.in-Ok-read.ensures.cause.later, c.loop-taken.invariant.faults.0), omega (arith, c.loop-taken.invariant.faults.1));
        most = taken_bytes left now next f.bytes p (most_bytes + 1) f.consumed c.in-Ok-read.ensures.bytes.0 (omega (arith, f.long, full, one));
        tells = (c.in-Ok-read.ensures.tells ∙ c.loop-taken.invariant.tells.0, c.loop-taken.invariant.tells.1);
      };
      writes = ends_long key o source sink now c.loop-taken.taken c.loop-taken.ended f full p c.in-Ok-read.ensures.bytes.0 (omega (arith, len, some));
    }

pub returns-in-Err-read : goal.returns-in-Err-read
returns-in-Err-read g c =
    let key : List ℕ = c.args.opener.now.key in
    let left : Option (List ℕ) = g.S.Source.left c.args.source.now in
    let now : Option (List ℕ) = g.S.Source.left c.loop-taken.source in
    let next : Option (List ℕ) = g.S.Source.left c.read-2.new.self in
    let written : Option (List ℕ) = g.K.Sink.written c.args.sink.now in
    let mid : Option (List ℕ) = g.K.Sink.written c.loop-taken.sink in
    let o = c.loop-taken.opener in
    let f = c.loop-taken.invariant.opened in
    let source : Intake = intake_of g.S.Source.left g.S.Source.faults c.args.source.now c.read-2.new.self in
    let sink : Output = output_of g.K.Sink.written g.K.Sink.faults c.args.sink.now c.loop-taken.sink in
    record {
      runs = record {
        count = (c.loop-taken.invariant.faults.1, subst (λ (n : ℕ). Rose n (g.S.Source.faults c.read-2.new.self)) c.loop-taken.invariant.faults.0 c.in-Err-read.ensures.cause.failed);
        later = (omega (arith, c.in-Err-read.ensures.cause.later, c.loop-taken.invariant.faults.0), omega (arith, c.loop-taken.invariant.faults.1));
        most = taken_kept left now next f.bytes (most_bytes + 1) f.consumed c.in-Err-read.ensures.bytes (omega (arith, f.long, c.loop-taken.invariant.within));
        tells = (c.in-Err-read.ensures.tells ∙ c.loop-taken.invariant.tells.0, c.loop-taken.invariant.tells.1);
      };
      writes = so_far_front key o left now written mid c.loop-taken.taken c.loop-taken.ended f c.loop-taken.invariant.within;
    }
