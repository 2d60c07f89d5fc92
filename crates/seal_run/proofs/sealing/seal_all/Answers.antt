use Rattle.std.proofs.Common.{◌≡◌, ◌+◌, ◌-◌, ◌<◌, ◌≤◌, ℕ, min, Bool, true, false, ltb, List, ◌++◌, length, take, drop, Option, refl, sym, ap, ◌∙◌, subst, arith, length-append, length-take, length-drop}
use Rattle.std.proofs.lemmas.List.{take-append-le, length-take-le}
use Rattle.std.proofs.lemmas.Bool.{lt-ltb, le-ltb}
use Rattle.std.specs.Prelude.{IfSome}
use Rattle.std.specs.Io.KnownBytes.{Consumes}
use Rattle.counts.specs.Counts.{Rose}
use Rattle.program_io.specs.Streams.{Output, output_of, AppendsPrefix}
use Rattle.seal_run.specs.Ends.{most_bytes}
use Rattle.seal_run.specs.Sealing.{stream_of}
use Rattle.seal_run.specs.Steps.{Puts}
use Rattle.seal_run.proofs.Known.{taken_more, of_err, of_ok}
use Rattle.seal_run.proofs.Sealed.{is_cut, so_far_front, too_many, put_front, put_last, put_more}
use Rattle.seal_run.proofs.sealing.seal_all.Goals as goal

pub returns-in_default : goal.returns-in_default
returns-in_default g c =
    let left : Option (List ℕ) = g.S.Source.left c.args.source.now in
    let now : Option (List ℕ) = g.S.Source.left c.loop-count.source in
    let next : Option (List ℕ) = g.S.Source.left c.fill.new.source in
    let written : Option (List ℕ) = g.K.Sink.written c.args.sink.now in
    let sealed : ℕ = c.loop-count.sealed in
    let room : ℕ = c.min-room.result in
    let buf : List ℕ = c.fill.new.buf in
    let f = c.loop-count.invariant.sealed in
    let wide : length buf ≡ room = omega (arith, c.fill.auto.buf, length-take room c.loop-count.piece, c.min-room.ensures, c.loop-count.invariant.wide.0) in
    let taken = taken_more left now next f.bytes (length buf) (most_bytes + 1) f.consumed c.fill.ensures.most (omega (arith, wide, c.min-room.ensures, f.long, c.loop-count.invariant.within)) in
    let tells = c.fill.ensures.tells ∙ c.loop-count.invariant.tells.0 in
    record {
      runs = record {
        count = (c.loop-count.invariant.faults.1, subst (λ (n : ℕ). Rose n (g.S.Source.faults c.fill.new.source)) c.loop-count.invariant.faults.0 c.in_default.ensures.cause.failed);
        later = (omega (arith, c.in_default.ensures.cause.later, c.loop-count.invariant.faults.0), omega (arith, c.loop-count.invariant.faults.1));
        most = taken;
        tells = (tells, c.loop-count.invariant.tells.1);
      };
      writes = so_far_front c.args.key.now c.args.prefix.now c.stream_laws.ensures c.loop-count.sealer left now written (g.K.Sink.written c.loop-count.sink) sealed f;
    }

pub returns-then-sealed-gt-MOST_BYTES : goal.returns-then-sealed-gt-MOST_BYTES
returns-then-sealed-gt-MOST_BYTES g c =
    let left : Option (List ℕ) = g.S.Source.left c.args.source.now in
    let now : Option (List ℕ) = g.S.Source.left c.loop-count.source in
    let next : Option (List ℕ) = g.S.Source.left c.fill.new.source in
    let written : Option (List ℕ) = g.K.Sink.written c.args.sink.now in
    let sealed : ℕ = c.loop-count.sealed in
    let room : ℕ = c.min-room.result in
    let buf : List ℕ = c.fill.new.buf in
    let f = c.loop-count.invariant.sealed in
    let wide : length buf ≡ room = omega (arith, c.fill.auto.buf, length-take room c.loop-count.piece, c.min-room.ensures, c.loop-count.invariant.wide.0) in
    let taken = taken_more left now next f.bytes (length buf) (most_bytes + 1) f.consumed c.fill.ensures.most (omega (arith, wide, c.min-room.ensures, f.long, c.loop-count.invariant.within)) in
    let tells = c.fill.ensures.tells ∙ c.loop-count.invariant.tells.0 in
    let rest : List ℕ = drop room c.loop-count.piece in
    let p : List ℕ = take c.in-Ok.count (buf ++ rest) in
    let is : p ≡ take c.in-Ok.count buf = take-append-le c.in-Ok.count buf rest (omega (arith, c.in-Ok.ensures.bound)) in
    let len : length p ≡ c.in-Ok.count = ap length is ∙ length-take-le c.in-Ok.count buf (omega (arith, c.in-Ok.ensures.bound)) in
    let consumed : Consumes now next p = subst (Consumes now next) (sym is) c.in-Ok.ensures.bytes in
    let few : c.in-Ok.count ≤ 65536 = omega (arith, c.in-Ok.ensures.bound, wide, c.min-room.ensures) in
    record {
      runs = record {
        count = (c.loop-count.invariant.faults.1, c.in-Ok.ensures.cause.kept ∙ c.loop-count.invariant.faults.0);
        later = (omega (arith, c.in-Ok.ensures.cause.later, c.loop-count.invariant.faults.0), omega (arith, c.loop-count.invariant.faults.1));
        most = taken;
        tells = (tells, c.loop-count.invariant.tells.1);
      };
      writes = (
        too_many c.args.key.now c.args.prefix.now c.stream_laws.ensures c.loop-count.sealer left now written (g.K.Sink.written c.loop-count.sink) sealed f next p consumed (omega (arith, len, c.if-sealed-gt-MOST_BYTES.true)),
        so_far_front c.args.key.now c.args.prefix.now c.stream_laws.ensures c.loop-count.sealer left now written (g.K.Sink.written c.loop-count.sink) sealed f,
      );
    }

pub returns-then-is_err-2 : goal.returns-then-is_err-2
returns-then-is_err-2 g c =
    let left : Option (List ℕ) = g.S.Source.left c.args.source.now in
    let now : Option (List ℕ) = g.S.Source.left c.loop-count.source in
    let next : Option (List ℕ) = g.S.Source.left c.fill.new.source in
    let written : Option (List ℕ) = g.K.Sink.written c.args.sink.now in
    let sealed : ℕ = c.loop-count.sealed in
    let room : ℕ = c.min-room.result in
    let buf : List ℕ = c.fill.new.buf in
    let f = c.loop-count.invariant.sealed in
    let wide : length buf ≡ room = omega (arith, c.fill.auto.buf, length-take room c.loop-count.piece, c.min-room.ensures, c.loop-count.invariant.wide.0) in
    let taken = taken_more left now next f.bytes (length buf) (most_bytes + 1) f.consumed c.fill.ensures.most (omega (arith, wide, c.min-room.ensures, f.long, c.loop-count.invariant.within)) in
    let tells = c.fill.ensures.tells ∙ c.loop-count.invariant.tells.0 in
    let rest : List ℕ = drop room c.loop-count.piece in
    let p : List ℕ = take c.in-Ok.count (buf ++ rest) in
    let is : p ≡ take c.in-Ok.count buf = take-append-le c.in-Ok.count buf rest (omega (arith, c.in-Ok.ensures.bound)) in
    let len : length p ≡ c.in-Ok.count = ap length is ∙ length-take-le c.in-Ok.count buf (omega (arith, c.in-Ok.ensures.bound)) in
    let consumed : Consumes now next p = subst (Consumes now next) (sym is) c.in-Ok.ensures.bytes in
    let few : c.in-Ok.count ≤ 65536 = omega (arith, c.in-Ok.ensures.bound, wide, c.min-room.ensures) in
    let end = λ (less : c.in-Ok.count < 65536). c.in-Ok.ensures.end (omega (arith, wide, less, c.min-room.ensures, c.if-sealed-gt-MOST_BYTES.false)) in
    let sink : Output = output_of g.K.Sink.written g.K.Sink.faults c.loop-count.sink c.seal_piece.new.sink in
    let s = c.loop-count.sealer in
    let t = c.seal_piece.new.sealer in
    record {
      runs = record {
        count = (subst (λ (n : ℕ). Rose n (g.K.Sink.faults c.seal_piece.new.sink)) c.loop-count.invariant.faults.1 (of_err c.seal_piece.result c.if-is_err-2.ensures.value c.seal_piece.ensures.cause.failed), c.in-Ok.ensures.cause.kept ∙ c.loop-count.invariant.faults.0);
        later = (omega (arith, c.in-Ok.ensures.cause.later, c.loop-count.invariant.faults.0), omega (arith, c.seal_piece.ensures.cause.later, c.loop-count.invariant.faults.1));
        most = taken;
        tells = (tells, c.seal_piece.ensures.tells ∙ c.loop-count.invariant.tells.1);
      };
      writes = put_front c.args.key.now c.args.prefix.now c.stream_laws.ensures s left now written sealed sink f t next p (ltb c.in-Ok.count 65536) c.seal_piece.result c.seal_piece.ensures consumed
          (is_cut next p c.in-Ok.count len few end);
    }

pub returns-then-last : goal.returns-then-last
returns-then-last g c =
    let left : Option (List ℕ) = g.S.Source.left c.args.source.now in
    let now : Option (List ℕ) = g.S.Source.left c.loop-count.source in
    let next : Option (List ℕ) = g.S.Source.left c.fill.new.source in
    let written : Option (List ℕ) = g.K.Sink.written c.args.sink.now in
    let sealed : ℕ = c.loop-count.sealed in
    let room : ℕ = c.min-room.result in
    let buf : List ℕ = c.fill.new.buf in
    let f = c.loop-count.invariant.sealed in
    let wide : length buf ≡ room = omega (arith, c.fill.auto.buf, length-take room c.loop-count.piece, c.min-room.ensures, c.loop-count.invariant.wide.0) in
    let taken = taken_more left now next f.bytes (length buf) (most_bytes + 1) f.consumed c.fill.ensures.most (omega (arith, wide, c.min-room.ensures, f.long, c.loop-count.invariant.within)) in
    let tells = c.fill.ensures.tells ∙ c.loop-count.invariant.tells.0 in
    let rest : List ℕ = drop room c.loop-count.piece in
    let p : List ℕ = take c.in-Ok.count (buf ++ rest) in
    let is : p ≡ take c.in-Ok.count buf = take-append-le c.in-Ok.count buf rest (omega (arith, c.in-Ok.ensures.bound)) in
    let len : length p ≡ c.in-Ok.count = ap length is ∙ length-take-le c.in-Ok.count buf (omega (arith, c.in-Ok.ensures.bound)) in
    let consumed : Consumes now next p = subst (Consumes now next) (sym is) c.in-Ok.ensures.bytes in
    let few : c.in-Ok.count ≤ 65536 = omega (arith, c.in-Ok.ensures.bound, wide, c.min-room.ensures) in
    let end = λ (less : c.in-Ok.count < 65536). c.in-Ok.ensures.end (omega (arith, wide, less, c.min-room.ensures, c.if-sealed-gt-MOST_BYTES.false)) in
    let sink : Output = output_of g.K.Sink.written g.K.Sink.faults c.loop-count.sink c.seal_piece.new.sink in
    let s = c.loop-count.sealer in
    let t = c.seal_piece.new.sealer in
    let put : Puts s t p true sink c.seal_piece.result = subst (λ (b : Bool). Puts s t p b sink c.seal_piece.result) (lt-ltb c.in-Ok.count 65536 c.if-last.true) c.seal_piece.ensures in
    let all = of_ok c.seal_piece.result c.if-is_err-2.ensures.value put.whole in
    record {
      runs = record {
        count = (of_ok c.seal_piece.result c.if-is_err-2.ensures.value c.seal_piece.ensures.cause.kept ∙ c.loop-count.invariant.faults.1, c.in-Ok.ensures.cause.kept ∙ c.loop-count.invariant.faults.0);
        later = (omega (arith, c.in-Ok.ensures.cause.later, c.loop-count.invariant.faults.0), omega (arith, c.seal_piece.ensures.cause.later, c.loop-count.invariant.faults.1));
        most = taken;
        tells = (tells, c.seal_piece.ensures.tells ∙ c.loop-count.invariant.tells.1);
      };
      writes = (
        end c.if-last.true,
        put_last c.args.key.now c.args.prefix.now c.stream_laws.ensures s left now written sealed sink f t next p c.seal_piece.result consumed put all (omega (arith, len, c.if-last.true)) (end c.if-last.true)
            (omega (arith, len, c.if-sealed-gt-MOST_BYTES.false)),
      );
    }

pub loop-count-preserved : goal.loop-count-preserved
loop-count-preserved g c =
    let left : Option (List ℕ) = g.S.Source.left c.args.source.now in
    let now : Option (List ℕ) = g.S.Source.left c.loop-count.source in
    let next : Option (List ℕ) = g.S.Source.left c.fill.new.source in
    let written : Option (List ℕ) = g.K.Sink.written c.args.sink.now in
    let sealed : ℕ = c.loop-count.sealed in
    let room : ℕ = c.min-room.result in
    let buf : List ℕ = c.fill.new.buf in
    let f = c.loop-count.invariant.sealed in
    let wide : length buf ≡ room = omega (arith, c.fill.auto.buf, length-take room c.loop-count.piece, c.min-room.ensures, c.loop-count.invariant.wide.0) in
    let taken = taken_more left now next f.bytes (length buf) (most_bytes + 1) f.consumed c.fill.ensures.most (omega (arith, wide, c.min-room.ensures, f.long, c.loop-count.invariant.within)) in
    let tells = c.fill.ensures.tells ∙ c.loop-count.invariant.tells.0 in
    let rest : List ℕ = drop room c.loop-count.piece in
    let p : List ℕ = take c.in-Ok.count (buf ++ rest) in
    let is : p ≡ take c.in-Ok.count buf = take-append-le c.in-Ok.count buf rest (omega (arith, c.in-Ok.ensures.bound)) in
    let len : length p ≡ c.in-Ok.count = ap length is ∙ length-take-le c.in-Ok.count buf (omega (arith, c.in-Ok.ensures.bound)) in
    let consumed : Consumes now next p = subst (Consumes now next) (sym is) c.in-Ok.ensures.bytes in
    let few : c.in-Ok.count ≤ 65536 = omega (arith, c.in-Ok.ensures.bound, wide, c.min-room.ensures) in
    let sink : Output = output_of g.K.Sink.written g.K.Sink.faults c.loop-count.sink c.seal_piece.new.sink in
    let s = c.loop-count.sealer in
    let t = c.seal_piece.new.sealer in
    let put : Puts s t p false sink c.seal_piece.result = subst (λ (b : Bool). Puts s t p b sink c.seal_piece.result) (le-ltb c.in-Ok.count 65536 c.if-last.false) c.seal_piece.ensures in
    let all = of_ok c.seal_piece.result c.if-is_err-2.ensures.value put.whole in
    record {
      sealed = put_more c.args.key.now c.args.prefix.now c.stream_laws.ensures s left now written sealed sink f t next p c.seal_piece.result consumed put all (omega (arith, len, few, c.if-last.false)) (sealed + c.in-Ok.count) (omega (arith, len));
      within = omega (arith, c.if-sealed-gt-MOST_BYTES.false);
      wide = (
        omega (arith, length-append buf rest, length-drop room c.loop-count.piece, wide, c.min-room.ensures, c.loop-count.invariant.wide.0),
        omega (arith, c.seal_piece.auto.frame, c.loop-count.invariant.wide.1),
      );
      faults = (c.in-Ok.ensures.cause.kept ∙ c.loop-count.invariant.faults.0, of_ok c.seal_piece.result c.if-is_err-2.ensures.value c.seal_piece.ensures.cause.kept ∙ c.loop-count.invariant.faults.1);
      tells = (tells, c.seal_piece.ensures.tells ∙ c.loop-count.invariant.tells.1);
    }
