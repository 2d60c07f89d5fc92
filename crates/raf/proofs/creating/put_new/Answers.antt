use Rattle.std.proofs.Common.{ℕ, List, Some, ◌∙◌, ap, arith}
use Rattle.raf.proofs.Moves.{moved_less, moved_then, quiet_then}
use Rattle.raf.proofs.NewFiles.{told_cut}
use Rattle.raf.proofs.creating.put_new.Goals as goal

pub returns-in_ok-resize : goal.returns-in_ok-resize
returns-in_ok-resize g c =
    let old = c.args.parts.now in
    let mid = c.write.new.self in
    let new = c.resize.new.self in
    let w = c.in_ok-write.ensures in
    let r = c.in_ok-resize.ensures in
    record {
      put = λ b tells len. told_cut old.bytes mid.bytes new.bytes c.write_header.new.out b 96 tells c.write_header.array_long w.written r.resized
          ∙ ap (λ (l : List ℕ). Some l) c.write_header.ensures.header;
      failed = tt;
      quiet = quiet_then old mid new w.quiet r.quiet;
      left = r.left ∙ w.left;
      moved = moved_less old new _ _ _ _ _ 96 96 0 2 0 (moved_then old mid new _ _ _ _ _ _ _ _ _ _ w.moved r.moved)
          (omega (arith, c.write_header.array_long)) (omega (arith, c.write_header.array_long)) (omega arith) (omega arith) (omega arith);
      began = omega (arith, w.began, r.moved.changes_later);
      strays = r.strays ∙ w.strays;
    }
