use Rattle.std.proofs.Common.{◌≡◌, ◌++◌, take, drop, length, ◌+◌, ◌∙◌, arith, rules}
use Rattle.raf_io.specs.Storage.{resized, spliced}
use Rattle.raf_io.proofs.Splices.{whole, spliced_by_inside, spliced_by_growth}
use Rattle.raf_io.proofs.memory.splice.Goals.{then-end-len+in_ok-resize, else-end-len}
use Rattle.raf_io.proofs.memory.splice.Goals as goal

pub returns-clause-ok : goal.returns-clause-ok
returns-clause-ok c =
    let at = c.args.at in
    let new = c.args.new.now in
    let b = c.args.bytes.now.items in
    let m = c.deref_mut.result.now in
    let same_len : length c.overwrite.new.bytes ≡ c.if-end-len.bytes.len = omega (arith, c.overwrite.auto.bytes, c.deref_mut.ensures.len) in
    let old_len : length c.if-end-len.bytes.items ≡ c.if-end-len.bytes.len = search rules in
    let last : take at m ++ new ++ drop (at + length new) m ≡ spliced at new b = elim c.if-end-len.branch [
      | then-end-len+in_ok-resize w ↦
          let is : m ≡ resized (at + length new) b = cc (c.deref_mut.ensures.value, w.bytes-is, w.in_ok-resize.ensures.items) in
          spliced_by_growth at new b m is (omega arith)
      | else-end-len w ↦
          let is : m ≡ b = cc in
          spliced_by_inside at new b m is (omega arith)
    ] in
    whole c.if-end-len.bytes.len c.overwrite.new.bytes c.if-end-len.bytes.items same_len old_len ∙ c.overwrite.ensures ∙ last
