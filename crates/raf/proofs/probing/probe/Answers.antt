use Rattle.std.proofs.Common.{◌≡◌, ℕ, List, Some, refl, ◌∙◌}
use Rattle.raf_io.specs.declared.errors.Error.TheVariants.{InvalidArgument}
use Rattle.raf_io.specs.declared.errors.Reason.TheVariants as reason
use Rattle.raf.specs.Loaded.{Front}
use Rattle.raf.specs.Probe.{alone}
use Rattle.raf.proofs.Headers.{read_front, says_front, says_whole}
use Rattle.raf.proofs.HeaderLooks.{probed_told, probed_refused}
use Rattle.raf.proofs.probing.probe.Goals as goal

pub returns-in-Err : goal.returns-in-Err
returns-in-Err g c =
    let old = alone g.I.RafIo c.args.io.now in
    let mid = alone g.I.RafIo c.size_of.new.io in
    let new = alone g.I.RafIo c.read_head.new.io in
    let s = c.in_ok-size.ensures in
    let r = c.in_ok-read_head.ensures in
    let got = c.read_head.new.buf in
    let front : (b : List ℕ) → old.bytes ≡ Some b → Front b got = λ b tells. read_front mid.bytes b got (s.kept.bytes ∙ tells) c.read_head.auto.buf r.read in
    probed_refused old mid new s.quiet s.kept s.moved s.strays r.quiet r.kept r.moved r.strays (λ b tells. (front b tells).long)
    (InvalidArgument reason.Header) (λ b tells h says. (c.in-Err.ensures.refused).1 h (says_front b got h (front b tells) says)) tt (λ q. q)

pub returns-in-Ok-from_u8 : goal.returns-in-Ok-from_u8
returns-in-Ok-from_u8 g c =
    let old = alone g.I.RafIo c.args.io.now in
    let mid = alone g.I.RafIo c.size_of.new.io in
    let new = alone g.I.RafIo c.read_head.new.io in
    let s = c.in_ok-size.ensures in
    let r = c.in_ok-read_head.ensures in
    let got = c.read_head.new.buf in
    let h = c.in-Ok.header in
    let front : (b : List ℕ) → old.bytes ≡ Some b → Front b got = λ b tells. read_front mid.bytes b got (s.kept.bytes ∙ tells) c.read_head.auto.buf r.read in
    probed_told old mid new s.quiet s.kept s.moved s.strays r.quiet r.kept r.moved r.strays (λ b tells. (front b tells).long)
    _ (λ b tells. record { header = h; says = says_whole b got h (front b tells) c.in-Ok.ensures.found; algorithm = c.in-Ok-from_u8.ensures.found; chunk_size = refl; file_size = refl })

pub returns-in-Err-from_u8 : goal.returns-in-Err-from_u8
returns-in-Err-from_u8 g c =
    let old = alone g.I.RafIo c.args.io.now in
    let mid = alone g.I.RafIo c.size_of.new.io in
    let new = alone g.I.RafIo c.read_head.new.io in
    let s = c.in_ok-size.ensures in
    let r = c.in_ok-read_head.ensures in
    let got = c.read_head.new.buf in
    let h = c.in-Ok.header in
    let front : (b : List ℕ) → old.bytes ≡ Some b → Front b got = λ b tells. read_front mid.bytes b got (s.kept.bytes ∙ tells) c.read_head.auto.buf r.read in
    probed_refused old mid new s.quiet s.kept s.moved s.strays r.quiet r.kept r.moved r.strays (λ b tells. (front b tells).long)
    (InvalidArgument reason.UnknownAlgorithm) (λ b tells. (h, says_whole b got h (front b tells) c.in-Ok.ensures.found, (c.in-Err-from_u8.ensures.refused).1)) tt (λ q. q)
