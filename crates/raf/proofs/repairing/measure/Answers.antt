use Rattle.std.proofs.Common.{◌≡◌, ℕ, List, Option, Some, refl, ◌∙◌, subst, arith}
use Rattle.raf_io.specs.Storage.{IsLengthOf}
use Rattle.std.proofs.lemmas.Bool.{false≢true}
use Rattle.raf_format.specs.Cipher.{cipher_of}
use Rattle.raf_io.specs.declared.errors.Error.TheVariants.{InvalidArgument, AuthenticationFailed}
use Rattle.raf_io.specs.declared.errors.Reason.TheVariants as reason
use Rattle.raf.specs.Loaded.{Front}
use Rattle.raf.specs.Probe.{alone}
use Rattle.raf.proofs.Headers.{read_front, says_front, says_whole, tagged_front, tagged_whole}
use Rattle.raf.proofs.Repairs.{measured_found, measured_refused}
use Rattle.raf.proofs.repairing.measure.Goals as goal

pub returns-in-Err : goal.returns-in-Err
returns-in-Err g c =
    let old = alone g.I.RafIo c.args.io.now in
    let mid = alone g.I.RafIo c.size_of.new.io in
    let new = alone g.I.RafIo c.read_head.new.io in
    let C = cipher_of g.A.Algorithm.variant in
    let key = g.A.Algorithm.key_list c.args.key.now in
    let s = c.in_ok-has.ensures in
    let r = c.in_ok-read_head.ensures in
    let got = c.read_head.new.buf in
    let front : (b : List ℕ) → old.bytes ≡ Some b → Front b got = λ b tells. read_front mid.bytes b got (s.kept.bytes ∙ tells) c.read_head.auto.buf r.read in
    measured_refused C key old mid new s.quiet s.kept s.moved s.strays r.quiet r.kept r.moved r.strays (λ b tells. (front b tells).long)
    (InvalidArgument reason.Header) (λ b tells h says. (c.in-Err.ensures.refused).1 h (says_front b got h (front b tells) says)) tt (λ q. q)

pub returns-then-header-algorithm_number : goal.returns-then-header-algorithm_number
returns-then-header-algorithm_number g c =
    let old = alone g.I.RafIo c.args.io.now in
    let mid = alone g.I.RafIo c.size_of.new.io in
    let new = alone g.I.RafIo c.read_head.new.io in
    let C = cipher_of g.A.Algorithm.variant in
    let key = g.A.Algorithm.key_list c.args.key.now in
    let s = c.in_ok-has.ensures in
    let r = c.in_ok-read_head.ensures in
    let got = c.read_head.new.buf in
    let h = c.in-Ok.header in
    let front : (b : List ℕ) → old.bytes ≡ Some b → Front b got = λ b tells. read_front mid.bytes b got (s.kept.bytes ∙ tells) c.read_head.auto.buf r.read in
    measured_refused C key old mid new s.quiet s.kept s.moved s.strays r.quiet r.kept r.moved r.strays (λ b tells. (front b tells).long)
    (InvalidArgument reason.AlgorithmMismatch)
    (λ b tells. (h, says_whole b got h (front b tells) c.in-Ok.ensures.found, λ same. omega (arith, same, c.if-header-algorithm_number.true, c.algorithm_number.ensures))) tt (λ q. q)

pub returns-in-None : goal.returns-in-None
returns-in-None g c =
    let old = alone g.I.RafIo c.args.io.now in
    let mid = alone g.I.RafIo c.size_of.new.io in
    let new = alone g.I.RafIo c.read_head.new.io in
    let C = cipher_of g.A.Algorithm.variant in
    let key = g.A.Algorithm.key_list c.args.key.now in
    let s = c.in_ok-has.ensures in
    let r = c.in_ok-read_head.ensures in
    let got = c.read_head.new.buf in
    let h = c.in-Ok.header in
    let front : (b : List ℕ) → old.bytes ≡ Some b → Front b got = λ b tells. read_front mid.bytes b got (s.kept.bytes ∙ tells) c.read_head.auto.buf r.read in
    measured_refused C key old mid new s.quiet s.kept s.moved s.strays r.quiet r.kept r.moved r.strays (λ b tells. (front b tells).long)
    (InvalidArgument reason.Layout)
    (λ b tells. (h, says_whole b got h (front b tells) c.in-Ok.ensures.found, omega (arith, c.if-header-algorithm_number.false, c.algorithm_number.ensures), c.in-None.ensures)) tt (λ q. q)

pub returns-then-not-header_tag_fits : goal.returns-then-not-header_tag_fits
returns-then-not-header_tag_fits g c =
    let old = alone g.I.RafIo c.args.io.now in
    let mid = alone g.I.RafIo c.size_of.new.io in
    let new = alone g.I.RafIo c.read_head.new.io in
    let C = cipher_of g.A.Algorithm.variant in
    let key = g.A.Algorithm.key_list c.args.key.now in
    let s = c.in_ok-has.ensures in
    let r = c.in_ok-read_head.ensures in
    let got = c.read_head.new.buf in
    let h = c.in-Ok.header in
    let front : (b : List ℕ) → old.bytes ≡ Some b → Front b got = λ b tells. read_front mid.bytes b got (s.kept.bytes ∙ tells) c.read_head.auto.buf r.read in
    measured_refused C key old mid new s.quiet s.kept s.moved s.strays r.quiet r.kept r.moved r.strays (λ b tells. (front b tells).long)
    AuthenticationFailed
    (λ b tells. (
      h,
      says_whole b got h (front b tells) c.in-Ok.ensures.found,
      omega (arith, c.if-header-algorithm_number.false, c.algorithm_number.ensures),
      omega (arith, c.in-Some.ensures),
      λ tagged. false≢true (c.if-not-header_tag_fits.ensures.1 (tagged_front C key b got (front b tells) tagged)),
    )) tt (λ q. q)

pub returns : goal.returns
returns g c =
    let old = alone g.I.RafIo c.args.io.now in
    let mid = alone g.I.RafIo c.size_of.new.io in
    let new = alone g.I.RafIo c.read_head.new.io in
    let C = cipher_of g.A.Algorithm.variant in
    let key = g.A.Algorithm.key_list c.args.key.now in
    let s = c.in_ok-has.ensures in
    let r = c.in_ok-read_head.ensures in
    let got = c.read_head.new.buf in
    let h = c.in-Ok.header in
    let front : (b : List ℕ) → old.bytes ≡ Some b → Front b got = λ b tells. read_front mid.bytes b got (s.kept.bytes ∙ tells) c.read_head.auto.buf r.read in
    measured_found C key old mid new s.quiet s.kept s.moved s.strays r.quiet r.kept r.moved r.strays (λ b tells. (front b tells).long)
    _ (λ b tells. (
      subst (λ (t : Option (List ℕ)). IsLengthOf t c.in_ok-has.has) tells s.size,
      (
        h,
        record {
          says = says_whole b got h (front b tells) c.in-Ok.ensures.found;
          algorithm = omega (arith, c.if-header-algorithm_number.false, c.algorithm_number.ensures);
          below = omega (arith, c.in-Some.ensures);
          tagged = tagged_whole C key b got (front b tells) (c.if-not-header_tag_fits.ensures.0 refl);
        },
        c.in-Some.ensures,
      ),
    ))
