use Rattle.std.proofs.Common.{◌≡◌, ℕ, List, length, Option, sym, ◌∙◌, subst, arith}
use Rattle.raf_io.specs.Storage.{IsLengthOf}
use Rattle.raf_format.specs.Cipher.{cipher_of}
use Rattle.raf.specs.Loaded.{Front}
use Rattle.raf.proofs.Headers.{read_front, says_front, says_whole, in_range_sound}
use Rattle.raf.proofs.opening.find_header.Goals as goal

pub returns-in-Err-clause-refused : goal.returns-in-Err-clause-refused
returns-in-Err-clause-refused g c = λ b tells h says.
    let got = c.read.new.buf in
    let front : Front b got = read_front _ b got (c.size.ensures.kept.bytes ∙ tells) c.read.auto.buf c.in_ok-read.ensures.read in
    (c.in-Err.ensures.refused).1 h (says_front b got h front says)

pub returns-then-header-algorithm_number-clause-refused : goal.returns-then-header-algorithm_number-clause-refused
returns-then-header-algorithm_number-clause-refused g c = λ b tells.
    let got = c.read.new.buf in
    let k = c.in-Ok.header in
    let front : Front b got = read_front _ b got (c.size.ensures.kept.bytes ∙ tells) c.read.auto.buf c.in_ok-read.ensures.read in
    (k, says_whole b got k front c.in-Ok.ensures.found, λ same. omega (arith, same, c.if-header-algorithm_number.true, c.algorithm_number.ensures))

pub returns-in-Some-clause-found : goal.returns-in-Some-clause-found
returns-in-Some-clause-found g c = λ b tells.
    let C = cipher_of g.A.Algorithm.variant in
    let got = c.read.new.buf in
    let k = c.in-Ok.header in
    let front : Front b got = read_front _ b got (c.size.ensures.kept.bytes ∙ tells) c.read.auto.buf c.in_ok-read.ensures.read in
    let long : length b ≡ c.in_ok-size.size = subst (λ (t : Option (List ℕ)). IsLengthOf t c.in_ok-size.size) tells c.in_ok-size.ensures.size in (
      record { says = says_whole b got k front c.in-Ok.ensures.found; algorithm = omega (arith, c.if-header-algorithm_number.false, c.algorithm_number.ensures); length_fits = long ∙ sym c.if-len-size.true ∙ c.in-Some.ensures },
      front,
    )

pub returns-in_default-clause-refused : goal.returns-in_default-clause-refused
returns-in_default-clause-refused g c = λ b tells.
    let got = c.read.new.buf in
    let k = c.in-Ok.header in
    let front : Front b got = read_front _ b got (c.size.ensures.kept.bytes ∙ tells) c.read.auto.buf c.in_ok-read.ensures.read in
    let long : length b ≡ c.in_ok-size.size = subst (λ (t : Option (List ℕ)). IsLengthOf t c.in_ok-size.size) tells c.in_ok-size.ensures.size in
    (k, says_whole b got k front c.in-Ok.ensures.found, omega (arith, c.if-header-algorithm_number.false, c.algorithm_number.ensures), λ fits. c.if-len-size.false (c.in-Some.ensures ∙ sym fits ∙ long))

pub returns-in_default-2-clause-refused : goal.returns-in_default-2-clause-refused
returns-in_default-2-clause-refused g c = λ b tells.
    let got = c.read.new.buf in
    let k = c.in-Ok.header in
    let front : Front b got = read_front _ b got (c.size.ensures.kept.bytes ∙ tells) c.read.auto.buf c.in_ok-read.ensures.read in
    let long : length b ≡ c.in_ok-size.size = subst (λ (t : Option (List ℕ)). IsLengthOf t c.in_ok-size.size) tells c.in_ok-size.ensures.size in
    (k, says_whole b got k front c.in-Ok.ensures.found, omega (arith, c.if-header-algorithm_number.false, c.algorithm_number.ensures), λ fits. absurd (omega (arith, fits, long, c.in_default.ensures)))

pub returns-in-Some-clause-sound : goal.returns-in-Some-clause-sound
returns-in-Some-clause-sound g c =
    let C = cipher_of g.A.Algorithm.variant in
    in_range_sound C c.in-Ok.header c.in-Ok.ensures.found.fields (omega (arith, c.if-header-algorithm_number.false, c.algorithm_number.ensures)) (omega (arith, c.in-Some.ensures))
