use Rattle.std.proofs.Common.{◌≡◌, ◌-◌, ◌<◌, ℕ, min, length, length-take, length-append, length-drop, take, drop, true, Result, arith, sym, refl, ◌∙◌, subst}
use Rattle.raf_format.specs.Cipher.{cipher_of}
use Rattle.raf_format.proofs.Ciphers.{lawful}
use Rattle.raf.specs.Concern.{can_have}
use Rattle.raf.specs.Handle.{limit_of, outline}
use Rattle.raf.specs.Converted.{Converted}
use Rattle.raf.specs.declared.converting.ConvertError.{ConvertError}
use Rattle.raf.proofs.Conversions.{moving_none, moving_more, goes_cut, goes_whole}
use Rattle.raf.proofs.HandedOn.{handed_on_result}
use Rattle.raf.proofs.converting.convert.Goals as goal

pub loop-offset-init : goal.loop-offset-init
loop-offset-init g c =
    let C = cipher_of g.A1.Algorithm.variant in
    let D = cipher_of g.A2.Algorithm.variant in
    let can : can_have (limit_of c.args.to.now) (outline (cipher_of g.A2.Algorithm.variant) c.args.to.now.header) c.args.from.now.header.file_size ≡ true =
    subst (λ (n : ℕ). can_have (limit_of c.args.to.now) (outline (cipher_of g.A2.Algorithm.variant) c.args.to.now.header) n ≡ true) c.size-size.ensures (sym c.admits.ensures ∙ c.if-not-admits.false) in
    record {
      moving = moving_none C D (lawful g.A1.Algorithm.variant) (lawful g.A2.Algorithm.variant) g.H1.MerkleHasher.hashing g.H2.MerkleHasher.hashing (length c.args.buf.now) c.args.from.now c.args.to.now
          (sym c.is_broken.ensures ∙ c.if-is_broken.false) (sym c.is_broken-2.ensures ∙ c.if-is_broken-2.false) c.requires.empty c.requires.room can;
      within = omega arith;
      wide = refl;
    }

pub returns-in_err-offset : goal.returns-in_err-offset
returns-in_err-offset g c =
    let C = cipher_of g.A1.Algorithm.variant in
    let D = cipher_of g.A2.Algorithm.variant in
    let can : can_have (limit_of c.args.to.now) (outline (cipher_of g.A2.Algorithm.variant) c.args.to.now.header) c.args.from.now.header.file_size ≡ true =
    subst (λ (n : ℕ). can_have (limit_of c.args.to.now) (outline (cipher_of g.A2.Algorithm.variant) c.args.to.now.header) n ≡ true) c.size-size.ensures (sym c.admits.ensures ∙ c.if-not-admits.false) in
    let is : length (take c.min-len.result c.loop-offset.buf) ≡ min (length c.args.buf.now) (c.args.from.now.header.file_size - c.loop-offset.offset) =
    omega (arith, c.size-size.ensures, c.loop-offset.invariant.wide, c.min-len.ensures, length-take c.min-len.result c.loop-offset.buf) in
    let more : c.loop-offset.offset < c.args.from.now.header.file_size = omega (arith, c.size-size.ensures, c.loop-offset-test.true) in
    let e = c.in_err-offset.field-0.0 in
    handed_on_result c.from_residual.result e (λ (r : Result (Unit {0}) ConvertError). Converted C D g.H1.MerkleHasher.hashing g.H2.MerkleHasher.hashing (length c.args.buf.now) c.args.from.now c.pass.new.from c.args.to.now c.pass.new.to r)
    c.from_residual.ensures.1
    (goes_cut C D (lawful g.A1.Algorithm.variant) (lawful g.A2.Algorithm.variant) g.H1.MerkleHasher.hashing g.H2.MerkleHasher.hashing (length c.args.buf.now) c.args.from.now c.args.to.now
    (sym c.is_broken.ensures ∙ c.if-is_broken.false) (sym c.is_broken-2.ensures ∙ c.if-is_broken-2.false) c.requires.empty c.requires.room can
    c.loop-offset.from c.loop-offset.to c.loop-offset.offset (length (take c.min-len.result c.loop-offset.buf)) is c.pass.new.from c.pass.new.to e more c.in_err-offset.ensures.passed c.loop-offset.invariant.moving)

pub loop-offset-smaller : goal.loop-offset-smaller
loop-offset-smaller g c =
    let C = cipher_of g.A1.Algorithm.variant in
    let D = cipher_of g.A2.Algorithm.variant in
    let can : can_have (limit_of c.args.to.now) (outline (cipher_of g.A2.Algorithm.variant) c.args.to.now.header) c.args.from.now.header.file_size ≡ true =
    subst (λ (n : ℕ). can_have (limit_of c.args.to.now) (outline (cipher_of g.A2.Algorithm.variant) c.args.to.now.header) n ≡ true) c.size-size.ensures (sym c.admits.ensures ∙ c.if-not-admits.false) in
    let is : length (take c.min-len.result c.loop-offset.buf) ≡ min (length c.args.buf.now) (c.args.from.now.header.file_size - c.loop-offset.offset) =
    omega (arith, c.size-size.ensures, c.loop-offset.invariant.wide, c.min-len.ensures, length-take c.min-len.result c.loop-offset.buf) in
    let more : c.loop-offset.offset < c.args.from.now.header.file_size = omega (arith, c.size-size.ensures, c.loop-offset-test.true) in
    let next = moving_more C D (lawful g.A1.Algorithm.variant) (lawful g.A2.Algorithm.variant) g.H1.MerkleHasher.hashing g.H2.MerkleHasher.hashing (length c.args.buf.now) c.args.from.now c.args.to.now
    (sym c.is_broken.ensures ∙ c.if-is_broken.false) (sym c.is_broken-2.ensures ∙ c.if-is_broken-2.false) c.requires.empty c.requires.room can
    c.loop-offset.from c.loop-offset.to c.loop-offset.offset (length (take c.min-len.result c.loop-offset.buf)) is c.pass.new.from c.pass.new.to c.in_ok-offset.field-0 more c.in_ok-offset.ensures.passed c.loop-offset.invariant.moving in
    let some : 0 < c.in_ok-offset.field-0 = omega (arith, next.1, is, more, c.requires.room) in
    omega (arith, some, c.loop-offset-test.true)

pub loop-offset-preserved : goal.loop-offset-preserved
loop-offset-preserved g c =
    let C = cipher_of g.A1.Algorithm.variant in
    let D = cipher_of g.A2.Algorithm.variant in
    let can : can_have (limit_of c.args.to.now) (outline (cipher_of g.A2.Algorithm.variant) c.args.to.now.header) c.args.from.now.header.file_size ≡ true =
    subst (λ (n : ℕ). can_have (limit_of c.args.to.now) (outline (cipher_of g.A2.Algorithm.variant) c.args.to.now.header) n ≡ true) c.size-size.ensures (sym c.admits.ensures ∙ c.if-not-admits.false) in
    let is : length (take c.min-len.result c.loop-offset.buf) ≡ min (length c.args.buf.now) (c.args.from.now.header.file_size - c.loop-offset.offset) =
    omega (arith, c.size-size.ensures, c.loop-offset.invariant.wide, c.min-len.ensures, length-take c.min-len.result c.loop-offset.buf) in
    let more : c.loop-offset.offset < c.args.from.now.header.file_size = omega (arith, c.size-size.ensures, c.loop-offset-test.true) in
    let next = moving_more C D (lawful g.A1.Algorithm.variant) (lawful g.A2.Algorithm.variant) g.H1.MerkleHasher.hashing g.H2.MerkleHasher.hashing (length c.args.buf.now) c.args.from.now c.args.to.now
    (sym c.is_broken.ensures ∙ c.if-is_broken.false) (sym c.is_broken-2.ensures ∙ c.if-is_broken-2.false) c.requires.empty c.requires.room can
    c.loop-offset.from c.loop-offset.to c.loop-offset.offset (length (take c.min-len.result c.loop-offset.buf)) is c.pass.new.from c.pass.new.to c.in_ok-offset.field-0 more c.in_ok-offset.ensures.passed c.loop-offset.invariant.moving in
    record {
      moving = next.0;
      within = omega (arith, next.1, is, more, c.size-size.ensures);
      wide = omega (
        arith,
        length-append c.pass.new.piece (drop c.min-len.result c.loop-offset.buf),
        length-drop c.min-len.result c.loop-offset.buf,
        length-take c.min-len.result c.loop-offset.buf,
        c.pass.auto.piece,
        c.loop-offset.invariant.wide,
        c.min-len.ensures,
      );
    }

pub returns : goal.returns
returns g c =
    let C = cipher_of g.A1.Algorithm.variant in
    let D = cipher_of g.A2.Algorithm.variant in
    let can : can_have (limit_of c.args.to.now) (outline (cipher_of g.A2.Algorithm.variant) c.args.to.now.header) c.args.from.now.header.file_size ≡ true =
    subst (λ (n : ℕ). can_have (limit_of c.args.to.now) (outline (cipher_of g.A2.Algorithm.variant) c.args.to.now.header) n ≡ true) c.size-size.ensures (sym c.admits.ensures ∙ c.if-not-admits.false) in
    goes_whole C D (lawful g.A1.Algorithm.variant) (lawful g.A2.Algorithm.variant) g.H1.MerkleHasher.hashing g.H2.MerkleHasher.hashing (length c.args.buf.now) c.args.from.now c.args.to.now
    (sym c.is_broken.ensures ∙ c.if-is_broken.false) (sym c.is_broken-2.ensures ∙ c.if-is_broken-2.false) c.requires.empty c.requires.room can
    c.loop-offset.from c.loop-offset.to c.loop-offset.offset tt (omega (arith, c.size-size.ensures, c.loop-offset-test.false)) c.loop-offset.invariant.moving
