use Rattle.std.proofs.Common.{◌≡◌, ◌+◌, ◌∙◌, List, ℕ, Option, length, subst, arith}
use Rattle.raf_io.specs.Storage.{Strays, ReadsFrom}
use Rattle.raf_format.specs.Cipher.{cipher_of}
use Rattle.raf_format.specs.File.{shape_of, record_start, record_len}
use Rattle.raf.specs.Outside.{Moved}
use Rattle.raf_format.proofs.Ciphers.{lawful}
use Rattle.raf.proofs.Places.{within_layout}
use Rattle.raf.proofs.Loadings.{loads_failed, loads_found, loads_missing}
use Rattle.raf.proofs.loading.load_into.Goals as goal

pub returns-in_err-read-clause-loads : goal.returns-in_err-read-clause-loads
returns-in_err-read-clause-loads g c =
    let C = cipher_of g.A.Algorithm.variant in
    let h = c.args.header.now in
    let old = c.args.parts.now in
    let new = c.read.new.self in
    let s = shape_of C h in
    let bytes = c.split_at_mut-front.result.0.now in
    let at : c.start_of-start.result ≡ record_start s c.args.index = c.start_of-start.ensures in
    let len : length bytes ≡ record_len s h.file_size c.args.index = c.split_at_mut-front.ensures.front_len ∙ c.len_of-len.ensures in
    loads_failed C (g.A.Algorithm.key_list c.args.chunk_key.now) h c.args.index old new c.args.chunk.now
    c.from_residual.result c.in_err-read.field-0.0 c.from_residual.ensures.1 c.in_err-read.ensures.failed c.in_err-read.ensures.kept
    (subst (λ (n : ℕ). Moved old new (record_start s c.args.index + n) n 0 0 0) len
    (subst (λ (k : ℕ). Moved old new (k + length bytes) (length bytes) 0 0 0) at c.in_err-read.ensures.moved))
    (λ b tells long.
    let strays = subst (λ (o : Option (List ℕ)). Strays o c.start_of-start.result (length bytes) old.strays new.strays) tells c.in_err-read.ensures.strays in
    strays.0 (omega (arith, at, len, long, within_layout s h.file_size c.args.index (omega (arith, c.requires.sound.least)) c.requires.there)))

pub returns-then-open_record_into-clause-loads : goal.returns-then-open_record_into-clause-loads
returns-then-open_record_into-clause-loads g c =
    let C = cipher_of g.A.Algorithm.variant in
    let h = c.args.header.now in
    let s = shape_of C h in
    let old = c.args.parts.now in
    let new = c.read.new.self in
    let bytes = c.split_at_mut-front.result.0.now in
    let at : c.start_of-start.result ≡ record_start s c.args.index = c.start_of-start.ensures in
    let len : length bytes ≡ record_len s h.file_size c.args.index = c.split_at_mut-front.ensures.front_len ∙ c.len_of-len.ensures in
    loads_found C (lawful g.A.Algorithm.variant) (g.A.Algorithm.key_list c.args.chunk_key.now) h c.args.index old new c.read.new.buf
    c.open_record_into.new.chunk c.tag_len.result c.tag_len.ensures.is (c.read.auto.buf ∙ len)
    (subst (λ (k : ℕ). ReadsFrom old.bytes k c.read.new.buf) at c.in_ok-read.ensures.read) c.in_ok-read.ensures.quiet c.in_ok-read.ensures.kept
    (subst (λ (n : ℕ). Moved old new (record_start s c.args.index + n) n 0 0 0) len
    (subst (λ (k : ℕ). Moved old new (k + length bytes) (length bytes) 0 0 0) at c.in_ok-read.ensures.moved))
    (λ b tells long.
    let strays = subst (λ (o : Option (List ℕ)). Strays o c.start_of-start.result (length bytes) old.strays new.strays) tells c.in_ok-read.ensures.strays in
    strays.0 (omega (arith, at, len, long, within_layout s h.file_size c.args.index (omega (arith, c.requires.sound.least)) c.requires.there)))
    c.open_record_into.result c.if-open_record_into.true c.open_record_into.ensures.chunk

pub returns-else-open_record_into-clause-loads : goal.returns-else-open_record_into-clause-loads
returns-else-open_record_into-clause-loads g c =
    let C = cipher_of g.A.Algorithm.variant in
    let h = c.args.header.now in
    let s = shape_of C h in
    let old = c.args.parts.now in
    let new = c.read.new.self in
    let bytes = c.split_at_mut-front.result.0.now in
    let at : c.start_of-start.result ≡ record_start s c.args.index = c.start_of-start.ensures in
    let len : length bytes ≡ record_len s h.file_size c.args.index = c.split_at_mut-front.ensures.front_len ∙ c.len_of-len.ensures in
    loads_missing C (lawful g.A.Algorithm.variant) (g.A.Algorithm.key_list c.args.chunk_key.now) h c.args.index old new c.read.new.buf
    c.open_record_into.new.chunk c.tag_len.result c.tag_len.ensures.is (c.read.auto.buf ∙ len)
    (subst (λ (k : ℕ). ReadsFrom old.bytes k c.read.new.buf) at c.in_ok-read.ensures.read) c.in_ok-read.ensures.quiet c.in_ok-read.ensures.kept
    (subst (λ (n : ℕ). Moved old new (record_start s c.args.index + n) n 0 0 0) len
    (subst (λ (k : ℕ). Moved old new (k + length bytes) (length bytes) 0 0 0) at c.in_ok-read.ensures.moved))
    (λ b tells long.
    let strays = subst (λ (o : Option (List ℕ)). Strays o c.start_of-start.result (length bytes) old.strays new.strays) tells c.in_ok-read.ensures.strays in
    strays.0 (omega (arith, at, len, long, within_layout s h.file_size c.args.index (omega (arith, c.requires.sound.least)) c.requires.there)))
    c.open_record_into.result c.if-open_record_into.false c.open_record_into.ensures.none
