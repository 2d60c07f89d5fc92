use Rattle.std.proofs.Common.{◌≡◌, ◌+◌, ◌∙◌, List, ℕ, Option, Ok, length, take, drop, subst, arith}
use Rattle.raf_io.specs.Storage.{Strays, ReadsFrom}
use Rattle.raf_format.specs.Cipher.{cipher_of}
use Rattle.raf_format.specs.File.{shape_of, chunk_len, record_start, record_len}
use Rattle.raf_format.specs.Record.{middle}
use Rattle.raf.specs.Loaded.{Loads}
use Rattle.raf.specs.Outside.{Moved}
use Rattle.raf_format.proofs.Ciphers.{lawful}
use Rattle.raf.proofs.Places.{within_layout}
use Rattle.raf_format.proofs.Versions.{tag_most}
use Rattle.raf.proofs.Loadings.{loads_failed, loads_found, loads_missing, middle_chunk}
use Rattle.raf.proofs.loading.load_record.Goals as goal

pub returns-in_err-read : goal.returns-in_err-read
returns-in_err-read g c =
    let C = cipher_of g.A.Algorithm.variant in
    let h = c.args.header.now in
    let old = c.args.parts.now in
    let new = c.read.new.self in
    let s = shape_of C h in
    let at : c.start_of-start.result ≡ record_start s c.args.index = c.start_of-start.ensures in
    let len : length c.args.bytes.now ≡ record_len s h.file_size c.args.index = c.requires.room in
    loads_failed C (g.A.Algorithm.key_list c.args.chunk_key.now) h c.args.index old new (take (chunk_len h.chunk_size h.file_size c.args.index) (drop C.nonce_len c.read.new.buf))
    c.from_residual.result c.in_err-read.field-0.0 c.from_residual.ensures.1 c.in_err-read.ensures.failed c.in_err-read.ensures.kept
    (subst (λ (n : ℕ). Moved old new (record_start s c.args.index + n) n 0 0 0) len
    (subst (λ (k : ℕ). Moved old new (k + length c.args.bytes.now) (length c.args.bytes.now) 0 0 0) at c.in_err-read.ensures.moved))
    (λ b tells long.
    let strays = subst (λ (o : Option (List ℕ)). Strays o c.start_of-start.result (length c.args.bytes.now) old.strays new.strays) tells c.in_err-read.ensures.strays in
    strays.0 (omega (arith, at, len, long, within_layout s h.file_size c.args.index (omega (arith, c.requires.sound.least)) c.requires.there)))

pub open_record-requires-clause-short : goal.open_record-requires-clause-short
open_record-requires-clause-short g c =
    omega (arith, c.read.auto.buf, c.requires.room, c.requires.sound.most, (lawful g.A.Algorithm.variant).nonce_most, tag_most c.tag_len.result c.tag_len.ensures.tag, c.tag_len.ensures.is)

pub returns-then-open_record : goal.returns-then-open_record
returns-then-open_record g c =
    let C = cipher_of g.A.Algorithm.variant in
    let h = c.args.header.now in
    let s = shape_of C h in
    let old = c.args.parts.now in
    let new = c.read.new.self in
    let at : c.start_of-start.result ≡ record_start s c.args.index = c.start_of-start.ensures in
    let len : length c.args.bytes.now ≡ record_len s h.file_size c.args.index = c.requires.room in
    let m = middle C c.tag_len.result c.open_record.new.rec in
    subst (λ (m : List ℕ). Loads C (g.A.Algorithm.key_list c.args.chunk_key.now) h c.args.index old new m (Ok tt))
    (middle_chunk C h c.args.index c.tag_len.result c.open_record.new.rec c.tag_len.ensures.is (c.open_record.auto.rec ∙ c.read.auto.buf ∙ len))
    (loads_found C (lawful g.A.Algorithm.variant) (g.A.Algorithm.key_list c.args.chunk_key.now) h c.args.index old new c.read.new.buf m
    c.tag_len.result c.tag_len.ensures.is (c.read.auto.buf ∙ len)
    (subst (λ (k : ℕ). ReadsFrom old.bytes k c.read.new.buf) at c.in_ok-read.ensures.read) c.in_ok-read.ensures.quiet c.in_ok-read.ensures.kept
    (subst (λ (n : ℕ). Moved old new (record_start s c.args.index + n) n 0 0 0) len
    (subst (λ (k : ℕ). Moved old new (k + length c.args.bytes.now) (length c.args.bytes.now) 0 0 0) at c.in_ok-read.ensures.moved))
    (λ b tells long.
    let strays = subst (λ (o : Option (List ℕ)). Strays o c.start_of-start.result (length c.args.bytes.now) old.strays new.strays) tells c.in_ok-read.ensures.strays in
    strays.0 (omega (arith, at, len, long, within_layout s h.file_size c.args.index (omega (arith, c.requires.sound.least)) c.requires.there)))
    c.open_record.result c.if-open_record.true c.open_record.ensures.chunk)

pub returns-else-open_record : goal.returns-else-open_record
returns-else-open_record g c =
    let C = cipher_of g.A.Algorithm.variant in
    let h = c.args.header.now in
    let s = shape_of C h in
    let old = c.args.parts.now in
    let new = c.read.new.self in
    let at : c.start_of-start.result ≡ record_start s c.args.index = c.start_of-start.ensures in
    let len : length c.args.bytes.now ≡ record_len s h.file_size c.args.index = c.requires.room in
    loads_missing C (lawful g.A.Algorithm.variant) (g.A.Algorithm.key_list c.args.chunk_key.now) h c.args.index old new c.read.new.buf (take (chunk_len h.chunk_size h.file_size c.args.index) (drop C.nonce_len c.open_record.new.rec))
    c.tag_len.result c.tag_len.ensures.is (c.read.auto.buf ∙ len)
    (subst (λ (k : ℕ). ReadsFrom old.bytes k c.read.new.buf) at c.in_ok-read.ensures.read) c.in_ok-read.ensures.quiet c.in_ok-read.ensures.kept
    (subst (λ (n : ℕ). Moved old new (record_start s c.args.index + n) n 0 0 0) len
    (subst (λ (k : ℕ). Moved old new (k + length c.args.bytes.now) (length c.args.bytes.now) 0 0 0) at c.in_ok-read.ensures.moved))
    (λ b tells long.
    let strays = subst (λ (o : Option (List ℕ)). Strays o c.start_of-start.result (length c.args.bytes.now) old.strays new.strays) tells c.in_ok-read.ensures.strays in
    strays.0 (omega (arith, at, len, long, within_layout s h.file_size c.args.index (omega (arith, c.requires.sound.least)) c.requires.there)))
    c.open_record.result c.if-open_record.false c.open_record.ensures.none
