use Rattle.std.proofs.Common.{◌≡◌, ◌≤◌, ◌<◌, ◌*◌, ◌/◌, ◌+◌, ◌-◌, ℕ, List, refl, sym, subst, ◌∙◌, length, arith}
use Rattle.std.proofs.Math.Nat.{div-mul-le_self}
use Rattle.std.proofs.lemmas.Nat.{le-div}
use Rattle.raf_format.specs.Cipher.{cipher_of}
use Rattle.raf_format.specs.File.{chunk_count}
use Rattle.raf.specs.Read.{ReadSoFar, Unread}
use Rattle.raf_io.specs.declared.errors.Error.{Error}
use Rattle.raf_format.proofs.Ciphers.{lawful}
use Rattle.raf.proofs.HandedOn.{handed_on}
use Rattle.raf.proofs.Places.{meets_range, counts_below}
use Rattle.raf.proofs.ReadOn.{read_none, read_more, read_stops}
use Rattle.raf.proofs.reading.read_range.Goals as goal

pub loop-index-init : goal.loop-index-init
loop-index-init g c =
    let C = cipher_of g.A.Algorithm.variant in
    let h = c.args.header.now in
    let first = c.args.offset / c.from-chunk_size.result in
    let le : first * h.chunk_size ≤ c.args.offset = subst (λ (n : ℕ). first * n ≤ c.args.offset) c.from-chunk_size.ensures (div-mul-le_self c.args.offset c.from-chunk_size.result) in
    record {
      room = refl;
      len = refl;
      so_far = read_none C (g.A.Algorithm.key_list c.args.chunk_key.now) h c.args.offset first c.args.parts.now c.args.parts.now c.args.buf.now refl le;
    }

pub loop-index-preserved : goal.loop-index-preserved
loop-index-preserved g c =
    let C = cipher_of g.A.Algorithm.variant in
    let h = c.args.header.now in
    let cs = c.from-chunk_size.result in
    let index = c.loop-index.index in
    let is : cs ≡ h.chunk_size = c.from-chunk_size.ensures in
    let some : 1 ≤ h.chunk_size = omega (arith, c.requires.sound.least) in
    let meets = meets_range cs c.args.offset (length c.args.buf.now) index (omega (arith, some, is)) c.requires.some c.loop-index.auto.index c.loop-index-test.true in
    let begins : index * h.chunk_size < c.args.offset + length c.args.buf.now = subst (λ (n : ℕ). index * n < c.args.offset + length c.args.buf.now) is meets.0 in
    let ends : c.args.offset < (index + 1) * h.chunk_size = subst (λ (n : ℕ). c.args.offset < (index + 1) * n) is meets.1 in
    let there : index < chunk_count h.chunk_size h.file_size = counts_below h.chunk_size h.file_size index some (omega (arith, begins, c.requires.inside)) in
    record {
      room = c.read_chunk.auto.record ∙ c.loop-index.invariant.room;
      len = c.read_chunk.auto.buf ∙ c.loop-index.invariant.len;
      so_far = read_more C (lawful g.A.Algorithm.variant) (g.A.Algorithm.key_list c.args.chunk_key.now) h c.requires.sound c.args.offset (c.args.offset / cs) index c.args.parts.now c.loop-index.parts
          c.read_chunk.new.parts c.args.buf.now c.loop-index.buf c.in_ok-read_chunk.ensures.loads.0 c.loop-index.invariant.so_far c.loop-index.auto.index there
          c.in_ok-read_chunk.field-0 c.in_ok-read_chunk.ensures.loads.1 c.requires.inside begins ends c.read_chunk.new.buf c.in_ok-read_chunk.ensures.loads.2;
    }

pub returns-clause-read : goal.returns-clause-read
returns-clause-read g c =
    let C = cipher_of g.A.Algorithm.variant in
    let K = g.A.Algorithm.key_list c.args.chunk_key.now in
    let h = c.args.header.now in
    let offset = c.args.offset in
    let cs = c.from-chunk_size.result in
    let stop = (offset + length c.args.buf.now - 1) / cs + 1 in
    let some : 1 ≤ cs = omega (arith, c.requires.sound.least, c.from-chunk_size.ensures) in
    let up : offset / cs ≤ stop = omega (arith, le-div (offset / cs) (offset + length c.args.buf.now - 1) cs some (omega (arith, div-mul-le_self offset cs, c.requires.some))) in
    let last : c.loop-index.index ≡ stop = omega (arith, c.loop-index-test.false, c.loop-index.auto.index-end up) in
    subst (λ (n : ℕ). ReadSoFar C K h offset (offset / n) ((offset + length c.args.buf.now - 1) / n + 1) c.args.parts.now c.loop-index.parts c.args.buf.now c.loop-index.buf) c.from-chunk_size.ensures
    (subst (λ (n : ℕ). ReadSoFar C K h offset (offset / cs) n c.args.parts.now c.loop-index.parts c.args.buf.now c.loop-index.buf) last c.loop-index.invariant.so_far)

pub returns-in_err-read_chunk-clause-refused : goal.returns-in_err-read_chunk-clause-refused
returns-in_err-read_chunk-clause-refused g c =
    let C = cipher_of g.A.Algorithm.variant in
    let K = g.A.Algorithm.key_list c.args.chunk_key.now in
    let h = c.args.header.now in
    let cs = c.from-chunk_size.result in
    let offset = c.args.offset in
    let index = c.loop-index.index in
    let is : cs ≡ h.chunk_size = c.from-chunk_size.ensures in
    let some : 1 ≤ h.chunk_size = omega (arith, c.requires.sound.least) in
    let meets = meets_range cs offset (length c.args.buf.now) index (omega (arith, some, is)) c.requires.some c.loop-index.auto.index c.loop-index-test.true in
    let begins : index * h.chunk_size < offset + length c.args.buf.now = subst (λ (n : ℕ). index * n < offset + length c.args.buf.now) is meets.0 in
    let there : index < chunk_count h.chunk_size h.file_size = counts_below h.chunk_size h.file_size index some (omega (arith, begins, c.requires.inside)) in
    let e = c.in_err-read_chunk.field-0.0 in
    let stops = read_stops C (lawful g.A.Algorithm.variant) K h c.requires.sound offset (offset / cs) index c.args.parts.now c.loop-index.parts
    c.read_chunk.new.parts c.args.buf.now c.loop-index.buf c.in_err-read_chunk.ensures.loads.0 c.loop-index.invariant.so_far c.loop-index.auto.index there e c.in_err-read_chunk.ensures.loads.1
    ((offset + length c.args.buf.now - 1) / cs + 1) c.loop-index-test.true in
    handed_on c.from_residual.result e (λ (x : Error). Unread C K h offset (offset / h.chunk_size) ((offset + length c.args.buf.now - 1) / h.chunk_size + 1) c.args.parts.now c.read_chunk.new.parts c.args.buf.now c.read_chunk.new.buf x)
    c.from_residual.ensures.1
    (subst (λ (n : ℕ). Unread C K h offset (offset / n) ((offset + length c.args.buf.now - 1) / n + 1) c.args.parts.now c.read_chunk.new.parts c.args.buf.now c.read_chunk.new.buf e) is
    (subst (λ (l : List ℕ). Unread C K h offset (offset / cs) ((offset + length c.args.buf.now - 1) / cs + 1) c.args.parts.now c.read_chunk.new.parts c.args.buf.now l e) (sym c.in_err-read_chunk.ensures.kept) stops))
