use Rattle.std.proofs.Common.{◌≡◌, ◌+◌, ◌-◌, ◌*◌, ◌≤◌, min, ℕ, take, drop, length, ◌∙◌, ap, arith}
use Rattle.raf_format.specs.Cipher.{cipher_of}
use Rattle.raf_format.specs.File.{chunk_len}
use Rattle.raf.proofs.Copied.{copied}
use Rattle.raf.proofs.Places.{starts_below}
use Rattle.raf.proofs.reading.copy_chunk.Goals as goal

pub returns : goal.returns
returns g c =
    let C = cipher_of g.A.Algorithm.variant in
    let h = c.args.header.now in
    let offset = c.args.offset in
    let index = c.args.index in
    let size = chunk_len h.chunk_size h.file_size index in
    let buf = c.args.buf.now in
    let r = c.args.record.now in
    let some = starts_below h.chunk_size h.file_size index (omega (arith, c.requires.sound.least)) c.requires.there in
    let next : (index + 1) * h.chunk_size ≡ index * h.chunk_size + h.chunk_size = omega arith in
    let at_is : c.saturating_sub-at.result ≡ index * h.chunk_size - offset = c.saturating_sub-at.ensures ∙ ap (λ (n : ℕ). index * n - offset) c.from.ensures in
    let from_is : c.saturating_sub-from.result ≡ offset - index * h.chunk_size = c.saturating_sub-from.ensures ∙ ap (λ (n : ℕ). offset - index * n) c.from.ensures in
    let inside : offset - index * h.chunk_size ≤ size = omega (arith, c.requires.ends, next, c.requires.inside, c.requires.begins) in
    let n_is : c.min-n.result ≡ min (size - (offset - index * h.chunk_size)) (length buf - c.saturating_sub-at.result) = omega (arith, c.min-n.ensures, c.chunk_len_of.ensures, from_is) in
    let behind : c.nonce_length.result + c.saturating_sub-from.result ≡ C.nonce_len + (offset - index * h.chunk_size) = omega (arith, c.nonce_length.ensures.is, from_is) in
    let count : c.nonce_length.result + c.saturating_sub-from.result + c.min-n.result - (c.nonce_length.result + c.saturating_sub-from.result) ≡ c.min-n.result = omega arith in
    copied C.nonce_len size h.chunk_size offset index r buf c.overwrite.new.bytes _ c.saturating_sub-at.result c.min-n.result
    (omega (arith, c.requires.room)) at_is n_is inside
    (ap (λ (k : ℕ). take k (drop (c.nonce_length.result + c.saturating_sub-from.result) r)) count ∙ ap (λ (k : ℕ). take c.min-n.result (drop k r)) behind)
    c.overwrite.ensures
