use Rattle.std.proofs.Common.{◌<◌, ℕ, List, sym, ◌∙◌, arith}
use Rattle.std.proofs.lemmas.Bool.{true≢false}
use Rattle.std.specs.Cmp.Lexicographic.{bytes_decides}
use Rattle.raf_tree.specs.Hashing.{Hashing}
use Rattle.raf_format.specs.Cipher.{Cipher, cipher_of}
use Rattle.raf_format.specs.File.{chunk_count}
use Rattle.raf.specs.Handle.{handle_of}
use Rattle.raf.proofs.Descents.{steps_ok, steps_handed}
use Rattle.raf.proofs.ChunkLooks.{chunk_is, content_count, stops_first, looks_both, same_chunk_by, in_buffer, decides_same}
use Rattle.raf.proofs.clashing.same_chunk.Goals.{then-index-count_of-via-then-index-count_of, then-index-count_of-via-else-index-count_of+then-index-count_of-2}
use Rattle.raf.proofs.clashing.same_chunk.Goals as goal

pub returns-then-index-count_of-clause-found : goal.returns-then-index-count_of-clause-found
returns-then-index-count_of-clause-found g c = λ s x y has_x has_y.
    let E : List ℕ → Hashing = g.H.MerkleHasher.hashing in
    let C : Cipher = cipher_of g.A1.Algorithm.variant in
    let D : Cipher = cipher_of g.A2.Algorithm.variant in (
      λ e. absurd (true≢false (sym e)),
      λ same. absurd (elim c.then-index-count_of.branch [
        | then-index-count_of-via-then-index-count_of w ↦ omega (arith, same.0, content_count C E s _ x has_x, w.if-index-count_of.true, c.count_of.ensures)
        | then-index-count_of-via-else-index-count_of+then-index-count_of-2 w ↦ omega (arith, same.1, content_count D E s _ y has_y, w.if-index-count_of-2.true, w.count_of-else-index-count_of.ensures)
      ]),
    )

pub returns-in_err-load-clause-steps : goal.returns-in_err-load-clause-steps
returns-in_err-load-clause-steps g c =
    let C : Cipher = cipher_of g.A1.Algorithm.variant in
    let D : Cipher = cipher_of g.A2.Algorithm.variant in
    let f = c.args.a.now in
    let h = c.args.b.now in
    let a = handle_of c.args.a_parts.now (g.A1.Algorithm.key_list f.key) f.header f.tree f.broken in
    let b = handle_of c.args.b_parts.now (g.A2.Algorithm.key_list h.key) h.header h.tree h.broken in
    let there_a : c.args.index < chunk_count f.header.chunk_size f.header.file_size = omega (arith, c.if-index-count_of.false, c.count_of.ensures) in
    let there_b : c.args.index < chunk_count h.header.chunk_size h.header.file_size = omega (arith, c.if-index-count_of-2.false, c.count_of-else-index-count_of.ensures) in
    steps_handed C D _ _ _ _ a b _ _ c.in_err-load.field-0.0 c.from_residual.result c.from_residual.ensures.1
    (stops_first C D a b (g.A1.Algorithm.key_list f.chunk_key) (g.A2.Algorithm.key_list h.chunk_key) c.args.index f.sound h.sound f.derived h.derived there_a there_b c.load.new.parts _ c.in_err-load.field-0.0 c.in_err-load.ensures)

pub returns-in_err-load-2-clause-steps : goal.returns-in_err-load-2-clause-steps
returns-in_err-load-2-clause-steps g c =
    let C : Cipher = cipher_of g.A1.Algorithm.variant in
    let D : Cipher = cipher_of g.A2.Algorithm.variant in
    let f = c.args.a.now in
    let h = c.args.b.now in
    let a = handle_of c.args.a_parts.now (g.A1.Algorithm.key_list f.key) f.header f.tree f.broken in
    let b = handle_of c.args.b_parts.now (g.A2.Algorithm.key_list h.key) h.header h.tree h.broken in
    let there_a : c.args.index < chunk_count f.header.chunk_size f.header.file_size = omega (arith, c.if-index-count_of.false, c.count_of.ensures) in
    let there_b : c.args.index < chunk_count h.header.chunk_size h.header.file_size = omega (arith, c.if-index-count_of-2.false, c.count_of-else-index-count_of.ensures) in
    steps_handed C D _ _ _ _ a b _ _ c.in_err-load-2.field-0.0 c.from_residual-in_err-load-2.result c.from_residual-in_err-load-2.ensures.1
    (looks_both C D a b (g.A1.Algorithm.key_list f.chunk_key) (g.A2.Algorithm.key_list h.chunk_key) c.args.index f.sound h.sound f.derived h.derived there_a there_b c.load.new.parts c.load-2.new.parts _ _ c.in_ok-load.field-0 _ c.in_ok-load.ensures c.in_err-load-2.ensures)

pub returns-clause-steps : goal.returns-clause-steps
returns-clause-steps g c =
    let C : Cipher = cipher_of g.A1.Algorithm.variant in
    let D : Cipher = cipher_of g.A2.Algorithm.variant in
    let f = c.args.a.now in
    let h = c.args.b.now in
    let a = handle_of c.args.a_parts.now (g.A1.Algorithm.key_list f.key) f.header f.tree f.broken in
    let b = handle_of c.args.b_parts.now (g.A2.Algorithm.key_list h.key) h.header h.tree h.broken in
    let there_a : c.args.index < chunk_count f.header.chunk_size f.header.file_size = omega (arith, c.if-index-count_of.false, c.count_of.ensures) in
    let there_b : c.args.index < chunk_count h.header.chunk_size h.header.file_size = omega (arith, c.if-index-count_of-2.false, c.count_of-else-index-count_of.ensures) in
    steps_ok C D _ _ _ _ a b _ _ c.in_ok-load-2.field-0 c.eq.result
    (looks_both C D a b (g.A1.Algorithm.key_list f.chunk_key) (g.A2.Algorithm.key_list h.chunk_key) c.args.index f.sound h.sound f.derived h.derived there_a there_b c.load.new.parts c.load-2.new.parts _ _ c.in_ok-load.field-0 _ c.in_ok-load.ensures c.in_ok-load-2.ensures)

pub returns-clause-found : goal.returns-clause-found
returns-clause-found g c = λ s x y has_x has_y.
    let E : List ℕ → Hashing = g.H.MerkleHasher.hashing in
    let C : Cipher = cipher_of g.A1.Algorithm.variant in
    let D : Cipher = cipher_of g.A2.Algorithm.variant in
    let f = c.args.a.now in
    let h = c.args.b.now in
    let a = handle_of c.args.a_parts.now (g.A1.Algorithm.key_list f.key) f.header f.tree f.broken in
    let b = handle_of c.args.b_parts.now (g.A2.Algorithm.key_list h.key) h.header h.tree h.broken in
    let there_a : c.args.index < chunk_count f.header.chunk_size f.header.file_size = omega (arith, c.if-index-count_of.false, c.count_of.ensures) in
    let there_b : c.args.index < chunk_count h.header.chunk_size h.header.file_size = omega (arith, c.if-index-count_of-2.false, c.count_of-else-index-count_of.ensures) in
    same_chunk_by c.eq.result c.args.index x y _ _ (omega (arith, there_a, content_count C E s _ x has_x)) (omega (arith, there_b, content_count D E s _ y has_y))
    (chunk_is C a (g.A1.Algorithm.key_list f.chunk_key) c.args.index f.sound f.derived there_a c.load.new.parts _ E s x c.in_ok-load.field-0 c.in_ok-load.ensures has_x)
    (chunk_is D b (g.A2.Algorithm.key_list h.chunk_key) c.args.index h.sound h.derived there_b c.load-2.new.parts _ E s y c.in_ok-load-2.field-0 c.in_ok-load-2.ensures has_y)
    (decides_same c.eq.result c.chunk_of-chunk.result.now c.chunk_of-other.result.now _ _
    (in_buffer f.first.len _ C.nonce_len c.chunk_of-chunk.result.now c.deref.result.now c.load.new.buf _ c.chunk_of-chunk.ensures.chunk c.deref.ensures.value (omega (arith, c.load.auto.buf, c.deref_mut.ensures.len)))
    (in_buffer h.first.len _ D.nonce_len c.chunk_of-other.result.now c.deref-2.result.now c.load-2.new.buf _ c.chunk_of-other.ensures.chunk c.deref-2.ensures.value (omega (arith, c.load-2.auto.buf, c.deref_mut-2.ensures.len)))
    (let d = bytes_decides c.chunk_of-chunk.result.now c.chunk_of-other.result.now in (λ yes. d.0 (sym c.eq.ensures ∙ yes), λ same. c.eq.ensures ∙ d.1 same)))
