use Rattle.std.proofs.Common.{◌≡◌, ℕ, List, length, take, drop, Result, ◌∙◌, ap, subst, arith}
use Rattle.raf_format.specs.Cipher.{cipher_of}
use Rattle.raf_format.specs.File.{shape_of, record_len}
use Rattle.raf.specs.Plan.{kept_len}
use Rattle.raf.specs.Put.{put_chunk, record_for}
use Rattle.raf.specs.Carry.{Puts, OfTrees, Leafed}
use Rattle.raf_io.specs.declared.errors.Error.{Error}
use Rattle.raf.proofs.Spans.{record_inside}
use Rattle.raf.proofs.Tears.{handed_result}
use Rattle.raf.proofs.PutRecords.{kept_fits, front_nonce, front_kept, puts_unhashed, puts_written}
use Rattle.raf.proofs.storing.store_from.Goals as goal

pub place_of-at-requires : goal.place_of-at-requires
place_of-at-requires g c =
    let C = cipher_of g.A.Algorithm.variant in
    let p = c.args.plan.now in
    let inside = record_inside (shape_of C c.args.header.now) p.size c.requires.planned.least c.args.index (omega (arith, c.requires.touched, c.requires.planned.spans.below)) in
    record {
      most = c.requires.planned.most;
      below = omega (arith, inside, c.requires.planned.new_fits);
    }

pub returns-in_err-make_record : goal.returns-in_err-make_record
returns-in_err-make_record g c =
    let C = cipher_of g.A.Algorithm.variant in
    let K = g.A.Algorithm.key_list c.args.chunk_key.now in
    let h = c.args.header.now in
    let p = c.args.plan.now in
    let E = g.H.MerkleHasher.hashing in
    let e = c.in_err-make_record.field-0.0 in
    let nonce = take C.nonce_len c.args.buf.now in
    let kept = take (kept_len h.chunk_size p (length c.args.bytes.now) c.args.index) (drop C.nonce_len c.args.buf.now) in
    let m = c.in_err-make_record.ensures in
    handed_result c.from_residual.result e (λ (r : Result (Unit {0}) Error). Puts C E K h p c.args.bytes.now c.args.index nonce kept c.args.parts.now c.make_record.new.parts c.args.tree.now c.make_record.new.tree r) c.from_residual.ensures.1
    (puts_unhashed C E K h p c.args.bytes.now c.args.index nonce kept c.args.parts.now c.args.tree.now c.make_record.new.parts c.make_record.new.tree e m.same m.there m.kept m.failed m.moved m.began m.none m.strays)

pub write-requires : goal.write-requires
write-requires g c =
    let C = cipher_of g.A.Algorithm.variant in
    let h = c.args.header.now in
    let p = c.args.plan.now in
    let s = shape_of C h in
    let inside = record_inside s p.size c.requires.planned.least c.args.index (omega (arith, c.requires.touched, c.requires.planned.spans.below)) in
    omega (arith, inside, c.requires.planned.new_fits, c.place_of-at.ensures, c.record_len_at-len.ensures, c.make_record.auto.place, c.split_at_mut-place.ensures.front_len)

pub returns : goal.returns
returns g c =
    let C = cipher_of g.A.Algorithm.variant in
    let K = g.A.Algorithm.key_list c.args.chunk_key.now in
    let h = c.args.header.now in
    let p = c.args.plan.now in
    let s = shape_of C h in
    let i = c.args.index in
    let E = g.H.MerkleHasher.hashing in
    let buf = c.args.buf.now in
    let k = kept_len h.chunk_size p (length c.args.bytes.now) i in
    let nonce = take C.nonce_len buf in
    let kept = take k (drop C.nonce_len buf) in
    let m = c.in_ok-make_record.ensures in
    let w = c.write.ensures in
    let place = c.split_at_mut-place.result.0.now in
    let len : c.record_len_at-len.result ≡ record_len s p.size i = c.record_len_at-len.ensures in
    let front : place ≡ take c.record_len_at-len.result buf = c.split_at_mut-place.ensures.front in
    let n : take C.nonce_len place ≡ nonce = ap (λ (l : List ℕ). take C.nonce_len l) front ∙ front_nonce C.nonce_len c.record_len_at-len.result buf (omega (arith, len)) in
    let q : take k (drop C.nonce_len place) ≡ kept = ap (λ (l : List ℕ). take k (drop C.nonce_len l)) front
    ∙ front_kept C.nonce_len k c.record_len_at-len.result buf (omega (arith, len, kept_fits h.chunk_size p (length c.args.bytes.now) i)) in
    puts_written C E K h p c.args.bytes.now i nonce kept c.args.parts.now c.args.tree.now c.write.result c.make_record.new.parts c.write.new.self c.make_record.new.tree c.place_of-at.result c.make_record.new.place
    c.requires.planned c.requires.touched c.place_of-at.ensures (c.make_record.auto.place ∙ c.split_at_mut-place.ensures.front_len ∙ len)
    (m.made ∙ ap (λ (l : List ℕ). record_for C K h p c.args.bytes.now i l (take k (drop C.nonce_len place))) n ∙ ap (λ (l : List ℕ). record_for C K h p c.args.bytes.now i nonce l) q)
    (subst (λ (l : List ℕ). OfTrees E c.args.parts.now.setting c.args.tree.now c.make_record.new.tree (Leafed i (put_chunk s p c.args.bytes.now i l))) q m.leaf)
    m.same m.kept m.quiet m.moved m.none m.strays w.written w.torn w.left w.failed w.quiet w.moved w.began w.strays
