use Rattle.std.proofs.Common.{◌≡◌, ℕ, suc, ◌+◌, ◌-◌, List, length, take, drop, Result, Ok, ◌∙◌, ap, subst, arith}
use Rattle.raf_format.specs.Cipher.{cipher_of}
use Rattle.raf.specs.Carry.{Puts, Going, Stores, kept_in, buffer_of}
use Rattle.raf_io.specs.declared.errors.Error.{Error}
use Rattle.raf.proofs.Tears.{handed_result}
use Rattle.raf.proofs.SameTrees.{same_room}
use Rattle.raf.proofs.PutRecords.{buffer_nonce, kept_same}
use Rattle.raf.proofs.Stored.{going_first, going_more, stores_unbegun, stores_undrawn, stores_unput, stores_done}
use Rattle.raf.proofs.storing.store_some.Goals as goal

pub returns-in_err-store : goal.returns-in_err-store
returns-in_err-store g c =
    let C = cipher_of g.A.Algorithm.variant in
    let K = g.A.Algorithm.key_list c.args.chunk_key.now in
    let h = c.args.header.now in
    let p = c.args.plan.now in
    let E = g.H.MerkleHasher.hashing in
    let kept = kept_in C h p (length c.args.bytes.now) c.args.first.now c.args.second.now in
    let nonce = take C.nonce_len (buffer_of p p.first c.args.first.now c.args.second.now) in
    let e = c.in_err-store.field-0.0 in
    handed_result c.from_residual.result e (λ (r : Result (Unit {0}) Error). Stores C E K h p c.args.bytes.now kept nonce c.args.parts.now c.store.new.parts c.args.tree.now c.store.new.tree r) c.from_residual.ensures.1
    (stores_unbegun C E K h p c.args.bytes.now kept nonce c.requires.planned c.args.parts.now c.store.new.parts c.args.tree.now c.store.new.tree e _ c.requires.some c.in_err-store.ensures.puts)

pub loop-index-init : goal.loop-index-init
loop-index-init g c =
    let C = cipher_of g.A.Algorithm.variant in
    let K = g.A.Algorithm.key_list c.args.chunk_key.now in
    let h = c.args.header.now in
    let p = c.args.plan.now in
    let E = g.H.MerkleHasher.hashing in
    let kept = kept_in C h p (length c.args.bytes.now) c.args.first.now c.args.second.now in
    let nonce = take C.nonce_len (buffer_of p p.first c.args.first.now c.args.second.now) in
    let one : 1 ≡ p.first + 1 - p.first = omega arith in
    let len = buffer_nonce p p.first c.args.first.now c.args.second.now C.nonce_len (omega (arith, c.requires.first_room)) (omega (arith, c.requires.second_room)) in
    record {
      going = subst (λ (n : ℕ). Going C E K h p c.args.bytes.now kept nonce n c.args.parts.now c.store.new.parts c.args.tree.now c.store.new.tree) one
          (going_first C E K h p c.args.bytes.now kept nonce c.requires.planned c.args.parts.now c.store.new.parts c.args.tree.now c.store.new.tree c.in_ok-store.field-0 len c.in_ok-store.ensures.puts);
      above = omega arith;
      first_len = c.store.auto.first;
      second_len = c.store.auto.second;
      second_same = c.store.ensures.second;
    }

pub returns-in_err-draw : goal.returns-in_err-draw
returns-in_err-draw g c =
    let C = cipher_of g.A.Algorithm.variant in
    let K = g.A.Algorithm.key_list c.args.chunk_key.now in
    let h = c.args.header.now in
    let p = c.args.plan.now in
    let E = g.H.MerkleHasher.hashing in
    let l = c.loop-index in
    let kept = kept_in C h p (length c.args.bytes.now) c.args.first.now c.args.second.now in
    let nonce = take C.nonce_len (buffer_of p p.first c.args.first.now c.args.second.now) in
    let e = c.in_err-draw.field-0.0 in
    handed_result c.from_residual-in_err-draw.result e (λ (r : Result (Unit {0}) Error). Stores C E K h p c.args.bytes.now kept nonce c.args.parts.now c.draw.new.parts c.args.tree.now l.tree r) c.from_residual-in_err-draw.ensures.1
    (stores_undrawn C E K h p c.args.bytes.now kept nonce c.requires.planned (l.index - p.first) l.index c.args.parts.now l.parts c.args.tree.now l.tree l.first l.second c.draw.new.first c.draw.new.second
    (omega (arith, l.invariant.above)) c.loop-index-test.true l.invariant.going c.draw.new.parts e c.in_err-draw.ensures)

pub store-requires-in-loop-index-clause-tree_room : goal.store-requires-in-loop-index-clause-tree_room
store-requires-in-loop-index-clause-tree_room g c = same_room c.args.plan.now.count c.args.tree.now c.loop-index.tree c.loop-index.invariant.going.same c.requires.tree_room

pub returns-in_err-store-2 : goal.returns-in_err-store-2
returns-in_err-store-2 g c =
    let C = cipher_of g.A.Algorithm.variant in
    let K = g.A.Algorithm.key_list c.args.chunk_key.now in
    let h = c.args.header.now in
    let p = c.args.plan.now in
    let E = g.H.MerkleHasher.hashing in
    let l = c.loop-index in
    let kept = kept_in C h p (length c.args.bytes.now) c.args.first.now c.args.second.now in
    let nonce = take C.nonce_len (buffer_of p p.first c.args.first.now c.args.second.now) in
    let e = c.in_err-store-2.field-0.0 in
    let len = buffer_nonce p l.index c.draw.new.first c.draw.new.second C.nonce_len (omega (arith, c.requires.first_room, l.invariant.first_len, c.draw.auto.first)) (omega (arith, c.requires.second_room, l.invariant.second_len, c.draw.auto.second)) in
    handed_result c.from_residual-in_err-store-2.result e
    (λ (r : Result (Unit {0}) Error). Stores C E K h p c.args.bytes.now kept nonce c.args.parts.now c.store-in-loop-index.new.parts c.args.tree.now c.store-in-loop-index.new.tree r) c.from_residual-in_err-store-2.ensures.1
    (stores_unput C E K h p c.args.bytes.now kept nonce c.requires.planned (l.index - p.first) l.index c.args.parts.now l.parts c.args.tree.now l.tree l.first l.second c.draw.new.first c.draw.new.second
    (omega (arith, l.invariant.above)) c.loop-index-test.true l.invariant.going c.draw.new.parts c.in_ok-draw.field-0 c.in_ok-draw.ensures len c.store-in-loop-index.new.parts c.store-in-loop-index.new.tree e _ c.in_err-store-2.ensures.puts)

pub loop-index-preserved : goal.loop-index-preserved
loop-index-preserved g c =
    let C = cipher_of g.A.Algorithm.variant in
    let K = g.A.Algorithm.key_list c.args.chunk_key.now in
    let h = c.args.header.now in
    let p = c.args.plan.now in
    let E = g.H.MerkleHasher.hashing in
    let l = c.loop-index in
    let bytes = c.args.bytes.now in
    let kept = kept_in C h p (length bytes) c.args.first.now c.args.second.now in
    let nonce = take C.nonce_len (buffer_of p p.first c.args.first.now c.args.second.now) in
    let len = buffer_nonce p l.index c.draw.new.first c.draw.new.second C.nonce_len (omega (arith, c.requires.first_room, l.invariant.first_len, c.draw.auto.first)) (omega (arith, c.requires.second_room, l.invariant.second_len, c.draw.auto.second)) in
    let back : drop C.nonce_len c.draw.new.second ≡ drop C.nonce_len c.args.second.now = c.in_ok-draw.ensures.back_rest ∙ ap (λ (x : List ℕ). drop C.nonce_len x) (l.invariant.second_same c.loop-index-test.true) in
    let same = kept_same C h p (length bytes) l.index c.args.first.now c.args.second.now c.draw.new.first c.draw.new.second c.requires.planned (omega (arith, l.invariant.above)) c.loop-index-test.true back in
    let put = subst (λ (x : List ℕ). Puts C E K h p bytes l.index (take C.nonce_len (buffer_of p l.index c.draw.new.first c.draw.new.second)) x c.draw.new.parts c.store-in-loop-index.new.parts l.tree c.store-in-loop-index.new.tree
    (Ok c.in_ok-store-2.field-0)) same c.in_ok-store-2.ensures.puts in
    let next : suc (l.index - p.first) ≡ l.index + 1 - p.first = omega (arith, l.invariant.above) in
    record {
      going = subst (λ (n : ℕ). Going C E K h p bytes kept nonce n c.args.parts.now c.store-in-loop-index.new.parts c.args.tree.now c.store-in-loop-index.new.tree) next
          (going_more C E K h p bytes kept nonce c.requires.planned (l.index - p.first) l.index c.args.parts.now l.parts c.args.tree.now l.tree l.first l.second c.draw.new.first c.draw.new.second
          (omega (arith, l.invariant.above)) c.loop-index-test.true l.invariant.going c.draw.new.parts c.in_ok-draw.field-0 c.in_ok-draw.ensures len c.store-in-loop-index.new.parts c.store-in-loop-index.new.tree c.in_ok-store-2.field-0 put);
      above = omega (arith, l.invariant.above);
      first_len = c.store-in-loop-index.auto.first ∙ c.draw.auto.first ∙ l.invariant.first_len;
      second_len = c.store-in-loop-index.auto.second ∙ c.draw.auto.second ∙ l.invariant.second_len;
      second_same = λ lt. c.store-in-loop-index.ensures.second lt ∙ c.in_ok-draw.ensures.back_same lt ∙ l.invariant.second_same c.loop-index-test.true;
    }

pub returns : goal.returns
returns g c =
    let C = cipher_of g.A.Algorithm.variant in
    let K = g.A.Algorithm.key_list c.args.chunk_key.now in
    let h = c.args.header.now in
    let p = c.args.plan.now in
    let l = c.loop-index in
    stores_done C g.H.MerkleHasher.hashing K h p c.args.bytes.now (kept_in C h p (length c.args.bytes.now) c.args.first.now c.args.second.now) (take C.nonce_len (buffer_of p p.first c.args.first.now c.args.second.now)) c.requires.planned
    (l.index - p.first) c.args.parts.now l.parts c.args.tree.now l.tree tt (omega (arith, c.loop-index-test.false, l.auto.index-end, l.invariant.above)) l.invariant.going
