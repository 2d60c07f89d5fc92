use Rattle.std.proofs.Common.{ℕ, List, length, take, drop, sym, subst}
use Rattle.raf_format.specs.Cipher.{cipher_of}
use Rattle.raf.specs.Plan.{kept_len}
use Rattle.raf.specs.Carry.{Puts}
use Rattle.raf.proofs.PutRecords.{buffer_front, buffer_back}
use Rattle.raf.proofs.storing.store.Goals as goal

pub returns-then-index-plan-clause-puts : goal.returns-then-index-plan-clause-puts
returns-then-index-plan-clause-puts g c =
    let C = cipher_of g.A.Algorithm.variant in
    let K = g.A.Algorithm.key_list c.args.chunk_key.now in
    let h = c.args.header.now in
    let p = c.args.plan.now in
    let i = c.args.index in
    subst (λ (l : List ℕ). Puts C g.H.MerkleHasher.hashing K h p c.args.bytes.now i (take C.nonce_len l) (take (kept_len h.chunk_size p (length c.args.bytes.now) i) (drop C.nonce_len l))
    c.args.parts.now c.store_from.new.parts c.args.tree.now c.store_from.new.tree c.store_from.result) (sym (buffer_front p i c.args.first.now c.args.second.now c.if-index-plan.true)) c.store_from.ensures

pub returns-else-index-plan-clause-puts : goal.returns-else-index-plan-clause-puts
returns-else-index-plan-clause-puts g c =
    let C = cipher_of g.A.Algorithm.variant in
    let K = g.A.Algorithm.key_list c.args.chunk_key.now in
    let h = c.args.header.now in
    let p = c.args.plan.now in
    let i = c.args.index in
    subst (λ (l : List ℕ). Puts C g.H.MerkleHasher.hashing K h p c.args.bytes.now i (take C.nonce_len l) (take (kept_len h.chunk_size p (length c.args.bytes.now) i) (drop C.nonce_len l))
    c.args.parts.now c.store_from-else-index-plan.new.parts c.args.tree.now c.store_from-else-index-plan.new.tree c.store_from-else-index-plan.result) (sym (buffer_back p i c.args.first.now c.args.second.now c.if-index-plan.false)) c.store_from-else-index-plan.ensures
