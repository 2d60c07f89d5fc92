use Rattle.std.proofs.Common.{◌≡◌, ℕ, ◌+◌, ◌<◌, ◌≤◌, List, Option, sym, ap, subst, ◌∙◌, arith, rules}
use Rattle.std.specs.Option.{unwrap_or}
use Rattle.raf_format.specs.Cipher.{cipher_of}
use Rattle.raf_format.specs.File.{chunk_count}
use Rattle.raf_format.specs.declared.header.Header.{Header}
use Rattle.raf_proof.specs.Proving.{Proves}
use Rattle.raf_proof.proofs.Handles.{handed_on}
use Rattle.raf_proof.proofs.Proved.{same_claim, same_header, counted, ready, none_proved, some_proved, not_proved, no_root, root_place}
use Rattle.raf_proof.proofs.proving.prove.Goals as goal

pub returns-then-index-chunk_count : goal.returns-then-index-chunk_count
returns-then-index-chunk_count g c =
    let E = g.H.MerkleHasher.hashing in
    let told = c.unwrap_or-height.ensures ∙ ap (λ (o : Option ℕ). unwrap_or o 0) c.merkle_height.ensures.height in
    let room = c.unwrap_or-len.ensures ∙ ap (λ (o : Option ℕ). unwrap_or o 0) c.hash_len.ensures in
    let count = counted E c.args.index c.args.raf.now c.merkle_node.new.self c.unwrap_or-height.result c.unwrap_or-len.result told room c.merkle_height.ensures.paired c.merkle_height.ensures.sized _ _ c.in_ok-merkle_node.ensures c.chunk_count.result c.chunk_count.ensures.count in
    none_proved E c.args.index c.args.raf.now c.merkle_node.new.self c.unwrap_or-height.result c.unwrap_or-len.result told room c.merkle_height.ensures.paired c.merkle_height.ensures.sized _ _ c.in_ok-merkle_node.ensures (cipher_of g.A.Algorithm.variant) (omega (arith, count))

pub returns-in_err-siblings : goal.returns-in_err-siblings
returns-in_err-siblings g c =
    let E = g.H.MerkleHasher.hashing in
    let told = c.unwrap_or-height.ensures ∙ ap (λ (o : Option ℕ). unwrap_or o 0) c.merkle_height.ensures.height in
    let room = c.unwrap_or-len.ensures ∙ ap (λ (o : Option ℕ). unwrap_or o 0) c.hash_len.ensures in
    let e = c.in_err-siblings.field-0.0 in
    let C = cipher_of g.A.Algorithm.variant in
    handed_on c.from_residual-in_err-siblings.result e (Proves C E c.args.index c.args.raf.now c.gather.new.raf) c.from_residual-in_err-siblings.ensures.1
    (not_proved E c.args.index c.args.raf.now c.merkle_node.new.self c.unwrap_or-height.result c.unwrap_or-len.result told room c.merkle_height.ensures.paired c.merkle_height.ensures.sized _ _ c.in_ok-merkle_node.ensures C c.gather.new.raf e c.gather.ensures.asked c.in_err-siblings.ensures.refused)

pub returns : goal.returns
returns g c =
    let E = g.H.MerkleHasher.hashing in
    let told = c.unwrap_or-height.ensures ∙ ap (λ (o : Option ℕ). unwrap_or o 0) c.merkle_height.ensures.height in
    let room = c.unwrap_or-len.ensures ∙ ap (λ (o : Option ℕ). unwrap_or o 0) c.hash_len.ensures in
    let paired = c.merkle_height.ensures.paired in
    let sized = c.merkle_height.ensures.sized in
    let given = c.in_ok-merkle_node.ensures in
    let old = c.args.raf.now in
    let mid = c.merkle_node.new.self in
    let new = c.gather.new.raf in
    let height = c.unwrap_or-height.result in
    let len = c.unwrap_or-len.result in
    let i = c.args.index in
    let count = counted E i old mid height len told room paired sized _ _ given c.chunk_count.result c.chunk_count.ensures.count in
    let header : new.header ≡ old.header = same_header E i old mid height len told room paired sized _ _ given new c.gather.ensures.asked in
    some_proved E i old mid height len told room paired sized _ _ given (cipher_of g.A.Algorithm.variant) new c.in_ok-siblings.siblings.items c.new.result c.honest_proofs.ensures c.file_laws.ensures (omega (arith, count))
    (ready E i old mid height len told room paired sized _ _ given c.chunk_count.result c.chunk_count.ensures.room (omega arith)) c.gather.ensures.asked c.in_ok-siblings.ensures.gathered
    (same_claim c.new.result i c.size.result old.header.file_size height c.id.result old.header.id c.from_vec-siblings.result c.in_ok-siblings.siblings.items (c.size.ensures ∙ ap (λ (h : Header). h.file_size) header) (c.id.ensures ∙ ap (λ (h : Header). h.id) header) c.from_vec-siblings.ensures c.new.ensures)
