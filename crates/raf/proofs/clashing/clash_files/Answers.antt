use Rattle.std.proofs.Common.{◌-◌, ◌∙◌, sym, inl, inr, Bool, arith}
use Rattle.raf_format.specs.Cipher.{cipher_of}
use Rattle.raf.specs.Handle.{handle_of}
use Rattle.raf.specs.Clash.{long}
use Rattle.std.proofs.lemmas.Bool.{true≢false}
use Rattle.raf.proofs.Judged.{compared_unequal, compared_refused}
use Rattle.raf.proofs.ComparesOn.{below_roots, ids_differ, ids_same, other_headers, other_heights, other_roots, other_roots_then, same_files, stopped_on}
use Rattle.raf.proofs.clashing.clash_files.Goals.{then-ne-via-then-ne, then-ne-via-else-ne+then-a-b}
use Rattle.raf.proofs.clashing.clash_files.Goals as goal

pub returns-in_err-same_commitments-clause-compared : goal.returns-in_err-same_commitments-clause-compared
returns-in_err-same_commitments-clause-compared g c =
    let a = handle_of c.args.a_parts.now (g.A1.Algorithm.key_list c.args.a.now.key) c.args.a.now.header c.args.a.now.tree c.args.a.now.broken in
    let b = handle_of c.args.b_parts.now (g.A2.Algorithm.key_list c.args.b.now.key) c.args.b.now.header c.args.b.now.tree c.args.b.now.broken in
    compared_refused (cipher_of g.A1.Algorithm.variant) (cipher_of g.A2.Algorithm.variant) g.H.MerkleHasher.hashing a b c.same_commitments.new.a_parts c.same_commitments.new.b_parts
    c.in_err-same_commitments.field-0.0 c.from_residual.result c.from_residual.ensures.1 c.requires.unmarked c.in_err-same_commitments.ensures.asks

pub returns-then-not-branch-clause-compared : goal.returns-then-not-branch-clause-compared
returns-then-not-branch-clause-compared g c =
    let a = handle_of c.args.a_parts.now (g.A1.Algorithm.key_list c.args.a.now.key) c.args.a.now.header c.args.a.now.tree c.args.a.now.broken in
    let b = handle_of c.args.b_parts.now (g.A2.Algorithm.key_list c.args.b.now.key) c.args.b.now.header c.args.b.now.tree c.args.b.now.broken in
    compared_unequal (cipher_of g.A1.Algorithm.variant) (cipher_of g.A2.Algorithm.variant) g.H.MerkleHasher.hashing a b c.same_commitments.new.a_parts c.same_commitments.new.b_parts
    c.in_ok-same_commitments.field-0 c.requires.unmarked c.if-not-branch.true c.in_ok-same_commitments.ensures.asks c.in_ok-same_commitments.ensures.same

pub returns-then-ne-clause-compared : goal.returns-then-ne-clause-compared
returns-then-ne-clause-compared g c =
    let C = cipher_of g.A1.Algorithm.variant in
    let D = cipher_of g.A2.Algorithm.variant in
    let E = g.H.MerkleHasher.hashing in
    let a = handle_of c.args.a_parts.now (g.A1.Algorithm.key_list c.args.a.now.key) c.args.a.now.header c.args.a.now.tree c.args.a.now.broken in
    let b = handle_of c.args.b_parts.now (g.A2.Algorithm.key_list c.args.b.now.key) c.args.b.now.header c.args.b.now.tree c.args.b.now.broken in
    other_headers C D E a b c.same_commitments.new.a_parts c.same_commitments.new.b_parts c.in_ok-same_commitments.field-0 c.requires.unmarked c.if-not-branch.false c.in_ok-same_commitments.ensures.asks c.in_ok-same_commitments.ensures.same c.binding_laws.ensures (elim c.then-ne.branch [
      | then-ne-via-then-ne w ↦ inl (ids_differ c.args.a.now.header.id c.args.b.now.header.id c.ne.result c.ne.ensures w.if-ne.true)
      | then-ne-via-else-ne+then-a-b w ↦ inr w.if-a-b.true
    ])

pub returns-in_err-same_chunks-clause-compared : goal.returns-in_err-same_chunks-clause-compared
returns-in_err-same_chunks-clause-compared g c =
    let C = cipher_of g.A1.Algorithm.variant in
    let D = cipher_of g.A2.Algorithm.variant in
    let E = g.H.MerkleHasher.hashing in
    let a = handle_of c.args.a_parts.now (g.A1.Algorithm.key_list c.args.a.now.key) c.args.a.now.header c.args.a.now.tree c.args.a.now.broken in
    let b = handle_of c.args.b_parts.now (g.A2.Algorithm.key_list c.args.b.now.key) c.args.b.now.header c.args.b.now.tree c.args.b.now.broken in
    stopped_on C D E a b c.same_commitments.new.a_parts c.same_commitments.new.b_parts c.in_ok-same_commitments.field-0 c.requires.unmarked c.if-not-branch.false c.in_ok-same_commitments.ensures.asks c.in_ok-same_commitments.ensures.same {T = Bool} (long C a - 96) 0 (long D b - 96) 0 _ _
    c.in_err-same_chunks.field-0.0 c.from_residual-in_err-same_chunks.result c.from_residual-in_err-same_chunks.ensures.1 (omega arith) (omega arith) (omega arith) (omega arith) c.in_err-same_chunks.ensures.steps

pub returns-then-branch-clause-compared : goal.returns-then-branch-clause-compared
returns-then-branch-clause-compared g c =
    let C = cipher_of g.A1.Algorithm.variant in
    let D = cipher_of g.A2.Algorithm.variant in
    let E = g.H.MerkleHasher.hashing in
    let a = handle_of c.args.a_parts.now (g.A1.Algorithm.key_list c.args.a.now.key) c.args.a.now.header c.args.a.now.tree c.args.a.now.broken in
    let b = handle_of c.args.b_parts.now (g.A2.Algorithm.key_list c.args.b.now.key) c.args.b.now.header c.args.b.now.tree c.args.b.now.broken in
    same_files C D E a b c.same_commitments.new.a_parts c.same_commitments.new.b_parts c.in_ok-same_commitments.field-0 c.requires.unmarked c.if-not-branch.false c.in_ok-same_commitments.ensures.asks c.in_ok-same_commitments.ensures.same c.binding_laws.ensures _ _ c.in_ok-same_chunks.field-0 c.in_ok-same_chunks.ensures.steps c.in_ok-same_chunks.ensures.found c.if-branch.true
    (ids_same c.args.a.now.header.id c.args.b.now.header.id c.ne.result c.ne.ensures c.if-ne.false) c.if-a-b.false

pub returns-then-not-same_roots-clause-compared : goal.returns-then-not-same_roots-clause-compared
returns-then-not-same_roots-clause-compared g c =
    let C = cipher_of g.A1.Algorithm.variant in
    let D = cipher_of g.A2.Algorithm.variant in
    let E = g.H.MerkleHasher.hashing in
    let a = handle_of c.args.a_parts.now (g.A1.Algorithm.key_list c.args.a.now.key) c.args.a.now.header c.args.a.now.tree c.args.a.now.broken in
    let b = handle_of c.args.b_parts.now (g.A2.Algorithm.key_list c.args.b.now.key) c.args.b.now.header c.args.b.now.tree c.args.b.now.broken in
    other_roots_then C D E a b c.same_commitments.new.a_parts c.same_commitments.new.b_parts c.in_ok-same_commitments.field-0 c.requires.unmarked c.if-not-branch.false c.in_ok-same_commitments.ensures.asks c.in_ok-same_commitments.ensures.same c.binding_laws.ensures _ _ c.in_ok-same_chunks.field-0 c.in_ok-same_chunks.ensures.steps c.in_ok-same_chunks.ensures.found c.if-branch.false
    (λ t u first second same. true≢false (sym ((c.same_roots.ensures t u (c.in_ok-same_chunks.ensures.steps.first.tree ∙ first) (c.in_ok-same_chunks.ensures.steps.second.tree ∙ second)).1 same)
    ∙ c.if-not-same_roots.true))

pub returns-then-a_height-b_height-clause-compared : goal.returns-then-a_height-b_height-clause-compared
returns-then-a_height-b_height-clause-compared g c =
    let C = cipher_of g.A1.Algorithm.variant in
    let D = cipher_of g.A2.Algorithm.variant in
    let E = g.H.MerkleHasher.hashing in
    let a = handle_of c.args.a_parts.now (g.A1.Algorithm.key_list c.args.a.now.key) c.args.a.now.header c.args.a.now.tree c.args.a.now.broken in
    let b = handle_of c.args.b_parts.now (g.A2.Algorithm.key_list c.args.b.now.key) c.args.b.now.header c.args.b.now.tree c.args.b.now.broken in
    other_heights C D E a b c.same_commitments.new.a_parts c.same_commitments.new.b_parts c.in_ok-same_commitments.field-0 c.requires.unmarked c.if-not-branch.false c.in_ok-same_commitments.ensures.asks c.in_ok-same_commitments.ensures.same c.binding_laws.ensures _ _ c.in_ok-same_chunks.field-0 c.in_ok-same_chunks.ensures.steps c.in_ok-same_chunks.ensures.found c.if-branch.false (ids_same c.args.a.now.header.id c.args.b.now.header.id c.ne.result c.ne.ensures c.if-ne.false) c.if-a-b.false
    (λ e. c.if-a_height-b_height.true (c.height_of-a_height.ensures.height ∙ e ∙ sym c.height_of-b_height.ensures.height))
    (λ t u first second. (c.same_roots.ensures t u (c.in_ok-same_chunks.ensures.steps.first.tree ∙ first) (c.in_ok-same_chunks.ensures.steps.second.tree ∙ second)).0 c.if-not-same_roots.false)
    c.height_of-a_height.result c.height_of-b_height.result c.height_of-a_height.ensures.height c.height_of-b_height.ensures.height

pub returns-then-not-same_roots-2-clause-compared : goal.returns-then-not-same_roots-2-clause-compared
returns-then-not-same_roots-2-clause-compared g c =
    let C = cipher_of g.A1.Algorithm.variant in
    let D = cipher_of g.A2.Algorithm.variant in
    let E = g.H.MerkleHasher.hashing in
    let a = handle_of c.args.a_parts.now (g.A1.Algorithm.key_list c.args.a.now.key) c.args.a.now.header c.args.a.now.tree c.args.a.now.broken in
    let b = handle_of c.args.b_parts.now (g.A2.Algorithm.key_list c.args.b.now.key) c.args.b.now.header c.args.b.now.tree c.args.b.now.broken in
    other_roots C D E a b c.same_commitments.new.a_parts c.same_commitments.new.b_parts c.in_ok-same_commitments.field-0 c.requires.unmarked c.if-not-branch.false c.in_ok-same_commitments.ensures.asks c.in_ok-same_commitments.ensures.same c.binding_laws.ensures
    (λ t u first second same. true≢false (sym ((c.same_roots-2.ensures t u first second).1 same) ∙ c.if-not-same_roots-2.true))
    (sym c.height_of-a_height.ensures.height ∙ c.if-a_height-b_height.false ∙ c.height_of-b_height.ensures.height)

pub returns-clause-compared : goal.returns-clause-compared
returns-clause-compared g c =
    let C = cipher_of g.A1.Algorithm.variant in
    let D = cipher_of g.A2.Algorithm.variant in
    let E = g.H.MerkleHasher.hashing in
    let a = handle_of c.args.a_parts.now (g.A1.Algorithm.key_list c.args.a.now.key) c.args.a.now.header c.args.a.now.tree c.args.a.now.broken in
    let b = handle_of c.args.b_parts.now (g.A2.Algorithm.key_list c.args.b.now.key) c.args.b.now.header c.args.b.now.tree c.args.b.now.broken in
    below_roots C D E a b c.same_commitments.new.a_parts c.same_commitments.new.b_parts c.in_ok-same_commitments.field-0 c.requires.unmarked c.if-not-branch.false c.in_ok-same_commitments.ensures.asks c.in_ok-same_commitments.ensures.same c.binding_laws.ensures _ _ c.height_of-a_height.result c.clash_below.result
    c.height_of-a_height.ensures.height (c.if-a_height-b_height.false ∙ c.height_of-b_height.ensures.height) c.args.a.now.room c.args.b.now.room (ids_same c.args.a.now.header.id c.args.b.now.header.id c.ne.result c.ne.ensures c.if-ne.false) c.if-a-b.false
    (λ t u first second. (c.same_roots-2.ensures t u first second).0 c.if-not-same_roots-2.false) c.clash_below.ensures.steps c.clash_below.ensures.found
