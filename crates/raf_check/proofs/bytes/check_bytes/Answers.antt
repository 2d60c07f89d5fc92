use Rattle.std.proofs.Common.{ℕ, refl, sym, subst, ◌∙◌}
use Rattle.std.proofs.lemmas.Bool.{false≢true}
use Rattle.raf_tree.specs.Hashing.{Hashing}
use Rattle.raf_check.specs.Claim.{claim_of}
use Rattle.raf_check.specs.Binding.{CanBeChecked}
use Rattle.raf_check.proofs.CheckedBytes.{lent, lent_is, lent_fields, none_accepted, none_said, said, exactly, as_many}
use Rattle.raf_check.proofs.bytes.check_bytes.Goals as goal

pub returns-then-not-can_be_checked-clause-checks : goal.returns-then-not-can_be_checked-clause-checks
returns-then-not-can_be_checked-clause-checks g c =
    let H : Hashing = g.H.MerkleHasher.hashing (g.H.MerkleHasher.setting c.args.hasher.now) in
    let f = c.in-Some.front in
    let b = c.args.bytes.now in
    let found = c.in-Some.ensures in
    none_said H c.args.commitment.now c.args.chunk.now b (claim_of f.index f.size f.id f.height (lent b)) (lent_is b f.id f.index f.size f.height found.found) (lent_fields b f.id f.index f.size f.height found.fields)
    (λ can. false≢true (sym c.if-not-can_be_checked.true ∙ c.can_be_checked.ensures.1 (subst (λ (n : ℕ). CanBeChecked n f.index f.height (lent b)) (sym c.requires.commitment) can)))

pub returns-then-not-can_be_checked-clause-exact : goal.returns-then-not-can_be_checked-clause-exact
returns-then-not-can_be_checked-clause-exact g c =
    none_accepted (g.H.MerkleHasher.hashing (g.H.MerkleHasher.setting c.args.hasher.now)) c.args.commitment.now c.args.chunk.now c.args.bytes.now (returns-then-not-can_be_checked-clause-checks g c)

pub returns-then-not-can_be_checked-clause-calls : goal.returns-then-not-can_be_checked-clause-calls
returns-then-not-can_be_checked-clause-calls g c =
    record { proof = λ p says. absurd (returns-then-not-can_be_checked-clause-checks g c p says); none = λ _. refl }

pub returns-in-Ok-clause-exact : goal.returns-in-Ok-clause-exact
returns-in-Ok-clause-exact g c =
    let H : Hashing = g.H.MerkleHasher.hashing (g.H.MerkleHasher.setting c.args.hasher.now) in
    let f = c.in-Some.front in
    let b = c.args.bytes.now in
    let found = c.in-Some.ensures in
    let can = subst (λ (n : ℕ). CanBeChecked n f.index f.height (lent b)) c.requires.commitment (c.can_be_checked.ensures.0 c.if-not-can_be_checked.false) in
    let is = lent_is b f.id f.index f.size f.height found.found in
    let fields = lent_fields b f.id f.index f.size f.height found.fields in
    exactly H c.args.commitment.now c.args.chunk.now b (claim_of f.index f.size f.id f.height (lent b)) is fields c.in-Ok.yes (said H c.args.commitment.now c.args.chunk.now b _ is fields can) c.in-Ok.ensures.checks

pub returns-in-Ok-clause-calls : goal.returns-in-Ok-clause-calls
returns-in-Ok-clause-calls g c =
    let H : Hashing = g.H.MerkleHasher.hashing (g.H.MerkleHasher.setting c.args.hasher.now) in
    let f = c.in-Some.front in
    let b = c.args.bytes.now in
    let found = c.in-Some.ensures in
    let calls = c.in-Ok.ensures.calls in
    record {
      proof = as_many H c.args.commitment.now c.args.chunk.now b (claim_of f.index f.size f.id f.height (lent b)) (lent_is b f.id f.index f.size f.height found.found) (lent_fields b f.id f.index f.size f.height found.fields) _ _ _ (record { later = calls.later; most = calls.most; all = calls.all });
      none = λ e. absurd cc;
    }

pub returns-in-Err-clause-calls : goal.returns-in-Err-clause-calls
returns-in-Err-clause-calls g c =
    let H : Hashing = g.H.MerkleHasher.hashing (g.H.MerkleHasher.setting c.args.hasher.now) in
    let f = c.in-Some.front in
    let b = c.args.bytes.now in
    let found = c.in-Some.ensures in
    let calls = c.in-Err.ensures.calls in
    record {
      proof = as_many H c.args.commitment.now c.args.chunk.now b (claim_of f.index f.size f.id f.height (lent b)) (lent_is b f.id f.index f.size f.height found.found) (lent_fields b f.id f.index f.size f.height found.fields) _ _ _ (record { later = calls.later; most = calls.most; all = tt });
      none = tt;
    }
