use Rattle.std.proofs.Common.{false, ◌≡◌, ℕ, List, ◌++◌, take, Some, sym, ◌∙◌, ap, subst, arith}
use Rattle.std.proofs.lemmas.List.{take_at}
use Rattle.raf_format.specs.Cipher.{cipher_of}
use Rattle.raf.specs.Handle.{handle_of, hash_len_of}
use Rattle.raf.specs.Stepped.{Went, commitment_reply}
use Rattle.raf.specs.declared.command.Command.TheVariants.{Commitment}
use Rattle.raf.specs.declared.command.Reply.TheVariants.{Refused}
use Rattle.raf_io.specs.declared.errors.ErrorKind.TheVariants.{MerkleNotEnabled}
use Rattle.raf.proofs.HandedOn.{on_ok}
use Rattle.raf.proofs.TreeSteps.{went_unmerkled, went_commitment, paired_setting, at_these}
use Rattle.raf.proofs.TreeSteps.IsTreeCommand.{commitment}
use Rattle.raf.proofs.verifying.commit_file.Goals as goal

pub returns-in_default-clause-went : goal.returns-in_default-clause-went
returns-in_default-clause-went g c = λ fits.
    let C = cipher_of g.A.Algorithm.variant in
    let E = g.H.MerkleHasher.hashing in
    let f = c.args.file.now in
    let key = g.A.Algorithm.key_list f.key in
    let a = c.args.parts.now in
    at_these (λ o b. Went C E (handle_of a key f.header o b) (handle_of a key f.header o b) Commitment (Refused MerkleNotEnabled)) f.tree f.broken _ c.in_default.is c.requires.unmarked
    (went_unmerkled C E a key f.header Commitment commitment)

pub returns-clause-went : goal.returns-clause-went
returns-clause-went g c = λ fits.
    let C = cipher_of g.A.Algorithm.variant in
    let E = g.H.MerkleHasher.hashing in
    let f = c.args.file.now in
    let key = g.A.Algorithm.key_list f.key in
    let a = c.args.parts.now in
    let b = c.commit.new.self in
    let t = c.in-Some.tree in
    let r = c.commit.ensures in
    let x = paired_setting E a.setting f.tree t c.requires.paired c.in-Some.is in
    let n : hash_len_of E a.setting ≡ t.hash_len = ap (hash_len_of E) x.1 ∙ x.2 in
    let front : take (hash_len_of E a.setting) (c.commit.new.out ++ c.split_at_mut-front.result.1.now) ≡ c.commit.new.out =
    take_at c.commit.new.out c.split_at_mut-front.result.1.now (hash_len_of E a.setting)
    (omega (arith, n, c.commit.auto.out, c.split_at_mut-front.ensures.front_len, c.root-len.ensures.len)) in
    at_these (λ o k. Went C E (handle_of a key f.header o k) (handle_of b key f.header o k) Commitment
    (commitment_reply (take (hash_len_of E a.setting) (c.commit.new.out ++ c.split_at_mut-front.result.1.now)) c.commit.result)) f.tree f.broken _ c.in-Some.is c.requires.unmarked
    (subst (λ (l : List ℕ). Went C E (handle_of a key f.header (Some t) false) (handle_of b key f.header (Some t) false) Commitment (commitment_reply l c.commit.result)) (sym front)
    (went_commitment C E key f.header t a x.0 x.1 (g.A.Algorithm.key_list f.chunk_key) f.derived b r.kept r.moved r.strays c.commit.new.out c.commit.result r.quiet
    (on_ok c.commit.result r.commitment (λ is. is x.0 x.1)) r.failed))
