use Rattle.raf_format.specs.Cipher.{cipher_of}
use Rattle.raf.specs.Handle.{handle_of}
use Rattle.raf.specs.Stepped.{Went, verify_reply}
use Rattle.raf.specs.declared.command.Command.TheVariants.{Verify}
use Rattle.raf.proofs.TreeSteps.{went_unmerkled, went_verified, paired_setting, at_these}
use Rattle.raf.proofs.TreeSteps.IsTreeCommand.{verify}
use Rattle.raf.proofs.verifying.verify_file.Goals as goal

pub returns-in-None-clause-went : goal.returns-in-None-clause-went
returns-in-None-clause-went g c =
    let C = cipher_of g.A.Algorithm.variant in
    let E = g.H.MerkleHasher.hashing in
    let f = c.args.file.now in
    let key = g.A.Algorithm.key_list f.key in
    let a = c.args.parts.now in
    at_these (λ o b. Went C E (handle_of a key f.header o b) (handle_of a key f.header o b) Verify _) f.tree f.broken _ c.in-None.is c.requires.unmarked
    (went_unmerkled C E a key f.header Verify verify)

pub returns-in-Some-clause-went : goal.returns-in-Some-clause-went
returns-in-Some-clause-went g c =
    let C = cipher_of g.A.Algorithm.variant in
    let E = g.H.MerkleHasher.hashing in
    let f = c.args.file.now in
    let key = g.A.Algorithm.key_list f.key in
    let a = c.args.parts.now in
    let b = c.first_bad.new.parts in
    let x = paired_setting E a.setting f.tree c.in-Some.tree c.requires.paired c.in-Some.is in
    at_these (λ o k. Went C E (handle_of a key f.header o k) (handle_of b key f.header o k) Verify (verify_reply c.first_bad.result)) f.tree f.broken _ c.in-Some.is c.requires.unmarked
    (went_verified C E key f.header c.in-Some.tree a x.0 x.1 (g.A.Algorithm.key_list f.chunk_key) f.derived b c.first_bad.result c.first_bad.ensures)
