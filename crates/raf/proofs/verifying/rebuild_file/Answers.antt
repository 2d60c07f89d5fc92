use Rattle.std.proofs.Common.{Option, Some, None, sym, subst}
use Rattle.raf_tree.specs.Kept.{Kept as Tree}
use Rattle.raf_format.specs.Cipher.{cipher_of}
use Rattle.raf.specs.Handle.{Handle, handle_of}
use Rattle.raf.specs.Growing.{Grew}
use Rattle.raf.specs.Stepped.{Went, done_reply}
use Rattle.raf_io.specs.Kinds.{kind_of}
use Rattle.raf_io.specs.declared.errors.ErrorKind.TheVariants.{MerkleNotEnabled}
use Rattle.raf.specs.declared.command.Command.TheVariants.{Rebuild}
use Rattle.raf.specs.declared.command.Reply.TheVariants.{Refused}
use Rattle.raf.proofs.HandedOn.{reply_handed_on}
use Rattle.raf.proofs.TreeSteps.{went_unmerkled, paired_setting, at_these}
use Rattle.raf.proofs.TreeSteps.IsTreeCommand.{rebuild}
use Rattle.raf.proofs.Openings.{none_is, some_tree}
use Rattle.raf.proofs.TreeRebuilds.{went_unseen, went_second}
use Rattle.raf.proofs.verifying.rebuild_file.Goals as goal

pub returns-then-is_none-clause-went : goal.returns-then-is_none-clause-went
returns-then-is_none-clause-went g c =
    let C = cipher_of g.A.Algorithm.variant in
    let E = g.H.MerkleHasher.hashing in
    let f = c.args.file.now in
    let key = g.A.Algorithm.key_list f.key in
    let a = c.args.parts.now in
    at_these (λ o b. Went C E (handle_of a key f.header o b) (handle_of a key f.header o b) Rebuild (Refused MerkleNotEnabled)) f.tree f.broken None (none_is f.tree c.if-is_none.ensures) c.requires.unmarked
    (went_unmerkled C E a key f.header Rebuild rebuild)

pub returns-in_err-open_all-clause-went : goal.returns-in_err-open_all-clause-went
returns-in_err-open_all-clause-went g c =
    let C = cipher_of g.A.Algorithm.variant in
    let E = g.H.MerkleHasher.hashing in
    let f = c.args.file.now in
    let key = g.A.Algorithm.key_list f.key in
    let a = c.args.parts.now in
    let b = c.open_all.new.parts in
    let t = some_tree f.tree c.if-is_none.ensures in
    let x = paired_setting E a.setting f.tree t.0 c.requires.paired t.1 in
    let e = c.in_err-open_all.field-0.0 in
    reply_handed_on c.from_residual.result e (λ r. Went C E (handle_of a key f.header f.tree f.broken) (handle_of b key f.header f.tree f.broken) Rebuild r) c.from_residual.ensures.1
    (at_these (λ o k. Went C E (handle_of a key f.header o k) (handle_of b key f.header o k) Rebuild (Refused (kind_of e))) f.tree f.broken (Some t.0) t.1 c.requires.unmarked
    (went_unseen C E key f.header t.0 a x.0 x.1 (g.A.Algorithm.key_list f.chunk_key) f.derived b e c.in_err-open_all.ensures))

pub returns-clause-went : goal.returns-clause-went
returns-clause-went g c =
    let C = cipher_of g.A.Algorithm.variant in
    let E = g.H.MerkleHasher.hashing in
    let f = c.args.file.now in
    let key = g.A.Algorithm.key_list f.key in
    let a = c.args.parts.now in
    let m = c.open_all.new.parts in
    let b = c.grow_file.new.parts in
    let n = c.grow_file.new.file in
    let t = some_tree f.tree c.if-is_none.ensures in
    let x = paired_setting E a.setting f.tree t.0 c.requires.paired t.1 in
    let r = c.grow_file.result in
    let K = g.A.Algorithm.key_list f.chunk_key in
    let grew : Grew C E K f.header m b (Some t.0) n.tree n.broken r = subst (λ (o : Option Tree). Grew C E K f.header m b o n.tree n.broken r) t.1 c.grow_file.ensures.grew in
    let went = went_second C E key f.header t.0 a x.0 x.1 K f.derived m b c.in_ok-open_all.ensures n.tree n.broken r c.grow_file.ensures.unmarked grew in
    subst (λ (h : Handle). Went C E (handle_of a key f.header f.tree f.broken) h Rebuild (done_reply r))
    (λ i. handle_of b (g.A.Algorithm.key_list (sym c.grow_file.ensures.same.0 i)) (sym c.grow_file.ensures.same.1 i) n.tree n.broken)
    (at_these (λ o k. Went C E (handle_of a key f.header o k) (handle_of b key f.header n.tree n.broken) Rebuild (done_reply r)) f.tree f.broken (Some t.0) t.1 c.requires.unmarked went)
