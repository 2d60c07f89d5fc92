use Rattle.std.proofs.Common.{refl, sym, ◌∙◌, subst}
use Rattle.std.proofs.lemmas.Bool.{false≢true}
use Rattle.raf_format.specs.Cipher.{cipher_of}
use Rattle.raf.specs.Handle.{Handle}
use Rattle.raf.specs.Stepped.{Stepped, done_reply}
use Rattle.raf.specs.declared.command.Command.TheVariants.{Sync}
use Rattle.raf.proofs.Syncs.{synced}
use Rattle.raf.proofs.file.Raf.sync.Goals as goal

pub returns : goal.returns
returns g c =
    let C = cipher_of g.A.Algorithm.variant in
    let E = g.H.MerkleHasher.hashing in
    let file = c.self.inside.file in
    let old : Handle = record { outside = c.self.inside.parts; key = g.A.Algorithm.key_list file.key; header = file.header; tree = file.tree; broken = file.broken } in
    let new : Handle = record { outside = c.sync.new.self; key = g.A.Algorithm.key_list file.key; header = file.header; tree = file.tree; broken = file.broken } in
    record {
      stepped = subst (λ (h : Handle). Stepped C E h new Sync (done_reply c.sync.result)) c.self.view_is (record {
        barred = λ set. absurd (false≢true (sym c.if-self.false ∙ set));
        went = λ _. synced C E old new refl refl refl c.if-self.false c.sync.ensures.bytes c.sync.ensures.left c.sync.ensures.moved c.sync.ensures.strays c.sync.result
            c.sync.ensures.synced c.sync.ensures.failed c.sync.ensures.quiet;
      });
    }
