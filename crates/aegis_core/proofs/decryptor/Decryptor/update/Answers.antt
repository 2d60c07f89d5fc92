use Rattle.aegis_core.specs.Family.{keyed}
use Rattle.aegis_core.specs.Sealing.{family_of}
use Rattle.aegis_core.proofs.StreamsLemmas.{grown, pos_of}
use Rattle.aegis_core.proofs.decryptor.Decryptor.update.Goals as goal

pub returns-clause-holds : goal.returns-clause-holds
returns-clause-holds g c = λ key nonce ad text h.
    let v = g.K.CipherKind.variant in
    let f = family_of v in
    let p = c.put_decrypted.ensures in
    record {
      holds = p.holds f key nonce ad h.holds;
      text = grown f (keyed f key nonce ad) c.args.self.now.out.bytes c.put_decrypted.new.self.bytes text c.args.ciphertext.now (pos_of v) p.prefix h.text (p.text f key nonce ad h.holds);
    }
