use Rattle.std.proofs.Common.{◌≡◌, ap}
use Rattle.aegis_core.specs.Sealing.{seal}
use Rattle.aegis_core.proofs.Laws.{is_sealing}
use Rattle.aegis_aead.proofs.round_trip.encrypt_checked.Goals as goal

-- both texts seal to one cipher text, which determines the message
pub returns-clause-opened : goal.returns-clause-opened
returns-clause-opened g c =
    let laws = is_sealing g.A.KeySizeUser.variant g.A.AeadCore.TAG_SIZE g.A.AeadCore.tag_size in
    let held = g.A.KeySizeUser.held c.args.aead.now in
    let nonce = g.A.AeadCore.nonce_bytes c.args.nonce.now in
    let same : seal g.A.KeySizeUser.variant g.A.AeadCore.TAG_SIZE held nonce c.args.associated_data.now c.decrypt_inout_detached.new.output
    ≡ seal g.A.KeySizeUser.variant g.A.AeadCore.TAG_SIZE held nonce c.args.associated_data.now c.args.message.now
    = cc (c.in_ok-tag.ensures, c.in_ok-decrypt_inout_detached.ensures.message) in
    laws.one_message held nonce c.args.associated_data.now _ _ (ap (λ (sealed : _ × _). sealed.0) same)
