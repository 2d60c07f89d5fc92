use Rattle.std.proofs.Common.{◌≡◌, eqb, true, get_or, length, refl, sym, ap, ◌∙◌, arith}
use Rattle.std.specs.Int.{w32, from_le_bytes}
use Rattle.std.proofs.lemmas.Bool.{eqb-true, eqb-false}
use Rattle.aegis_stream.specs.Grammar.{is_message_len}
use Rattle.aegis_stream.specs.Unspell.{length_in}
use Rattle.aegis_stream.proofs.Heads.{nothing_formed, mark_malformed, short_formed, length_malformed, head_formed}
use Rattle.aegis_stream.proofs.Frames.{most}
use Rattle.aegis_stream.proofs.head.read_head.Goals as goal

pub returns-then-is_empty-clause-ok : goal.returns-then-is_empty-clause-ok
returns-then-is_empty-clause-ok c =
    let none : length c.args.bytes.now ≡ 0 = eqb-true (length c.args.bytes.now) 0 (sym c.is_empty.ensures ∙ c.if-is_empty.true) in
    (nothing_formed c.args.bytes.now none, omega arith)

pub returns-then-mark-gt1-clause-malformed : goal.returns-then-mark-gt1-clause-malformed
returns-then-mark-gt1-clause-malformed c =
    let some = eqb-false (length c.args.bytes.now) 0 (sym c.is_empty.ensures ∙ c.if-is_empty.false) in
    mark_malformed c.args.bytes.now (omega arith) c.if-mark-gt1.true

pub returns-then-bytes-lt-HEAD_BYTES-clause-ok : goal.returns-then-bytes-lt-HEAD_BYTES-clause-ok
returns-then-bytes-lt-HEAD_BYTES-clause-ok c =
    (short_formed c.args.bytes.now c.if-mark-gt1.false c.if-bytes-lt-HEAD_BYTES.true, c.if-bytes-lt-HEAD_BYTES.true)

pub returns-then-not-fits-clause-malformed : goal.returns-then-not-fits-clause-malformed
returns-then-not-fits-clause-malformed c =
    let b = c.args.bytes.now in
    let len : c.from_le_bytes-len.result ≡ length_in b = c.from_le_bytes-len.ensures ∙ ap (from_le_bytes w32) c.copy_from_slice.ensures.after in
    length_malformed b c.if-bytes-lt-HEAD_BYTES.false (ap (is_message_len (eqb (get_or b 0 0) 1)) (sym len) ∙ sym c.fits.ensures ∙ c.if-not-fits.true)

pub returns-clause-ok : goal.returns-clause-ok
returns-clause-ok c =
    let b = c.args.bytes.now in
    let len : c.from_le_bytes-len.result ≡ length_in b = c.from_le_bytes-len.ensures ∙ ap (from_le_bytes w32) c.copy_from_slice.ensures.after in
    let fits : is_message_len (eqb (get_or b 0 0) 1) c.from_le_bytes-len.result ≡ true = sym c.fits.ensures ∙ c.if-not-fits.false in
    record {
      formed = head_formed b c.if-mark-gt1.false (ap (is_message_len (eqb (get_or b 0 0) 1)) (sym len) ∙ fits);
      long = c.if-bytes-lt-HEAD_BYTES.false;
      last = refl;
      len = len;
      most = most (eqb (get_or b 0 0) 1) c.from_le_bytes-len.result fits;
    }
