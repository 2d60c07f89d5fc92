-- Each byte goes through the S-box.
use Rattle.std.proofs.Common.{ℕ, ◌%◌, ◌/◌, List, [], ◌∷◌, slice_index, arith, ◌∙◌, ap}
use Rattle.std.specs.Int.{from_le_bytes, w32}
use Rattle.softaes.proofs.TableColumns.{boxed}
use Rattle.softaes.specs.declared.unprotected.tables.TheConstants.{SBOX}
use Rattle.softaes.proofs.unprotected.key_schedule.SoftAesSubWord.sub_word.Goals as goal

pub returns : goal.returns
returns c =
    let w = c.args.word in
    let bytes = c.to_le_bytes.ensures in
    let read = λ (v : List ℕ) (k : ℕ). slice_index SBOX (slice_index v k) in
    boxed (w % 256) (w / 256 % 256) (w / 65536 % 256) (w / 16777216 % 256) c.from_le_bytes.result (omega arith) (omega arith) (omega arith) (omega arith)
    (c.from_le_bytes.ensures ∙ ap (λ (v : List ℕ). from_le_bytes w32 (read v 0 ∷ read v 1 ∷ read v 2 ∷ read v 3 ∷ [])) bytes)
