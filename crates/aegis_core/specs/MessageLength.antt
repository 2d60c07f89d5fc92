-- What contracts see of the length of a message that comes in pieces (this project's own).
use Rattle.std.specs.Prelude.{ℕ}
use Rattle.aegis_core.specs.declared.message_length.MessageLength.{MessageLength}

-- how many bytes have come
abbrev pub message_total : MessageLength → ℕ
message_total l = l.total
