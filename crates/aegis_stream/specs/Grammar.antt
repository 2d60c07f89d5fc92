-- The frames of a sealed stream (this project's own).
use Rattle.std.specs.Prelude.{ℕ, ◌∷◌, ◌++◌, ◌||◌, ◌&&◌, List, length, Bool, true, false, nat_le, nat_lt}
use Rattle.std.specs.Int.{w32, w64, to_le_bytes}
use Rattle.aegis_core.specs.Sealing.{seal}
use Rattle.aegis_core.specs.declared.variant.Variant.TheVariants.{Aegis128L}

-- the length of a stream's message: 1 to 65536 bytes; the last one may be empty
abbrev pub is_message_len : Bool → ℕ → Bool
is_message_len last n = nat_le n 65536 && (last || nat_lt 0 n)

-- a frame's mark: 1 at the end of the stream, 0 where more frames follow
abbrev pub mark_of : Bool → ℕ
mark_of true = 1
mark_of false = 0

-- a frame's first 5 bytes: the mark, and the message's length, least byte first
abbrev pub frame_head : Bool → ℕ → List ℕ
frame_head last n = mark_of last ∷ to_le_bytes w32 n

-- the nonce of frame number i: the stream's prefix, and i, least byte first
abbrev pub frame_nonce : List ℕ → ℕ → List ℕ
frame_nonce prefix i = prefix ++ to_le_bytes w64 i

-- frame number i, with this message: its first 5 bytes, the cipher text under AEGIS-128L with these bytes as
-- associated data, and the tag of 16 bytes
unfoldable pub frame : List ℕ → List ℕ → ℕ → Bool → List ℕ → List ℕ
frame key prefix i last m =
    let head = frame_head last (length m) in
    let sealed = seal Aegis128L 16 key (frame_nonce prefix i) head m in
    head ++ sealed.0 ++ sealed.1
