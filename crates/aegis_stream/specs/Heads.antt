-- What reading a frame's first bytes gives (this project's own).
use Rattle.std.specs.Prelude.{◌≡◌, ℕ, ◌<◌, ◌≤◌, List, length, slice_index, false, nat_eq, Option, Some, None}
use Rattle.aegis_stream.specs.Unspell.{is_malformed, length_in}
use Rattle.aegis_stream.specs.declared.head.Head.{Head}

-- the head of a frame that begins with b
pub record ReadsHead (b : List ℕ) (h : Head) : Type 0 where
  pub formed : is_malformed b ≡ false
  pub long : 5 ≤ length b
  pub last : h.last ≡ nat_eq (slice_index b 0) 1
  pub len : h.len ≡ length_in b
  pub most : h.len ≤ 65536

abbrev pub Reads : List ℕ → Option Head → Type 0
Reads b (Some h) = ReadsHead b h
Reads b None = (is_malformed b ≡ false) × (length b < 5)
