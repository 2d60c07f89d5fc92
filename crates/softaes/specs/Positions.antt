-- The positions of planes at which a block's bytes stand (this project's own).
use Rattle.std.specs.Prelude.{◌≡◌, ℕ, ◌+◌, ◌*◌, ◌%◌, ◌<◌, List}
use Rattle.aes_spec.specs.Planes.{byte_at}
use Rattle.aes_spec.specs.Words.{word_byte}

-- byte k of lo stands at position 8k of the planes, byte k of hi at position 8k + 4
pub record AreAt (planes : List ℕ) (lo hi : ℕ) : Type 0 where
  pub low : (k : ℕ) → k < 8 → byte_at planes (8 * k) ≡ word_byte lo k
  pub high : (k : ℕ) → k < 8 → byte_at planes (8 * k + 4) ≡ word_byte hi k

-- at all other positions stands 0
pub record HaveNoOthers (planes : List ℕ) : Type 0 where
  pub zero_at : (i : ℕ) → i < 64 → (i % 4 ≡ 0 → ⊥) → byte_at planes i ≡ 0
