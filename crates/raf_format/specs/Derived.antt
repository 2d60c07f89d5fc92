-- Why no key is derived for a context (this project's own).
use Rattle.std.specs.Prelude.{ℕ, ◌<◌, ◌≤◌, ◌≡◌, ◌⊎◌, if◌then◌else◌, nat_eq}
use Rattle.raf_format.specs.declared.error.FormatError.{FormatError}
use Rattle.raf_format.specs.declared.error.FormatError.TheVariants.{KeyLength, ContextTooLong}

-- keys have 16 or 32 bytes
abbrev pub IsKeyLen : ℕ → Type 0
IsKeyLen n = (n ≡ 16) ⊎ (n ≡ 32)

-- the most bytes of a context, for keys of 16 and of 32 bytes
abbrev pub most_context : ℕ → ℕ
most_context key_len = if nat_eq key_len 16 then 120 else 72

-- a key of this length gives one for a context of this length
pub record CanDerive (key_len context_len : ℕ) : Type 0 where
  pub key : IsKeyLen key_len
  pub context : context_len ≤ most_context key_len

-- the key's length comes before the context's
abbrev pub WhyNotDerived : ℕ → ℕ → FormatError → Type 0
WhyNotDerived key_len context_len KeyLength = IsKeyLen key_len → ⊥
WhyNotDerived key_len context_len ContextTooLong = IsKeyLen key_len × (most_context key_len < context_len)
WhyNotDerived key_len context_len _ = ⊥
