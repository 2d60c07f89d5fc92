-- Why a file was not opened, from why no header was found.
use Rattle.std.proofs.Common.{inl, List, ℕ, Option}
use Rattle.raf_tree.specs.Hashing.{Hashing}
use Rattle.raf_format.specs.Cipher.{Cipher}
use Rattle.raf.specs.Opening.{WhyNotLaidOut, WhyNotOpened}
use Rattle.raf_io.specs.declared.errors.ErrorKind.{ErrorKind}

pub not_opened : (C : Cipher) (E : List ℕ → Hashing) (key : List ℕ) (setting : Option (List ℕ)) (most : Option ℕ) (b : List ℕ) (kind : ErrorKind)
    → WhyNotLaidOut C b kind → WhyNotOpened C E key setting most b kind
not_opened C E key setting most b kind why = inl why
