-- An open file is what its storage opens to; and it holds again what a storage opens to whose first bytes and length are as before.
use Rattle.std.proofs.Common.{◌≡◌, ℕ, ◌+◌, ◌≤◌, List, ◌++◌, length, take, drop, Some, refl, sym, ◌∙◌, ap, subst, arith}
use Rattle.std.proofs.lemmas.List.{take-take, drop-take, take-append-le, length-append, length-take, length-drop}
use Rattle.raf_io.specs.Storage.{spliced}
use Rattle.raf_io.proofs.Splices.{spliced_inside}
use Rattle.raf_format.specs.Cipher.{Cipher, IsLawful}
use Rattle.raf_format.specs.Header.{between, header_tag}
use Rattle.raf_format.specs.File.{File, IsFile, Opens, file_of}
use Rattle.raf.specs.Handle.{Handle, Holds}
use Rattle.raf_format.specs.declared.header.Header.{Header}
use Rattle.raf_format.proofs.Opened.{opens_of}

pub holds_opens : (C : Cipher) (lawful : IsLawful C) (h : Handle) (F : File) (held : Holds C h F) → Opens C h.key held.bytes F
holds_opens C lawful h F held = subst (Opens C h.key held.bytes) (sym held.file) (opens_of C lawful h.key held.bytes h.header held.is_file)

-- after the storage was lent: where the first 96 bytes and the length are as before, the handle holds what the bytes open to now
pub holds_again : (C : Cipher) (old new : Handle) (F : File) (c : List ℕ) (held : Holds C old F) → new.key ≡ old.key → new.header ≡ old.header → new.outside.bytes ≡ Some c
    → take 96 c ≡ take 96 held.bytes → length c ≡ length held.bytes → Holds C new (file_of C new.key new.header c)
holds_again C old new F c held key header tells front long = record {
  bytes = c;
  tells = tells;
  is_file = subst (λ (k : List ℕ). IsFile C k c new.header) (sym key) (subst (λ (h : Header). IsFile C old.key c h) (sym header) file);
  file = refl;
}
  where
    b : List ℕ
    b = held.bytes

    head : take 64 c ≡ take 64 held.bytes
    head = sym (take-take 64 96 c (omega arith)) ∙ ap (λ (l : List ℕ). take 64 l) front ∙ take-take 64 96 held.bytes (omega arith)

    back : (l : List ℕ) → between 64 96 (take 96 l) ≡ between 64 96 l
    back l = ap (λ (x : List ℕ). take 32 x) (drop-take 64 32 l) ∙ take-take 32 32 (drop 64 l) (omega arith)

    tag : between 64 96 c ≡ between 64 96 held.bytes
    tag = sym (back c) ∙ ap (between 64 96) front ∙ back held.bytes

    file : IsFile C old.key c old.header
    file = record {
      says = record { long = omega (arith, long, held.is_file.says.long); head = head ∙ held.is_file.says.head; fields = held.is_file.says.fields };
      algorithm = held.is_file.algorithm;
      length_fits = long ∙ held.is_file.length_fits;
      below = omega (arith, long, held.is_file.below);
      tagged = tag ∙ held.is_file.tagged ∙ ap (header_tag C old.key) (sym head);
    }

-- bytes that are put behind the header, in place of others, leave the header and the length
pub put_inside : (at : ℕ) (new b : List ℕ) → 96 ≤ at → at + length new ≤ length b → (take 96 (spliced at new b) ≡ take 96 b) × (length (spliced at new b) ≡ length b)
put_inside at new b behind inside = (
  ap (λ (l : List ℕ). take 96 l) (sym (spliced_inside at new b inside))
      ∙ take-append-le 96 (take at b ++ new) (drop (at + length new) b) (omega (arith, front, whole))
      ∙ take-append-le 96 (take at b) new (omega (arith, front))
      ∙ take-take 96 at b behind,
  ap (λ (l : List ℕ). length l) (sym (spliced_inside at new b inside))
      ∙ omega (arith, inside, length-append (take at b ++ new) (drop (at + length new) b), whole, length-take at b, length-drop (at + length new) b),
)
  where
    front : 96 ≤ length (take at b)
    front = omega (arith, behind, inside, length-take at b)

    whole : length (take at b ++ new) ≡ length (take at b) + length new
    whole = length-append (take at b) new
