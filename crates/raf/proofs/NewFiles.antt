-- A header that is put in place of what a storage holds.
use Rattle.std.proofs.Common.{◌≡◌, ℕ, ◌+◌, List, ◌++◌, length, drop, Option, Some, ◌∙◌, ap, arith, length-append}
use Rattle.std.specs.Option.{option_map}
use Rattle.std.proofs.lemmas.List.{take_at}
use Rattle.raf_io.specs.Storage.{spliced, resized}
use Rattle.raf_io.proofs.Splices.{resized_cut}

-- in front of the bytes that it doesn't cover
pub spliced_first : (new b : List ℕ) → spliced 0 new b ≡ new ++ drop (length new) b
spliced_first new b =
    let n : 0 + length new ≡ length new = omega arith in
    ap (λ (l : List ℕ). l ++ new ++ drop (0 + length new) b) (resized_cut 0 b (omega arith)) ∙ ap (λ (k : ℕ). new ++ drop k b) n

-- cut to its length it is all that there is
pub cut_to_header : (new b : List ℕ) (size : ℕ) → length new ≡ size → resized size (spliced 0 new b) ≡ new
cut_to_header new b size len =
    ap (λ (l : List ℕ). resized size l) (spliced_first new b)
    ∙ resized_cut size (new ++ drop (length new) b) (omega (arith, len, length-append new (drop (length new) b)))
    ∙ take_at new (drop (length new) b) size len

-- what a storage tells after a write at its start and a cut
pub told_cut : (old mid new : Option (List ℕ)) (header b : List ℕ) (size : ℕ) → old ≡ Some b → length header ≡ size
    → mid ≡ option_map (spliced 0 header) old → new ≡ option_map (resized size) mid → new ≡ Some header
told_cut old mid new header b size tells len written cut =
    cut ∙ ap (option_map (resized size)) (written ∙ ap (option_map (spliced 0 header)) tells) ∙ ap (λ (l : List ℕ). Some l) (cut_to_header header b size len)
