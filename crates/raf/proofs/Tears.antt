-- Bytes that differ in a range alone, where a storage tells them; what was taken of a random source; and results that are handed on.
use Rattle.std.proofs.Common.{◌≡◌, ◌≢◌, ℕ, ◌+◌, ◌<◌, ◌≤◌, min, List, [], length, take, drop, Option, Some, None, Result, Ok, Err, subst, refl, sym, ◌∙◌, ap, arith, length-append}
use Rattle.std.specs.Result.{OnOk, OnErr, IsErrAnd}
use Rattle.std.specs.Option.{option_map}
use Rattle.std.proofs.lemmas.List.{take-take, drop-take}
use Rattle.raf_io.specs.Storage.{Torn, Cut, Told, spliced}
use Rattle.raf_io.specs.Source.{Takes, TakesAtMost, IsShort}
use Rattle.raf_io.proofs.Splices.{torn_same}
use Rattle.raf.specs.Outside.{Outside, Quiet}
use Rattle.raf.specs.Carry.{TornTo, TrimmedTo, Hindered}
use Rattle.raf_tree.specs.Kept.{Kept}
use Rattle.raf_io.specs.declared.errors.Error.{Error}
use Rattle.raf_io.specs.declared.errors.ErrorKind.{ErrorKind}
use Rattle.raf_io.specs.declared.errors.ErrorKind.TheVariants.{Io, InvalidArgument, AuthenticationFailed, AlreadyExists, NotFound, Overflow, MerkleNotEnabled, CorruptedChunk, Rng, Hash, Broken, OutOfMemory}
use Rattle.raf.proofs.Moves.{caused_later, takes_none}
use Rattle.raf.proofs.Placed.{torn_part, torn_wider, torn_then, torn_behind}

-- a result that is the error of another
pub handed_result : {T : Type 0} (r : Result T Error) (e : Error) (P : Result T Error → Type 0) → IsErrAnd r (λ x. x ≡ e) → P (Err e) → P r
handed_result (Ok x) e P is holds = absurd is
handed_result (Err x) e P is holds = subst (λ (y : Error). P (Err y)) (sym is) holds

-- a write, whether or not it fails
pub torn_to : {E : Type 0} (r : Result (Unit {0}) E) (old new : Option (List ℕ)) (offset : ℕ) (text b : List ℕ)
    → OnOk r (new ≡ option_map (spliced offset text) old) → OnErr r (Told (Torn offset (length text)) old new) → old ≡ Some b → TornTo offset (length text) b new
torn_to (Ok x) old new offset text b written torn is = (spliced offset text b, written ∙ ap (option_map (spliced offset text)) is, torn_part offset (length text) text b (omega arith))
torn_to (Err e) old new offset text b written torn is = go new (subst (λ (o : Option (List ℕ)). Told (Torn offset (length text)) o new) is torn)
  where
    go : (new : Option (List ℕ)) → Told (Torn offset (length text)) (Some b) new → TornTo offset (length text) b new
    go None t = absurd t
    go (Some c) t = (c, refl, t)

-- nothing was written
pub torn_none : (at n : ℕ) (b : List ℕ) (old new : Option (List ℕ)) → old ≡ Some b → new ≡ old → TornTo at n b new
torn_none at n b old new is same = (b, same ∙ is, torn_same at n b)

-- one write after another, both in a range
pub torn_more : (at n lo m : ℕ) (b : List ℕ) (old mid new : Option (List ℕ)) → old ≡ Some b
    → ((b : List ℕ) → old ≡ Some b → TornTo lo m b mid)
    → ((b : List ℕ) → mid ≡ Some b → TornTo at n b new) → lo ≤ at → at + n ≤ lo + m → TornTo lo m b new
torn_more at n lo m b old mid new is first then le ends =
    let f = first b is in
    let t = then f.0 f.1 in
    (t.0, t.1, torn_then lo m b f.0 t.0 f.2 (torn_wider at n lo m f.0 t.0 t.2 le ends))

pub torn_wide : (at n lo m : ℕ) (b : List ℕ) (new : Option (List ℕ)) → TornTo at n b new → lo ≤ at → at + n ≤ lo + m → TornTo lo m b new
torn_wide at n lo m b new t le ends = (t.0, t.1, torn_wider at n lo m b t.0 t.2 le ends)

-- a header was written, whether or not that failed, where the size is another
pub trimmed_torn : (before size layout : ℕ) (b : List ℕ) (new : Option (List ℕ)) → size ≢ before → TornTo 0 96 b new → TrimmedTo before size layout b new
trimmed_torn before size layout b new other t = (
  t.0,
  t.1,
  λ same. absurd (other same),
  λ at len far inside short. ap (λ (l : List ℕ). take len l) (torn_behind 0 96 at b t.0 t.2 (omega (arith, far))),
)

-- where the storage is cut, whether or not that fails
abbrev pub CutTo : ℕ → List ℕ → Option (List ℕ) → Type 0
CutTo n old new = (c : List ℕ) × (new ≡ Some c) × Cut n old c

-- and then the storage was cut
pub trimmed_cut : (before size layout : ℕ) (old mid new : Option (List ℕ)) → size < before → ((b : List ℕ) → old ≡ Some b → TornTo 0 96 b mid)
    → ((b : List ℕ) → mid ≡ Some b → CutTo layout b new) → (b : List ℕ) → old ≡ Some b → TrimmedTo before size layout b new
trimmed_cut before size layout old mid new smaller torn cut b is =
    let t = torn b is in
    let k = cut t.0 t.1 in (
      k.0,
      k.1,
      λ same. absurd (omega (arith, same, smaller)),
      λ at len far inside short.
          let fits : at + len ≤ layout = short smaller in
          let longer : length b ≤ length t.0 = t.2.no_shorter in
          sym (drop-take at len k.0)
          ∙ ap (λ (l : List ℕ). drop at l) (sym (take-take (at + len) (min layout (length t.0)) k.0 (omega (arith, fits, longer, inside))) ∙ ap (λ (l : List ℕ). take (at + len) l) k.2.front ∙ take-take (at + len) layout t.0 fits)
          ∙ drop-take at len t.0
          ∙ ap (λ (l : List ℕ). take len l) (torn_behind 0 96 at b t.0 t.2 (omega (arith, far))),
    )

-- what a random source gave
pub takes_most : (old new : Option (List ℕ)) (n m : ℕ) → n ≤ m → TakesAtMost old n new → TakesAtMost old m new
takes_most old new n m le t = (t.0, omega (arith, t.1), t.2)

pub takes_nothing : (old new : Option (List ℕ)) (n : ℕ) → new ≡ old → TakesAtMost old n new
takes_nothing old new n same = ([], omega arith, subst (λ (o : Option (List ℕ)). Takes old [] o) (sym same) (takes_none old))

-- it was short before, where it is short now
pub short_then : (a b : Option (List ℕ)) (xs : List ℕ) (n m : ℕ) → Takes a xs b → length xs + n ≤ m → IsShort b n → IsShort a m
short_then None None xs n m t le short = absurd short
short_then None (Some y) xs n m t le short = absurd t
short_then (Some x) None xs n m t le short = absurd t
short_then (Some x) (Some y) xs n m t le short = omega (arith, ap length t, length-append xs y, short, le)

-- a change that stops after calls that had no fault
pub hindered_later : (n m : ℕ) (kind : ErrorKind) (a b c : Outside) (tree : Option Kept) (xs : List ℕ) → Quiet a b → b.exact ≡ a.exact → Takes a.left xs b.left → length xs + n ≤ m
    → Hindered n kind b c tree → Hindered m kind a c tree
hindered_later n m Io a b c tree xs q same t le f = caused_later Io a b c q f
hindered_later n m Rng a b c tree xs q same t le f = (caused_later Rng a b c q f.0, λ exact. short_then a.left b.left xs n m t le (f.1 (same ∙ exact)))
hindered_later n m Hash a b c tree xs q same t le f = (caused_later Hash a b c q f.0, f.1)
hindered_later n m (InvalidArgument r) a b c tree xs q same t le f = absurd f
hindered_later n m AuthenticationFailed a b c tree xs q same t le f = absurd f
hindered_later n m AlreadyExists a b c tree xs q same t le f = absurd f
hindered_later n m NotFound a b c tree xs q same t le f = absurd f
hindered_later n m Overflow a b c tree xs q same t le f = absurd f
hindered_later n m MerkleNotEnabled a b c tree xs q same t le f = absurd f
hindered_later n m (CorruptedChunk i) a b c tree xs q same t le f = absurd f
hindered_later n m Broken a b c tree xs q same t le f = absurd f
hindered_later n m OutOfMemory a b c tree xs q same t le f = absurd f
