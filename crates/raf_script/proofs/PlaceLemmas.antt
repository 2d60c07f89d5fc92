-- Places in a text by any grammar of lines, and what a reading of one line shows of its place.
use Rattle.std.proofs.Common.{◌≡◌, ℕ, ◌+◌, ◌≤◌, ◌<◌, Bool, true, false, List, [], ◌∷◌, ◌++◌, length, Option, Some, None, Result, Ok, Err, refl, sym, ap, ◌∙◌, append_assoc, arith, subst, inl, inr}
use Rattle.std.specs.Prelude.{if◌then◌else◌, ◌⊎◌, nat_eq}
use Rattle.std.specs.List.{join_with_byte, onto_first}
use Rattle.std.proofs.lemmas.Bool.{eqb-true}
use Rattle.std.proofs.lemmas.List.{append-nil}
use Rattle.std.proofs.lemmas.List.Splits.{slice_split-cons_yes, slice_split-cons_no}
use Rattle.std.proofs.lemmas.Grind.{flat_map-append}
use Rattle.raf_script.specs.Words.{parts, words}
use Rattle.raf_script.specs.Lines.{◌>>=◌, fits, first, lines}
use Rattle.raf_script.specs.Places.{line_text, text_of, AllFit, IsFirstWrong}
use Rattle.raf_script.proofs.PartsLemmas.{line_read, line_missing, lines_none}
use Rattle.raf_script.proofs.ItemLemmas.{first_ok}
use Rattle.raf_script.proofs.ReadingLemmas.{line_joined}
use Rattle.raf_script.proofs.SpellingLemmas.{IsLine, lines_of_front, words_of_line}

-- ---- a reading of line n names line n

pub record Names {A : Type 0} (n : ℕ) (r : Result A ℕ) : Type 0 where
  pub says : (m : ℕ) → r ≡ Err m → m ≡ n

pub err_value : {A : Type 0} {x y : ℕ} → ◌≡◌ {A = Result A ℕ} (Err x) (Err y) → x ≡ y
err_value h = (cc)

pub names_ok : {A : Type 0} (n : ℕ) (x : A) → Names n (Ok x)
names_ok n x = record { says = λ m h. (cc) }

pub names_err : {A : Type 0} (n : ℕ) → Names {A = A} n (Err n)
names_err n = record { says = λ m h. sym (err_value h) }

pub names_fits : {A : Type 0} (n : ℕ) (o : Option A) → Names n (fits n o)
names_fits n (Some x) = names_ok n x
names_fits n None = names_err n

pub names_if : {A : Type 0} (n : ℕ) (t : Bool) (r s : Result A ℕ) → Names n r → Names n s → Names n (if t then r else s)
names_if n true r s p q = p
names_if n false r s p q = q

pub names_bind : {A B : Type 0} (n : ℕ) (r : Result A ℕ) (f : A → Result B ℕ) → Names n r → ((x : A) → Names n (f x)) → Names n (r >>= f)
names_bind n (Ok x) f p q = q x
names_bind n (Err k) f p q = record { says = λ m h. sym (err_value h) ∙ p.says k refl }

pub names_first : (n : ℕ) (ls : List (Option (List ℕ))) → Names n (first n ls)
names_first n [] = names_err n
names_first n (None ∷ more) = names_err n
names_first n (Some line ∷ more) = names_ok n (line, more)

-- a reading that ends badly ended here or later
pub by_err : {A B P : Type 0} (r : Result A ℕ) (f : A → Result B ℕ) (m : ℕ) → (r >>= f) ≡ Err m → (r ≡ Err m → P) → ((x : A) → r ≡ Ok x → f x ≡ Err m → P) → P
by_err (Ok x) f m h wrong go = go x refl h
by_err (Err n) f m h wrong go = wrong (ap (λ (k : ℕ). Err k) (err_value h))

-- ---- a text and its first line

-- a text has no LF, or is cut at its first
abbrev pub IsCut : List ℕ → Type 0
IsCut text = (parts 10 text ≡ text ∷ []) ⊎ ((a : List ℕ) × (b : List ℕ) × (text ≡ a ++ 10 ∷ b) × (parts 10 text ≡ a ∷ parts 10 b))

cut_later : (x : ℕ) (xs : List ℕ) → nat_eq x 10 ≡ false → IsCut xs → IsCut (x ∷ xs)
cut_later x xs other (inl e) = inl (slice_split-cons_no (λ b. nat_eq b 10) x xs other ∙ ap (onto_first x) e)
cut_later x xs other (inr c) = inr (x ∷ c.0, c.1, ap (λ l. x ∷ l) c.2, slice_split-cons_no (λ b. nat_eq b 10) x xs other ∙ ap (onto_first x) c.3)

cut_here : (t : Bool) (x : ℕ) (xs : List ℕ) → nat_eq x 10 ≡ t → IsCut xs → IsCut (x ∷ xs)
cut_here true x xs e rest = inr ([], xs, ap (λ (y : ℕ). y ∷ xs) (eqb-true x 10 e), slice_split-cons_yes (λ b. nat_eq b 10) x xs e)
cut_here false x xs e rest = cut_later x xs e rest

pub cut_first : (text : List ℕ) → IsCut text
cut_first [] = inl refl
cut_first (x ∷ xs) = cut_here (nat_eq x 10) x xs refl (cut_first xs)

-- the first line of a text, and what follows it
abbrev pub Follows : List ℕ → List ℕ → List (Option (List ℕ)) → Type 0
Follows text line after = (b : List ℕ) × (text ≡ line ++ 10 ∷ b) × (lines b ≡ after)

pub follows_by : (n : ℕ) (text line : List ℕ) (after : List (Option (List ℕ))) → first n (lines text) ≡ Ok (line, after) → IsCut text → Follows text line after
follows_by n text line after h (inl e) = let no = line_missing n text e in (cc)
follows_by n text line after h (inr c) =
    let same : ◌≡◌ {A = Result (List ℕ × List (Option (List ℕ))) ℕ} (Ok (c.0, lines c.1)) (Ok (line, after)) = sym (line_read n text c.0 c.1 c.3) ∙ h in
    let shape : ◌≡◌ {A = List ℕ × List (Option (List ℕ))} (c.0, lines c.1) (line, after) = (cc) in
    (c.1, c.2 ∙ ap (λ (p : List ℕ × List (Option (List ℕ))). p.0 ++ 10 ∷ c.1) shape, ap (λ (p : List ℕ × List (Option (List ℕ))). p.1) shape)

some_line : (n m : ℕ) (ls more : List (Option (List ℕ))) (line : List ℕ) → first n ls ≡ Err m → ls ≡ Some line ∷ more → ⊥
some_line n m ls more line h e = let odd : ◌≡◌ {A = Result (List ℕ × List (Option (List ℕ))) ℕ} (Ok (line, more)) (Err m) = sym (ap (first n) e) ∙ h in (cc)

pub nonempty : (rest : List ℕ) (l : Option (List ℕ)) (more : List (Option (List ℕ))) → lines rest ≡ l ∷ more → 0 < length rest
nonempty [] l more h = let none = lines_none in (cc)
nonempty (x ∷ rest) l more h = omega arith

-- ---- a place in a text: the lines before it fit theirs

module _ (Fits : List (List (List ℕ)) → List (List ℕ) → Type 0) where
  pub record Place (text : List ℕ) (before : List (List (List ℕ))) (rest : List ℕ) : Type 0 where
    pub split : text ≡ text_of before ++ rest
    pub fit : AllFit Fits [] before

  fit_more : (before ls : List (List (List ℕ))) (ws : List (List ℕ)) → AllFit Fits before ls → Fits (before ++ ls) ws → AllFit Fits before (ls ++ ws ∷ [])
  fit_more before [] ws h f = (subst (λ (b : List (List (List ℕ))). Fits b ws) (append-nil before) f, tt)
  fit_more before (l ∷ ls) ws h f =
      let same : before ++ l ∷ ls ≡ (before ++ l ∷ []) ++ ls = sym (append_assoc before (l ∷ []) ls) in
      (h.0, fit_more (before ++ l ∷ []) ls ws h.1 (subst (λ (b : List (List (List ℕ))). Fits b ws) same f))

  -- past a line that fits
  advance : (text : List ℕ) (before : List (List (List ℕ))) (rest line b : List ℕ) → Place text before rest → rest ≡ line ++ 10 ∷ b → Fits before (words line) → Place text (before ++ words line ∷ []) b
  advance text before rest line b p e f = record {
    split =
        let own : line ++ 10 ∷ b ≡ line_text (words line) ++ b = ap (λ (l : List ℕ). l ++ 10 ∷ b) (line_joined line) ∙ sym (append_assoc (join_with_byte 32 (words line)) (10 ∷ []) b) in
        let all : text_of (before ++ words line ∷ []) ≡ text_of before ++ line_text (words line) = flat_map-append line_text before (words line ∷ []) ∙ ap (λ (l : List ℕ). text_of before ++ l) (append-nil (line_text (words line))) in
        p.split ∙ ap (λ (l : List ℕ). text_of before ++ l) (e ∙ own) ∙ sym (append_assoc (text_of before) (line_text (words line)) b) ∙ ap (λ (l : List ℕ). l ++ b) (sym all);
    fit = fit_more [] before (words line) p.fit f;
  }

  -- past the first of these lines, which fits
  pub onward : (text : List ℕ) (before : List (List (List ℕ))) (rest : List ℕ) (ls : List (Option (List ℕ))) (n : ℕ) (l : List ℕ × List (Option (List ℕ)))
      → Place text before rest → lines rest ≡ ls → first n ls ≡ Ok l → Fits before (words l.0) → (b : List ℕ) × Place text (before ++ words l.0 ∷ []) b × (lines b ≡ l.1)
  onward text before rest ls n l p shape found f =
      let next = follows_by n rest l.0 l.1 (ap (first n) shape ∙ found) (cut_first rest) in
      (next.0, advance text before rest l.0 next.0 p next.1 f, next.2)

  module _ (least : ℕ) (fits_line : (before : List (List (List ℕ))) (ws : List (List ℕ)) → Fits before ws → IsLine ws) where
    -- a place where no line stands that fits
    pub stuck : (text : List ℕ) (before : List (List (List ℕ))) (rest : List ℕ) (n : ℕ) → Place text before rest → n ≡ length before + 1 → (n ≤ least) ⊎ (0 < length rest)
        → ((ws : List (List ℕ)) (after : List ℕ) → IsLine ws → lines rest ≡ Some (join_with_byte 32 ws) ∷ lines after → Fits before ws → ⊥)
        → IsFirstWrong Fits least text n
    stuck text before rest n p number unfinished none = record {
      before = before;
      rest = rest;
      split = p.split;
      number = number;
      fit = p.fit;
      wrong = λ ws after e f. let line = fits_line before ws f in none ws after line (ap lines e ∙ lines_of_front ws after line) f;
      unfinished = unfinished;
    }

    -- a reading of one line, at its place
    module _ {A : Type 0} (before : List (List (List ℕ))) (read : List (List ℕ) → Result A ℕ)
        (fitting : (ws : List (List ℕ)) → Fits before ws → (x : A) × (read ws ≡ Ok x)) where
      -- there is no line
      missing : (text rest : List ℕ) (n m : ℕ) → Place text before rest → n ≡ length before + 1 → n ≤ least → first n (lines rest) ≡ Err m → IsFirstWrong Fits least text m
      missing text rest n m p number few h =
          let same : m ≡ n = (names_first n (lines rest)).says m h in
          subst (IsFirstWrong Fits least text) (sym same) (stuck text before rest n p number (inl few) (λ ws after line e f. some_line n m (lines rest) (lines after) (join_with_byte 32 ws) h e))

      -- the line doesn't read
      pub unread : (text rest : List ℕ) (n m : ℕ) (line : List ℕ) (more : List (Option (List ℕ))) → Place text before rest → n ≡ length before + 1 → (n ≤ least) ⊎ (0 < length rest) → Names n (read (words line))
          → lines rest ≡ Some line ∷ more → read (words line) ≡ Err m → IsFirstWrong Fits least text m
      unread text rest n m line more p number unfinished names shape h =
          let same : m ≡ n = names.says m h in
          subst (IsFirstWrong Fits least text) (sym same) (stuck text before rest n p number unfinished (λ ws after is e f.
          let one : ◌≡◌ {A = List (Option (List ℕ))} (Some line ∷ more) (Some (join_with_byte 32 ws) ∷ lines after) = sym shape ∙ e in
          let joined : line ≡ join_with_byte 32 ws = (cc) in
          let cut : words line ≡ ws = ap words joined ∙ words_of_line ws is.0 is.1 in
          let good = fitting ws f in
          let odd : ◌≡◌ {A = Result A ℕ} (Ok good.0) (Err m) = sym good.1 ∙ ap read (sym cut) ∙ h in
          (cc)))

      -- a line, and what is read of it, and then the rest
      pub step : {B : Type 0} (text rest : List ℕ) (ls : List (Option (List ℕ))) (n m : ℕ) (go : List ℕ × List (Option (List ℕ)) → A → Result B ℕ)
          → Place text before rest → lines rest ≡ ls → n ≡ length before + 1 → n ≤ least → ((ws : List (List ℕ)) → Names n (read ws)) → ((ws : List (List ℕ)) (x : A) → read ws ≡ Ok x → Fits before ws)
          → (first n ls >>= λ l. read (words l.0) >>= λ x. go l x) ≡ Err m
          → ((l : List ℕ × List (Option (List ℕ))) (x : A) (b : List ℕ) → read (words l.0) ≡ Ok x → Place text (before ++ words l.0 ∷ []) b → lines b ≡ l.1 → go l x ≡ Err m → IsFirstWrong Fits least text m)
          → IsFirstWrong Fits least text m
      step text rest ls n m go p shape number few names spelled h then' =
          by_err (first n ls) _ m h (λ no. missing text rest n m p number few (ap (first n) shape ∙ no)) (λ l found h.
          by_err (read (words l.0)) _ m h (λ no. unread text rest n m l.0 l.1 p number (inl few) (names (words l.0)) (shape ∙ first_ok n ls l.0 l.1 found) no) (λ x got h.
          let next = onward text before rest ls n l p shape found (spelled (words l.0) x got) in
          then' l x next.0 got next.1 next.2 h))
