-- A run of commands goes on by one.
use Rattle.std.proofs.Common.{◌≡◌, ℕ, ◌+◌, ◌<◌, ◌≤◌, max, Bool, List, [], ◌∷◌, ◌++◌, length, take, drop, get_or, map, take-append-drop, Option, refl, sym, ◌∙◌, ap, subst, arith, length-drop}
use Rattle.std.proofs.lemmas.List.{drop_more, take_more, take_all, take-append-le, drop-append-le}
use Rattle.raf_format.specs.Cipher.{Cipher}
use Rattle.raf_format.specs.File.{File, file_layout}
use Rattle.raf.specs.Due.{Answers}
use Rattle.raf.specs.Apply.{apply, file_after, longest}
use Rattle.raf.specs.Image.{traced, bytes_after, asked_by, asked_in, changes_by, changes_in, traffic_by, traffic_in, calls_by, calls_in}
use Rattle.raf.specs.Meaning.{Authentic}
use Rattle.raf.specs.Session.{Ground, AllAnswer, AllAuthentic, TreeDecides, settles, settled_after, room_total}
use Rattle.raf.specs.Ran.{room_for}
use Rattle.raf.specs.declared.command.Command.{Command}
use Rattle.raf.specs.declared.command.Reply.{Reply}

-- whatever the limit
module _ (limit : Option ℕ) where
  pub after-push : (F : File) (xs : List Command) (c : Command) → file_after limit F (xs ++ c ∷ []) ≡ (apply limit (file_after limit F xs) c).1
  after-push F [] c = refl
  after-push F (x ∷ xs) c = after-push (apply limit F x).1 xs c

  pub asked-push : (F : File) (xs : List Command) (c : Command) → asked_in limit F (xs ++ c ∷ []) ≡ asked_in limit F xs + asked_by limit (file_after limit F xs) c
  asked-push F [] c = omega arith
  asked-push F (x ∷ xs) c = omega (arith, asked-push (apply limit F x).1 xs c)

  pub changes-push : (F : File) (xs : List Command) (c : Command) → changes_in limit F (xs ++ c ∷ []) ≡ changes_in limit F xs + changes_by limit (file_after limit F xs) c
  changes-push F [] c = omega arith
  changes-push F (x ∷ xs) c = omega (arith, changes-push (apply limit F x).1 xs c)

  pub calls-push : (F : File) (xs : List Command) (c : Command) → calls_in limit F (xs ++ c ∷ []) ≡ calls_in limit F xs + calls_by limit (file_after limit F xs) c
  calls-push F [] c = omega arith
  calls-push F (x ∷ xs) c = omega (arith, calls-push (apply limit F x).1 xs c)

  pub traffic-push : (F : File) (xs : List Command) (c : Command) → traffic_in limit F (xs ++ c ∷ []) ≡ traffic_in limit F xs + traffic_by limit (file_after limit F xs) c
  traffic-push F [] c = omega arith
  traffic-push F (x ∷ xs) c = omega (arith, traffic-push (apply limit F x).1 xs c)

  pub longest-push : (F : File) (xs : List Command) (c : Command) → longest limit F (xs ++ c ∷ []) ≡ max (longest limit F xs) (file_layout (apply limit (file_after limit F xs) c).1)
  longest-push F [] c = refl
  longest-push F (x ∷ xs) c = omega (arith, longest-push (apply limit F x).1 xs c)

  pub longest_last : (F : File) (xs : List Command) → file_layout (file_after limit F xs) ≤ longest limit F xs
  longest_last F [] = omega arith
  longest_last F (x ∷ xs) = omega (arith, longest_last (apply limit F x).1 xs)

  -- nonces behind those that are taken
  pub traced-extra : (C : Cipher) (key : List ℕ) (F : File) (xs : List Command) (ns d b : List ℕ) → length ns ≡ asked_in limit F xs → traced limit C key F xs (ns ++ d) b ≡ traced limit C key F xs ns b
  traced-extra C key F [] ns d b len = refl
  traced-extra C key F (x ∷ xs) ns d b len =
      ap (λ (l : List ℕ). traced limit C key (apply limit F x).1 xs l (bytes_after limit C key F x (take (asked_by limit F x) (ns ++ d)) b)) (drop-append-le (asked_by limit F x) ns d (omega arith))
      ∙ ap (λ (l : List ℕ). traced limit C key (apply limit F x).1 xs (drop (asked_by limit F x) ns ++ d) (bytes_after limit C key F x l b)) (take-append-le (asked_by limit F x) ns d (omega arith))
      ∙ traced-extra C key (apply limit F x).1 xs (drop (asked_by limit F x) ns) d (bytes_after limit C key F x (take (asked_by limit F x) ns) b) (omega (arith, length-drop (asked_by limit F x) ns))

  pub traced-push : (C : Cipher) (key : List ℕ) (F : File) (xs : List Command) (c : Command) (ns d b : List ℕ) → length ns ≡ asked_in limit F xs → length d ≡ asked_by limit (file_after limit F xs) c
      → traced limit C key F (xs ++ c ∷ []) (ns ++ d) b ≡ bytes_after limit C key (file_after limit F xs) c d (traced limit C key F xs ns b)
  traced-push C key F [] c [] d b len more = ap (λ (l : List ℕ). bytes_after limit C key F c l b) (take_all (asked_by limit F c) d (omega arith))
  traced-push C key F [] c (n ∷ ns) d b len more = absurd (omega (arith, len))
  traced-push C key F (x ∷ xs) c ns d b len more =
      ap (λ (l : List ℕ). traced limit C key (apply limit F x).1 (xs ++ c ∷ []) l (bytes_after limit C key F x (take (asked_by limit F x) (ns ++ d)) b)) (drop-append-le (asked_by limit F x) ns d (omega arith))
      ∙ ap (λ (l : List ℕ). traced limit C key (apply limit F x).1 (xs ++ c ∷ []) (drop (asked_by limit F x) ns ++ d) (bytes_after limit C key F x l b)) (take-append-le (asked_by limit F x) ns d (omega arith))
      ∙ traced-push C key (apply limit F x).1 xs c (drop (asked_by limit F x) ns) d (bytes_after limit C key F x (take (asked_by limit F x) ns) b) (omega (arith, length-drop (asked_by limit F x) ns)) more

-- the replies, and what was read
module _ (G : Ground) where
  pub answer-push : (F : File) (xs : List Command) (rs : List Reply) (c : Command) (r : Reply) → AllAnswer G F xs rs
      → Answers (TreeDecides G.answers G.setting G.limit (file_after G.limit F xs) c) (apply G.limit (file_after G.limit F xs) c).0 r → AllAnswer G F (xs ++ c ∷ []) (rs ++ r ∷ [])
  answer-push F [] [] c r all last = (last, tt)
  answer-push F [] (y ∷ rs) c r all last = absurd all
  answer-push F (x ∷ xs) [] c r all last = absurd all
  answer-push F (x ∷ xs) (y ∷ rs) c r all last = (all.0, answer-push (apply G.limit F x).1 xs rs c r all.1 last)

  pub authentic-push : (F : File) (xs : List Command) (c : Command) (ns d b : List ℕ) → length ns ≡ asked_in G.limit F xs
      → AllAuthentic G F xs ns b → Authentic G.cipher G.key (traced G.limit G.cipher G.key F xs ns b) (file_after G.limit F xs) c (apply G.limit (file_after G.limit F xs) c).0
      → AllAuthentic G F (xs ++ c ∷ []) (ns ++ d) b
  authentic-push F [] c ns d b len all last = (last, tt)
  authentic-push F (x ∷ xs) c ns d b len all last = (
    all.0,
    subst (λ (l : List ℕ). AllAuthentic G (apply G.limit F x).1 (xs ++ c ∷ []) l (bytes_after G.limit G.cipher G.key F x (take (asked_by G.limit F x) (ns ++ d)) b)) (sym (drop-append-le (asked_by G.limit F x) ns d (omega arith)))
        (subst (λ (l : List ℕ). AllAuthentic G (apply G.limit F x).1 (xs ++ c ∷ []) (drop (asked_by G.limit F x) ns ++ d) (bytes_after G.limit G.cipher G.key F x l b)) (sym (take-append-le (asked_by G.limit F x) ns d (omega arith)))
        (authentic-push (apply G.limit F x).1 xs c (drop (asked_by G.limit F x) ns) d (bytes_after G.limit G.cipher G.key F x (take (asked_by G.limit F x) ns) b) (omega (arith, length-drop (asked_by G.limit F x) ns)) all.1 last)),
  )

pub settled-push : (s : Bool) (xs : List Command) (c : Command) → settled_after s (xs ++ c ∷ []) ≡ settles (settled_after s xs) c
settled-push s [] c = refl
settled-push s (x ∷ xs) c = settled-push (settles s x) xs c

pub rooms_next : (n : ℕ) (commands : List Command) (i : ℕ) (c : Command) → i < length commands → c ≡ get_or commands i c → map (room_for n) (drop i commands) ≡ room_for n c ∷ map (room_for n) (drop (i + 1) commands)
rooms_next n commands i c lt is =
    ap (map (room_for n)) (drop_more commands i c lt) ∙ ap (λ (x : Command). room_for n x ∷ map (room_for n) (drop (i + 1) commands)) (sym is)

pub total_next : (n : ℕ) (commands : List Command) (i : ℕ) (c : Command) → i < length commands → c ≡ get_or commands i c
    → room_total n (drop i commands) ≡ room_total n (c ∷ drop (i + 1) commands)
total_next n commands i c lt is = ap (room_total n) (drop_more commands i c lt) ∙ ap (λ (x : Command). room_total n (x ∷ drop (i + 1) commands)) (sym is)

pub commands_next : (commands : List Command) (i : ℕ) (c : Command) → i < length commands → c ≡ get_or commands i c → take (i + 1) commands ≡ take i commands ++ c ∷ []
commands_next commands i c lt is = take_more commands i c lt ∙ ap (λ (x : Command). take i commands ++ x ∷ []) (sym is)

pub commands_split : (commands : List Command) (i : ℕ) (c : Command) → i < length commands → c ≡ get_or commands i c → commands ≡ take i commands ++ c ∷ drop (i + 1) commands
commands_split commands i c lt is =
    sym (take-append-drop i commands) ∙ ap (λ (l : List Command). take i commands ++ l) (drop_more commands i c lt ∙ ap (λ (x : Command). x ∷ drop (i + 1) commands) (sym is))
