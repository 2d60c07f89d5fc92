-- The entries of a log are found from one to the next.
use Rattle.std.proofs.Common.{◌≡◌, ◌≢◌, inl, inr, ℕ, ◌+◌, ◌-◌, ◌^◌, ◌<◌, ◌≤◌, List, [], ◌∷◌, ◌++◌, length, take, drop, get_or, None, refl, sym, ap, ◌∙◌, arith, length-take, length-drop, take-append-drop}
use Rattle.std.specs.Prelude.{◌⊎◌}
use Rattle.std.specs.Int.{w32, to_le_bytes}
use Rattle.std.proofs.lemmas.List.{append_assoc, drop-drop, drop-take, take-take, get_or-take, get_or-drop, get_or_past}
use Rattle.std.proofs.lemmas.Bool.{cases_lt}
use Rattle.raf_log.specs.Entries.{spelled, spell, AreEntries, Entries, starts_from}
use Rattle.raf_log.specs.Log.{Spaced}
use Rattle.raf_log.specs.Walk.{Walks, Stands}
use Rattle.raf_log.proofs.Spelled.{same_len, spell_long, head_of, behind}

-- one more
pub walks-push : (x : List ℕ) (from : ℕ) (os : List ℕ) (next n : ℕ) → Walks x from os next → n ≤ 65536 → next + 4 + n ≤ length x → take 4 (drop next x) ≡ to_le_bytes w32 n
    → Walks x from (os ++ next ∷ []) (next + 4 + n)
walks-push x from [] next n w small fits head = (n, w, small, fits, head, refl)
walks-push x from (o ∷ os) next n w small fits head = (w.0, w.1, w.2, w.3, w.4, walks-push x (o + 4 + w.0) os next n w.5 small fits head)

pub walks_below : (x : List ℕ) (from : ℕ) (os : List ℕ) (next : ℕ) → Walks x from os next → from ≤ length x → next ≤ length x
walks_below x from [] next w le = omega (arith, w, le)
walks_below x from (o ∷ os) next w le = walks_below x (o + 4 + w.0) os next w.5 w.3

-- the entries that were found
pub record Found (x : List ℕ) (from : ℕ) (os : List ℕ) (next : ℕ) : Type 0 where
  pub entries : List (List ℕ)
  pub are : AreEntries entries
  pub split : drop from x ≡ spell entries ++ drop next x
  pub starts : os ≡ starts_from from entries

pub walks_found : (x : List ℕ) (from : ℕ) (os : List ℕ) (next : ℕ) → Walks x from os next → Found x from os next
walks_found x from [] next w = record { entries = []; are = tt; split = ap (λ (n : ℕ). drop n x) (sym w); starts = refl }
walks_found x from (o ∷ os) next w =
    let n = w.0 in
    let more : Found x (o + 4 + w.0) os next = walks_found x (o + 4 + w.0) os next w.5 in
    let e : List ℕ = take w.0 (drop (o + 4) x) in
    let long : length (take w.0 (drop (o + 4) x)) ≡ w.0 = omega (arith, length-take w.0 (drop (o + 4) x), length-drop (o + 4) x, w.3) in
    let body : drop (o + 4) x ≡ take w.0 (drop (o + 4) x) ++ (spell more.entries ++ drop next x) =
    sym (take-append-drop w.0 (drop (o + 4) x)) ∙ ap (λ (l : List ℕ). take w.0 (drop (o + 4) x) ++ l) (drop-drop w.0 (o + 4) x ∙ more.split) in
    let head : drop o x ≡ to_le_bytes w32 (length (take w.0 (drop (o + 4) x))) ++ (take w.0 (drop (o + 4) x) ++ (spell more.entries ++ drop next x)) =
    sym (take-append-drop 4 (drop o x)) ∙ ap (λ (l : List ℕ). l ++ drop 4 (drop o x)) (w.4 ∙ ap (to_le_bytes w32) (sym long))
    ∙ ap (λ (l : List ℕ). to_le_bytes w32 (length (take w.0 (drop (o + 4) x))) ++ l) (drop-drop 4 o x ∙ body) in
    record {
      entries = e ∷ more.entries;
      are = (omega (arith, long, w.2), more.are);
      split =
          ap (λ (k : ℕ). drop k x) (sym w.1) ∙ head
          ∙ sym (append_assoc (to_le_bytes w32 (length (take w.0 (drop (o + 4) x)))) (take w.0 (drop (o + 4) x)) (spell more.entries ++ drop next x))
          ∙ sym (append_assoc (spelled (take w.0 (drop (o + 4) x))) (spell more.entries) (drop next x));
      starts = ap (λ (k : ℕ). k ∷ os) w.1 ∙ ap (λ (l : List ℕ). from ∷ l) (more.starts ∙ ap (λ (k : ℕ). starts_from k more.entries) (omega (arith, w.1, long)));
    }

-- whatever list the bytes spell, its entries begin there
pub record Follows (x : List ℕ) (next : ℕ) : Type 0 where
  pub entries : List (List ℕ)
  pub are : AreEntries entries
  pub is : drop next x ≡ spell entries

pub walks_follow : (x : List ℕ) (from : ℕ) (os : List ℕ) (next : ℕ) (es : List (List ℕ)) → Walks x from os next → AreEntries es → drop from x ≡ spell es → Follows x next
walks_follow x from [] next es w are is = record { entries = es; are = are; is = ap (λ (k : ℕ). drop k x) w ∙ is }
walks_follow x from (o ∷ os) next [] w are is = absurd (omega (arith, ap length is, length-drop from x, w.1, w.3))
walks_follow x from (o ∷ os) next (e ∷ es) w are is =
    let here : drop o x ≡ spell (e ∷ es) = ap (λ (k : ℕ). drop k x) w.1 ∙ is in
    let n : w.0 ≡ length e = same_len w.0 (length e) (omega (arith, w.2)) (omega (arith, are.0)) (sym w.4 ∙ ap (λ (l : List ℕ). take 4 l) here ∙ head_of e es) in
    let place : o + 4 + w.0 ≡ o + (4 + w.0) = omega arith in
    walks_follow x (o + 4 + w.0) os next es w.5 are.1
    (ap (λ (k : ℕ). drop k x) place ∙ sym (drop-drop (4 + w.0) o x) ∙ ap (λ (l : List ℕ). drop (4 + w.0) l) here ∙ behind e es w.0 n)

-- too few bytes are left for another entry
pub ends_short : (x : List ℕ) (os : List ℕ) (next : ℕ) → Walks x 0 os next → next ≢ length x → length x < next + 4 → Entries x None
ends_short x os next w ne short es are is = go (walks_follow x 0 os next es w are is)
  where
    none : (fs : List (List ℕ)) → drop next x ≡ spell fs → ⊥
    none [] is = ne (omega (arith, ap length is, length-drop next x, walks_below x 0 os next w (omega arith)))
    none (f ∷ fs) is = omega (arith, ap length is, length-drop next x, spell_long f fs, short)

    go : Follows x next → ⊥
    go f = none f.entries f.is

-- the next length is that of no entry, or the bytes end before its entry does
pub ends_wrong : (x : List ℕ) (os : List ℕ) (next n : ℕ) → Walks x 0 os next → next + 4 ≤ length x → n < 2 ^ 32 → take 4 (drop next x) ≡ to_le_bytes w32 n
    → (65536 < n) ⊎ (length x < next + 4 + n) → Entries x None
ends_wrong x os next n w room small head wrong es are is = go (walks_follow x 0 os next es w are is)
  where
    odd : (m : ℕ) → n ≡ m → m ≤ 65536 → next + 4 + m ≤ length x → (65536 < n) ⊎ (length x < next + 4 + n) → ⊥
    odd m same most fits (inl long) = omega (arith, same, most, long)
    odd m same most fits (inr cut) = omega (arith, same, fits, cut)

    none : (fs : List (List ℕ)) → AreEntries fs → drop next x ≡ spell fs → ⊥
    none [] are is = omega (arith, ap length is, length-drop next x, room)
    none (f ∷ fs) are is =
        let same : n ≡ length f = same_len n (length f) small (omega (arith, are.0)) (sym head ∙ ap (λ (l : List ℕ). take 4 l) is ∙ head_of f fs) in
        odd (length f) same are.0 (omega (arith, ap length is, length-drop next x, spell_long f fs, room)) wrong

    go : Follows x next → ⊥
    go f = none f.entries f.are f.is

-- a length that lies in a piece of the bytes
pub stands_head : (x piece : List ℕ) (at size o : ℕ) → Stands x piece at size → at ≤ o → o + 4 ≤ at + length piece → take 4 (drop o x) ≡ take 4 (drop (o - at) piece)
stands_head x piece at size o s le most =
    let k = o - at in
    let split : length piece ≡ (o - at) + (length piece - (o - at)) = omega arith in
    let place : at + (o - at) ≡ o = omega arith in
    sym (ap (λ (l : List ℕ). take 4 (drop (o - at) l)) (sym s.is)
    ∙ ap (λ (n : ℕ). take 4 (drop (o - at) (take n (drop at x)))) split
    ∙ ap (λ (l : List ℕ). take 4 l) (drop-take (o - at) (length piece - (o - at)) (drop at x))
    ∙ take-take 4 (length piece - (o - at)) (drop (o - at) (drop at x)) (omega arith)
    ∙ ap (λ (l : List ℕ). take 4 l) (drop-drop (o - at) at x ∙ ap (λ (n : ℕ). drop n x) place))

-- parts of bytes are bytes
pub bytes_inside : (p : List ℕ) (k n i : ℕ) → ((j : ℕ) → get_or p j 0 < 256) → get_or (take n (drop k p)) i 0 < 256
bytes_inside p k n i all = elim (cases_lt i n) [
  | inl lt ↦ omega (arith, get_or-take n (drop k p) i 0 lt, get_or-drop k p i 0, all (k + i))
  | inr past ↦ omega (arith, get_or_past (take n (drop k p)) i 0 (omega (arith, length-take n (drop k p), past)))
]

pub spaced-push : (from : ℕ) (os : List ℕ) (next n : ℕ) → Spaced from os next → n ≤ 65536 → Spaced from (os ++ next ∷ []) (next + 4 + n)
spaced-push from [] next n w small = (n, w, small, refl)
spaced-push from (o ∷ os) next n w small = (w.0, w.1, w.2, spaced-push (o + 4 + w.0) os next n w.3 small)
