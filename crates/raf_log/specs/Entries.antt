-- The entries of a log (this project's own).
use Rattle.std.specs.Prelude.{◌≡◌, ℕ, ◌+◌, ◌≤◌, List, [], ◌∷◌, ◌++◌, length, Option, Some, None, ⊤}
use Rattle.std.specs.Int.{w32, to_le_bytes}

-- how an entry is spelled: its length in 4 bytes, least byte first, and then its bytes
abbrev pub spelled : List ℕ → List ℕ
spelled entry = to_le_bytes w32 (length entry) ++ entry

-- how a list of entries is spelled: one after the other
abbrev pub spell : List (List ℕ) → List ℕ
spell [] = []
spell (entry ∷ entries) = spelled entry ++ spell entries

-- each has at most 65536 bytes
abbrev pub AreEntries : List (List ℕ) → Type 0
AreEntries [] = ⊤
AreEntries (entry ∷ entries) = (length entry ≤ 65536) × AreEntries entries

-- the entries of these bytes: the list that they spell, or none where they spell no list
abbrev pub Entries : List ℕ → Option (List (List ℕ)) → Type 0
Entries b (Some entries) = AreEntries entries × (b ≡ spell entries)
Entries b None = (entries : List (List ℕ)) → AreEntries entries → b ≡ spell entries → ⊥

-- at most one list is spelled so
abbrev pub OneList : Type 0
OneList = (xs ys : List (List ℕ)) → AreEntries xs → AreEntries ys → spell xs ≡ spell ys → xs ≡ ys

-- where each entry begins, the first one here
abbrev pub starts_from : ℕ → List (List ℕ) → List ℕ
starts_from at [] = []
starts_from at (entry ∷ entries) = at ∷ starts_from (at + 4 + length entry) entries
