-- What is read of bytes that may be a proof.
use Rattle.std.proofs.Common.{◌≡◌, ℕ, ◌+◌, ◌<◌, ◌≤◌, List, ◌∷◌, ◌++◌, length, take, drop, get_or, sym, ap, ◌∙◌, arith, inl, inr, length-take, length-drop}
use Rattle.std.specs.Int.{w32, w64, to_le_bytes, from_le_bytes}
use Rattle.std.proofs.lemmas.Bool.{cases_lt}
use Rattle.std.proofs.lemmas.List.{append_assoc, take_at, drop_at, take-append-drop, drop-drop, drop_more, length-take-le, get_or-take, get_or-drop, get_or_past}
use Rattle.std.proofs.lemmas.Nat.{le_bytes_4, le_bytes_8, from_le_bytes-to_le_bytes_4, from_le_bytes-to_le_bytes_8}
use Rattle.raf_check.specs.Claim.{Claim, claim_of}
use Rattle.raf_check.specs.Written.{written, InRange}

-- behind the version and the two numbers stand the id, the height and the siblings
abbrev behind : Claim → List ℕ
behind p = p.id ++ (to_le_bytes w32 p.height ++ p.siblings)

behind_is : (p : Claim) → drop 17 (written p) ≡ behind p
behind_is p = append_assoc p.id (to_le_bytes w32 p.height) p.siblings

pub one_proof : (p q : Claim) → InRange p → InRange q → written p ≡ written q → p ≡ q
one_proof p q a b same = (λ i. record { index = index i; size = size i; id = id i; height = height i; siblings = siblings i })
  where
    index : p.index ≡ q.index
    index =
        sym (from_le_bytes-to_le_bytes_8 p.index a.index)
        ∙ ap (λ (l : List ℕ). from_le_bytes w64 (take 8 (drop 1 l))) same
        ∙ from_le_bytes-to_le_bytes_8 q.index b.index

    size : p.size ≡ q.size
    size =
        sym (from_le_bytes-to_le_bytes_8 p.size a.size)
        ∙ ap (λ (l : List ℕ). from_le_bytes w64 (take 8 (drop 9 l))) same
        ∙ from_le_bytes-to_le_bytes_8 q.size b.size

    rest : behind p ≡ behind q
    rest = sym (behind_is p) ∙ ap (λ (l : List ℕ). drop 17 l) same ∙ behind_is q

    id : p.id ≡ q.id
    id =
        sym (take_at p.id (to_le_bytes w32 p.height ++ p.siblings) 32 a.id)
        ∙ ap (λ (l : List ℕ). take 32 l) rest
        ∙ take_at q.id (to_le_bytes w32 q.height ++ q.siblings) 32 b.id

    last : to_le_bytes w32 p.height ++ p.siblings ≡ to_le_bytes w32 q.height ++ q.siblings
    last =
        sym (drop_at p.id (to_le_bytes w32 p.height ++ p.siblings) 32 a.id)
        ∙ ap (λ (l : List ℕ). drop 32 l) rest
        ∙ drop_at q.id (to_le_bytes w32 q.height ++ q.siblings) 32 b.id

    height : p.height ≡ q.height
    height =
        sym (from_le_bytes-to_le_bytes_4 p.height a.height)
        ∙ ap (λ (l : List ℕ). from_le_bytes w32 (take 4 l)) last
        ∙ from_le_bytes-to_le_bytes_4 q.height b.height

    siblings : p.siblings ≡ q.siblings
    siblings = ap (λ (l : List ℕ). drop 4 l) last

-- a part of bytes is of bytes
part_below : (n m : ℕ) (b : List ℕ) → ((i : ℕ) → get_or b i 0 < 256) → (i : ℕ) → get_or (take m (drop n b)) i 0 < 256
part_below n m b bytes i = elim (cases_lt i m) [
  | inl less ↦ let e : get_or (take m (drop n b)) i 0 ≡ get_or b (n + i) 0 = get_or-take m (drop n b) i 0 less ∙ get_or-drop n b i 0 in omega (arith, e, bytes (n + i))
  | inr past ↦ let e : get_or (take m (drop n b)) i 0 ≡ 0 = get_or_past (take m (drop n b)) i 0 (omega (arith, length-take m (drop n b))) in omega (arith, e)
]

-- bytes are a part and what is behind it
part_next : (n m : ℕ) (b : List ℕ) → drop n b ≡ take m (drop n b) ++ drop (n + m) b
part_next n m b = sym (take-append-drop m (drop n b)) ∙ ap (λ (l : List ℕ). take m (drop n b) ++ l) (drop-drop m n b)

-- what the fields are read as is what is written
pub read_back : (b id : List ℕ) (index size height : ℕ) → ((i : ℕ) → get_or b i 0 < 256) → 53 ≤ length b → get_or b 0 0 ≡ 1 → index ≡ from_le_bytes w64 (take 8 (drop 1 b)) → size ≡ from_le_bytes w64 (take 8 (drop 9 b))
    → id ≡ take 32 (drop 17 b) → height ≡ from_le_bytes w32 (take 4 (drop 49 b)) → b ≡ written (claim_of index size id height (drop 53 b))
read_back b id index size height bytes long version is_index is_size is_id is_height =
    drop_more b 0 0 (omega arith)
    ∙ ap (λ (n : ℕ). n ∷ drop 1 b) version
    ∙ ap (λ (l : List ℕ). 1 ∷ l) from_index
  where
    eight : (n : ℕ) → n + 8 ≤ 53 → length (take 8 (drop n b)) ≡ 8
    eight n le = length-take-le 8 (drop n b) (omega (arith, length-drop n b))

    four : length (take 4 (drop 49 b)) ≡ 4
    four = length-take-le 4 (drop 49 b) (omega (arith, length-drop 49 b))

    from_height : drop 49 b ≡ to_le_bytes w32 height ++ drop 53 b
    from_height = part_next 49 4 b ∙ ap (λ (l : List ℕ). l ++ drop 53 b) (sym (le_bytes_4 (take 4 (drop 49 b)) height four (part_below 49 4 b bytes) is_height))

    from_id : drop 17 b ≡ (id ++ to_le_bytes w32 height) ++ drop 53 b
    from_id =
        part_next 17 32 b
        ∙ ap (λ (l : List ℕ). l ++ drop 49 b) (sym is_id)
        ∙ ap (λ (l : List ℕ). id ++ l) from_height
        ∙ sym (append_assoc id (to_le_bytes w32 height) (drop 53 b))

    from_size : drop 9 b ≡ to_le_bytes w64 size ++ ((id ++ to_le_bytes w32 height) ++ drop 53 b)
    from_size =
        part_next 9 8 b
        ∙ ap (λ (l : List ℕ). l ++ drop 17 b) (sym (le_bytes_8 (take 8 (drop 9 b)) size (eight 9 (omega arith)) (part_below 9 8 b bytes) is_size))
        ∙ ap (λ (l : List ℕ). to_le_bytes w64 size ++ l) from_id

    from_index : drop 1 b ≡ to_le_bytes w64 index ++ (to_le_bytes w64 size ++ ((id ++ to_le_bytes w32 height) ++ drop 53 b))
    from_index =
        part_next 1 8 b
        ∙ ap (λ (l : List ℕ). l ++ drop 9 b) (sym (le_bytes_8 (take 8 (drop 1 b)) index (eight 1 (omega arith)) (part_below 1 8 b bytes) is_index))
        ∙ ap (λ (l : List ℕ). to_le_bytes w64 index ++ l) from_size
