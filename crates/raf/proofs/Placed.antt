-- Records at a stride in a storage: what a splice leaves, and the bytes that are their records in order.
use Rattle.std.proofs.Common.{◌≡◌, inl, inr, ℕ, zero, suc, ◌+◌, ◌-◌, ◌*◌, ◌<◌, ◌≤◌, min, max, List, [], ◌++◌, length, take, drop, refl, sym, ◌∙◌, ap, arith, length-append, length-drop, take-append-drop, append_assoc}
use Rattle.std.proofs.lemmas.List.{take_all, drop_all, take_at, drop_at, drop-drop, take-take, drop-take, take-append-le}
use Rattle.std.proofs.lemmas.Bool.{cases_lt}
use Rattle.std.proofs.lemmas.Nat.{mul-le}
use Rattle.raf_io.specs.Storage.{Torn, resized, spliced}
use Rattle.raf.specs.Put.{placed}
use Rattle.raf_io.proofs.Splices.{length-resized, resized_cut, take-resized, torn_same}

pub length-spliced : (at : ℕ) (r b : List ℕ) → length (spliced at r b) ≡ max (length b) (at + length r)
length-spliced at r b =
    omega (arith, length-append (resized at b ++ r) (drop (at + length r) b), length-append (resized at b) r, length-resized at b, length-drop (at + length r) b)

-- what was put is there
pub spliced_there : (at : ℕ) (r b : List ℕ) → take (length r) (drop at (spliced at r b)) ≡ r
spliced_there at r b =
    ap (λ (l : List ℕ). take (length r) (drop at l)) (append_assoc (resized at b) r (drop (at + length r) b))
    ∙ ap (λ (l : List ℕ). take (length r) l) (drop_at (resized at b) (r ++ drop (at + length r) b) at (length-resized at b))
    ∙ take_at r (drop (at + length r) b) (length r) refl

-- a write of a part of the bytes, or of none, is one that failed in between
pub torn_part : (at n : ℕ) (part b : List ℕ) → length part ≤ n → Torn at n b (spliced at part b)
torn_part at n part b le = record {
  before = front;
  after = back;
  no_shorter = omega (arith, long);
  no_longer = omega (arith, long);
}
  where
    rest : List ℕ
    rest = drop (at + length part) b

    long : length (spliced at part b) ≡ at + length part + (length b - (at + length part))
    long = omega (arith, length-append (resized at b ++ part) (drop (at + length part) b), length-append (resized at b) part, length-resized at b, length-drop (at + length part) b)

    front : take (min at (length b)) (spliced at part b) ≡ take at b
    front =
        ap (λ (l : List ℕ). take (min at (length b)) l) (append_assoc (resized at b) part (drop (at + length part) b))
        ∙ take-append-le (min at (length b)) (resized at b) (part ++ drop (at + length part) b) (omega (arith, length-resized at b))
        ∙ take-resized (min at (length b)) at b (omega arith) ∙ resized_cut (min at (length b)) b (omega arith)
        ∙ elim (cases_lt at (length b)) [
          | inl inside ↦ let e : min at (length b) ≡ at = omega arith in ap (λ (k : ℕ). take k b) e
          | inr past ↦ take_all (min at (length b)) b (omega arith) ∙ sym (take_all at b past)
        ]

    back : drop (at + n) (spliced at part b) ≡ drop (at + n) b
    back =
        let sum : at + n ≡ at + length part + (n - length part) = omega arith in
        let len : length (resized at b ++ part) ≡ at + length part = omega (arith, length-append (resized at b) part, length-resized at b) in
        ap (λ (k : ℕ). drop k (spliced at part b)) sum
        ∙ sym (drop-drop (n - length part) (at + length part) (spliced at part b))
        ∙ ap (λ (l : List ℕ). drop (n - length part) l) (drop_at (resized at b ++ part) (drop (at + length part) b) (at + length part) len)
        ∙ drop-drop (n - length part) (at + length part) b
        ∙ ap (λ (k : ℕ). drop k b) (sym sum)

-- a change inside a range is one inside a wider range
pub torn_wider : (at n lo m : ℕ) (a b : List ℕ) → Torn at n a b → lo ≤ at → at + n ≤ lo + m → Torn lo m a b
torn_wider at n lo m a b t le ends = record {
  before = front;
  after = back;
  no_shorter = t.no_shorter;
  no_longer = omega (arith, t.no_longer);
}
  where
    front : take (min lo (length a)) b ≡ take lo a
    front =
        let same : min lo (length a) ≤ min at (length a) = omega arith in
        sym (take-take (min lo (length a)) (min at (length a)) b same)
        ∙ ap (λ (l : List ℕ). take (min lo (length a)) l) t.before
        ∙ take-take (min lo (length a)) at a (omega arith)
        ∙ cut
      where
        cut : take (min lo (length a)) a ≡ take lo a
        cut = elim (cases_lt lo (length a)) [
          | inl inside ↦ let e : min lo (length a) ≡ lo = omega arith in ap (λ (k : ℕ). take k a) e
          | inr past ↦ take_all (min lo (length a)) a (omega arith) ∙ sym (take_all lo a past)
        ]

    back : drop (lo + m) b ≡ drop (lo + m) a
    back =
        let sum : lo + m ≡ (at + n) + (lo + m - (at + n)) = omega arith in
        ap (λ (k : ℕ). drop k b) sum
        ∙ sym (drop-drop (lo + m - (at + n)) (at + n) b)
        ∙ ap (λ (l : List ℕ). drop (lo + m - (at + n)) l) t.after
        ∙ drop-drop (lo + m - (at + n)) (at + n) a
        ∙ sym (ap (λ (k : ℕ). drop k a) sum)

-- two changes inside one range
pub torn_then : (at n : ℕ) (a b c : List ℕ) → Torn at n a b → Torn at n b c → Torn at n a c
torn_then at n a b c t u = record {
  before =
      sym (take-take (min at (length a)) (min at (length b)) c (omega (arith, t.no_shorter)))
      ∙ ap (λ (l : List ℕ). take (min at (length a)) l) u.before
      ∙ take-take (min at (length a)) at b (omega arith)
      ∙ t.before;
  after = u.after ∙ t.after;
  no_shorter = omega (arith, t.no_shorter, u.no_shorter);
  no_longer = omega (arith, t.no_longer, u.no_longer);
}

-- what stands before the range, and what stands behind it
pub torn_before : (at n lo len : ℕ) (a b : List ℕ) → Torn at n a b → lo + len ≤ at → lo + len ≤ length a → take len (drop lo b) ≡ take len (drop lo a)
torn_before at n lo len a b t le inside =
    sym (drop-take lo len b)
    ∙ ap (λ (l : List ℕ). drop lo l)
    (sym (take-take (lo + len) (min at (length a)) b (omega arith))
    ∙ ap (λ (l : List ℕ). take (lo + len) l) t.before
    ∙ take-take (lo + len) at a le)
    ∙ drop-take lo len a

pub torn_behind : (at n lo : ℕ) (a b : List ℕ) → Torn at n a b → at + n ≤ lo → drop lo b ≡ drop lo a
torn_behind at n lo a b t le =
    let sum : lo ≡ (at + n) + (lo - (at + n)) = omega arith in
    ap (λ (k : ℕ). drop k b) sum
    ∙ sym (drop-drop (lo - (at + n)) (at + n) b)
    ∙ ap (λ (l : List ℕ). drop (lo - (at + n)) l) t.after
    ∙ drop-drop (lo - (at + n)) (at + n) a
    ∙ sym (ap (λ (k : ℕ). drop k a) sum)

-- records put in their places
module _ (stride : ℕ) (records : ℕ → List ℕ) (first : ℕ) where
  pub placed_torn : (n : ℕ) (b : List ℕ) → ((i : ℕ) → length (records i) ≤ stride) → Torn (96 + first * stride) (n * stride) b (placed stride records first n b)
  placed_torn zero b short = torn_same (96 + first * stride) (0 * stride) b
  placed_torn (suc n) b short =
      let r = records (first + n) in
      let m = placed stride records first n b in
      torn_then (96 + first * stride) (suc n * stride) b m (spliced (96 + (first + n) * stride) r m)
      (torn_wider (96 + first * stride) (n * stride) (96 + first * stride) (suc n * stride) b m (placed_torn n b short) (omega arith) (omega arith))
      (torn_wider (96 + (first + n) * stride) (length r) (96 + first * stride) (suc n * stride) m (spliced (96 + (first + n) * stride) r m)
      (torn_part (96 + (first + n) * stride) (length r) r m (omega arith)) (omega arith) (omega (arith, short (first + n))))

  pub length-placed : (n : ℕ) (b : List ℕ) → ((i : ℕ) → length (records i) ≤ stride)
      → length (placed stride records first (suc n) b) ≡ max (length b) (96 + (first + n) * stride + length (records (first + n)))
  length-placed zero b short = length-spliced (96 + (first + 0) * stride) (records (first + 0)) b
  length-placed (suc n) b short =
      omega (arith, length-spliced (96 + (first + suc n) * stride) (records (first + suc n)) (placed stride records first (suc n) b), length-placed n b short, short (first + n))

  placed_long : (n : ℕ) (b : List ℕ) (i : ℕ) → first ≤ i → i < first + n → 96 + i * stride + length (records i) ≤ length (placed stride records first n b)
  placed_long zero b i le lt = absurd (omega (arith, le, lt))
  placed_long (suc n) b i le lt =
      let l = length-spliced (96 + (first + n) * stride) (records (first + n)) (placed stride records first n b) in
      elim (cases_lt i (first + n)) [
        | inl inside ↦ omega (arith, placed_long n b i le inside, l)
        | inr last ↦
            let is : i ≡ first + n = omega arith in
            omega (arith, l, ap (λ (k : ℕ). 96 + k * stride + length (records k)) is)
      ]

  -- each is there
  pub placed_there : (n : ℕ) (b : List ℕ) (i : ℕ) → ((i : ℕ) → length (records i) ≤ stride) → first ≤ i → i < first + n
      → take (length (records i)) (drop (96 + i * stride) (placed stride records first n b)) ≡ records i
  placed_there zero b i short le lt = absurd (omega (arith, le, lt))
  placed_there (suc n) b i short le lt =
      let r = records (first + n) in
      let m = placed stride records first n b in
      elim (cases_lt i (first + n)) [
        | inl inside ↦
            torn_before (96 + (first + n) * stride) (length r) (96 + i * stride) (length (records i)) m (spliced (96 + (first + n) * stride) r m)
            (torn_part (96 + (first + n) * stride) (length r) r m (omega arith))
            (omega (arith, short i, mul-le (i + 1) stride (first + n) stride (omega arith) (omega arith)))
            (placed_long n b i le inside)
            ∙ placed_there n b i short le inside
        | inr last ↦
            let is : i ≡ first + n = omega arith in
            ap (λ (k : ℕ). take (length (records k)) (drop (96 + k * stride) (spliced (96 + (first + n) * stride) r m))) is
            ∙ spliced_there (96 + (first + n) * stride) r m
            ∙ sym (ap records is)
      ]

-- only the records that are put count
pub placed_same : (stride : ℕ) (records others : ℕ → List ℕ) (first n : ℕ) (b : List ℕ) → ((i : ℕ) → first ≤ i → i < first + n → records i ≡ others i)
    → placed stride records first n b ≡ placed stride others first n b
placed_same stride records others first zero b same = refl
placed_same stride records others first (suc n) b same =
    ap (λ (r : List ℕ). spliced (96 + (first + n) * stride) r (placed stride records first n b)) (same (first + n) (omega arith) (omega arith))
    ∙ ap (spliced (96 + (first + n) * stride) (others (first + n))) (placed_same stride records others first n b (λ i le lt. same i le (omega (arith, lt))))

-- pieces in order, from an index on, this many
abbrev pub joined : (ℕ → List ℕ) → ℕ → ℕ → List ℕ
joined f index zero = []
joined f index (suc n) = f index ++ joined f (index + 1) n

pub joined_same : (f g : ℕ → List ℕ) (index n : ℕ) → ((i : ℕ) → index ≤ i → i < index + n → f i ≡ g i) → joined f index n ≡ joined g index n
joined_same f g index zero same = refl
joined_same f g index (suc n) same =
    ap (λ (l : List ℕ). l ++ joined f (index + 1) n) (same index (omega arith) (omega arith))
    ∙ ap (λ (l : List ℕ). g index ++ l) (joined_same f g (index + 1) n (λ i le lt. same i (omega (arith, le)) (omega (arith, lt))))

-- bytes are their pieces at a stride, where each piece reaches to the next
pub rejoined : (stride : ℕ) (len : ℕ → ℕ) (x : List ℕ) (index n : ℕ)
    → ((i : ℕ) → i < index + n → drop (96 + i * stride + len i) x ≡ drop (96 + (i + 1) * stride) x)
    → drop (96 + (index + n) * stride) x ≡ []
    → drop (96 + index * stride) x ≡ joined (λ i. take (len i) (drop (96 + i * stride) x)) index n
rejoined stride len x index zero next none = let e : index ≡ index + 0 = omega arith in ap (λ (k : ℕ). drop (96 + k * stride) x) e ∙ none
rejoined stride len x index (suc n) next none =
    let sum : index + suc n ≡ index + 1 + n = omega arith in
    sym (take-append-drop (len index) (drop (96 + index * stride) x))
    ∙ ap (λ (l : List ℕ). take (len index) (drop (96 + index * stride) x) ++ l)
    (drop-drop (len index) (96 + index * stride) x ∙ next index (omega arith)
    ∙ rejoined stride len x (index + 1) n (λ i lt. next i (omega (arith, lt))) (sym (ap (λ (k : ℕ). drop (96 + k * stride) x) sum) ∙ none))

-- bytes of the length of n records, all of which but the last are as long as the stride
pub rejoined_all : (stride : ℕ) (len : ℕ → ℕ) (x : List ℕ) (n : ℕ) → ((i : ℕ) → i + 1 < n → len i ≡ stride) → ((i : ℕ) → len i ≤ stride)
    → (n ≡ 0 → length x ≡ 96) → ((i : ℕ) → i + 1 ≡ n → length x ≡ 96 + i * stride + len i)
    → drop 96 x ≡ joined (λ i. take (len i) (drop (96 + i * stride) x)) 0 n
rejoined_all stride len x n full short none last =
    let at : 96 ≡ 96 + 0 * stride = omega arith in
    ap (λ (k : ℕ). drop k x) at ∙ rejoined stride len x 0 n next over
  where
    over : drop (96 + (0 + n) * stride) x ≡ []
    over = elim (cases_lt 0 n) [
      | inl some ↦
          let i = n - 1 in
          let is : n ≡ (n - 1) + 1 = omega arith in
          drop_all (96 + (0 + n) * stride) x (omega (arith, last (n - 1) (omega arith), short (n - 1), ap (λ (k : ℕ). k * stride) is))
      | inr zero_n ↦
          drop_all (96 + (0 + n) * stride) x (omega (arith, none (omega arith)))
    ]

    next : (i : ℕ) → i < 0 + n → drop (96 + i * stride + len i) x ≡ drop (96 + (i + 1) * stride) x
    next i lt = elim (cases_lt (i + 1) n) [
      | inl more ↦
          let e : 96 + i * stride + len i ≡ 96 + (i + 1) * stride = omega (arith, full i more) in
          ap (λ (k : ℕ). drop k x) e
      | inr end ↦
          let l = last i (omega arith) in
          drop_all (96 + i * stride + len i) x (omega (arith, l)) ∙ sym (drop_all (96 + (i + 1) * stride) x (omega (arith, l, short i)))
    ]
