-- The parts of a frame at the front of a buffer.
use Rattle.std.proofs.Common.{◌≡◌, ℕ, ◌+◌, ◌≤◌, List, ◌++◌, Option, subst, length, take, drop, sym, ap, ◌∙◌, arith, length-drop}
use Rattle.std.proofs.lemmas.List.{take-take, take_at, take_all, drop_at, drop-take, drop-drop, length-take-le}
use Rattle.aegis_core.specs.Sealing.{Unseals}
use Rattle.aegis_core.specs.declared.variant.Variant.TheVariants.{Aegis128L}

module _ (b : List ℕ) (n len : ℕ) (fits : n ≤ length b) (is : n ≡ 21 + len) where
  pub head_in : take 5 b ≡ take 5 (take n b)
  head_in = sym (take-take 5 n b (omega arith))

  pub text_in : take len (drop 5 b) ≡ take len (drop 5 (take n b))
  text_in =
      let e : n ≡ 5 + (16 + len) = omega arith in
      sym (take-take len (16 + len) (drop 5 b) (omega arith))
      ∙ ap (take len) (sym (drop-take 5 (16 + len) b))
      ∙ ap (λ (k : ℕ). take len (drop 5 (take k b))) (sym e)

  pub tag_in : take 16 (drop len (drop 5 b)) ≡ take 16 (drop (5 + len) (take n b))
  tag_in =
      let e : n ≡ 5 + len + 16 = omega arith in
      ap (take 16) (drop-drop len 5 b)
      ∙ sym (take-take 16 16 (drop (5 + len) b) (omega arith))
      ∙ ap (take 16) (sym (drop-take (5 + len) 16 b))
      ∙ ap (λ (k : ℕ). take 16 (drop (5 + len) (take k b))) (sym e)

  -- after a write behind the head
  pub head_stays : (h x : List ℕ) → h ≡ take 5 b → take 5 (take n (h ++ x)) ≡ take 5 (take n b)
  head_stays h x same =
      take-take 5 n (h ++ x) (omega arith) ∙ take_at h x 5 (ap length same ∙ length-take-le 5 b (omega arith)) ∙ same ∙ head_in

-- an answer of unsealing, at equal bytes
pub unseals_at : (k l n o h i c d t u : List ℕ) (a : Option (List ℕ)) → k ≡ l → n ≡ o → h ≡ i → c ≡ d → t ≡ u
    → Unseals Aegis128L 16 k n h c t a → Unseals Aegis128L 16 l o i d u a
unseals_at k l n o h i c d t u a ek en eh ec et is =
    subst (λ (x : List ℕ). Unseals Aegis128L 16 x o i d u a) ek
    (subst (λ (x : List ℕ). Unseals Aegis128L 16 k x i d u a) en
    (subst (λ (x : List ℕ). Unseals Aegis128L 16 k n x d u a) eh
    (subst (λ (x : List ℕ). Unseals Aegis128L 16 k n h x u a) ec
    (subst (λ (x : List ℕ). Unseals Aegis128L 16 k n h c x a) et is))))

-- a head and what comes behind it are one frame
pub joined : (W : Type 0 → Type 0) (key nonce h r : List ℕ) (len : ℕ) (a : Option (List ℕ)) → length h ≡ 5 → length r ≡ 16 + len
    → W (Unseals Aegis128L 16 key nonce h (take len r) (drop len r) a)
    → W (Unseals Aegis128L 16 key nonce (take 5 (h ++ r)) (take len (drop 5 (h ++ r))) (take 16 (drop (5 + len) (h ++ r))) a)
joined W key nonce h r len a five long got =
    let head : h ≡ take 5 (h ++ r) = sym (take_at h r 5 five) in
    let rest : r ≡ drop 5 (h ++ r) = sym (drop_at h r 5 five) in
    let tag : drop len r ≡ take 16 (drop (5 + len) (h ++ r)) =
    sym (take_all 16 (drop len r) (omega (arith, length-drop len r))) ∙ ap (λ (l : List ℕ). take 16 (drop len l)) rest ∙ ap (take 16) (drop-drop len 5 (h ++ r)) in
    subst (λ (l : List ℕ). W (Unseals Aegis128L 16 key nonce l (take len (drop 5 (h ++ r))) (take 16 (drop (5 + len) (h ++ r))) a)) head
    (subst (λ (l : List ℕ). W (Unseals Aegis128L 16 key nonce h (take len l) (take 16 (drop (5 + len) (h ++ r))) a)) rest
    (subst (λ (l : List ℕ). W (Unseals Aegis128L 16 key nonce h (take len r) l a)) tag got))
