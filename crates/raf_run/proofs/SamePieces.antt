-- The pieces of one file that are read from its front up to the first that can't be are one list.
use Rattle.std.proofs.Common.{◌≡◌, ℕ, ◌+◌, ◌-◌, ◌*◌, ◌<◌, ◌≤◌, min, true, false, List, [], ◌∷◌, ◌++◌, length, get_or, Option, Some, refl, sym, ap, ◌∙◌, arith, subst, inl, inr}
use Rattle.std.specs.Prelude.{◌⊎◌, slice_index, slice_get}
use Rattle.std.specs.List.{concat}
use Rattle.std.proofs.lemmas.List.{length-append, get_or_append_left, get_or-append_right, ext_get_or}
use Rattle.raf_format.specs.File.{File}
use Rattle.raf.specs.Concern.{needed, none_missing}
use Rattle.raf.specs.Converted.{ArePieces}
use Rattle.raf.specs.Read.{IsByteOf}
use Rattle.raf.specs.declared.command.Command.TheVariants as command
use Rattle.raf.proofs.Between.{Short}
use Rattle.raf_run.specs.Conversions.{piece_len}
use Rattle.raf_run.specs.ConversionLaws.{asked_at}
use Rattle.raf_run.proofs.Pieces.{Wants, one_index, none_missing_read}

-- each of the bytes that stand from an offset on is a byte of the file
abbrev pub Readable : File → ℕ → List (List ℕ) → Type 0
Readable F o ps = (k : ℕ) → k < length (concat ps) → IsByteOf F.shape.chunk_size F.chunks (o + k) (slice_index (concat ps) k)

-- no piece is read from an offset on: there is none, or it misses a chunk
abbrev pub Stops : File → ℕ → Type 0
Stops F o = (o ≡ F.size) ⊎ (none_missing (needed F (command.Read o (min piece_len (F.size - o)))) 0 F.chunks ≡ false)

module _ (F : File) (short : Short F.shape.chunk_size F.chunks) where
  byte_one : (p x y : ℕ) → IsByteOf F.shape.chunk_size F.chunks p x → IsByteOf F.shape.chunk_size F.chunks p y → x ≡ y
  byte_one p x y (i, m, found, lo, hi, e) (j, n, found', lo', hi', e') =
      let wide : length m ≤ F.shape.chunk_size = short i m found in
      let wide' : length n ≤ F.shape.chunk_size = short j n found' in
      let same : i ≡ j = one_index F.shape.chunk_size i j p lo (omega (arith, hi, wide)) lo' (omega (arith, hi', wide')) in
      let there : ◌≡◌ {A = Option (Option (List ℕ))} (Some (Some m)) (Some (Some n)) = sym found ∙ ap (slice_get F.chunks) same ∙ found' in
      let chunk : m ≡ n = some_some m n there in
      e ∙ ap (λ (i : ℕ). slice_index m (p - i * F.shape.chunk_size)) same ∙ ap (λ (m : List ℕ). slice_index m (p - j * F.shape.chunk_size)) chunk ∙ sym e'
    where
      some_some : (m n : List ℕ) → ◌≡◌ {A = Option (Option (List ℕ))} (Some (Some m)) (Some (Some n)) → m ≡ n
      some_some m n e = (cc)

  goes_on : (o : ℕ) (q : List ℕ) (qs : List (List ℕ)) → ArePieces piece_len (F.size - o) (q ∷ qs) → Readable F o (q ∷ qs) → Stops F o → ⊥
  goes_on o q qs (more, len, are) read (inl end) = omega (arith, more, end)
  goes_on o q qs (more, len, are) read (inr missing) =
      let there : none_missing (needed F (command.Read o (min piece_len (F.size - o)))) 0 F.chunks ≡ true = none_missing_read F short o (min piece_len (F.size - o)) byte in
      let odd : true ≡ false = sym there ∙ missing in
      (cc)
    where
      byte : (p : ℕ) → o ≤ p → p < o + min piece_len (F.size - o) → (byte : ℕ) × IsByteOf F.shape.chunk_size F.chunks p byte
      byte p lo hi =
          let e : o + (p - o) ≡ p = omega (arith, lo) in (
            slice_index (q ++ concat qs) (p - o),
            subst (λ (n : ℕ). IsByteOf F.shape.chunk_size F.chunks n (slice_index (q ++ concat qs) (p - o))) e (read (p - o) (omega (arith, lo, hi, len, length-append q (concat qs)))),
          )

  front : (o : ℕ) (p : List ℕ) (ps : List (List ℕ)) → Readable F o (p ∷ ps) → (k : ℕ) → k < length p → IsByteOf F.shape.chunk_size F.chunks (o + k) (get_or p k 0)
  front o p ps read k lt = subst (IsByteOf F.shape.chunk_size F.chunks (o + k)) (get_or_append_left p (concat ps) 0 k lt) (read k (omega (arith, lt, length-append p (concat ps))))

  behind : (o : ℕ) (p : List ℕ) (ps : List (List ℕ)) → Readable F o (p ∷ ps) → Readable F (o + length p) ps
  behind o p ps read k lt =
      let at : o + (length p + k) ≡ o + length p + k = omega arith in
      let place : length p + k - length p ≡ k = omega arith in
      let byte : get_or (p ++ concat ps) (length p + k) 0 ≡ get_or (concat ps) k 0 =
      get_or-append_right p (concat ps) (length p) (length p + k) 0 refl (omega arith) ∙ ap (λ (n : ℕ). get_or (concat ps) n 0) place in
      subst (λ (n : ℕ). IsByteOf F.shape.chunk_size F.chunks n (get_or (concat ps) k 0)) at
      (subst (IsByteOf F.shape.chunk_size F.chunks (o + (length p + k))) byte (read (length p + k) (omega (arith, lt, length-append p (concat ps)))))

  piece_one : (o : ℕ) (p q : List ℕ) (ps qs : List (List ℕ)) → length p ≡ length q → Readable F o (p ∷ ps) → Readable F o (q ∷ qs) → p ≡ q
  piece_one o p q ps qs long read read' =
      ext_get_or 0 p q long (λ k lt. byte_one (o + k) (get_or p k 0) (get_or q k 0) (front o p ps read k lt) (front o q qs read' k (omega (arith, lt, long))))

  -- one piece alone stands at an offset
  pub piece_of : (o : ℕ) (p q : List ℕ) → length p ≡ length q → ((k : ℕ) → k < length p → IsByteOf F.shape.chunk_size F.chunks (o + k) (slice_index p k))
      → ((k : ℕ) → k < length q → IsByteOf F.shape.chunk_size F.chunks (o + k) (slice_index q k)) → p ≡ q
  piece_of o p q long read read' = ext_get_or 0 p q long (λ k lt. byte_one (o + k) (get_or p k 0) (get_or q k 0) (read k lt) (read' k (omega (arith, lt, long))))

  rest : (o : ℕ) (p : List ℕ) (ps : List (List ℕ)) → length p ≡ min piece_len (F.size - o) → ArePieces piece_len (F.size - o - piece_len) ps → ArePieces piece_len (F.size - (o + length p)) ps
  rest o p ps len are = let e : F.size - o - 65536 ≡ F.size - (o + length p) = omega (arith, len) in subst (λ (n : ℕ). ArePieces piece_len n ps) e are

  pub pieces_one : (o : ℕ) (ps qs : List (List ℕ)) → ArePieces piece_len (F.size - o) ps → ArePieces piece_len (F.size - o) qs → Readable F o ps → Readable F o qs → Stops F (o + length (concat ps))
      → Stops F (o + length (concat qs)) → ps ≡ qs
  pieces_one o [] [] are are' read read' stop stop' = refl
  pieces_one o [] (q ∷ qs) are are' read read' stop stop' = absurd (goes_on o q qs are' read' (subst (Stops F) (let e : o + 0 ≡ o = omega arith in e) stop))
  pieces_one o (p ∷ ps) [] are are' read read' stop stop' = absurd (goes_on o p ps are read (subst (Stops F) (let e : o + 0 ≡ o = omega arith in e) stop'))
  pieces_one o (p ∷ ps) (q ∷ qs) (more, len, are) (more', len', are') read read' stop stop' =
      let at : o + length q ≡ o + length p = omega (arith, len, len') in
      let same = piece_one o p q ps qs (len ∙ sym len') read read' in
      let others : ps ≡ qs =
      pieces_one (o + length p) ps qs (rest o p ps len are) (subst (λ (n : ℕ). ArePieces piece_len (F.size - n) qs) at (rest o q qs len' are'))
      (behind o p ps read) (subst (λ (n : ℕ). Readable F n qs) at (behind o q qs read'))
      (subst (Stops F) (let e : o + length (p ++ concat ps) ≡ o + length p + length (concat ps) = omega (arith, length-append p (concat ps)) in e) stop)
      (subst (Stops F) (let e : o + length (q ++ concat qs) ≡ o + length p + length (concat qs) = omega (arith, length-append q (concat qs), len, len') in e) stop') in
      λ i. same i ∷ others i

  -- so are those that find their random bytes, up to the first that doesn't
  pub dried_one : (nonce_len chunk_size o left : ℕ) (ps qs : List (List ℕ)) → ArePieces piece_len (F.size - o) ps → ArePieces piece_len (F.size - o) qs → Readable F o ps → Readable F o qs
      → Wants F nonce_len chunk_size o left ps → Wants F nonce_len chunk_size o left qs → ps ≡ qs
  dried_one nonce_len chunk_size o left [] [] are are' read read' want want' = refl
  dried_one nonce_len chunk_size o left [] (q ∷ qs) are (more, len, are') read read' want (fits, want') =
      absurd (omega (arith, want, fits, ap (asked_at nonce_len chunk_size o) len))
  dried_one nonce_len chunk_size o left (p ∷ ps) [] (more, len, are) are' read read' (fits, want) want' =
      absurd (omega (arith, want', fits, ap (asked_at nonce_len chunk_size o) len))
  dried_one nonce_len chunk_size o left (p ∷ ps) (q ∷ qs) (more, len, are) (more', len', are') read read' (fits, want) (fits', want') =
      let long : length q ≡ length p = len' ∙ sym len in
      let same = piece_one o p q ps qs (sym long) read read' in
      let others : ps ≡ qs =
      dried_one nonce_len chunk_size (o + length p) (left - asked_at nonce_len chunk_size o (length p)) ps qs (rest o p ps len are)
      (subst (λ (n : ℕ). ArePieces piece_len (F.size - (o + n)) qs) long (rest o q qs len' are'))
      (behind o p ps read) (subst (λ (n : ℕ). Readable F (o + n) qs) long (behind o q qs read'))
      want (subst (λ (n : ℕ). Wants F nonce_len chunk_size (o + n) (left - asked_at nonce_len chunk_size o n) qs) long want') in
      λ i. same i ∷ others i
