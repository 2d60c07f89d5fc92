-- A record that is opened or sealed part by part.
use Rattle.std.proofs.Common.{◌≡◌, ℕ, ◌+◌, ◌-◌, Bool, true, false, List, ◌++◌, length, take, drop, replicate, append_assoc, Option, Some, None, refl, sym, ◌∙◌, ap, subst, arith, length-append}
use Rattle.std.specs.Bool.{OnTrue, OnFalse}
use Rattle.std.proofs.lemmas.List.{take_at, drop_at}
use Rattle.aegis_core.specs.Sealing.{seal, Unseals}
use Rattle.aegis_core.specs.declared.variant.Variant.{Variant}
use Rattle.aegis_core.proofs.Laws.{is_sealing}
use Rattle.raf_format.specs.Cipher.{cipher_of, IsTagLen}
use Rattle.raf_format.specs.File.{StandsFor, beside, sealed, unsealed}
use Rattle.raf_format.specs.Record.{Released, Unsealed, middle}
use Rattle.raf_format.proofs.Ciphers.{lawful, seal_is, unseal_is}
use Rattle.raf_format.proofs.Opened.{stands}

module _ (v : Variant) (t : ℕ) (l : IsTagLen t) (key id r nonce rest mc tag ad : List ℕ) (index : ℕ) (whole : r ≡ nonce ++ rest) (cut : rest ≡ mc ++ tag)
    (n : length nonce ≡ (cipher_of v).nonce_len) (len : length tag ≡ t) (is_ad : ad ≡ beside id index) where
  front : take (cipher_of v).nonce_len r ≡ nonce
  front = ap (λ (x : List ℕ). take (cipher_of v).nonce_len x) whole ∙ take_at nonce rest (cipher_of v).nonce_len n

  back : drop (cipher_of v).nonce_len r ≡ mc ++ tag
  back = ap (λ (x : List ℕ). drop (cipher_of v).nonce_len x) whole ∙ drop_at nonce rest (cipher_of v).nonce_len n ∙ cut

  long : length r ≡ (cipher_of v).nonce_len + length mc + t
  long = omega (arith, ap length whole, length-append nonce rest, ap length cut, length-append mc tag, n, len)

  -- a record with these parts, and another text in the middle
  middle_is : (now : List ℕ) → middle (cipher_of v) t (nonce ++ (now ++ tag)) ≡ now
  middle_is now = ap (λ (x : List ℕ). take (length (nonce ++ (now ++ tag)) - ((cipher_of v).nonce_len + t)) x) (drop_at nonce (now ++ tag) (cipher_of v).nonce_len n)
      ∙ take_at now tag (length (nonce ++ (now ++ tag)) - ((cipher_of v).nonce_len + t)) (omega (arith, length-append nonce (now ++ tag), length-append now tag))

  tag_is : (now : List ℕ) → length now ≡ length mc → drop (length r - t) (nonce ++ (now ++ tag)) ≡ tag
  tag_is now same = ap (λ (x : ℕ). drop x (nonce ++ (now ++ tag))) ends ∙ skipped
    where
      ends : length r - t ≡ length (nonce ++ now)
      ends = omega (arith, long, length-append nonce now, same, n)

      skipped : drop (length (nonce ++ now)) (nonce ++ (now ++ tag)) ≡ tag
      skipped = ap (λ (x : List ℕ). drop (length (nonce ++ now)) x) (sym (append_assoc nonce now tag)) ∙ drop_at (nonce ++ now) tag (length (nonce ++ now)) refl

  computed : unsealed (cipher_of v) t key id index r ≡ (cipher_of v).unseal t key nonce ad (mc ++ tag)
  computed = ap (λ (x : List ℕ). (cipher_of v).unseal t key x (beside id index) (drop (cipher_of v).nonce_len r)) front
      ∙ ap (λ (x : List ℕ). (cipher_of v).unseal t key nonce (beside id index) x) back
      ∙ ap (λ (x : List ℕ). (cipher_of v).unseal t key nonce x (mc ++ tag)) (sym is_ad)

  answer : (o : Option (List ℕ)) → Unseals v (length tag) key nonce ad mc tag o → StandsFor (cipher_of v) t key id index r o
  answer o u = subst (λ (x : Option (List ℕ)). StandsFor (cipher_of v) t key id index r x)
      (computed ∙ unseal_is v t key nonce ad mc tag len
      ∙ (is_sealing v t l).one_answer key nonce ad mc tag o (subst (λ (k : ℕ). Unseals v k key nonce ad mc tag o) len u))
      (stands (cipher_of v) (lawful v) t l key id r index)

  pub opened_parts : (now : List ℕ) (opens : Bool) → length now ≡ length mc
      → OnTrue opens (Unseals v (length tag) key nonce ad mc tag (Some now)) → OnFalse opens (Unseals v (length tag) key nonce ad mc tag None)
      → OnFalse opens (now ≡ replicate (length mc) 0xaa)
      → Unsealed (cipher_of v) t key id index r (nonce ++ (now ++ tag)) opens
  opened_parts now opens same found none erased = record {
    chunk = on_true opens found;
    none = on_false opens none;
    erased = on_erased opens erased;
    nonce = take_at nonce (now ++ tag) (cipher_of v).nonce_len n ∙ sym front;
    tag = tag_is now same ∙ sym (ap (λ (x : List ℕ). drop (length r - t) x) (whole ∙ ap (λ (x : List ℕ). nonce ++ x) cut) ∙ tag_is mc refl);
  }
    where
      on_true : (b : Bool) → OnTrue b (Unseals v (length tag) key nonce ad mc tag (Some now)) → OnTrue b (StandsFor (cipher_of v) t key id index r (Some (middle (cipher_of v) t (nonce ++ (now ++ tag)))))
      on_true true u = subst (λ (x : List ℕ). StandsFor (cipher_of v) t key id index r (Some x)) (sym (middle_is now)) (answer (Some now) u)
      on_true false u = u

      on_false : (b : Bool) → OnFalse b (Unseals v (length tag) key nonce ad mc tag None) → OnFalse b (StandsFor (cipher_of v) t key id index r None)
      on_false true u = u
      on_false false u = answer None u

      on_erased : (b : Bool) → OnFalse b (now ≡ replicate (length mc) 0xaa) → OnFalse b (middle (cipher_of v) t (nonce ++ (now ++ tag)) ≡ replicate (length r - ((cipher_of v).nonce_len + t)) 0xaa)
      on_erased true u = u
      on_erased false u =
          let count : length mc ≡ length r - ((cipher_of v).nonce_len + t) = omega (arith, long) in
          middle_is now ∙ u ∙ ap (λ (k : ℕ). replicate k 0xaa) count

  pub released_parts : (old now : List ℕ) (opens : Bool)
      → OnTrue opens (Unseals v (length tag) key nonce ad mc tag (Some now)) → OnFalse opens (Unseals v (length tag) key nonce ad mc tag None)
      → OnFalse opens (now ≡ old) → Released (cipher_of v) t key id index r old now opens
  released_parts old now true found none stays = record { chunk = answer (Some now) found; none = none; stays = stays }
  released_parts old now false found none stays = record { chunk = found; none = answer None none; stays = stays }

  pub sealed_parts : (text made : List ℕ) → seal v (length tag) key nonce ad mc ≡ (text, made)
      → nonce ++ (text ++ made) ≡ sealed (cipher_of v) t key id index (take (cipher_of v).nonce_len r) (middle (cipher_of v) t r)
  sealed_parts text made is =
      sym (ap (λ (x : List ℕ). x ++ (cipher_of v).seal t key x (beside id index) (middle (cipher_of v) t r)) front
      ∙ ap (λ (x : List ℕ). nonce ++ (cipher_of v).seal t key nonce (beside id index) x) text_is
      ∙ ap (λ (x : List ℕ). nonce ++ (cipher_of v).seal t key nonce x mc) (sym is_ad)
      ∙ ap (λ (x : List ℕ). nonce ++ x) (seal_is v t key nonce ad mc ∙ ap (λ (p : List ℕ × List ℕ). p.0 ++ p.1) pair))
    where
      pair : seal v t key nonce ad mc ≡ (text, made)
      pair = subst (λ (k : ℕ). seal v k key nonce ad mc ≡ (text, made)) len is

      text_is : middle (cipher_of v) t r ≡ mc
      text_is = ap (λ (x : List ℕ). middle (cipher_of v) t x) (whole ∙ ap (λ (x : List ℕ). nonce ++ x) cut) ∙ middle_is mc

  pub made_parts : (m text made : List ℕ) → seal v (length tag) key nonce ad m ≡ (text, made)
      → nonce ++ (text ++ made) ≡ sealed (cipher_of v) t key id index (take (cipher_of v).nonce_len r) m
  made_parts m text made is =
      sym (ap (λ (x : List ℕ). x ++ (cipher_of v).seal t key x (beside id index) m) front
      ∙ ap (λ (x : List ℕ). nonce ++ (cipher_of v).seal t key nonce x m) (sym is_ad)
      ∙ ap (λ (x : List ℕ). nonce ++ x) (seal_is v t key nonce ad m ∙ ap (λ (p : List ℕ × List ℕ). p.0 ++ p.1) pair))
    where
      pair : seal v t key nonce ad m ≡ (text, made)
      pair = subst (λ (k : ℕ). seal v k key nonce ad m ≡ (text, made)) len is
