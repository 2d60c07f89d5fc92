-- What a command leaves that the random source cut short is one list of bytes.
use Rattle.std.proofs.Common.{◌≡◌, inl, inr, ℕ, ◌+◌, ◌*◌, ◌<◌, ◌≤◌, true, List, length, take, Option, Some, None, refl, sym, ◌∙◌, ap, arith, length-append}
use Rattle.std.proofs.Math.Seq.{take-append_seam}
use Rattle.std.proofs.lemmas.Nat.{mul-le}
use Rattle.std.proofs.lemmas.Bool.{cases_lt}
use Rattle.raf_io.specs.Source.{Takes, IsShort}
use Rattle.raf_format.specs.Cipher.{Cipher, IsLawful}
use Rattle.raf_format.specs.File.{File}
use Rattle.raf.specs.Change.{Change}
use Rattle.raf.specs.Image.{stopped_after}
use Rattle.raf.specs.Meaning.{Starved}
use Rattle.raf.specs.declared.command.Command.{Command}

module _ (C : Cipher) (lawful : IsLawful C) (key : List ℕ) (F : File) (c : Command) (b left : List ℕ) (s t : List ℕ) where
  -- as many nonces as there are bytes for
  counted : (n : ℕ) (nonces : List ℕ) (rest : Option (List ℕ)) → length nonces ≡ n * C.nonce_len → Takes (Some left) nonces rest → IsShort rest C.nonce_len
      → (n * C.nonce_len ≤ length left) × (length left < n * C.nonce_len + C.nonce_len) × (nonces ≡ take (n * C.nonce_len) left)
  counted n nonces None drawn taken short = absurd short
  counted n nonces (Some rest) drawn taken short =
      let long : length left ≡ length nonces + length rest = ap length taken ∙ length-append nonces rest in (
        omega (arith, long, drawn),
        omega (arith, long, drawn, short),
        sym (ap (λ (k : ℕ). take k left) (sym drawn) ∙ ap (take (length nonces)) taken ∙ take-append_seam nonces rest),
      )

  at_most : (m n : ℕ) → m * C.nonce_len ≤ length left → length left < n * C.nonce_len + C.nonce_len → m ≤ n
  at_most m n fits less = elim (cases_lt n m) [
    | inl above ↦
        let up : (n + 1) * C.nonce_len ≤ m * C.nonce_len = mul-le (n + 1) C.nonce_len m C.nonce_len (omega (arith, above)) (omega arith) in
        let one : (n + 1) * C.nonce_len ≡ n * C.nonce_len + C.nonce_len = omega arith in
        absurd (omega (arith, up, one, fits, less))
    | inr not ↦ omega (arith, not)
  ]

  -- where the source told what it had left, and fails only where bytes lack
  pub starved_one : Starved C key F c b true (Some left) (Some s) → Starved C key F c b true (Some left) (Some t) → s ≡ t
  starved_one p q =
      let x = counted p.count p.nonces p.rest p.drawn p.taken (p.short refl) in
      let y = counted q.count q.nonces q.rest q.drawn q.taken (q.short refl) in
      let many : p.count ≡ q.count = omega (arith, at_most p.count q.count x.0 y.1, at_most q.count p.count y.0 x.1) in
      let change : p.change ≡ q.change = some_change p.change q.change (sym p.changes ∙ q.changes) in
      let nonces : p.nonces ≡ q.nonces = x.2 ∙ ap (λ (n : ℕ). take (n * C.nonce_len) left) many ∙ sym y.2 in
      let told : Some s ≡ Some t = p.tells ∙ (λ i. Some (stopped_after C key F (change i) (many i) (nonces i) b)) ∙ sym q.tells in
      some_bytes told
    where
      some_change : (x y : Change) → Some x ≡ Some y → x ≡ y
      some_change x y e = cc

      some_bytes : Some s ≡ Some t → s ≡ t
      some_bytes e = cc
