-- A header that is written says its fields and has its tag.
use Rattle.std.proofs.Common.{◌≡◌, ℕ, List, length, take, drop, sym, ◌∙◌, ap, arith, length-append}
use Rattle.std.proofs.lemmas.List.{take_at, drop_at, take_all}
use Rattle.raf_format.specs.Cipher.{Cipher, IsLawful}
use Rattle.raf_format.specs.Header.{between, head_of, header_tag, sealed_header, InRange, Says, Tagged}
use Rattle.raf_format.specs.declared.header.Header.{Header}

module _ (C : Cipher) (lawful : IsLawful C) (key : List ℕ) where
  length_head : (h : Header) → length h.id ≡ 32 → length (head_of h) ≡ 64
  length_head h id = omega (arith, id)

  pub length_header : (h : Header) → length h.id ≡ 32 → length (sealed_header C key h) ≡ 96
  length_header h id = omega (arith, length-append (head_of h) (header_tag C key (head_of h)), length_head h id, lawful.tag_len (C.header_key key (between 32 64 (head_of h))) (head_of h))

  -- a header that is written says its fields and has its tag
  sealed_front : (h : Header) → length h.id ≡ 32 → take 64 (sealed_header C key h) ≡ head_of h
  sealed_front h id = take_at (head_of h) (header_tag C key (head_of h)) 64 (length_head h id)

  pub sealed_says : (out : List ℕ) (h : Header) → out ≡ sealed_header C key h → InRange h → Says out h
  sealed_says out h is fields = record {
    long = omega (arith, ap length is, length_header h fields.id);
    head = ap (λ (l : List ℕ). take 64 l) is ∙ sealed_front h fields.id;
    fields = fields;
  }

  pub sealed_tagged : (out : List ℕ) (h : Header) → out ≡ sealed_header C key h → length h.id ≡ 32 → Tagged C key out
  sealed_tagged out h is id =
      ap (λ (l : List ℕ). take 32 (drop 64 l)) is
      ∙ ap (λ (l : List ℕ). take 32 l) (drop_at (head_of h) (header_tag C key (head_of h)) 64 (length_head h id))
      ∙ take_all 32 (header_tag C key (head_of h)) (omega (arith, lawful.tag_len (C.header_key key (between 32 64 (head_of h))) (head_of h)))
      ∙ ap (header_tag C key) (sym (ap (λ (l : List ℕ). take 64 l) is ∙ sealed_front h id))
