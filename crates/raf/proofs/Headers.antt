-- What is read of a header, and what follows for the whole storage.
use Rattle.std.proofs.Common.{◌≡◌, inl, inr, ℕ, ◌≤◌, ◌<◌, ◌^◌, List, length, take, drop, Option, Some, sym, ◌∙◌, ap, subst, arith, length-take}
use Rattle.std.proofs.lemmas.List.{take-take, drop-take}
use Rattle.raf_io.specs.Storage.{ReadsFrom}
use Rattle.raf_format.specs.Version.{IsVersion}
use Rattle.raf_format.specs.Cipher.{Cipher}
use Rattle.raf.specs.Loaded.{Front, Sound}
use Rattle.raf_format.specs.File.{shape_of, layout_len}
use Rattle.raf_format.specs.Header.{InRange, Says, Tagged, header_tag, between}
use Rattle.raf_format.specs.declared.header.Header.{Header}

-- the first 96 bytes of what is told
pub read_front : (told : Option (List ℕ)) (b got : List ℕ) → told ≡ Some b → length got ≡ 96 → ReadsFrom told 0 got → Front b got
read_front told b got tells len reads =
    let there : ReadsFrom (Some b) 0 got = subst (λ (o : Option (List ℕ)). ReadsFrom o 0 got) tells reads in
    record { is = there.1 ∙ ap (λ (n : ℕ). take n b) len; long = omega (arith, there.0) }

head_same : (b got : List ℕ) → Front b got → take 64 got ≡ take 64 b
head_same b got f = ap (λ (l : List ℕ). take 64 l) f.is ∙ take-take 64 96 b (omega arith)

pub says_front : (b got : List ℕ) (h : Header) → Front b got → Says b h → Says got h
says_front b got h f says = record {
  long = omega (arith, ap length f.is, length-take 96 b, f.long);
  head = head_same b got f ∙ says.head;
  fields = says.fields;
}

pub says_whole : (b got : List ℕ) (h : Header) → Front b got → Says got h → Says b h
says_whole b got h f says = record {
  long = f.long;
  head = sym (head_same b got f) ∙ says.head;
  fields = says.fields;
}

tag_same : (b got : List ℕ) → Front b got → between 64 96 got ≡ between 64 96 b
tag_same b got f =
    ap (λ (l : List ℕ). take 32 (drop 64 l)) f.is ∙ ap (λ (l : List ℕ). take 32 l) (drop-take 64 32 b) ∙ take-take 32 32 (drop 64 b) (omega arith)

pub tagged_front : (C : Cipher) (key b got : List ℕ) → Front b got → Tagged C key b → Tagged C key got
tagged_front C key b got f tagged = tag_same b got f ∙ tagged ∙ ap (header_tag C key) (sym (head_same b got f))

pub tagged_whole : (C : Cipher) (key b got : List ℕ) → Front b got → Tagged C key got → Tagged C key b
tagged_whole C key b got f tagged = sym (tag_same b got f) ∙ tagged ∙ ap (header_tag C key) (head_same b got f)

-- the numbers of the two versions
pub version_range : (n : ℕ) → IsVersion n → (1 ≤ n) × (n ≤ 2)
version_range n (inl one) = (omega (arith, one), omega (arith, one))
version_range n (inr two) = (omega (arith, two), omega (arith, two))

pub in_range_sound : (C : Cipher) (h : Header) → InRange h → h.algorithm ≡ C.id → layout_len (shape_of C h) h.file_size < 2 ^ 64 → Sound C h
in_range_sound C h range algorithm below =
    let v = version_range h.version range.version in
    record { version_least = v.0; version_most = v.1; algorithm = algorithm; least = range.least; most = range.most; below = below }
