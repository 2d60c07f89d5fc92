-- What is read of a header.
use Rattle.std.proofs.Common.{Bool, ◌≡◌, ℕ, ◌+◌, ◌-◌, ◌<◌, ◌≤◌, List, [], ◌∷◌, length, take, drop, get_or, sym, ◌∙◌, ap, arith}
use Rattle.std.specs.Prelude.{IsTrue, ◌↔◌, nat_eq}
use Rattle.std.specs.Cmp.Lexicographic.{bytes_decides}
use lib.Pointwise.{pointwise}
use Rattle.std.specs.Int.{w32, w64, from_le_bytes}
use Rattle.std.proofs.lemmas.List.{take-take, drop-take, drop_more, take_all}
use Rattle.std.proofs.lemmas.Nat.{from_le_bytes-to_le_bytes_4, from_le_bytes-to_le_bytes_8}
use Rattle.raf_format.specs.Cipher.{Cipher}
use Rattle.raf_format.specs.Header.{Says, Tagged, head_of, header_tag, between}
use Rattle.raf_format.specs.declared.header.Header.{Header}

-- bytes say one thing at most
pub says_one : (b : List ℕ) (h k : Header) → Says b h → Says b k → h ≡ k
says_one b h k a c = (λ i. record { version = version i; algorithm = algorithm i; chunk_size = chunk_size i; file_size = size i; id = id i })
  where
    heads : head_of h ≡ head_of k
    heads = sym a.head ∙ c.head

    version : h.version ≡ k.version
    version = ap (λ (l : List ℕ). get_or l 8 0) heads

    algorithm : h.algorithm ≡ k.algorithm
    algorithm = ap (λ (l : List ℕ). get_or l 9 0) heads

    chunk_size : h.chunk_size ≡ k.chunk_size
    chunk_size =
        sym (from_le_bytes-to_le_bytes_4 h.chunk_size (omega (arith, a.fields.most)))
        ∙ ap (λ (l : List ℕ). from_le_bytes w32 (take 4 (drop 12 l))) heads
        ∙ from_le_bytes-to_le_bytes_4 k.chunk_size (omega (arith, c.fields.most))

    size : h.file_size ≡ k.file_size
    size =
        sym (from_le_bytes-to_le_bytes_8 h.file_size a.fields.size)
        ∙ ap (λ (l : List ℕ). from_le_bytes w64 (take 8 (drop 16 l))) heads
        ∙ from_le_bytes-to_le_bytes_8 k.file_size c.fields.size

    id : h.id ≡ k.id
    id = ap (λ (l : List ℕ). drop 32 l) heads

-- the fields that bytes would have are those that they say
pub candidate_is : (b : List ℕ) (h k : Header) → Says b h → length b ≡ 96 → k.version ≡ get_or b 8 0 → k.algorithm ≡ get_or b 9 0 → k.chunk_size ≡ from_le_bytes w32 (take 4 (drop 12 b))
    → k.file_size ≡ from_le_bytes w64 (take 8 (drop 16 b)) → k.id ≡ take 32 (drop 32 b) → k ≡ h
candidate_is b h k says len v a c s d = (λ i. record { version = version i; algorithm = algorithm i; chunk_size = chunk_size i; file_size = size i; id = id i })
  where
    cut : (n m : ℕ) → n + m ≤ 64 → take m (drop n b) ≡ take m (drop n (head_of h))
    cut n m le =
        let l : 64 ≡ n + (64 - n) = omega arith in
        sym (take-take m (64 - n) (drop n b) (omega arith)) ∙ ap (λ (x : List ℕ). take m x) (sym (drop-take n (64 - n) b))
        ∙ ap (λ (x : ℕ). take m (drop n (take x b))) (sym l) ∙ ap (λ (x : List ℕ). take m (drop n x)) says.head

    one : (n : ℕ) → n < 96 → get_or b n 0 ∷ [] ≡ take 1 (drop n b)
    one n below = sym (ap (λ (x : List ℕ). take 1 x) (drop_more b n 0 (omega (arith, len, below))))

    version : k.version ≡ h.version
    version = v ∙ ap (λ (x : List ℕ). get_or x 0 0) (one 8 (omega arith) ∙ cut 8 1 (omega arith))

    algorithm : k.algorithm ≡ h.algorithm
    algorithm = a ∙ ap (λ (x : List ℕ). get_or x 0 0) (one 9 (omega arith) ∙ cut 9 1 (omega arith))

    chunk_size : k.chunk_size ≡ h.chunk_size
    chunk_size = c ∙ ap (from_le_bytes w32) (cut 12 4 (omega arith)) ∙ from_le_bytes-to_le_bytes_4 h.chunk_size (omega (arith, says.fields.most))

    size : k.file_size ≡ h.file_size
    size = s ∙ ap (from_le_bytes w64) (cut 16 8 (omega arith)) ∙ from_le_bytes-to_le_bytes_8 h.file_size says.fields.size

    id : k.id ≡ h.id
    id = d ∙ cut 32 32 (omega arith) ∙ take_all 32 h.id (omega (arith, says.fields.id))

-- the tag of a header, by the id in its fields
pub head_tag : (C : Cipher) (key : List ℕ) (h : Header) → length h.id ≡ 32 → C.header_mac (C.header_key key h.id) (head_of h) ≡ header_tag C key (head_of h)
head_tag C key h len = ap (λ (id : List ℕ). C.header_mac (C.header_key key id) (head_of h)) (sym (take_all 32 h.id (omega (arith, len))))

-- the tag of bytes that hold a header, by the id in its place
pub front_tag : (C : Cipher) (key b : List ℕ) → C.header_mac (C.header_key key (take 32 (drop 32 b))) (take 64 b) ≡ header_tag C key (take 64 b)
front_tag C key b =
    let id : between 32 64 (take 64 b) ≡ take 32 (drop 32 b) = ap (λ (l : List ℕ). take 32 l) (drop-take 32 32 b) ∙ take-take 32 32 (drop 32 b) (omega arith) in
    ap (λ (x : List ℕ). C.header_mac (C.header_key key x) (take 64 b)) (sym id)

-- a tag that was made and compared
pub tag_compared : (C : Cipher) (key b tag : List ℕ) (same : Bool) → tag ≡ header_tag C key (take 64 b) → same ≡ pointwise nat_eq tag (take 32 (drop 64 b)) → IsTrue same ↔ Tagged C key b
tag_compared C key b tag same is eq =
    let decided = bytes_decides tag (take 32 (drop 64 b)) in
    (λ t. sym (decided.0 (sym eq ∙ t)) ∙ is, λ tagged. eq ∙ decided.1 (is ∙ sym tagged))
