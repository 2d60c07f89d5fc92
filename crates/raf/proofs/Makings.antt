-- A new file, and why one was not made.
use Rattle.std.proofs.Common.{◌≡◌, inl, inr, true, false, ℕ, ◌+◌, ◌-◌, ◌*◌, ◌^◌, ◌≤◌, ◌<◌, List, [], ◌∷◌, length, Option, Some, refl, sym, ◌∙◌, ap, subst, arith}
use Rattle.std.specs.Prelude.{◌⊎◌, is_some}
use Rattle.std.specs.Option.{option_map}
use Rattle.counts.specs.Counts.{Rose}
use Rattle.raf_tree.specs.Hashing.{Hashing}
use Rattle.raf_tree.specs.Tree.{leaves}
use Rattle.raf_tree.specs.Kept.{Kept as Tree}
use Rattle.raf_tree.specs.Steps.{Built}
use Rattle.raf_tree.specs.Laws.{TreeLaws}
use Rattle.raf_format.specs.Cipher.{Cipher, IsLawful}
use Rattle.raf_format.specs.Version.{IsVersion, version_number}
use Rattle.raf_format.specs.Header.{InRange, sealed_header}
use Rattle.raf_format.specs.File.{File, IsFile, Opens, Shape, shape_of, layout_len, chunk_count, file_of, chunks_from}
use Rattle.raf_format.specs.declared.header.Header.{Header}
use Rattle.raf_format.proofs.SealedHeaders.{length_header, sealed_says, sealed_tagged}
use Rattle.raf_io.specs.Storage.{IsLengthOf}
use Rattle.raf_io.specs.Source.{Takes, TakesAtMost, IsShort}
use Rattle.raf_io.specs.declared.errors.ErrorKind.{ErrorKind}
use Rattle.raf_io.specs.declared.errors.ErrorKind.TheVariants.{Io, AlreadyExists, Rng, Hash}
use Rattle.raf.specs.Outside.{Outside, Kept, Quiet, Caused, Moved}
use Rattle.raf.specs.Handle.{handle_of}
use Rattle.raf.specs.Carry.{SameTree, OfTrees}
use Rattle.raf.specs.Opening.{Settings, FreshOf, TreeMade, CanMake, IsFree, WhyNotMade, NotMade, Made, RefusalFault}
use Rattle.raf.specs.declared.creating.Fresh.{Fresh}
use Rattle.raf.proofs.Moves.{moved_less, moved_then, quiet_then, caused_later, takes_none}
use Rattle.raf.proofs.Places.{count_none}
use Rattle.raf.proofs.Openings.{shapes_limit, shaped_from}

not_hash : Hash ≡ Rng → ⊥
not_hash is = cc

not_io : Io ≡ Rng → ⊥
not_io is = cc

pub takes_nothing : (old new : Option (List ℕ)) (n : ℕ) → new ≡ old → TakesAtMost old n new
takes_nothing old new n same = ([], omega arith, subst (λ (o : Option (List ℕ)). Takes old [] o) (sym same) (takes_none old))

-- a storage of nothing
empty : (told : Option (List ℕ)) (b : List ℕ) (n : ℕ) → told ≡ Some b → IsLengthOf told n → n ≡ 0 → b ≡ []
empty told b n tells len none = nothing b (subst (λ (o : Option (List ℕ)). IsLengthOf o n) tells len ∙ none)
  where
    nothing : (b : List ℕ) → length b ≡ 0 → b ≡ []
    nothing [] is = refl
    nothing (x ∷ b) is = absurd (omega (arith, is))

-- the storage of no bytes is a header
no_more : (k : ℕ) → 96 + 0 + 0 * k ≡ 96
no_more k = omega arith

alone : (a n k : ℕ) → a ≡ 0 → n ≡ 0 → 96 + a + n * k ≡ 96
alone a n k x y = ap (λ (m : ℕ). 96 + m + n * k) x ∙ ap (λ (m : ℕ). 96 + 0 + m * k) y ∙ no_more k

header_alone : (s : Shape) (size : ℕ) → size ≡ 0 → chunk_count s.chunk_size size ≡ 0 → layout_len s size ≡ 96
header_alone s size none count = alone size (chunk_count s.chunk_size size) (s.nonce_len + Rattle.raf_format.specs.File.tag_len s) none count

pub small_layout : (s : Shape) → 16 ≤ s.chunk_size → layout_len s 0 < 2 ^ 64
small_layout s least = omega (arith, header_alone s 0 refl (count_none s.chunk_size (omega (arith, least))))

module _ (E : List ℕ → Hashing) (s : Settings) (fresh : Fresh) (max : ℕ) (old : Outside) (of : FreshOf fresh max old s) (least : 16 ≤ fresh.chunk_size) (most : fresh.chunk_size ≤ 1048576)
    (tree : Option Tree) (made : TreeMade E old.setting (option_map (λ _. max) old.setting) 0 tree) where
  pub can_make : CanMake E s
  can_make = record {
    chunk_size = (omega (arith, of.chunk_size, least), omega (arith, of.chunk_size, most));
    room = λ x n set limit. made.room x n (sym of.setting ∙ set) (sym of.most ∙ limit);
  }

  -- the storage failed, or there is a file
  pub refused_storage : (p : Outside) (kind : ErrorKind) → (kind ≡ Io → Caused Io old p)
      → (kind ≡ Io) ⊎ ((kind ≡ AlreadyExists) × (fresh.truncate ≡ false) × ((b : List ℕ) → old.bytes ≡ Some b → b ≡ [] → ⊥) × Quiet old p)
      → Kept old p → Moved old p 0 0 0 0 0 → p.strays ≡ old.strays → NotMade E s old p kind
  refused_storage p kind failed why kept moved strays = record {
    why = elim why [
      | inl io ↦ subst (λ (k : ErrorKind). WhyNotMade E s old k) (sym io) can_make
      | inr there ↦ subst (λ (k : ErrorKind). WhyNotMade E s old k) (sym there.0) (can_make, of.truncate ∙ there.1, there.2)
    ];
    fault = elim why [
      | inl io ↦ subst (λ (k : ErrorKind). RefusalFault k old p) (sym io) (failed io)
      | inr there ↦ subst (λ (k : ErrorKind). RefusalFault k old p) (sym there.0) there.3
    ];
    kept = λ _. (kept.bytes, kept.durable);
    left = takes_nothing old.left p.left 32 kept.left;
    unhashed = λ _. omega (arith, moved.calls_later, moved.calls_most);
    moved = moved_less old p _ _ _ _ _ 96 96 32 2 1 moved (omega arith) (omega arith) (omega arith) (omega arith) (omega arith);
    strays = strays;
  }

  -- the storage is free
  module _ (p : Outside) (size : ℕ) (len : IsLengthOf old.bytes size) (cleared : fresh.truncate ≡ false → size ≡ 0) (quiet_p : Quiet old p) (kept_p : Kept old p)
      (moved_p : Moved old p 0 0 0 0 0) (strays_p : p.strays ≡ old.strays) where
    pub free : IsFree s old
    free unset b tells = empty old.bytes b size tells len (cleared (sym of.truncate ∙ unset))

    -- the random source failed
    pub refused_source : (q : Outside) (kind : ErrorKind) → (kind ≡ Rng) × Caused Rng p q → TakesAtMost p.left 32 q.left → q.bytes ≡ p.bytes → q.durable ≡ p.durable
        → (p.exact ≡ true → IsShort p.left 32) → Moved p q 0 0 32 0 0 → q.strays ≡ p.strays → NotMade E s old q kind
    refused_source q kind why left bytes durable short moved strays = record {
      why = subst (λ (k : ErrorKind). WhyNotMade E s old k) (sym why.0)
          (can_make, free, λ exact. subst (λ (o : Option (List ℕ)). IsShort o 32) kept_p.left (short (moved_p.exact ∙ exact)));
      fault = subst (λ (k : ErrorKind). RefusalFault k old q) (sym why.0) (caused_later Rng old p q quiet_p why.1);
      kept = λ _. (bytes ∙ kept_p.bytes, durable ∙ kept_p.durable);
      left = subst (λ (o : Option (List ℕ)). TakesAtMost o 32 q.left) kept_p.left left;
      unhashed = λ _. omega (arith, moved_p.calls_later, moved_p.calls_most, moved.calls_later, moved.calls_most);
      moved = moved_less old q _ _ _ _ _ 96 96 32 2 1 (moved_then old p q _ _ _ _ _ _ _ _ _ _ moved_p moved) (omega arith) (omega arith) (omega arith) (omega arith) (omega arith);
      strays = strays ∙ strays_p;
    }

    -- the id was drawn
    module _ (q : Outside) (id : List ℕ) (id_len : length id ≡ 32) (taken_q : Takes p.left id q.left) (bytes_q : q.bytes ≡ p.bytes) (durable_q : q.durable ≡ p.durable) (quiet_q : Quiet p q)
        (moved_q : Moved p q 0 0 32 0 0) (strays_q : q.strays ≡ p.strays) where
      taken : Takes old.left id q.left
      taken = subst (λ (o : Option (List ℕ)). Takes o id q.left) kept_p.left taken_q

      -- the hasher failed
      pub refused_hasher : (r : Outside) (tree' : Option Tree) (kind : ErrorKind) → (kind ≡ Hash) × Caused Hash q r → is_some old.setting ≡ true → Kept q r
          → Moved q r 0 0 0 0 (r.calls - q.calls) → r.calls ≤ q.calls + 1 → r.strays ≡ q.strays → NotMade E s old r kind
      refused_hasher r tree' kind why hasher kept moved one strays = record {
        why = subst (λ (k : ErrorKind). WhyNotMade E s old k) (sym why.0) (can_make, free, ap is_some of.setting ∙ hasher);
        fault = subst (λ (k : ErrorKind). RefusalFault k old r) (sym why.0) (caused_later Hash old q r (quiet_then old p q quiet_p quiet_q) why.1);
        kept = λ _. (kept.bytes ∙ bytes_q ∙ kept_p.bytes, kept.durable ∙ durable_q ∙ kept_p.durable);
        left = (id, omega (arith, id_len), subst (λ (o : Option (List ℕ)). Takes old.left id o) (sym kept.left) taken);
        unhashed = λ is. absurd (not_hash (sym why.0 ∙ is));
        moved = moved_less old r _ _ _ _ _ 96 96 32 2 1
            (moved_then old q r _ _ _ _ _ _ _ _ _ _ (moved_then old p q _ _ _ _ _ _ _ _ _ _ moved_p moved_q) moved) (omega arith) (omega arith) (omega arith) (omega arith) (omega (arith, one));
        strays = strays ∙ strays_q ∙ strays_p;
      }

      -- the tree has its root
      module _ (r : Outside) (tree' : Option Tree) (shapes : SameTree tree tree') (quiet_r : Quiet q r) (kept_r : Kept q r) (moved_r : Moved q r 0 0 0 0 (r.calls - q.calls))
          (one : r.calls ≤ q.calls + 1) (strays_r : r.strays ≡ q.strays) where
        moved_qr : Moved old r 0 0 32 0 1
        moved_qr = moved_less old r _ _ _ _ _ 0 0 32 0 1
            (moved_then old q r _ _ _ _ _ _ _ _ _ _ (moved_then old p q _ _ _ _ _ _ _ _ _ _ moved_p moved_q) moved_r) (omega arith) (omega arith) (omega arith) (omega arith) (omega (arith, one))

        quiet_qr : Quiet old r
        quiet_qr = quiet_then old q r (quiet_then old p q quiet_p quiet_q) quiet_r

        taken_r : Takes old.left id r.left
        taken_r = subst (λ (o : Option (List ℕ)). Takes old.left id o) (sym kept_r.left) taken

        -- the storage failed as it was written to
        pub refused_write : (header : List ℕ) (t : Outside) (kind : ErrorKind) → (kind ≡ Io) × Caused Io r t → t.left ≡ r.left → Moved r t 96 96 0 2 0 → Rose r.changes t.changes
            → t.strays ≡ r.strays → NotMade E s old t kind
        refused_write header t kind why left moved began strays = record {
          why = subst (λ (k : ErrorKind). WhyNotMade E s old k) (sym why.0) can_make;
          fault = subst (λ (k : ErrorKind). RefusalFault k old t) (sym why.0) (caused_later Io old r t quiet_qr why.1);
          kept = λ unbegun. absurd (unbegun (why.0, omega (arith, began, moved_qr.changes_later)));
          left = (id, omega (arith, id_len), subst (λ (o : Option (List ℕ)). Takes old.left id o) (sym left) taken_r);
          unhashed = λ is. absurd (not_io (sym why.0 ∙ is));
          moved = moved_less old t _ _ _ _ _ 96 96 32 2 1 (moved_then old r t _ _ _ _ _ _ _ _ _ _ moved_qr moved) (omega arith) (omega arith) (omega arith) (omega arith) (omega arith);
          strays = strays ∙ strays_r ∙ strays_q ∙ strays_p;
        }

        -- the file
        module _ (C : Cipher) (lawful : IsLawful C) (key : List ℕ) (h : Header) (version : h.version ≡ version_number fresh.version) (is_version : IsVersion h.version) (algorithm : h.algorithm ≡ C.id)
            (chunk_size : h.chunk_size ≡ fresh.chunk_size) (none : h.file_size ≡ 0) (id_is : h.id ≡ id) where
          count : chunk_count h.chunk_size h.file_size ≡ 0
          count = ap (λ (n : ℕ). chunk_count h.chunk_size n) none ∙ count_none h.chunk_size (omega (arith, chunk_size, least))

          in_range : InRange h
          in_range = record {
            version = is_version;
            id = ap length id_is ∙ id_len;
            least = omega (arith, chunk_size, least);
            most = omega (arith, chunk_size, most);
            size = omega (arith, none);
          }

          layout : layout_len (shape_of C h) h.file_size ≡ 96
          layout = header_alone (shape_of C h) h.file_size none count

          is_file : IsFile C key (sealed_header C key h) h
          is_file = record {
            says = sealed_says C lawful key (sealed_header C key h) h refl in_range;
            algorithm = algorithm;
            length_fits = length_header C lawful key h in_range.id ∙ sym layout;
            below = omega (arith, length_header C lawful key h in_range.id);
            tagged = sealed_tagged C lawful key (sealed_header C key h) h refl in_range.id;
          }

          no_chunks : (b : List ℕ) → (file_of C key h b).chunks ≡ []
          no_chunks b = ap (λ (n : ℕ). chunks_from C (C.chunk_key key h.id) h b 0 n) count

          pub made_file : (t : Outside) → ((b : List ℕ) → r.bytes ≡ Some b → length b ≡ size → t.bytes ≡ Some (sealed_header C key h)) → Quiet r t → t.left ≡ r.left → Moved r t 96 96 0 2 0
              → t.strays ≡ r.strays → ((H : Hashing) → TreeLaws H) → OfTrees E q.setting tree tree' (λ H x y. Built H 0 x y)
              → Made C E key s old (handle_of t key h tree' false)
          made_file t put quiet left moved strays laws built = record {
            can = can_make;
            free = free;
            key_is = refl;
            unmarked = refl;
            limit = shapes_limit tree tree' shapes ∙ made.limit ∙ sym of.most;
            quiet = quiet_then old r t quiet_qr quiet;
            header = λ i. record { version = (version ∙ sym of.version) i; algorithm = algorithm i; chunk_size = (chunk_size ∙ sym of.chunk_size) i; file_size = none i; id = h.id };
            taken = subst (λ (x : List ℕ). Takes old.left x t.left) (sym id_is) (subst (λ (o : Option (List ℕ)). Takes old.left id o) (sym left) taken_r);
            bytes = told;
            holds = λ b tells. (
              file_of C key h (sealed_header C key h),
              record { bytes = sealed_header C key h; tells = told b tells; is_file = is_file; file = refl },
              no_chunks (sealed_header C key h),
            );
            grown = λ F empty x u set is.
                let before = shaped_from tree tree' u shapes is in
                let law = laws (E x) in
                record {
                  chunks = [];
                  present = empty;
                  keeps = built x before.0 u (sym moved_r.setting ∙ sym moved.setting ∙ set) before.1 is (leaves (E x) []) (law.leaf_count [])
                      (λ j lt. absurd (none_below j (subst (λ (n : ℕ). j < n) (law.leaf_count []) lt)));
                };
            moved = moved_less old t _ _ _ _ _ 96 96 32 2 1 (moved_then old r t _ _ _ _ _ _ _ _ _ _ moved_qr moved) (omega arith) (omega arith) (omega arith) (omega arith) (omega arith);
            strays = strays ∙ strays_r ∙ strays_q ∙ strays_p;
          }
            where
              none_below : (j : ℕ) → j < length {A = List ℕ} [] → ⊥
              none_below j lt = omega (arith, lt)

              told : (b : List ℕ) → old.bytes ≡ Some b → t.bytes ≡ Some (sealed_header C key h)
              told b tells = put b (kept_r.bytes ∙ bytes_q ∙ kept_p.bytes ∙ tells) (subst (λ (o : Option (List ℕ)). IsLengthOf o size) tells len)
