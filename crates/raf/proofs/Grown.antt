-- A tree that is made anew from the chunks of a file, leaf by leaf.
use Rattle.std.proofs.Common.{◌≡◌, inl, inr, Bool, true, false, ℕ, zero, suc, ◌+◌, ◌-◌, ◌*◌, ◌^◌, ◌<◌, ◌≤◌, min, List, [], length, get_or, Option, Some, None, Result, Ok, Err, refl, sym, ◌∙◌, ap, subst, arith}
use Rattle.std.specs.Prelude.{unwrap_or, is_some}
use Rattle.std.proofs.lemmas.Bool.{cases_lt, false≢true}
use Rattle.std.specs.Result.{OnOk, IfErr}
use Rattle.counts.specs.Counts.{raised, Rose}
use Rattle.raf_tree.specs.Hashing.{Hashing}
use Rattle.raf_tree.specs.Tree.{leaves}
use Rattle.raf_tree.specs.Kept.{Kept as Tree, kept, tree_height}
use Rattle.raf_tree.specs.Steps.{SameShape, LeafPut, Built}
use Rattle.raf_tree.specs.Laws.{TreeLaws}
use Rattle.raf_format.specs.Cipher.{Cipher}
use Rattle.raf_format.specs.File.{shape_of, tag_len, layout_len, record_start, record_len, chunk_count, chunk_at, chunks_from}
use Rattle.raf_format.specs.declared.header.Header.{Header}
use Rattle.raf_io.specs.Kinds.{kind_of}
use Rattle.raf_io.specs.declared.errors.Error.{Error}
use Rattle.raf_io.specs.declared.errors.ErrorKind.{ErrorKind}
use Rattle.raf_io.specs.declared.errors.ErrorKind.TheVariants.{Io, InvalidArgument, AuthenticationFailed, AlreadyExists, NotFound, Overflow, MerkleNotEnabled, CorruptedChunk, Rng, Hash, Broken, OutOfMemory}
use Rattle.raf.specs.Outside.{Outside, Kept, Quiet, Caused, Moved}
use Rattle.raf.specs.Handle.{HasRoom}
use Rattle.raf.specs.Carry.{SameTree, OfTrees}
use Rattle.raf.specs.Loaded.{Sound, Unopened}
use Rattle.raf.specs.Read.{chunks_of}
use Rattle.raf.specs.Session.{present}
use Rattle.raf.specs.Growing.{LeavesSoFar, LeavesStopped, Grew, Ungrown}
use Rattle.raf.proofs.Places.{within_layout}
use Rattle.raf.proofs.Moves.{moved_same, moved_less, moved_then, moved_counted, quiet_same, quiet_then, kept_same, kept_then, caused_later}

-- trees of one size
pub same_shape : (t : Tree) → SameShape t t
same_shape t = record { hash_len = refl; max_chunks = refl }

pub shapes_same : (t : Option Tree) → SameTree t t
shapes_same None = tt
shapes_same (Some t) = same_shape t

pub shapes_then : (a b c : Option Tree) → SameTree a b → SameTree b c → SameTree a c
shapes_then None None None p q = tt
shapes_then None None (Some z) p q = absurd q
shapes_then None (Some y) c p q = absurd p
shapes_then (Some x) None c p q = absurd p
shapes_then (Some x) (Some y) None p q = absurd q
shapes_then (Some x) (Some y) (Some z) p q = record { hash_len = q.hash_len ∙ p.hash_len; max_chunks = q.max_chunks ∙ p.max_chunks }

-- the tree that one of the same size has become
pub shaped_as : (a b : Option Tree) (t : Tree) → SameTree a b → a ≡ Some t → (u : Tree) × (b ≡ Some u) × SameShape t u
shaped_as None b t shapes is = cc
shaped_as (Some x) None t shapes is = absurd shapes
shaped_as (Some x) (Some y) t shapes is = (y, refl, subst (λ (x : Tree). SameShape x y) (inner is) shapes)
  where
    inner : Some x ≡ Some t → x ≡ t
    inner same = cc

le_same : (n : ℕ) → n ≤ n
le_same n = omega arith

-- the chunks by their index
module _ (C : Cipher) (K : List ℕ) (h : Header) (b : List ℕ) where
  length-present : (j n : ℕ) → length (present (chunks_from C K h b j n)) ≡ n
  length-present j zero = refl
  length-present j (suc n) = omega (arith, length-present (j + 1) n)

  get-present : (j n i : ℕ) → i < n → get_or (present (chunks_from C K h b j n)) i [] ≡ unwrap_or (chunk_at C K h b (j + i)) []
  get-present j zero i lt = absurd (omega (arith, lt))
  get-present j (suc n) zero lt = let e : j ≡ j + 0 = omega arith in ap (λ (k : ℕ). unwrap_or (chunk_at C K h b k) []) e
  get-present j (suc n) (suc i) lt =
      let e : j + 1 + i ≡ j + suc i = omega arith in
      get-present (j + 1) n i (omega (arith, lt)) ∙ ap (λ (k : ℕ). unwrap_or (chunk_at C K h b k) []) e

  pub present_count : length (present (chunks_of C K h b)) ≡ chunk_count h.chunk_size h.file_size
  present_count = length-present 0 (chunk_count h.chunk_size h.file_size)

  pub present_at : (i : ℕ) (m : List ℕ) → i < chunk_count h.chunk_size h.file_size → chunk_at C K h b i ≡ Some m → get_or (present (chunks_of C K h b)) i [] ≡ m
  present_at i m lt is =
      let e : 0 + i ≡ i = omega arith in
      get-present 0 (chunk_count h.chunk_size h.file_size) i lt ∙ ap (λ (k : ℕ). unwrap_or (chunk_at C K h b k) []) e ∙ ap (λ (o : Option (List ℕ)). unwrap_or o []) is

module _ (C : Cipher) (E : List ℕ → Hashing) (K : List ℕ) (h : Header) (a : Outside) (before : Option Tree) where
  abbrev pub L : ℕ
  L = layout_len (shape_of C h) h.file_size

  pub leaves_none : (begun : Bool) → begun ≡ false → LeavesSoFar C E K h 0 a a before before begun
  leaves_none begun is = record {
    there = λ b tells i lt. absurd (omega (arith, lt));
    put = λ b tells x t u set was now. record {
      stays = λ l j le lt beside. absurd (none (j * 2 ^ l) lt);
      put = λ j le lt. absurd (omega (arith, lt));
    };
    shapes = shapes_same before;
    quiet = quiet_same a a refl;
    kept = kept_same a a refl;
    moved = moved_less a a 0 0 0 0 0 L (min (record_start (shape_of C h) 0) L - 96) 0 0 0 (moved_same a a refl) (omega arith) (omega arith) (omega arith) (omega arith) (omega arith);
    none = λ _. (is, refl);
    some = λ lt. absurd (omega (arith, lt));
    strays = λ b tells long. refl;
  }
    where
      none : (n : ℕ) → n < length {A = List ℕ} [] → ⊥
      none n lt = omega (arith, lt)

  module _ (index : ℕ) (p q : Outside) (tree : Option Tree) (begun : Bool) (sound : Sound C h) (there : index < chunk_count h.chunk_size h.file_size)
      (so_far : LeavesSoFar C E K h index a p before tree begun) where
    inside : record_start (shape_of C h) index + record_len (shape_of C h) h.file_size index ≤ L
    inside = within_layout (shape_of C h) h.file_size index (omega (arith, sound.least)) there

    -- a chunk that wasn't opened
    pub leaves_unloaded : (e : Error) → ((b : List ℕ) → p.bytes ≡ Some b → kind_of e ≡ AuthenticationFailed → chunk_at C K h b index ≡ None) → Unopened (kind_of e) p q
        → Kept p q → Moved p q (record_start (shape_of C h) index + record_len (shape_of C h) h.file_size index) (record_len (shape_of C h) h.file_size index) 0 0 0
        → ((b : List ℕ) → p.bytes ≡ Some b → L ≤ length b → q.strays ≡ p.strays)
        → LeavesStopped C K h a q before tree begun e
    leaves_unloaded e missing kind kept moved strays = record {
      missing = λ b tells auth. (index, there, missing b (so_far.kept.bytes ∙ tells) auth);
      kind = ungrown (kind_of e) kind;
      some = omega (arith, there);
      shapes = so_far.shapes;
      kept = kept_then a p q so_far.kept kept;
      moved = moved_less a q _ _ _ _ _ L (L - 96) 0 0 (chunk_count h.chunk_size h.file_size) (moved_then a p q _ _ _ _ _ _ _ _ _ _ so_far.moved moved)
          (omega (arith, inside)) (omega (arith, inside)) (omega arith) (omega arith) (omega (arith, there));
      strays = λ b tells long. strays b (so_far.kept.bytes ∙ tells) long ∙ so_far.strays b tells long;
      stopped = elim (cases_lt 0 index) [
        | inl some ↦ inl ((so_far.some some).0, rose (so_far.some some).1 (omega (arith, moved.calls_later)))
        | inr none ↦
            let z : index ≡ 0 = omega (arith, none) in
            inr ((so_far.none z).0, omega (arith, z, so_far.moved.calls_later, so_far.moved.calls_most, moved.calls_later, moved.calls_most), (so_far.none z).1)
      ];
    }
      where
        ungrown : (k : ErrorKind) → Unopened k p q → Ungrown k a q
        ungrown Io f = caused_later Io a p q so_far.quiet f
        ungrown AuthenticationFailed f = quiet_then a p q so_far.quiet f
        ungrown Rng f = absurd f
        ungrown Hash f = absurd f
        ungrown (InvalidArgument r) f = absurd f
        ungrown AlreadyExists f = absurd f
        ungrown NotFound f = absurd f
        ungrown Overflow f = absurd f
        ungrown MerkleNotEnabled f = absurd f
        ungrown (CorruptedChunk i) f = absurd f
        ungrown Broken f = absurd f
        ungrown OutOfMemory f = absurd f

        rose : Rose a.calls p.calls → p.calls ≤ q.calls → Rose a.calls q.calls
        rose r le = omega (arith, r, le)

    -- one that was, and its leaf
    module _ (r : Outside) (tree' : Option Tree) (buf chunk : List ℕ) (quiet_q : Quiet p q) (kept_q : Kept p q)
        (moved_q : Moved p q (record_start (shape_of C h) index + record_len (shape_of C h) h.file_size index) (record_len (shape_of C h) h.file_size index) 0 0 0)
        (strays_q : (b : List ℕ) → p.bytes ≡ Some b → L ≤ length b → q.strays ≡ p.strays)
        (asked : (t : Tree) → tree ≡ Some t → r.calls ≡ raised q.calls 1) (some : is_some before ≡ true)
        (shapes : SameTree tree tree') (kept_r : Kept q r) (moved_r : Moved q r 0 0 0 0 1) (strays_r : r.strays ≡ q.strays) where
      is_there : (o : Option Tree) → is_some o ≡ true → (t : Tree) × (o ≡ Some t)
      is_there None is = absurd (false≢true is)
      is_there (Some t) is = (t, refl)

      rose : Rose a.calls r.calls
      rose =
          let t = is_there before some in
          let u = shaped_as before tree t.0 so_far.shapes t.1 in
          omega (arith, asked u.0 u.1, so_far.moved.calls_later, moved_q.calls_later)

      -- a record more
      further : min (record_start (shape_of C h) index) L - 96 + record_len (shape_of C h) h.file_size index ≤ min (record_start (shape_of C h) (index + 1)) L - 96
      further = more index (C.nonce_len + h.chunk_size + tag_len (shape_of C h)) (record_len (shape_of C h) h.file_size index) L inside (omega arith)
        where
          more : (i s n l : ℕ) → 96 + i * s + n ≤ l → n ≤ s → min (96 + i * s) l - 96 + n ≤ min (96 + (i + 1) * s) l - 96
          more i s n l le short = omega (arith, le, short)

      moved_all : Moved a r L (min (record_start (shape_of C h) (index + 1)) L - 96) 0 0 (index + 1)
      moved_all =
          moved_less a r _ _ _ _ _ L (min (record_start (shape_of C h) (index + 1)) L - 96) 0 0 (index + 1)
          (moved_then a q r _ _ _ _ _ _ _ _ _ _ (moved_then a p q _ _ _ _ _ _ _ _ _ _ so_far.moved moved_q) moved_r)
          (omega (arith, inside)) (omega (arith, further)) (omega arith) (omega arith) (omega arith)

      strays_all : (b : List ℕ) → a.bytes ≡ Some b → L ≤ length b → r.strays ≡ a.strays
      strays_all b tells long = strays_r ∙ strays_q b (so_far.kept.bytes ∙ tells) long ∙ so_far.strays b tells long

      -- a hash that failed
      pub leaves_unhashed : (e : Error) → (kind_of e ≡ Hash) × Caused Hash q r → LeavesStopped C K h a r before tree' true e
      leaves_unhashed e why = record {
        missing = λ b tells auth. absurd (other (sym why.0 ∙ auth));
        kind = subst (λ (k : ErrorKind). Ungrown k a r) (sym why.0) (caused_later Hash a q r (quiet_then a p q so_far.quiet quiet_q) why.1);
        some = omega (arith, there);
        shapes = shapes_then before tree tree' so_far.shapes shapes;
        kept = kept_then a q r (kept_then a p q so_far.kept kept_q) kept_r;
        moved = moved_less a r _ _ _ _ _ L (L - 96) 0 0 (chunk_count h.chunk_size h.file_size) moved_all (omega arith) (omega arith) (omega arith) (omega arith) (omega (arith, there));
        strays = strays_all;
        stopped = inl (refl, rose);
      }
        where
          other : Hash ≡ AuthenticationFailed → ⊥
          other same = cc

      pub leaves_more : ((H : Hashing) → TreeLaws H) → HasRoom (chunk_count h.chunk_size h.file_size) before
          → ((b : List ℕ) → p.bytes ≡ Some b → chunk_at C K h b index ≡ Some chunk)
          → OfTrees E q.setting tree tree' (λ H t u. LeafPut index (H.leaf chunk index) t u) → Quiet q r
          → LeavesSoFar C E K h (index + 1) a r before tree' true
      leaves_more laws room opened put quiet_r = record {
        there = λ b tells i lt. elim (cases_lt i index) [
          | inl below ↦ so_far.there b tells i below
          | inr above ↦ let e : index ≡ i = omega (arith, lt, above) in (chunk, subst (λ (k : ℕ). chunk_at C K h b k ≡ Some chunk) e (opened b (so_far.kept.bytes ∙ tells)))
        ];
        put = λ b tells x t u set was now.
            let mid = shaped_as before tree t so_far.shapes was in
            let all = present (chunks_of C K h b) in
            let law = laws (E x) in
            let room_t : chunk_count h.chunk_size h.file_size ≤ t.max_chunks = room t was in
            let leaf : get_or (leaves (E x) all) index [] ≡ (E x).leaf chunk index =
            law.leaf all index (omega (arith, there, present_count C K h b)) ∙ ap (λ (m : List ℕ). (E x).leaf m index) (present_at C K h b index chunk there (opened b (so_far.kept.bytes ∙ tells))) in
            let leaf_put : LeafPut index ((E x).leaf chunk index) mid.0 u = put x mid.0 u (moved_q.setting ∙ so_far.moved.setting ∙ set) mid.1 now in
            law.goes_on [] (leaves (E x) all) 0 index mid.0 u (so_far.put b tells x t mid.0 set was mid.1) (omega arith) (omega arith) (omega (arith, there, room_t, mid.2.max_chunks))
            (subst (λ (n : List ℕ). LeafPut index n mid.0 u) (sym leaf) leaf_put);
        shapes = shapes_then before tree tree' so_far.shapes shapes;
        quiet = quiet_then a q r (quiet_then a p q so_far.quiet quiet_q) quiet_r;
        kept = kept_then a q r (kept_then a p q so_far.kept kept_q) kept_r;
        moved = moved_all;
        none = λ is. absurd (omega (arith, is));
        some = λ _. (refl, rose);
        strays = strays_all;
      }

  -- all leaves were put, and then the nodes were made, or weren't
  module _ (p r : Outside) (tree tree' : Option Tree) (begun : Bool) (sound : Sound C h) (some : is_some before ≡ true)
      (all : LeavesSoFar C E K h (chunk_count h.chunk_size h.file_size) a p before tree begun)
      (shapes : SameTree tree tree') (kept_r : Kept p r) (moved_r : Moved p r 0 0 0 0 (r.calls - p.calls))
      (calls : (t : Tree) → tree ≡ Some t → r.calls ≤ p.calls + chunk_count h.chunk_size h.file_size + 2 * tree_height t + 1) (strays_r : r.strays ≡ p.strays) where
    moved_whole : Moved a r L (L - 96) 0 0 (r.calls - a.calls)
    moved_whole =
        moved_counted a r _ _ _ _ _ (moved_less a r _ _ _ _ _ L (L - 96) 0 0 _ (moved_then a p r _ _ _ _ _ _ _ _ _ _ all.moved moved_r)
        (omega arith) (omega arith) (omega arith) (omega arith) (le_same _))

    calls_all : (t : Tree) → before ≡ Some t → r.calls ≤ a.calls + 2 * chunk_count h.chunk_size h.file_size + 2 * tree_height t + 1
    calls_all t was =
        let u = shaped_as before tree t all.shapes was in
        let high : tree_height u.0 ≡ tree_height t = ap Rattle.raf_tree.specs.Tree.height u.2.max_chunks in
        omega (arith, calls u.0 u.1, high, all.moved.calls_most)

    pub grew_built : Quiet p r → OfTrees E p.setting tree tree' (λ H t u. Built H (chunk_count h.chunk_size h.file_size) t u)
        → ((H : Hashing) → TreeLaws H) → Grew C E K h a r before tree' true (Ok tt)
    grew_built quiet_r built laws = record {
      there = λ b tells. all.there b tells;
      grown = λ b tells x t u set was now.
          let mid = shaped_as before tree t all.shapes was in
          let chunks = present (chunks_of C K h b) in
          let count : length (leaves (E x) chunks) ≡ chunk_count h.chunk_size h.file_size = (laws (E x)).leaf_count chunks ∙ present_count C K h b in
          built x mid.0 u (all.moved.setting ∙ set) mid.1 now (leaves (E x) chunks) count
          (λ j lt. (all.put b tells x t mid.0 set was mid.1).put j (omega arith) (omega (arith, lt, count)));
      missing = λ b tells. tt;
      kinds = tt;
      some = tt;
      quiet = quiet_then a p r all.quiet quiet_r;
      shapes = shapes_then before tree tree' all.shapes shapes;
      kept = kept_then a p r all.kept kept_r;
      moved = moved_whole;
      calls = calls_all;
      strays = λ b tells long. strays_r ∙ all.strays b tells long;
      stopped = tt;
    }

    pub grew_unbuilt : (e : Error) → (kind_of e ≡ Hash) × Caused Hash p r × Rose p.calls r.calls → Grew C E K h a r before tree' true (Err e)
    grew_unbuilt e why = record {
      there = λ b tells. tt;
      grown = λ b tells. tt;
      missing = λ b tells auth. absurd (other (sym why.0 ∙ auth));
      kinds = subst (λ (k : ErrorKind). Ungrown k a r) (sym why.0) (caused_later Hash a p r all.quiet why.1);
      some = λ other. absurd (other why.0);
      quiet = tt;
      shapes = shapes_then before tree tree' all.shapes shapes;
      kept = kept_then a p r all.kept kept_r;
      moved = moved_whole;
      calls = calls_all;
      strays = λ b tells long. strays_r ∙ all.strays b tells long;
      stopped = inl (refl, omega (arith, why.2, all.moved.calls_later));
    }
      where
        other : Hash ≡ AuthenticationFailed → ⊥
        other same = cc

        not_io : Hash ≡ Io → ⊥
        not_io same = cc

    pub grew_ended : (result : Result (Unit {0}) Error) → OnOk result (Quiet p r) → OnOk result (OfTrees E p.setting tree tree' (λ H t u. Built H (chunk_count h.chunk_size h.file_size) t u))
        → IfErr result (λ e. (kind_of e ≡ Hash) × Caused Hash p r × Rose p.calls r.calls) → ((H : Hashing) → TreeLaws H) → Grew C E K h a r before tree' true result
    grew_ended (Ok _) quiet built why laws = grew_built quiet built laws
    grew_ended (Err e) quiet built why laws = grew_unbuilt e why

  -- not all leaves were put
  pub grew_not : (q : Outside) (tree : Option Tree) (begun : Bool) (e : Error) → LeavesStopped C K h a q before tree begun e → Grew C E K h a q before tree begun (Err e)
  grew_not q tree begun e stop = record {
    there = λ b tells. tt;
    grown = λ b tells. tt;
    missing = stop.missing;
    kinds = stop.kind;
    some = λ _. stop.some;
    quiet = tt;
    shapes = stop.shapes;
    kept = stop.kept;
    moved = moved_counted a q _ _ _ _ _ stop.moved;
    calls = λ t was. omega (arith, stop.moved.calls_most);
    strays = stop.strays;
    stopped = stop.stopped;
  }
