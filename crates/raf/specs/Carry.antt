-- How a change goes on, call by call (this project's own).
use Rattle.std.specs.Prelude.{◌≡◌, ℕ, ◌+◌, ◌-◌, ◌*◌, ◌<◌, ◌≤◌, ◌⊎◌, max, if◌then◌else◌, nat_lt, nat_eq, true, List, length, take, drop}
use Rattle.std.specs.Prelude.{Option, Some, None, Result, OnOk, OnErr, IfErr, ⊤}
use Rattle.counts.specs.Counts.{Rose}
use Rattle.raf_io.specs.Storage.{Torn, spliced}
use Rattle.raf_io.specs.Source.{Takes, TakesAtMost, IsShort}
use Rattle.raf_io.specs.Kinds.{kind_of}
use Rattle.raf_tree.specs.Hashing.{Hashing}
use Rattle.raf_tree.specs.Kept.{Kept}
use Rattle.raf_tree.specs.Steps.{SameShape, LeafPut, Updated}
use Rattle.raf_format.specs.Cipher.{Cipher}
use Rattle.raf_format.specs.Header.{sealed_header}
use Rattle.raf_format.specs.File.{shape_of, record_len, record_start, chunk_len, chunk_at, layout_len}
use Rattle.raf.specs.Loaded.{Unopened}
use Rattle.raf.specs.Outside.{Outside, Kept as Kept_, Quiet, Caused, Moved, MayHaveBegun}
use Rattle.raf.specs.Plan.{kept_len}
use Rattle.raf.specs.Put.{stride, placed, nonce_at, finished, put_chunk, record_for, KeptOf, Misses, LeavesUpTo, needed_records}
use Rattle.raf.specs.Put.{new_records, changes_of, SparedTo, Hashed}
use Rattle.raf.specs.Stepped.{with_size}
use Rattle.raf.specs.declared.planning.Plan.{Plan}
use Rattle.raf_format.specs.declared.header.Header.{Header}
use Rattle.raf_io.specs.declared.errors.Error.{Error}
use Rattle.raf_io.specs.declared.errors.ErrorKind.{ErrorKind}
use Rattle.raf_io.specs.declared.errors.ErrorKind.TheVariants.{Io, AuthenticationFailed, Rng, Hash}

-- trees that are there together, and then of the same size
abbrev pub SameTree : Option Kept → Option Kept → Type 0
SameTree None None = ⊤
SameTree None (Some u) = ⊥
SameTree (Some t) None = ⊥
SameTree (Some t) (Some u) = SameShape t u

-- the hasher's answers under its setting and the trees before and afterwards, where there is a hasher, meet this
abbrev pub OfTrees : (List ℕ → Hashing) → Option (List ℕ) → Option Kept → Option Kept → (Hashing → Kept → Kept → Type 0) → Type 0
OfTrees E setting old new P = (s : List ℕ) (t u : Kept) → setting ≡ Some s → old ≡ Some t → new ≡ Some u → P (E s) t u

-- the leaf of a chunk was put
abbrev pub Leafed : ℕ → List ℕ → Hashing → Kept → Kept → Type 0
Leafed index chunk H old new = LeafPut index (H.leaf chunk index) old new

-- there is a tree
abbrev pub HasTree : Option Kept → Type 0
HasTree tree = (t : Kept) × (tree ≡ Some t)

-- the buffer of a touched chunk: the last one has its own
abbrev pub buffer_of : Plan → ℕ → List ℕ → List ℕ → List ℕ
buffer_of p index front back = if nat_lt (index + 1) p.end then front else back

-- what is kept of a touched chunk, where it stands in its buffer behind the nonce
abbrev pub kept_in : Cipher → Header → Plan → ℕ → List ℕ → List ℕ → ℕ → List ℕ
kept_in C h p len front back index = take (kept_len h.chunk_size p len index) (drop C.nonce_len (buffer_of p index front back))

-- where a storage told these bytes, it tells bytes now that are others in this range alone
abbrev pub TornTo : ℕ → ℕ → List ℕ → Option (List ℕ) → Type 0
TornTo at n old new = (c : List ℕ) × (new ≡ Some c) × Torn at n old c

-- where a storage told these bytes, it tells bytes now: the same ones where the size stays, and else the same pieces behind the header, as
-- far as the new length reaches
abbrev pub TrimmedTo : ℕ → ℕ → ℕ → List ℕ → Option (List ℕ) → Type 0
TrimmedTo before size layout old new =
    (c : List ℕ) × (new ≡ Some c) × (size ≡ before → c ≡ old)
    × ((at len : ℕ) → 96 ≤ at → at + len ≤ length old → (size < before → at + len ≤ layout) → take len (drop at c) ≡ take len (drop at old))

-- why a change that is under way stops: the storage failed; the random source, of which n more bytes are asked at most; or the hasher,
-- which there is then
abbrev pub Hindered : ℕ → ErrorKind → Outside → Outside → Option Kept → Type 0
Hindered n Io old new tree = Caused Io old new
Hindered n Rng old new tree = Caused Rng old new × (old.exact ≡ true → IsShort old.left n)
Hindered n Hash old new tree = Caused Hash old new × HasTree tree
Hindered n _ old new tree = ⊥

-- why a change is not begun: the storage failed where a chunk is needed; a needed chunk is missing; or, where none is, the random source
abbrev pub Unprepared : Cipher → List ℕ → Header → Plan → ℕ → ErrorKind → Outside → Outside → Type 0
Unprepared C K h p len Io old new = Caused Io old new × (1 ≤ needed_records (shape_of C h) p len)
Unprepared C K h p len Rng old new =
    Caused Rng old new × (p.first < p.end) × (old.exact ≡ true → IsShort old.left C.nonce_len)
    × ((b : List ℕ) → old.bytes ≡ Some b → Misses C K h p len b → ⊥)
Unprepared C K h p len AuthenticationFailed old new =
    Quiet old new × (new.left ≡ old.left) × ((b : List ℕ) → old.bytes ≡ Some b → Misses C K h p len b)
Unprepared C K h p len _ old new = ⊥

-- a chunk was opened if bytes of it are wanted: then it stands in a buffer behind the nonce
pub record Readies (C : Cipher) (K : List ℕ) (h : Header) (p : Plan) (index wanted asked : ℕ) (old new : Outside) (after : List ℕ)
    (result : Result (Unit {0}) Error) : Type 0 where
  pub stands : (b : List ℕ) → old.bytes ≡ Some b
      → OnOk result (0 < wanted → chunk_at C K h b index ≡ Some (take (chunk_len h.chunk_size p.before index) (drop C.nonce_len after)))
  pub missing : (b : List ℕ) → old.bytes ≡ Some b → IfErr result
      (λ e. kind_of e ≡ AuthenticationFailed → (0 < wanted) × (chunk_at C K h b index ≡ None))
  pub kinds : IfErr result (λ e. Unopened (kind_of e) old new)
  pub needed : OnErr result (1 ≤ asked)
  pub quiet : OnOk result (Quiet old new)
  pub kept : Kept_ old new
  pub moved : Moved old new (layout_len (shape_of C h) p.before) asked 0 0 0
  pub strays : (b : List ℕ) → old.bytes ≡ Some b → layout_len (shape_of C h) p.before ≤ length b → new.strays ≡ old.strays

-- a nonce was drawn into the buffer of an index
pub record Draws (n : ℕ) (p : Plan) (index : ℕ) (front back : List ℕ) (old new : Outside) (front' back' : List ℕ)
    (result : Result (Unit {0}) Error) : Type 0 where
  pub taken : OnOk result (Takes old.left (take n (buffer_of p index front' back')) new.left)
  pub front_rest : drop n front' ≡ drop n front
  pub back_rest : drop n back' ≡ drop n back
  pub back_same : index + 1 < p.end → back' ≡ back
  pub left : OnErr result (TakesAtMost old.left n new.left)
  pub bytes : new.bytes ≡ old.bytes
  pub durable : new.durable ≡ old.durable
  pub failed : IfErr result (λ e. (kind_of e ≡ Rng) × Caused Rng old new)
  pub short : OnErr result (old.exact ≡ true → IsShort old.left n)
  pub quiet : OnOk result (Quiet old new)
  pub moved : Moved old new 0 0 n 0 0
  pub strays : new.strays ≡ old.strays

-- a change was made ready: its needed chunks were opened, and the first nonce was drawn
pub record Prepares (C : Cipher) (K : List ℕ) (h : Header) (p : Plan) (len : ℕ) (old new : Outside) (front back : List ℕ)
    (result : Result (Unit {0}) Error) : Type 0 where
  pub right : (b : List ℕ) → old.bytes ≡ Some b → OnOk result (KeptOf C K h p len b (kept_in C h p len front back))
  pub taken : p.first < p.end → OnOk result (Takes old.left (take C.nonce_len (buffer_of p p.first front back)) new.left)
  pub untaken : p.end ≤ p.first → new.left ≡ old.left
  pub failed : IfErr result (λ e. Unprepared C K h p len (kind_of e) old new)
  pub some : OnErr result (p.first < p.end)
  pub reads : IfErr result (λ e. kind_of e ≡ AuthenticationFailed → (i : ℕ) × (p.first ≤ i) × (i < p.end)
      × (0 < kept_len h.chunk_size p len i))
  pub early : IfErr result (λ e. (kind_of e ≡ AuthenticationFailed) ⊎ (kind_of e ≡ Io)
      → (new.left ≡ old.left) × Moved old new (layout_len (shape_of C h) p.before) (needed_records (shape_of C h) p len) 0 0 0)
  pub left : OnErr result (TakesAtMost old.left C.nonce_len new.left)
  pub bytes : new.bytes ≡ old.bytes
  pub durable : new.durable ≡ old.durable
  pub quiet : OnOk result (Quiet old new)
  pub moved : Moved old new (layout_len (shape_of C h) p.before) (needed_records (shape_of C h) p len)
      (if nat_lt p.first p.end then C.nonce_len else 0) 0 0
  pub strays : (b : List ℕ) → old.bytes ≡ Some b → layout_len (shape_of C h) p.before ≤ length b → new.strays ≡ old.strays

-- a touched chunk was hashed, sealed under a nonce and written
pub record Puts (C : Cipher) (E : List ℕ → Hashing) (K : List ℕ) (h : Header) (p : Plan) (bytes : List ℕ) (index : ℕ)
    (nonce kept : List ℕ) (old new : Outside) (tree tree' : Option Kept) (result : Result (Unit {0}) Error) : Type 0 where
  pub put : (b : List ℕ) → old.bytes ≡ Some b → OnOk result
      (new.bytes ≡ Some (spliced (record_start (shape_of C h) index) (record_for C K h p bytes index nonce kept) b))
  pub torn : (b : List ℕ) → old.bytes ≡ Some b → TornTo (record_start (shape_of C h) index) (record_len (shape_of C h) p.size index) b
      new.bytes
  pub leaf : OnOk result (OfTrees E old.setting tree tree' (Leafed index (put_chunk (shape_of C h) p bytes index kept)))
  pub same : SameTree tree tree'
  pub left : new.left ≡ old.left
  pub failed : IfErr result (λ e. Hindered 0 (kind_of e) old new tree')
  pub drawn : IfErr result (λ e. kind_of e ≡ Rng → ⊥)
  pub began : MayHaveBegun old new
  pub quiet : OnOk result (Quiet old new)
  pub moved : Moved old new (layout_len (shape_of C h) p.size) (record_len (shape_of C h) p.size index) 0 1 1
  pub none : tree ≡ None → new.calls ≡ old.calls
  pub strays : new.strays ≡ old.strays

-- the first n touched chunks were put, the first of them under this nonce, which had been taken, and each other one under a fresh one
pub record StoredUpTo (C : Cipher) (E : List ℕ → Hashing) (K : List ℕ) (h : Header) (p : Plan) (bytes : List ℕ) (kept : ℕ → List ℕ)
    (nonce : List ℕ) (n : ℕ) (old new : Outside) (tree tree' : Option Kept) : Type 0 where
  pub nonces : List ℕ
  pub drawn : length nonces ≡ n * C.nonce_len
  pub begins : 1 ≤ n → take C.nonce_len nonces ≡ nonce
  pub taken : Takes old.left (drop C.nonce_len nonces) new.left
  pub bytes_are : (b : List ℕ) → old.bytes ≡ Some b
      → new.bytes ≡ Some (placed (stride (shape_of C h)) (λ i. record_for C K h p bytes i (nonce_at C.nonce_len p.first nonces i)
      (kept i)) p.first n b)
  pub leaves : OfTrees E old.setting tree tree' (λ H. LeavesUpTo H (λ i. put_chunk (shape_of C h) p bytes i (kept i)) p.first n)

-- as far as a change has come that has put n chunks
pub record Going (C : Cipher) (E : List ℕ → Hashing) (K : List ℕ) (h : Header) (p : Plan) (bytes : List ℕ) (kept : ℕ → List ℕ)
    (nonce : List ℕ) (n : ℕ) (old new : Outside) (tree tree' : Option Kept) : Type 0 where
  pub some : 1 ≤ n
  pub stored : StoredUpTo C E K h p bytes kept nonce n old new tree tree'
  pub torn : (b : List ℕ) → old.bytes ≡ Some b → TornTo (record_start (shape_of C h) p.first) (n * stride (shape_of C h)) b new.bytes
  pub same : SameTree tree tree'
  pub began : MayHaveBegun old new
  pub quiet : Quiet old new
  pub moved : Moved old new (layout_len (shape_of C h) p.size)
      ((n - 1) * stride (shape_of C h) + record_len (shape_of C h) p.size (p.first + n - 1)) ((n - 1) * C.nonce_len) n n
  pub none : tree ≡ None → new.calls ≡ old.calls
  pub strays : new.strays ≡ old.strays

-- a change that had put n chunks and got no further nonce
pub record Drained (C : Cipher) (E : List ℕ → Hashing) (K : List ℕ) (h : Header) (p : Plan) (bytes : List ℕ) (kept : ℕ → List ℕ)
    (nonce : List ℕ) (old new : Outside) (tree : Option Kept) : Type 0 where
  pub count : ℕ
  pub some : 1 ≤ count
  pub below : p.first + count ≤ p.end
  pub mid : Outside
  pub tree_then : Option Kept
  pub stored : StoredUpTo C E K h p bytes kept nonce count old mid tree tree_then
  pub bytes_stay : new.bytes ≡ mid.bytes
  pub short : old.exact ≡ true → IsShort mid.left C.nonce_len

-- all touched chunks were put
pub record Stores (C : Cipher) (E : List ℕ → Hashing) (K : List ℕ) (h : Header) (p : Plan) (bytes : List ℕ) (kept : ℕ → List ℕ)
    (nonce : List ℕ) (old new : Outside) (tree tree' : Option Kept) (result : Result (Unit {0}) Error) : Type 0 where
  pub stored : OnOk result (StoredUpTo C E K h p bytes kept nonce (p.end - p.first) old new tree tree')
  pub torn : (b : List ℕ) → old.bytes ≡ Some b → TornTo (record_start (shape_of C h) p.first) ((p.end - p.first) * stride (shape_of C h))
      b new.bytes
  pub same : SameTree tree tree'
  pub left : OnErr result (TakesAtMost old.left ((p.end - 1 - p.first) * C.nonce_len) new.left)
  pub failed : IfErr result (λ e. Hindered ((p.end - 1 - p.first) * C.nonce_len) (kind_of e) old new tree')
  pub drained : IfErr result (λ e. kind_of e ≡ Rng → Drained C E K h p bytes kept nonce old new tree)
  pub some : OnErr result (p.first < p.end)
  pub began : OnErr result (MayHaveBegun old new)
  pub quiet : OnOk result (Quiet old new)
  pub moved : Moved old new (layout_len (shape_of C h) p.size) (new_records (shape_of C h) p) ((p.end - 1 - p.first) * C.nonce_len)
      (p.end - p.first) (p.end - p.first)
  pub none : tree ≡ None → new.calls ≡ old.calls
  pub strays : new.strays ≡ old.strays

-- the header was written where the size is another, and the storage cut where the file shrinks
pub record Finishes (C : Cipher) (key : List ℕ) (h : Header) (p : Plan) (old new : Outside) (result : Result (Unit {0}) Error) : Type 0
  where
    pub finished : (b : List ℕ) → old.bytes ≡ Some b → OnOk result
        (new.bytes ≡ Some (finished (sealed_header C key (with_size h p.size)) p.before p.size p.layout b))
    pub trimmed : (b : List ℕ) → old.bytes ≡ Some b → TrimmedTo p.before p.size p.layout b new.bytes
    pub left : new.left ≡ old.left
    pub failed : IfErr result (λ e. (kind_of e ≡ Io) × Caused Io old new)
    pub began : OnErr result (Rose old.changes new.changes)
    pub quiet : OnOk result (Quiet old new)
    pub moved : Moved old new (max 96 p.layout) (if nat_eq p.size p.before then 0 else 96) 0
        ((if nat_eq p.size p.before then 0 else 1) + (if nat_lt p.size p.before then 1 else 0)) 0
    pub strays : new.strays ≡ old.strays

-- a change that was made ready was carried out
pub record Commits (C : Cipher) (E : List ℕ → Hashing) (key K : List ℕ) (h : Header) (p : Plan) (bytes : List ℕ) (kept : ℕ → List ℕ)
    (nonce : List ℕ) (old new : Outside) (tree tree' : Option Kept) (result : Result (Unit {0}) Error) : Type 0 where
  pub stored : OnOk result ((mid : Outside) × (tree₁ : Option Kept)
      × StoredUpTo C E K h p bytes kept nonce (p.end - p.first) old mid tree tree₁
      × (new.left ≡ mid.left) × SameTree tree tree₁ × OfTrees E old.setting tree₁ tree' (λ H. Updated H p.count p.first p.until)
      × ((b : List ℕ) → mid.bytes ≡ Some b → new.bytes ≡ Some
      (finished (sealed_header C key (with_size h p.size)) p.before p.size p.layout b)))
  pub spared : (b : List ℕ) → old.bytes ≡ Some b → length b ≡ layout_len (shape_of C h) p.before → SparedTo (shape_of C h) p b new.bytes
  pub same : SameTree tree tree'
  pub left : OnErr result (TakesAtMost old.left ((p.end - 1 - p.first) * C.nonce_len) new.left)
  pub failed : IfErr result (λ e. Hindered ((p.end - 1 - p.first) * C.nonce_len) (kind_of e) old new tree')
  pub asks : IfErr result (λ e. kind_of e ≡ Rng → p.first < p.end)
  pub drained : IfErr result (λ e. kind_of e ≡ Rng → Drained C E K h p bytes kept nonce old new tree)
  pub began : OnErr result (MayHaveBegun old new)
  pub quiet : OnOk result (Quiet old new)
  pub moved : Moved old new (layout_len (shape_of C h) p.size) (new_records (shape_of C h) p + (if nat_eq p.size p.before then 0 else 96))
      ((p.end - 1 - p.first) * C.nonce_len) (changes_of p) (new.calls - old.calls)
  pub hashed : Hashed p tree old.calls new.calls
  pub strays : new.strays ≡ old.strays
