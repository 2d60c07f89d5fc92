-- How a change is carried out: records put one after the other, the header, the cut, and the tree (this project's own).
use Rattle.std.specs.Prelude.{◌≡◌, ℕ, zero, suc, ◌+◌, ◌-◌, ◌*◌, ◌<◌, ◌≤◌, max, if◌then◌else◌, nat_lt, nat_eq, ◌⊎◌, true, false, List, []}
use Rattle.std.specs.Prelude.{length, take, Option, Some, None, Result, is_ok, IfErr, OnOk, OnErr}
use Rattle.raf_io.specs.Storage.{resized, spliced}
use Rattle.raf_io.specs.Source.{Takes, TakesAtMost, IsShort}
use Rattle.raf_io.specs.Kinds.{kind_of}
use Rattle.raf_tree.specs.Hashing.{Hashing}
use Rattle.raf_tree.specs.Kept.{Kept, tree_height}
use Rattle.raf_tree.specs.Steps.{LeafPut, Updated}
use Rattle.raf_format.specs.Cipher.{Cipher}
use Rattle.raf_format.specs.Header.{sealed_header}
use Rattle.raf_format.specs.File.{Shape, tag_len, shape_of, sealed, record_at, record_len, chunk_count, chunk_at, layout_len}
use Rattle.raf.specs.Apply.{new_chunk}
pub use Rattle.raf.specs.Image.{placed, nonce_at}
use Rattle.raf.specs.Outside.{Outside, Quiet, Caused, Moved, MayHaveBegun}
use Rattle.raf.specs.Handle.{Handle, WithTree, limit_of}
use Rattle.raf.specs.Stepped.{with_size}
use Rattle.raf.specs.Plan.{kept_len, change_by}
use Rattle.raf.specs.declared.planning.Plan.{Plan}
use Rattle.raf_format.specs.declared.header.Header.{Header}
use Rattle.raf_io.specs.declared.errors.Error.{Error}
use Rattle.raf_io.specs.declared.errors.ErrorKind.{ErrorKind}
use Rattle.raf_io.specs.declared.errors.ErrorKind.TheVariants.{Io, AuthenticationFailed, Rng, Hash}

-- how far one record's place is from the next
abbrev pub stride : Shape → ℕ
stride s = s.nonce_len + s.chunk_size + tag_len s

-- the storage after the records were put: the header is written where the size is another than before, and where the file shrinks it is cut
abbrev pub finished : List ℕ → ℕ → ℕ → ℕ → List ℕ → List ℕ
finished header before size len b =
    if nat_lt size before then resized len (spliced 0 header b) else if nat_eq size before then b else spliced 0 header b

-- a touched chunk's new bytes, where these of the old one are kept
abbrev pub put_chunk : Shape → Plan → List ℕ → ℕ → List ℕ → List ℕ
put_chunk s p bytes index kept = new_chunk s.chunk_size (change_by p bytes) index kept

-- its new record under a nonce
abbrev pub record_for : Cipher → List ℕ → Header → Plan → List ℕ → ℕ → List ℕ → List ℕ → List ℕ
record_for C chunk_key h p bytes index nonce kept =
    sealed C (tag_len (shape_of C h)) chunk_key h.id index nonce (put_chunk (shape_of C h) p bytes index kept)

-- what is kept of each touched chunk is the front of the old one, as far as it is kept
abbrev pub KeptOf : Cipher → List ℕ → Header → Plan → ℕ → List ℕ → (ℕ → List ℕ) → Type 0
KeptOf C chunk_key h p len b kept = (i : ℕ) → p.first ≤ i → i < p.end →
    (kept_len h.chunk_size p len i ≡ 0 → kept i ≡ [])
    × (0 < kept_len h.chunk_size p len i → (m : List ℕ) × (chunk_at C chunk_key h b i ≡ Some m)
    × (kept i ≡ take (kept_len h.chunk_size p len i) m))

-- a chunk whose bytes are kept in part is missing
abbrev pub Misses : Cipher → List ℕ → Header → Plan → ℕ → List ℕ → Type 0
Misses C chunk_key h p len b = (i : ℕ) × (p.first ≤ i) × (i < p.end) × (0 < kept_len h.chunk_size p len i)
    × (chunk_at C chunk_key h b i ≡ None)

-- the leaves of n chunks were put, from an index on, one after the other
abbrev pub LeavesUpTo : Hashing → (ℕ → List ℕ) → ℕ → ℕ → Kept → Kept → Type 0
LeavesUpTo H chunk first zero old new = new ≡ old
LeavesUpTo H chunk first (suc n) old new =
    (mid : Kept) × LeavesUpTo H chunk first n old mid × LeafPut (first + n) (H.leaf (chunk (first + n)) (first + n)) mid new

-- a tree went with a change: the leaves of the touched chunks were put, and then the nodes above the touched and the removed ones made
abbrev pub TreeCarried : Hashing → (ℕ → List ℕ) → Plan → Kept → Kept → Type 0
TreeCarried H chunk p old new =
    (mid : Kept) × LeavesUpTo H chunk p.first (p.end - p.first) old mid × Updated H p.count p.first p.until mid new

-- a change that was carried out: all touched records were put, each under a fresh nonce; then the header where the size is another; then
-- the storage is cut where the file shrinks; and the tree goes with it
pub record Carried (C : Cipher) (E : List ℕ → Hashing) (chunk_key : List ℕ) (p : Plan) (bytes : List ℕ) (old new : Handle) : Type 0 where
  pub kept : ℕ → List ℕ
  pub right : (b : List ℕ) → old.outside.bytes ≡ Some b → KeptOf C chunk_key old.header p (length bytes) b kept
  pub nonces : List ℕ
  pub drawn : length nonces ≡ (p.end - p.first) * C.nonce_len
  pub taken : Takes old.outside.left nonces new.outside.left
  pub bytes_are : (b : List ℕ) → old.outside.bytes ≡ Some b
      → new.outside.bytes ≡ Some (finished (sealed_header C old.key (with_size old.header p.size)) p.before p.size
      (layout_len (shape_of C old.header) p.size)
      (placed (stride (shape_of C old.header)) (λ i. record_for C chunk_key old.header p bytes i (nonce_at C.nonce_len p.first nonces i)
      (kept i)) p.first (p.end - p.first) b))
  pub tree : (t u : Kept) → old.tree ≡ Some t → new.tree ≡ Some u
      → WithTree E old (λ H _. TreeCarried H (λ i. put_chunk (shape_of C old.header) p bytes i (kept i)) p t u)

-- a change that stopped where the random source failed: so many records were put, from the first one on, each under a nonce that had stood
-- in front of the source, and there was no further one
pub record Dried (C : Cipher) (chunk_key : List ℕ) (p : Plan) (bytes : List ℕ) (old new : Handle) : Type 0 where
  pub count : ℕ
  pub below : p.first + count ≤ p.end
  pub kept : ℕ → List ℕ
  pub right : (b : List ℕ) → old.outside.bytes ≡ Some b → (count ≡ 0) ⊎ KeptOf C chunk_key old.header p (length bytes) b kept
  pub nonces : List ℕ
  pub drawn : length nonces ≡ count * C.nonce_len
  pub rest : Option (List ℕ)
  pub taken : Takes old.outside.left nonces rest
  pub short : old.outside.exact ≡ true → IsShort rest C.nonce_len
  pub bytes_are : (b : List ℕ) → old.outside.bytes ≡ Some b
      → new.outside.bytes ≡ Some (placed (stride (shape_of C old.header))
      (λ i. record_for C chunk_key old.header p bytes i (nonce_at C.nonce_len p.first nonces i) (kept i)) p.first count b)

-- where a storage told these bytes of a file, it tells bytes now: the header stays where the size does, and so does each record that is
-- neither touched nor removed
abbrev pub SparedTo : Shape → Plan → List ℕ → Option (List ℕ) → Type 0
SparedTo s p old new =
    (c : List ℕ) × (new ≡ Some c) × (p.size ≡ p.before → take 96 c ≡ take 96 old)
    × ((i : ℕ) → i < chunk_count s.chunk_size p.before → i < chunk_count s.chunk_size p.size → (i < p.first) ⊎ (p.end ≤ i)
    → record_at s p.before i c ≡ record_at s p.before i old)

-- what is read of the old record at an index
abbrev pub needed_record : Shape → Plan → ℕ → ℕ → ℕ
needed_record s p len index = if nat_lt 0 (kept_len s.chunk_size p len index) then record_len s p.before index else 0

-- what is read of old records: of the first touched chunk and of the last one
abbrev pub needed_records : Shape → Plan → ℕ → ℕ
needed_records s p len =
    if nat_lt p.first p.end then (if nat_lt (p.first + 1) p.end then needed_record s p len p.first else 0)
    + needed_record s p len (p.end - 1) else 0

-- how long the new records of a change are: all but the last one are full
abbrev pub new_records : Shape → Plan → ℕ
new_records s p = if nat_lt p.first p.end then (p.end - 1 - p.first) * stride s + record_len s p.size (p.end - 1) else 0

-- the writes and resizes of a change
abbrev pub changes_of : Plan → ℕ
changes_of p = (p.end - p.first) + ((if nat_eq p.size p.before then 0 else 1) + (if nat_lt p.size p.before then 1 else 0))

-- the hashes of a change, with and without a tree: a leaf for each touched chunk, and the nodes above the touched and the removed ones
pub record Hashed (p : Plan) (tree : Option Kept) (old new : ℕ) : Type 0 where
  pub none : tree ≡ None → new ≡ old
  pub empty : p.count ≡ 0 → new ≤ old + (p.end - p.first) + 1
  pub paths : (t : Kept) → tree ≡ Some t → 0 < p.count → new ≤ old + (p.end - p.first) + 2 * (p.until - p.first) * tree_height t
  pub pass : (t : Kept) → tree ≡ Some t → 0 < p.count → new ≤ old + (p.end - p.first) + (p.until - p.first) + 3 * tree_height t

-- the most that a change asks of a storage and of a random source. What it asks of the hasher stands in `Hashed`
abbrev pub ChangeMoved : Shape → Plan → ℕ → Outside → Outside → Type 0
ChangeMoved s p len old new =
    Moved old new (max (layout_len s p.before) (layout_len s p.size))
    (needed_records s p len + (new_records s p + (if nat_eq p.size p.before then 0 else 96)))
    ((p.end - p.first) * s.nonce_len) (changes_of p) (new.calls - old.calls)

-- why a change was not carried out: the storage, the random source or the hasher failed, or a chunk that is needed is missing
abbrev pub Unready : ErrorKind → Outside → Outside → Type 0
Unready Io old new = Caused Io old new
Unready Rng old new = Caused Rng old new
Unready Hash old new = Caused Hash old new
Unready AuthenticationFailed old new = Quiet old new
Unready _ old new = ⊥

-- a change that was begun and not carried out marks the file: storage or tree was written to. One that was not begun leaves all but what
-- it read and what was taken of the random source
abbrev pub Stopped : Handle → Handle → Type 0
Stopped old new =
    ((new.broken ≡ true) × MayHaveBegun old.outside new.outside)
    ⊎ ((new.broken ≡ false) × (new.outside.changes ≡ old.outside.changes) × (new.outside.calls ≡ old.outside.calls)
    × (new.outside.bytes ≡ old.outside.bytes) × (new.outside.durable ≡ old.outside.durable) × (new.tree ≡ old.tree))

-- a change by a plan, with this data
pub record Changing (C : Cipher) (E : List ℕ → Hashing) (chunk_key : List ℕ) (p : Plan) (bytes : List ℕ) (old new : Handle)
    (result : Result (Unit {0}) Error) : Type 0 where
  pub carried : OnOk result (Carried C E chunk_key p bytes old new)
  pub missing : (b : List ℕ) → old.outside.bytes ≡ Some b
      → IfErr result (λ e. kind_of e ≡ AuthenticationFailed → Misses C chunk_key old.header p (length bytes) b)
  pub failed : IfErr result (λ e. Unready (kind_of e) old.outside new.outside)
  pub reads : IfErr result (λ e. kind_of e ≡ AuthenticationFailed → (i : ℕ) × (p.first ≤ i) × (i < p.end)
      × (0 < kept_len old.header.chunk_size p (length bytes) i))
  pub asks : IfErr result (λ e. kind_of e ≡ Rng → p.first < p.end)
  pub short : IfErr result (λ e. kind_of e ≡ Rng → old.outside.exact ≡ true → IsShort old.outside.left ((p.end - p.first) * C.nonce_len))
  pub dried : IfErr result (λ e. kind_of e ≡ Rng → Dried C chunk_key p bytes old new)
  pub hashes : IfErr result (λ e. kind_of e ≡ Hash → (t : Kept) × (new.tree ≡ Some t))
  pub there : (b : List ℕ) → old.outside.bytes ≡ Some b
      → IfErr result (λ e. (kind_of e ≡ Rng) ⊎ (kind_of e ≡ Hash) ⊎ (new.broken ≡ true) → Misses C chunk_key old.header p (length bytes) b
      → ⊥)
  pub unbegun : IfErr result (λ e. kind_of e ≡ AuthenticationFailed → new.broken ≡ false)
  pub early : IfErr result (λ e. (kind_of e ≡ AuthenticationFailed) ⊎ ((kind_of e ≡ Io) × (new.broken ≡ false))
      → (new.outside.left ≡ old.outside.left)
      × Moved old.outside new.outside (layout_len (shape_of C old.header) p.before)
      (needed_records (shape_of C old.header) p (length bytes)) 0 0 0)
  pub quiet : OnOk result (Quiet old.outside new.outside)
  pub left : OnErr result (TakesAtMost old.outside.left ((p.end - p.first) * C.nonce_len) new.outside.left)
  pub spared : (b : List ℕ) → old.outside.bytes ≡ Some b → length b ≡ layout_len (shape_of C old.header) p.before
      → SparedTo (shape_of C old.header) p b new.outside.bytes
  pub moved : ChangeMoved (shape_of C old.header) p (length bytes) old.outside new.outside
  pub hashed : Hashed p old.tree old.outside.calls new.outside.calls
  pub strays : (b : List ℕ) → old.outside.bytes ≡ Some b → layout_len (shape_of C old.header) p.before ≤ length b
      → new.outside.strays ≡ old.outside.strays
  pub stopped : OnErr result (Stopped old new)
  pub unmarked : OnOk result (new.broken ≡ false)
  pub key : new.key ≡ old.key
  pub header : new.header ≡ (if is_ok result then with_size old.header p.size else old.header)
  pub limit : limit_of new ≡ limit_of old
