-- The bytes of a storage after commands, each new record sealed under the nonce that stood in front of the random source; and the
-- most that commands ask (this project's own).
use Rattle.std.specs.Prelude.{ℕ, zero, suc, ◌+◌, ◌-◌, ◌*◌, ◌/◌, min, Bool, if◌then◌else◌, nat_eq, nat_lt, List, [], ◌∷◌, ◌++◌, take, drop}
use Rattle.std.specs.Prelude.{get_or, Option, Some, None, is_some, unwrap_or}
use Rattle.raf_io.specs.Storage.{spliced}
use Rattle.raf_format.specs.Cipher.{Cipher}
use Rattle.raf_format.specs.Header.{sealed_header}
use Rattle.raf_format.specs.File.{File, tag_len, chunk_count, file_layout, sealed, record_at, record_len}
use Rattle.raf.specs.Change.{Change, change_of}
use Rattle.raf.specs.Concern.{size_after, touched, needed, sum_where}
use Rattle.raf_tree.specs.Tree.{height}
use Rattle.raf.specs.Apply.{apply, new_chunk}
use Rattle.raf.specs.Due.{is_refused}
use Rattle.raf_format.specs.declared.header.Header.{Header}
use Rattle.raf.specs.declared.command.Command.{Command}
use Rattle.raf.specs.declared.command.Command.TheVariants as command

-- the header of a file
abbrev pub header_of : Cipher → File → Header
header_of C F = record { version = F.shape.version; algorithm = C.id; chunk_size = F.shape.chunk_size; file_size = F.size; id = F.id }

-- the records of chunks from an index on: one that passes the test is sealed under the next nonce, any other stands as in b
abbrev pub image_records : Cipher → List ℕ → List ℕ → File → (ℕ → Bool) → List ℕ → ℕ → List (Option (List ℕ)) → List ℕ
image_records C key b F test nonces index [] = []
image_records C key b F test nonces index (c ∷ chunks) =
    (if test index
    then sealed C (tag_len F.shape) (C.chunk_key key F.id) F.id index (take C.nonce_len nonces) (unwrap_or c [])
    else record_at F.shape F.size index b)
    ++ image_records C key b F test (if test index then drop C.nonce_len nonces else nonces) (index + 1) chunks

-- the storage of a file that was b, with the touched chunks sealed anew
abbrev pub image : Cipher → List ℕ → List ℕ → File → (ℕ → Bool) → List ℕ → List ℕ
image C key b F test nonces = sealed_header C key (header_of C F) ++ image_records C key b F test nonces 0 F.chunks

-- the storage after a command. One that is refused, and one that changes nothing, leave it
abbrev pub bytes_after : Option ℕ → Cipher → List ℕ → File → Command → List ℕ → List ℕ → List ℕ
bytes_after limit C key F c nonces b =
    if is_refused (apply limit F c).0 then b
    else if is_some (change_of F c) then image C key b (apply limit F c).1 (touched F c) nonces else b

-- the nonce of an index, where the first one is that of this index
abbrev pub nonce_at : ℕ → ℕ → List ℕ → ℕ → List ℕ
nonce_at nonce_len first nonces index = take nonce_len (drop ((index - first) * nonce_len) nonces)

-- records put in their places one after the other, from an index on, this many: each is the one of its index
abbrev pub placed : ℕ → (ℕ → List ℕ) → ℕ → ℕ → List ℕ → List ℕ
placed step records first zero b = b
placed step records first (suc n) b = spliced (96 + (first + n) * step) (records (first + n)) (placed step records first n b)

-- the storage of a file that was b where a change of it stopped after so many records: each of them, from the first touched one on, is the
-- new chunk's, sealed under its nonce
abbrev pub stopped_after : Cipher → List ℕ → File → Change → ℕ → List ℕ → List ℕ → List ℕ
stopped_after C key F K count nonces b =
    let first = K.from / F.shape.chunk_size in
    placed (F.shape.nonce_len + F.shape.chunk_size + tag_len F.shape)
    (λ i. sealed C (tag_len F.shape) (C.chunk_key key F.id) F.id i (nonce_at C.nonce_len first nonces i)
    (new_chunk F.shape.chunk_size K i (unwrap_or (get_or F.chunks i None) [])))
    first count b

-- the random bytes that a command asks: a nonce for each touched chunk. One that is refused asks none
abbrev pub asked_by : Option ℕ → File → Command → ℕ
asked_by limit F c =
    if is_refused (apply limit F c).0 then 0
    else sum_where (touched F c) (λ _. F.shape.nonce_len) 0 (chunk_count F.shape.chunk_size (size_after F c))

-- the most that the writes and resizes of a command are: one for each touched chunk, one for the header where the size changes, and
-- one where the file shrinks
abbrev pub changes_by : Option ℕ → File → Command → ℕ
changes_by limit F c =
    if is_refused (apply limit F c).0 then 0
    else sum_where (touched F c) (λ _. 1) 0 (chunk_count F.shape.chunk_size (size_after F c))
    + (if nat_eq (size_after F c) F.size then 0 else 1) + (if nat_lt (size_after F c) F.size then 1 else 0)

-- the most bytes that the hasher's tree has read: all records, twice where it is made anew
abbrev pub tree_traffic : Option ℕ → File → Command → ℕ
tree_traffic None F c = 0
tree_traffic (Some most) F command.Rebuild = 2 * (file_layout F - 96)
tree_traffic (Some most) F command.Verify = file_layout F - 96
tree_traffic (Some most) F _ = 0

-- the most bytes that a command reads and writes: the needed old records, the touched new ones, the header where the size changes, and
-- what the tree has read
abbrev pub traffic_by : Option ℕ → File → Command → ℕ
traffic_by limit F c =
    sum_where (needed F c) (record_len F.shape F.size) 0 (chunk_count F.shape.chunk_size F.size)
    + sum_where (touched F c) (record_len F.shape (size_after F c)) 0 (chunk_count F.shape.chunk_size (size_after F c))
    + (if nat_eq (size_after F c) F.size then 0 else 96)
    + tree_traffic limit F c

-- how many chunks a command touches and removes
abbrev pub moved_chunks : File → Command → ℕ
moved_chunks F c =
    let count = chunk_count F.shape.chunk_size (size_after F c) in
    sum_where (touched F c) (λ _. 1) 0 count + (chunk_count F.shape.chunk_size F.size - count)

-- the most hashes that a command asks: all nodes where the tree is made anew; all leaves where it is compared; one for the commitment; and
-- else, for the chunks that it touches and removes, the lesser of their paths and of one pass over the tree
abbrev pub calls_by : Option ℕ → File → Command → ℕ
calls_by None F c = 0
calls_by (Some most) F command.Rebuild = 2 * chunk_count F.shape.chunk_size F.size + 2 * height most + 1
calls_by (Some most) F command.Verify = chunk_count F.shape.chunk_size F.size
calls_by (Some most) F command.Commitment = 1
calls_by (Some most) F c =
    if is_refused (apply (Some most) F c).0 then 0
    else min (moved_chunks F c * (2 * height most + 1)) (2 * moved_chunks F c + 3 * height most)

-- trace: the storage after commands, under the nonces that they take one after the other
abbrev pub traced : Option ℕ → Cipher → List ℕ → File → List Command → List ℕ → List ℕ → List ℕ
traced limit C key F [] nonces b = b
traced limit C key F (c ∷ commands) nonces b =
    traced limit C key (apply limit F c).1 commands (drop (asked_by limit F c) nonces)
    (bytes_after limit C key F c (take (asked_by limit F c) nonces) b)

-- the sums over commands
abbrev pub asked_in : Option ℕ → File → List Command → ℕ
asked_in limit F [] = 0
asked_in limit F (c ∷ commands) = asked_by limit F c + asked_in limit (apply limit F c).1 commands

abbrev pub changes_in : Option ℕ → File → List Command → ℕ
changes_in limit F [] = 0
changes_in limit F (c ∷ commands) = changes_by limit F c + changes_in limit (apply limit F c).1 commands

abbrev pub traffic_in : Option ℕ → File → List Command → ℕ
traffic_in limit F [] = 0
traffic_in limit F (c ∷ commands) = traffic_by limit F c + traffic_in limit (apply limit F c).1 commands

abbrev pub calls_in : Option ℕ → File → List Command → ℕ
calls_in limit F [] = 0
calls_in limit F (c ∷ commands) = calls_by limit F c + calls_in limit (apply limit F c).1 commands
