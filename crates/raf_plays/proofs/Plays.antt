-- Worked sessions over files of many chunks, with a hasher and without one, computed by the definitions.
use Rattle.std.proofs.Common.{◌≡◌, ℕ, Bool, ◌-◌, ◌^◌, List, [], ◌∷◌, ◌++◌, replicate, Option, Some, None, refl}
use Rattle.raf_format.specs.File.{File, chunk_count, file_layout}
use Rattle.raf_format.specs.Version.{tag_len_of}
use Rattle.raf.specs.Due.Due.{Exactly, Merkle}
use Rattle.raf.specs.Concern.{size_after, touched, needed, sum_where}
use Rattle.raf.specs.Apply.{due_to, file_after}
use Rattle.raf.specs.Image.{traffic_by}
use Rattle.raf.specs.declared.command.Command.{Command}
use Rattle.raf.specs.declared.command.Command.TheVariants as command
use Rattle.raf.specs.declared.command.Reply.TheVariants.{Bytes, Wrote, Done, Size, Refused}
use Rattle.raf_io.specs.declared.errors.ErrorKind.TheVariants.{AuthenticationFailed, Overflow, MerkleNotEnabled}

abbrev count_of : (File → Command → ℕ → Bool) → File → Command → ℕ
count_of test F c = sum_where (test F c) (λ _. 1) 0 (chunk_count F.shape.chunk_size (size_after F c))

abbrev file : ℕ → ℕ → List (Option (List ℕ)) → File
file chunk_size size chunks = record { shape = record { version = 1; nonce_len = 16; chunk_size = chunk_size }; id = replicate 32 0; size = size; chunks = chunks }

abbrev empty : File
empty = file 16 0 []

-- a gap over two chunks
gap_dues : due_to None empty (command.Write 20 (0x5a ∷ []) ∷ command.Size ∷ command.Read 0 21 ∷ [])
    ≡ Exactly (Wrote 1) ∷ Exactly (Size 21) ∷ Exactly (Bytes (replicate 20 0 ++ 0x5a ∷ [])) ∷ []
unfolding tag_len_of
gap_dues = refl

gap_storage : file_layout (file_after None empty (command.Write 20 (0x5a ∷ []) ∷ [])) ≡ 181
unfolding tag_len_of
gap_storage = refl

gap_nonces : count_of touched empty (command.Write 20 (0x5a ∷ [])) ≡ 2
unfolding tag_len_of
gap_nonces = refl

-- the end of all positions
far_dues : due_to None empty (command.Write (2 ^ 64 - 1) [] ∷ command.Write (2 ^ 64 - 1) (0x5a ∷ []) ∷ command.Size ∷ [])
    ≡ Exactly (Wrote 0) ∷ Exactly (Refused Overflow) ∷ Exactly (Size 0) ∷ []
unfolding tag_len_of
far_dues = refl

-- three chunks, the middle one damaged
abbrev damaged : File
damaged = file 16 48 (Some (replicate 16 1) ∷ None ∷ Some (replicate 16 3) ∷ [])

damaged_dues : due_to None damaged
    (command.Read 0 16 ∷ command.Read 8 16 ∷ command.Write 20 (0xaa ∷ []) ∷ command.Write 16 (replicate 16 2) ∷ command.Read 8 16 ∷ [])
    ≡ Exactly (Bytes (replicate 16 1)) ∷ Exactly (Refused AuthenticationFailed) ∷ Exactly (Refused AuthenticationFailed) ∷ Exactly (Wrote 16)
    ∷ Exactly (Bytes (replicate 8 1 ++ replicate 8 2)) ∷ []
unfolding tag_len_of
damaged_dues = refl

damaged_stays : file_after None damaged (command.Read 8 16 ∷ command.Write 20 (0xaa ∷ []) ∷ []) ≡ damaged
unfolding tag_len_of
damaged_stays = refl

-- 33 bytes, cut and made longer
abbrev long : File
long = file 16 33 (Some (replicate 16 1) ∷ Some (replicate 16 2) ∷ Some (3 ∷ []) ∷ [])

cut_whole : file_after None long (command.Truncate 16 ∷ []) ≡ file 16 16 (Some (replicate 16 1) ∷ [])
unfolding tag_len_of
cut_whole = refl

cut_whole_nonces : count_of touched long (command.Truncate 16) ≡ 0
unfolding tag_len_of
cut_whole_nonces = refl

cut_whole_storage : file_layout (file_after None long (command.Truncate 16 ∷ [])) ≡ 144
unfolding tag_len_of
cut_whole_storage = refl

cut : file_after None long (command.Truncate 17 ∷ command.Truncate 17 ∷ []) ≡ file 16 17 (Some (replicate 16 1) ∷ Some (2 ∷ []) ∷ [])
unfolding tag_len_of
cut = refl

cut_nonces : count_of touched long (command.Truncate 17) ≡ 1
unfolding tag_len_of
cut_nonces = refl

cut_needs : count_of needed long (command.Truncate 17) ≡ 1
unfolding tag_len_of
cut_needs = refl

cut_storage : file_layout (file_after None long (command.Truncate 17 ∷ [])) ≡ 177
unfolding tag_len_of
cut_storage = refl

longer : file_after None long (command.Truncate 17 ∷ command.Truncate 33 ∷ []) ≡ file 16 33 (Some (replicate 16 1) ∷ Some (2 ∷ replicate 15 0) ∷ Some (0 ∷ []) ∷ [])
unfolding tag_len_of
longer = refl

longer_nonces : count_of touched (file_after None long (command.Truncate 17 ∷ [])) (command.Truncate 33) ≡ 2
unfolding tag_len_of
longer_nonces = refl

made_longer : due_to None empty (command.Truncate 17 ∷ command.Sync ∷ command.Read 16 5 ∷ []) ≡ Exactly Done ∷ Exactly Done ∷ Exactly (Bytes (0 ∷ [])) ∷ []
unfolding tag_len_of
made_longer = refl

-- a hasher for four chunks at most
hashed_dues : due_to (Some 4) empty
    (command.Write 0 (replicate 48 7) ∷ command.Commitment ∷ command.Verify ∷ command.Rebuild ∷ command.Commitment ∷ command.Write 64 (0xaa ∷ []) ∷ command.Truncate 65 ∷ command.Truncate 64 ∷ [])
    ≡ Exactly (Wrote 48) ∷ Merkle ∷ Merkle ∷ Merkle ∷ Merkle ∷ Exactly (Refused Overflow) ∷ Exactly (Refused Overflow) ∷ Exactly Done ∷ []
unfolding tag_len_of
hashed_dues = refl

-- and none
unhashed_dues : due_to None empty (command.Commitment ∷ command.Verify ∷ command.Rebuild ∷ [])
    ≡ Exactly (Refused MerkleNotEnabled) ∷ Exactly (Refused MerkleNotEnabled) ∷ Exactly (Refused MerkleNotEnabled) ∷ []
unfolding tag_len_of
unhashed_dues = refl

-- 100 bytes over the border of two chunks of an ordinary file
ordinary_traffic : traffic_by None (file 65536 200000 []) (command.Write 131000 (replicate 100 1)) ≡ 262272
unfolding tag_len_of
ordinary_traffic = refl
