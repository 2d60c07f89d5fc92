use Rattle.std.proofs.Common.{◌≡◌, ◌≤◌, take, drop, map, length, vec_capacity, vec_len}
use Rattle.raf_format.specs.Cipher.{cipher_of}
use Rattle.raf.specs.Handle.{hash_len_of}
use Rattle.raf.specs.Ran.{room_for}
use Rattle.raf.specs.Ran.{Progress}
use Rattle.raf.proofs.serving.answer_all.Given as goal

abbrev pub invariant-loop-command : goal.invariant-loop-command
invariant-loop-command g l = record {
  rooms : l.rooms.items ≡ map (room_for (hash_len_of g.H.MerkleHasher.hashing l.fn.file.outside.setting)) (drop l.command-index l.commands);
  capacity : length l.commands ≤ vec_capacity l.replies;
  count : vec_len l.replies ≡ l.command-index;
  progress : Progress (cipher_of g.A.Algorithm.variant) g.H.MerkleHasher.hashing l.fn.file l.file (take l.command-index l.commands) l.replies.items;
}
