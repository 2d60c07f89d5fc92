use Rattle.std.proofs.Common.{◌≡◌, ◌-◌, ◌<◌, ◌≤◌, length, take, ◌+◌}
use Rattle.raf_format.specs.Cipher.{cipher_of}
use Rattle.raf.specs.Carry.{Going, kept_in, buffer_of}
use Rattle.raf.proofs.storing.store_some.Given as goal

abbrev pub invariant-loop-index : goal.invariant-loop-index
invariant-loop-index g l =
    let C = cipher_of g.A.Algorithm.variant in
    let K = g.A.Algorithm.key_list l.chunk_key in
    record {
      going : Going C g.H.MerkleHasher.hashing K l.header l.plan l.bytes (kept_in C l.header l.plan (length l.bytes) l.fn.first l.fn.second) (take C.nonce_len (buffer_of l.plan l.plan.first l.fn.first l.fn.second))
          (l.index - l.plan.first) l.fn.parts l.parts l.fn.tree l.tree;
      above : l.plan.first + 1 ≤ l.index;
      first_len : length l.first ≡ length l.fn.first;
      second_len : length l.second ≡ length l.fn.second;
      second_same : l.index < l.plan.end → l.second ≡ l.fn.second;
    }
