use Rattle.std.proofs.Common.{◌≡◌, ◌≤◌, ◌-◌, length}
use Rattle.raf_format.specs.Cipher.{cipher_of}
use Rattle.raf.proofs.Conversions.{Moving}
use Rattle.raf.proofs.converting.convert.Given as goal

abbrev pub invariant-loop-offset : goal.invariant-loop-offset
invariant-loop-offset g l = record {
  moving : Moving (cipher_of g.A1.Algorithm.variant) (cipher_of g.A2.Algorithm.variant) g.H2.MerkleHasher.hashing (length l.fn.buf) l.fn.from l.from l.fn.to l.to l.offset;
  within : l.offset ≤ l.size;
  wide : length l.buf ≡ length l.fn.buf;
}

abbrev pub decreases-loop-offset : goal.decreases-loop-offset
decreases-loop-offset g l = l.size - l.offset
