-- Each answer of a hasher has its length.
use Rattle.std.specs.Prelude.{ℕ}
use Rattle.std.proofs.lemmas.List.{length-replicate}
use Rattle.sha2.proofs.Facts256.{length-sha256}
use Rattle.raf_tree.specs.Hashing.{IsHashing, zeros}
use Rattle.raf_tree.specs.Sha.{sha_hashing, leaf_bytes, parent_bytes, empty_bytes, commitment_bytes}

pub zeros_lengths : (n : ℕ) → IsHashing (zeros n)
zeros_lengths n = record {
  leaf = λ chunk index. length-replicate n 0;
  parent = λ left right level index. length-replicate n 0;
  empty = λ level index. length-replicate n 0;
  commitment = λ root context size. length-replicate n 0;
}

pub sha_lengths : IsHashing sha_hashing
sha_lengths = record {
  leaf = λ chunk index. length-sha256 (leaf_bytes chunk index);
  parent = λ left right level index. length-sha256 (parent_bytes left right level index);
  empty = λ level index. length-sha256 (empty_bytes level index);
  commitment = λ root context size. length-sha256 (commitment_bytes root context size);
}
