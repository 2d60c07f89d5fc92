-- The laws of the tree of chunks.
use Rattle.raf_tree.specs.Hashing.{Hashing}
use Rattle.raf_tree.specs.Laws.{TreeLaws}
use Rattle.raf_tree.proofs.Since.{length-leaves, leaves_at, leaves_beside, kept_is_node, empty_is_node, since_none, since_more, beside_since}

pub tree_laws_hold : (H : Hashing) → TreeLaws H
tree_laws_hold H = record {
  leaf_count = length-leaves H;
  leaf = leaves_at H;
  kept = kept_is_node H;
  empty = empty_is_node H;
  beside = leaves_beside H;
  begins = since_none H;
  goes_on = since_more H;
  ends = beside_since H;
}
