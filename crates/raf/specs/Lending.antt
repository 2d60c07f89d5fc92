-- What a handle is once its storage, which was lent, comes back (this project's own).
use Rattle.std.specs.Borrow.{Lends, MutBor, Fml, RattleType}
use Rattle.raf_format.specs.declared.algorithm.Algorithm.{Ghosts as AlgorithmGhosts}
use Rattle.raf_io.specs.declared.storage.RafIo.{Ghosts as IoGhosts}
use Rattle.raf_io.specs.declared.source.RafRng.{Ghosts as RngGhosts}
use Rattle.raf_tree.specs.declared.hasher.MerkleHasher.{Ghosts as HasherGhosts}
use Rattle.raf.specs.Outside.{over_storage}
use Rattle.raf.specs.Handle.{Handle, handle_of}
use Rattle.raf.specs.contracts.file.Raf.{the_row}

-- the same handle over this storage
abbrev pub with_storage : {I : Type 0} → IoGhosts I → Handle → I → Handle
with_storage io h w =
    handle_of (over_storage (io.bytes w) (io.durable w) (io.faults w) (io.reach w) (io.traffic w) (io.changes w) (io.strays w) h.outside)
    h.key h.header h.tree h.broken

module _ (A I R H K : RattleType) (algorithm : AlgorithmGhosts A.Denot K.Denot) (io : IoGhosts I.Denot) (rng : RngGhosts R.Denot)
    (hasher : HasherGhosts H.Denot) where
  -- once the borrow r ends, the handle is the same over the storage that r shows last
  abbrev pub lends_storage : MutBor (the_row A I R H K algorithm io rng hasher).Denot → MutBor I.Denot → Fml
  lends_storage s r = Lends (the_row A I R H K algorithm io rng hasher) I s r (with_storage io s.now)
