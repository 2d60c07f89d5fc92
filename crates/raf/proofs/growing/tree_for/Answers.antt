use Rattle.std.proofs.Common.{ap, sym, subst}
use Rattle.std.specs.Option.{option_map}
use Rattle.raf_tree.specs.Made.{IsHashLen, RefusesTree}
use Rattle.raf_tree.specs.declared.tree.TreeError.{TreeError}
use Rattle.raf.proofs.growing.tree_for.Goals as goal

pub returns-in-Err-HashLen-clause-refused : goal.returns-in-Err-HashLen-clause-refused
returns-in-Err-HashLen-clause-refused g c =
    let setting = ap (option_map g.H.MerkleHasher.setting) c.in-Some.is in (
      g.H.MerkleHasher.setting c.in-Some.hasher,
      c.args.max_chunks,
      setting,
      ap (option_map (λ _. c.args.max_chunks)) setting,
      λ fits. subst (λ (e : TreeError). RefusesTree c.hash_len.result c.args.max_chunks e) c.in-Err-HashLen.field-0-is c.in-Err-HashLen.ensures.refused (subst IsHashLen (sym c.hash_len.ensures) fits),
    )
