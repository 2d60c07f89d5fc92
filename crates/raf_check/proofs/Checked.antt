-- The calls of a check, from the leaf up.
use Rattle.std.proofs.Common.{◌≡◌, ℕ, ◌+◌, ◌-◌, ◌*◌, ◌^◌, ◌<◌, Bool, Decides, List, take, drop, sym, ap, ◌∙◌, arith}
use Rattle.raf_tree.specs.Hashing.{Hashing}
use Rattle.raf_tree.specs.Kept.{part}
use Rattle.raf_tree.specs.Calls.{answer, CallLaws}
use Rattle.raf_check.specs.Claim.{Claim, above, parent_call, path_call}
use Rattle.raf_check.specs.Binding.{Checks}
use Rattle.raf_check.proofs.Walk.{path_leaf, path_parent, accepted_binds}

pub first_node : (H : Hashing) (chunk : List ℕ) (p : Claim) (index : ℕ) (node : List ℕ) → index ≡ p.index → node ≡ H.leaf chunk index → node ≡ answer H (path_call H chunk p 0)
first_node H chunk p index node is made = made ∙ ap (λ (k : ℕ). H.leaf chunk k) is ∙ sym (ap (answer H) (path_leaf H chunk p))

-- the bytes from place len · l on are part number l
pub part_is : (len n l : ℕ) (all bytes : List ℕ) → n ≡ len → bytes ≡ all → take (n * l + n - n * l) (drop (n * l) bytes) ≡ part len l all
unfolding part
part_is len n l all bytes at same =
    let e : n * l + n - n * l ≡ n = omega arith in
    ap (λ (k : ℕ). take k (drop (n * l) bytes)) e ∙ ap (λ (k : ℕ). take k (drop (k * l) bytes)) at ∙ ap (λ (b : List ℕ). take len (drop (len * l) b)) same

pub next_node : (H K : Hashing) (chunk : List ℕ) (p : Claim) (l place : ℕ) (node sibling new : List ℕ) → K ≡ H → node ≡ answer H (path_call H chunk p l) → sibling ≡ part H.len l p.siblings → place ≡ above p.index l
    → new ≡ answer K (parent_call node sibling l place) → new ≡ answer H (path_call H chunk p (l + 1))
next_node H K chunk p l place node sibling new meaning own other at made =
    made
    ∙ ap (λ (M : Hashing). answer M (parent_call node sibling l place)) meaning
    ∙ ap (λ (x : List ℕ). answer H (parent_call x sibling l place)) own
    ∙ ap (λ (x : List ℕ). answer H (parent_call (answer H (path_call H chunk p l)) x l place)) other
    ∙ ap (λ (k : ℕ). answer H (parent_call (answer H (path_call H chunk p l)) (part H.len l p.siblings) l k)) at
    ∙ sym (ap (answer H) (path_parent H chunk p l))

pub checked : (H K : Hashing) (value chunk id : List ℕ) (p : Claim) (l size : ℕ) (node made : List ℕ) (yes : Bool) → CallLaws H → p.index < 2 ^ p.height → K ≡ H → l ≡ p.height → id ≡ p.id → size ≡ p.size
    → node ≡ answer H (path_call H chunk p l) → made ≡ K.commitment node id size → Decides yes (made ≡ value) → Checks H value chunk p yes
checked H K value chunk id p l size node made answers laws inside meaning end is_id is_size own is decides = record {
  exact = (λ e. sym top ∙ decides.0 e, λ e. decides.1 (top ∙ e));
  binds = λ e. accepted_binds H laws value chunk p inside (sym top ∙ decides.0 e);
}
  where
    top : made ≡ H.commitment (answer H (path_call H chunk p p.height)) p.id p.size
    top = is
        ∙ ap (λ (M : Hashing). M.commitment node id size) meaning
        ∙ ap (λ (x : List ℕ). H.commitment x id size) (own ∙ ap (λ (k : ℕ). answer H (path_call H chunk p k)) end)
        ∙ ap (λ (x : List ℕ). H.commitment (answer H (path_call H chunk p p.height)) x size) is_id
        ∙ ap (λ (k : ℕ). H.commitment (answer H (path_call H chunk p p.height)) p.id k) is_size
