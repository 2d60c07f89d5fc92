-- What a kept tree answers, where it keeps that of a file's chunks.
use Rattle.std.proofs.Common.{◌≡◌, inl, inr, Bool, true, false, cond, ℕ, zero, suc, ◌+◌, ◌*◌, ◌^◌, ◌<◌, List, [], ◌∷◌, length, map, get_or, Option, Some, None, refl, sym, ◌∙◌, ap, subst, arith}
use Rattle.std.specs.Prelude.{nat_le}
use Rattle.std.proofs.lemmas.Bool.Decides.{nat_tests}
use Rattle.raf_tree.specs.Hashing.{Hashing}
use Rattle.raf_tree.specs.Kept.{Kept as Tree, Keeps, kept, tree_height}
use Rattle.raf_tree.specs.Tree.{node, leaves, leaves_from, root}
use Rattle.raf_format.specs.File.{File}
use Rattle.raf.specs.Concern.{none_missing}
use Rattle.raf.specs.Handle.{Grown, KeptAnswer, FirstBad}
use Rattle.raf.specs.Session.{tree_reply, present}
use Rattle.raf.specs.declared.command.Command.{Command}
use Rattle.raf.specs.declared.command.Command.TheVariants as command
use Rattle.raf.specs.declared.command.Reply.{Reply}
use Rattle.raf.specs.declared.command.Reply.TheVariants.{Done, Verified, Commitment, Refused}
use Rattle.raf_io.specs.declared.errors.ErrorKind.TheVariants.{AuthenticationFailed}

length-leaves_from : (H : Hashing) (i : ℕ) (chunks : List (List ℕ)) → length (leaves_from H i chunks) ≡ length chunks
unfolding leaves_from
length-leaves_from H i [] = refl
length-leaves_from H i (c ∷ chunks) = omega (arith, length-leaves_from H (suc i) chunks)

get-leaves_from : (H : Hashing) (i k : ℕ) (chunks : List (List ℕ)) → k < length chunks → get_or (leaves_from H i chunks) k [] ≡ H.leaf (get_or chunks k []) (i + k)
unfolding leaves_from
get-leaves_from H i k [] lt = absurd (omega (arith, lt))
get-leaves_from H i zero (c ∷ chunks) lt = let e : i ≡ i + 0 = omega arith in ap (λ (n : ℕ). H.leaf c n) e
get-leaves_from H i (suc k) (c ∷ chunks) lt =
    let e : suc i + k ≡ i + suc k = omega arith in
    get-leaves_from H (suc i) k chunks (omega (arith, lt)) ∙ ap (λ (n : ℕ). H.leaf (get_or chunks k []) n) e

node_leaf : (H : Hashing) (l : List (List ℕ)) (j : ℕ) → j < length l → node H l 0 j ≡ get_or l j []
unfolding node
node_leaf H l j lt =
    let t : nat_le (length l) (j * 2 ^ 0) ≡ false = grind (arith, nat_tests) in
    ap (λ (t : Bool). cond t (H.empty 0 j) (get_or l j [])) t

-- each leaf is the hash of its chunk
leaf_kept : (H : Hashing) (t : Tree) (chunks : List (List ℕ)) (j : ℕ) → Keeps H t (leaves H chunks) → j < length chunks → H.leaf (get_or chunks j []) j ≡ kept t 0 j
unfolding leaves
leaf_kept H t chunks j keeps lt =
    let n : j < length (leaves_from H 0 chunks) = omega (arith, lt, length-leaves_from H 0 chunks) in
    let z : 0 + j ≡ j = omega arith in
    let one : j * 2 ^ 0 ≡ j = omega arith in
    sym (keeps.nodes 0 j (omega arith) (omega (arith, n, one)) ∙ node_leaf H (leaves_from H 0 chunks) j n ∙ get-leaves_from H 0 j chunks lt ∙ ap (λ (i : ℕ). H.leaf (get_or chunks j []) i) z)

present_is : (chunks : List (List ℕ)) → present (map (λ m. Some m) chunks) ≡ chunks
present_is [] = refl
present_is (c ∷ chunks) = ap (λ (l : List (List ℕ)). c ∷ l) (present_is chunks)

pub all_present : (j : ℕ) (chunks : List (List ℕ)) → none_missing (λ _. true) j (map (λ m. Some m) chunks) ≡ true
all_present j [] = refl
all_present j (c ∷ chunks) = all_present (j + 1) chunks

-- no chunk is bad where each has its leaf
none_bad : (H : Hashing) (t : Tree) (j : ℕ) (chunks : List (List ℕ)) (found : Option ℕ) → ((k : ℕ) → k < length chunks → H.leaf (get_or chunks k []) (j + k) ≡ kept t 0 (j + k))
    → FirstBad H t j (map (λ m. Some m) chunks) found → found ≡ None
none_bad H t j [] found good bad = bad
none_bad H t j (c ∷ chunks) found good (inl more) =
    none_bad H t (j + 1) chunks found (λ k lt.
    let e : j + suc k ≡ j + 1 + k = omega arith in
    subst (λ (i : ℕ). H.leaf (get_or chunks k []) i ≡ kept t 0 i) e (good (suc k) (omega (arith, lt)))) more.1
none_bad H t j (c ∷ chunks) found good (inr here) =
    let z : j + 0 ≡ j = omega arith in
    absurd (here.0 (subst (λ (i : ℕ). H.leaf c i ≡ kept t 0 i) z (good 0 (omega arith))))

pub decided : (H : Hashing) (t : Tree) (F : File) (c : Command) (reply : Reply) → Grown F H t → KeptAnswer F c reply H t → reply ≡ tree_reply H t.max_chunks F c
decided H t F command.Rebuild reply grown answer =
    answer ∙ ap (λ (b : Bool). cond {A = Reply} b Done (Refused AuthenticationFailed)) (ap (none_missing (λ _. true) 0) grown.present ∙ all_present 0 grown.chunks)
decided H t F command.Verify reply grown (found, is, bad) =
    is ∙ ap (λ (o : Option ℕ). Verified o) (none_bad H t 0 grown.chunks found (λ k lt.
    let z : k ≡ 0 + k = omega arith in
    subst (λ (i : ℕ). H.leaf (get_or grown.chunks k []) i ≡ kept t 0 i) z (leaf_kept H t grown.chunks k grown.keeps lt)) (subst (λ (l : List (Option (List ℕ))). FirstBad H t 0 l found) grown.present bad))
decided H t F command.Commitment reply grown answer =
    answer
    ∙ ap (λ (r : List ℕ). Commitment (H.commitment r F.id F.size))
    (grown.keeps.root ∙ ap (λ (l : List (List ℕ)). root H (tree_height t) (leaves H l)) (sym (ap present grown.present ∙ present_is grown.chunks)))
decided H t F (command.Read offset len) reply grown answer = absurd answer
decided H t F (command.Write offset bytes) reply grown answer = absurd answer
decided H t F (command.Truncate size) reply grown answer = absurd answer
decided H t F command.Size reply grown answer = absurd answer
decided H t F command.Sync reply grown answer = absurd answer
