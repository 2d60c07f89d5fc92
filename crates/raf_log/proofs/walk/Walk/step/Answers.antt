use Rattle.std.proofs.Common.{arith, ◌≡◌, inl, inr, ◌+◌, ◌-◌, ◌^◌, ◌<◌, List, ℕ, take, drop, get_or, true, Bool, sym, ap, ◌∙◌, subst}
use Rattle.std.specs.Int.{w32, to_le_bytes, from_le_bytes}
use Rattle.std.proofs.lemmas.Nat.{le_bytes_4}
use Rattle.raf_log.specs.Log.{Spaced}
use Rattle.raf_log.specs.Walk.{Walked}
use Rattle.raf_log.proofs.Walks.{stands_head, bytes_inside, ends_wrong, walks-push, spaced-push}
use Rattle.raf_log.proofs.walk.Walk.step.Goals as goal
use Rattle.raf_log.proofs.walk.Walk.step.Goals.{then-len-via-then-len, then-len-via-else-len+then-len-size}

pub returns-then-len-clause-walked : goal.returns-then-len-clause-walked
returns-then-len-clause-walked c = λ x s w.
    let place = c.args.self.now.next - c.args.at in
    let four : c.args.self.now.next - c.args.at + 4 - (c.args.self.now.next - c.args.at) ≡ 4 = omega arith in
    let same : c.from-len.result ≡ from_le_bytes w32 c.copy_from_slice.new.self = c.from-len.ensures ∙ c.from_le_bytes.ensures in
    let read : to_le_bytes w32 c.from-len.result ≡ c.copy_from_slice.new.self = le_bytes_4 c.copy_from_slice.new.self c.from-len.result c.copy_from_slice.ensures.len (λ i. subst (λ (l : List ℕ). get_or l i 0 < 256) (sym c.copy_from_slice.ensures.after) (bytes_inside c.args.piece.now (c.args.self.now.next - c.args.at) (c.args.self.now.next - c.args.at + 4 - (c.args.self.now.next - c.args.at)) i (λ j. omega (arith, c.type_inv.piece j)))) same in
    let head : take 4 (drop c.args.self.now.next x) ≡ to_le_bytes w32 c.from-len.result =
    stands_head x c.args.piece.now c.args.at c.args.size c.args.self.now.next s c.requires.begins c.requires.inside
    ∙ ap (λ (n : ℕ). take n (drop (c.args.self.now.next - c.args.at) c.args.piece.now)) (sym four)
    ∙ sym (read ∙ c.copy_from_slice.ensures.after) in
    let small : c.from-len.result < 2 ^ 32 = omega (arith, c.from_le_bytes.type_inv, c.from-len.ensures) in
    ends_wrong x c.args.self.now.starts.items c.args.self.now.next c.from-len.result w (omega (arith, s.long)) small head
    (elim c.then-len.branch [ then-len-via-then-len t ↦ inl t.if-len.true | then-len-via-else-len+then-len-size t ↦ inr (omega (arith, t.if-len-size.true, s.long)) ])

pub returns-clause-walked : goal.returns-clause-walked
returns-clause-walked c = λ x s w.
    let four : c.args.self.now.next - c.args.at + 4 - (c.args.self.now.next - c.args.at) ≡ 4 = omega arith in
    let same : c.from-len.result ≡ from_le_bytes w32 c.copy_from_slice.new.self = c.from-len.ensures ∙ c.from_le_bytes.ensures in
    let read : to_le_bytes w32 c.from-len.result ≡ c.copy_from_slice.new.self = le_bytes_4 c.copy_from_slice.new.self c.from-len.result c.copy_from_slice.ensures.len (λ i. subst (λ (l : List ℕ). get_or l i 0 < 256) (sym c.copy_from_slice.ensures.after) (bytes_inside c.args.piece.now (c.args.self.now.next - c.args.at) (c.args.self.now.next - c.args.at + 4 - (c.args.self.now.next - c.args.at)) i (λ j. omega (arith, c.type_inv.piece j)))) same in
    let head : take 4 (drop c.args.self.now.next x) ≡ to_le_bytes w32 c.from-len.result =
    stands_head x c.args.piece.now c.args.at c.args.size c.args.self.now.next s c.requires.begins c.requires.inside
    ∙ ap (λ (n : ℕ). take n (drop (c.args.self.now.next - c.args.at) c.args.piece.now)) (sym four)
    ∙ sym (read ∙ c.copy_from_slice.ensures.after) in
    subst (λ (t : Bool). Walked x c.push.new.self.items (c.args.self.now.next + 4 + c.from-len.result) t) (sym c.requires.formed)
    (subst (λ (l : List ℕ). Walked x l (c.args.self.now.next + 4 + c.from-len.result) true) (sym (c.in_ok-push.ensures.items))
    (walks-push x 0 c.args.self.now.starts.items c.args.self.now.next c.from-len.result w c.if-len.false (omega (arith, s.long, c.if-len-size.false)) head))

pub returns-clause-spaced : goal.returns-clause-spaced
returns-clause-spaced c = λ s.
    subst (λ (l : List ℕ). Spaced 0 l (c.args.self.now.next + 4 + c.from-len.result)) (sym c.in_ok-push.ensures.items)
    (spaced-push 0 c.args.self.now.starts.items c.args.self.now.next c.from-len.result s c.if-len.false)
