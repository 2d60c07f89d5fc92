use Rattle.std.proofs.Common.{ℕ, ◌+◌, ◌≡◌, ◌≤◌, List, ◌++◌, Some, None, length, take, drop, sym, ap, subst, ◌∙◌, arith, length-take, length-append}
use Rattle.std.proofs.lemmas.List.{take_at, with_items_is}
use Rattle.aegis_core.specs.Sealing.{Unseals}
use Rattle.aegis_core.specs.declared.variant.Variant.TheVariants.{Aegis128L}
use Rattle.aegis_stream.proofs.Buffers.{head_in, text_in, tag_in, head_stays, unseals_at}
use Rattle.aegis_stream.proofs.pending.Pending.open_filled.Goals as goal
use Rattle.aegis_stream.proofs.pending.Pending.open_filled.Goals.{After-copy_from_slice}

-- the parts of the buffer are those of the frame
record Parts (c : After-copy_from_slice) : Type 0 where
  fits : c.self.inside.filled ≤ length c.self.inside.buffer.items
  is : c.self.inside.filled ≡ 21 + c.args.len
  head : c.split_at_mut-head.result.0.now ≡ take 5 c.args.self.now
  text : c.split_at_mut-text.result.0.now ≡ take c.args.len (drop 5 c.args.self.now)
  tag : c.copy_from_slice.new.self ≡ take 16 (drop (5 + c.args.len) c.args.self.now)

parts : (c : After-copy_from_slice) → Parts c
parts c =
    let b = c.self.inside.buffer.items in
    let n = c.self.inside.filled in
    let len = c.args.len in
    let view : take n b ≡ c.args.self.now = c.self.view_is in
    let fits : n ≤ length b = omega (arith, c.self.invariant) in
    let is : n ≡ 21 + len = omega (arith, ap length view, length-take n b, c.requires.whole) in
    let whole : c.deref_mut.result.now ≡ b = c.deref_mut.ensures.value in
    let rest : c.split_at_mut-head.result.1.now ≡ drop 5 b = c.split_at_mut-head.ensures.back ∙ ap (drop 5) whole in
    record {
      fits = fits;
      is = is;
      head = c.split_at_mut-head.ensures.front ∙ ap (take 5) whole ∙ head_in b n len fits is ∙ ap (take 5) view;
      text = c.split_at_mut-text.ensures.front ∙ ap (take len) rest ∙ text_in b n len fits is ∙ ap (λ (l : List ℕ). take len (drop 5 l)) view;
      tag = c.copy_from_slice.ensures.after ∙ ap (take 16) (c.split_at_mut-text.ensures.back ∙ ap (drop len) rest) ∙ tag_in b n len fits is
          ∙ ap (λ (l : List ℕ). take 16 (drop (5 + len) l)) view;
    }

pub returns-in-Ok-clause-message : goal.returns-in-Ok-clause-message
returns-in-Ok-clause-message c =
    let p = parts (goal.at.returns-in-Ok-clause-message c).After-copy_from_slice in
    let m = c.decrypt_in_place.new.mc in
    let copied : c.copy_from_slice-in-Ok.new.self ≡ m = c.copy_from_slice-in-Ok.ensures.after in
    let len : length c.copy_from_slice-in-Ok.new.self ≡ c.args.len = omega (arith, c.copy_from_slice-in-Ok.ensures.len, length-take c.args.len c.args.out.now, c.requires.room) in
    let out : take c.args.len (c.copy_from_slice-in-Ok.new.self ++ drop c.args.len c.args.out.now) ≡ m =
    take_at c.copy_from_slice-in-Ok.new.self (drop c.args.len c.args.out.now) c.args.len len ∙ copied in
    subst (λ (l : List ℕ). Unseals Aegis128L 16 c.args.key.now c.args.nonce.now (take 5 c.args.self.now) (take c.args.len (drop 5 c.args.self.now)) (take 16 (drop (5 + c.args.len) c.args.self.now)) (Some l)) (sym out)
    (unseals_at c.new.result.key c.args.key.now c.new.result.nonce c.args.nonce.now c.split_at_mut-head.result.0.now (take 5 c.args.self.now)
    c.split_at_mut-text.result.0.now (take c.args.len (drop 5 c.args.self.now)) c.copy_from_slice.new.self (take 16 (drop (5 + c.args.len) c.args.self.now)) (Some m)
    c.new.ensures.key c.new.ensures.nonce p.head p.text p.tag c.in-Ok.ensures.message)

pub returns-in-Err-clause-none : goal.returns-in-Err-clause-none
returns-in-Err-clause-none c =
    let p = parts (goal.at.returns-in-Err-clause-none c).After-copy_from_slice in
    unseals_at c.new.result.key c.args.key.now c.new.result.nonce c.args.nonce.now c.split_at_mut-head.result.0.now (take 5 c.args.self.now)
    c.split_at_mut-text.result.0.now (take c.args.len (drop 5 c.args.self.now)) c.copy_from_slice.new.self (take 16 (drop (5 + c.args.len) c.args.self.now)) None
    c.new.ensures.key c.new.ensures.nonce p.head p.text p.tag c.in-Err.ensures.none

pub returns-in-Err-clause-head : goal.returns-in-Err-clause-head
returns-in-Err-clause-head c =
    let u = c.self.inside in
    let p = parts (goal.at.returns-in-Err-clause-head c).After-copy_from_slice in
    let h = c.split_at_mut-head.result.0.now in
    let x = c.decrypt_in_place.new.mc ++ c.split_at_mut-text.result.1.now in
    let b = u.buffer.items in
    let len : length (h ++ x) ≡ u.buffer.len =
    omega (
      arith,
      length-append h x,
      length-append c.decrypt_in_place.new.mc c.split_at_mut-text.result.1.now,
      c.decrypt_in_place.auto.mc,
      c.split_at_mut-head.ensures.front_len,
      c.split_at_mut-head.ensures.back_len,
      c.split_at_mut-text.ensures.front_len,
      c.split_at_mut-text.ensures.back_len,
      ap length c.deref_mut.ensures.value,
      u.buffer.ok.0,
    ) in
    ap (λ (l : List ℕ). take 5 (take u.filled l)) (with_items_is u.buffer (h ++ x) len)
    ∙ head_stays b u.filled c.args.len p.fits p.is h x (c.split_at_mut-head.ensures.front ∙ ap (take 5) c.deref_mut.ensures.value)
    ∙ ap (take 5) c.self.view_is
