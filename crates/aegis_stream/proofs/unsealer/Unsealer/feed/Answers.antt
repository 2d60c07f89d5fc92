use Rattle.std.proofs.Common.{◌≡◌, ℕ, ◌+◌, ◌-◌, min, true, List, ◌++◌, length, take, drop, refl, sym, ap, ◌∙◌, subst, inl, inr, arith}
use Rattle.aegis_stream.specs.Heads.{Reads, ReadsHead}
use Rattle.aegis_stream.specs.Unspell.{is_malformed}
use Rattle.aegis_stream.specs.Progress.{Progress, IsBegun, IsKept, IsOpened, IsStopped, Moves}
use Rattle.aegis_stream.specs.declared.fed.Fed.{Fed}
use Rattle.aegis_stream.specs.declared.error.StreamError.{StreamError}
use Rattle.aegis_stream.specs.declared.error.StreamError.TheVariants as error
use Rattle.aegis_stream.proofs.Feeding.{Headed, short_begun, short_kept, malformed_stops, head_less, begun_le, short_len, long_len, head_g, part_begun, part_kept, whole_parts, wrong_begun, wrong_stops, right_opens, over_moves, nothing_begun}
use Rattle.aegis_stream.proofs.unsealer.Unsealer.feed.Goals as goal
use Rattle.aegis_stream.proofs.unsealer.Unsealer.feed.Goals.{In-Ok-None, In-Ok-Some, In-Err}

pub returns-then-self : goal.returns-then-self
returns-then-self c =
    let u = c.self.inside in
    let o = c.args.out.now in
    subst (λ (p : Progress). Moves c.args.key.now c.args.prefix.now p p c.args.input.now o o c.past_end.result) c.self.view_is
    (over_moves c.args.key.now c.args.prefix.now u.pending u.frames u.ended c.if-self.true c.args.input.now o c.past_end.result c.past_end.ensures.ok c.past_end.ensures.refused)

-- the bytes begun, and those that complete the head
headed-none : (c : In-Ok-None) → Headed c.self.inside.pending c.args.input.now c.fill-front.new.self c.fill-front.result
headed-none c = record { begun = c.self.invariant; count = c.fill-front.ensures.count; is = c.fill-front.ensures.bytes }

headed-err : (c : In-Err) → Headed c.self.inside.pending c.args.input.now c.fill-front.new.self c.fill-front.result
headed-err c = record { begun = c.self.invariant; count = c.fill-front.ensures.count; is = c.fill-front.ensures.bytes }

headed : (c : In-Ok-Some) → Headed c.self.inside.pending c.args.input.now c.fill-front.new.self c.fill-front.result
headed c = record { begun = c.self.invariant; count = c.fill-front.ensures.count; is = c.fill-front.ensures.bytes }

-- what the head says
read-none : (c : In-Ok-None) → Reads c.fill-front.new.self c.in-Ok-None.field-0
read-none c = subst (λ (l : List ℕ). Reads l c.in-Ok-None.field-0) c.bytes.ensures c.in-Ok-None.ensures.ok

read : (c : In-Ok-Some) → ReadsHead c.fill-front.new.self c.in-Ok-Some.head
read c =
    let r = rw c.in-Ok-Some.field-0-is at c.in-Ok-Some.ensures in
    subst (λ (l : List ℕ). ReadsHead l c.in-Ok-Some.head) c.bytes.ensures r.ok

pub invariant_of-self : goal.invariant_of-self
invariant_of-self c =
    let u = c.self.inside in
    let r = rw c.in-Ok-None.field-0-is at (read-none (goal.at.invariant_of-self c).In-Ok-None) in
    short_begun c.args.key.now c.args.prefix.now u.frames u.ended c.if-self.false u.pending c.args.input.now c.fill-front.new.self c.fill-front.result
    (headed-none (goal.at.invariant_of-self c).In-Ok-None) r.0 r.1

pub returns-in-Ok-None : goal.returns-in-Ok-None
returns-in-Ok-None c =
    let u = c.self.inside in
    let o = c.args.out.now in
    let new : Progress = record { begun = c.fill-front.new.self; frames = u.frames; ended = u.ended } in
    let r = rw c.in-Ok-None.field-0-is at (read-none (goal.at.returns-in-Ok-None c).In-Ok-None) in
    let k = short_kept c.args.key.now c.args.prefix.now u.frames u.ended c.if-self.false u.pending c.args.input.now c.fill-front.new.self c.fill-front.result
    (headed-none (goal.at.returns-in-Ok-None c).In-Ok-None) o r.0 r.1 in
    inl (subst (λ (p : Progress). IsKept c.args.key.now c.args.prefix.now p new c.args.input.now o o c.kept.result) c.self.view_is
    (subst (λ (f : Fed). IsKept c.args.key.now c.args.prefix.now (record { begun = u.pending; frames = u.frames; ended = u.ended }) new c.args.input.now o o f) (sym c.kept.ensures) k))

pub returns-in-Err : goal.returns-in-Err
returns-in-Err c =
    let u = c.self.inside in
    let o = c.args.out.now in
    let new : Progress = record { begun = c.truncate.new.self; frames = u.frames; ended = u.ended } in
    let bad : is_malformed c.fill-front.new.self ≡ true = ap is_malformed (sym c.bytes.ensures) ∙ c.in-Err.ensures.malformed in
    let k = malformed_stops c.args.key.now c.args.prefix.now u.frames u.ended c.if-self.false u.pending c.args.input.now c.fill-front.new.self c.fill-front.result
    (headed-err (goal.at.returns-in-Err c).In-Err) c.truncate.new.self o bad (c.truncate.ensures ∙ ap (λ (n : ℕ). take n c.fill-front.new.self) c.len-begun.ensures.len) in
    subst (λ (p : Progress). IsStopped c.args.key.now c.args.prefix.now p new c.args.input.now o o c.in-Err.refusal) c.self.view_is
    (subst (λ (e : StreamError). IsStopped c.args.key.now c.args.prefix.now (record { begun = u.pending; frames = u.frames; ended = u.ended }) new c.args.input.now o o e) (sym c.in-Err.ensures.refused) k)

pub invariant_of-self-then-rest-missing : goal.invariant_of-self-then-rest-missing
invariant_of-self-then-rest-missing c =
    let u = c.self.inside in
    let p = (goal.at.invariant_of-self-then-rest-missing c).In-Ok-Some in
    let short = short_len c.args.key.now c.args.prefix.now u.frames u.ended c.if-self.false u.pending c.args.input.now c.fill-front.new.self c.fill-front.result
    (headed p) c.in-Ok-Some.head (read p) c.fill-more.new.self c.fill-more.result c.fill-more.ensures.count c.fill-more.ensures.bytes (omega (arith, c.if-rest-missing.true, c.len.ensures.len)) in
    part_begun c.args.key.now c.args.prefix.now u.frames u.ended c.if-self.false u.pending c.args.input.now c.fill-front.new.self c.fill-front.result
    (headed p) c.in-Ok-Some.head (read p) c.fill-more.new.self c.fill-more.result c.fill-more.ensures.count c.fill-more.ensures.bytes short

pub returns-then-rest-missing : goal.returns-then-rest-missing
returns-then-rest-missing c =
    let u = c.self.inside in
    let o = c.args.out.now in
    let p = (goal.at.returns-then-rest-missing c).In-Ok-Some in
    let new : Progress = record { begun = c.fill-more.new.self; frames = u.frames; ended = u.ended } in
    let short = short_len c.args.key.now c.args.prefix.now u.frames u.ended c.if-self.false u.pending c.args.input.now c.fill-front.new.self c.fill-front.result
    (headed p) c.in-Ok-Some.head (read p) c.fill-more.new.self c.fill-more.result c.fill-more.ensures.count c.fill-more.ensures.bytes (omega (arith, c.if-rest-missing.true, c.len.ensures.len)) in
    let k = part_kept c.args.key.now c.args.prefix.now u.frames u.ended c.if-self.false u.pending c.args.input.now c.fill-front.new.self c.fill-front.result
    (headed p) c.in-Ok-Some.head (read p) c.fill-more.new.self c.fill-more.result c.fill-more.ensures.count c.fill-more.ensures.bytes o short in
    inl (subst (λ (q : Progress). IsKept c.args.key.now c.args.prefix.now q new c.args.input.now o o c.kept-then-rest-missing.result) c.self.view_is
    (subst (λ (f : Fed). IsKept c.args.key.now c.args.prefix.now (record { begun = u.pending; frames = u.frames; ended = u.ended }) new c.args.input.now o o f) (sym c.kept-then-rest-missing.ensures) k))

pub overflow_sub-missing : goal.overflow_sub-missing
overflow_sub-missing c =
    let u = c.self.inside in
    let p = (goal.at.overflow_sub-missing c).In-Ok-Some in
    omega (
      arith,
      c.len.ensures.len,
      head_less c.args.key.now c.args.prefix.now u.frames u.ended c.if-self.false u.pending c.args.input.now c.fill-front.new.self c.fill-front.result
          (headed p) c.in-Ok-Some.head (read p),
    )

pub open-requires-clause-whole : goal.open-requires-clause-whole
open-requires-clause-whole c =
    let u = c.self.inside in
    let p = (goal.at.open-requires-clause-whole c).In-Ok-Some in
    let d = c.in-Ok-Some.head in
    let x = c.args.input.now in
    let k = c.fill-front.result in
    let f = c.fill-front.new.self in
    let j : ℕ = 21 + d.len - c.len.result in
    let more : List ℕ = take j (take (length x - k) (drop k x)) in
    let len : c.len.result ≡ length f = c.len.ensures.len in
    let is : j ≡ 21 + d.len - length f = ap (λ (n : ℕ). 21 + d.len - n) len in
    let counted : j ≡ min (21 + d.len - length f) (length (take (length x - k) (drop k x))) = omega (arith, is, c.if-rest-missing.false) in
    let all = long_len c.args.key.now c.args.prefix.now u.frames u.ended c.if-self.false u.pending c.args.input.now c.fill-front.new.self c.fill-front.result
    (headed p) d (read p) (f ++ more) j counted refl is in
    whole_parts c.args.key.now c.args.prefix.now u.frames u.ended c.if-self.false u.pending c.args.input.now c.fill-front.new.self c.fill-front.result
    (headed p) d (read p) (f ++ more) j counted refl all

pub invariant_of-self-then-not-open : goal.invariant_of-self-then-not-open
invariant_of-self-then-not-open c =
    let u = c.self.inside in
    let p = (goal.at.invariant_of-self-then-not-open c).In-Ok-Some in
    let d = c.in-Ok-Some.head in
    let x = c.args.input.now in
    let k = c.fill-front.result in
    let f = c.fill-front.new.self in
    let j : ℕ = 21 + d.len - c.len.result in
    let more : List ℕ = take j (take (length x - k) (drop k x)) in
    let len : c.len.result ≡ length f = c.len.ensures.len in
    let is : j ≡ 21 + d.len - length f = ap (λ (n : ℕ). 21 + d.len - n) len in
    let counted : j ≡ min (21 + d.len - length f) (length (take (length x - k) (drop k x))) = omega (arith, is, c.if-rest-missing.false) in
    let all = long_len c.args.key.now c.args.prefix.now u.frames u.ended c.if-self.false u.pending c.args.input.now c.fill-front.new.self c.fill-front.result
    (headed p) d (read p) (f ++ more) j counted refl is in
    let e = c.if-not-open.ensures in
    wrong_begun c.args.key.now c.args.prefix.now u.frames u.ended c.if-self.false u.pending c.args.input.now c.fill-front.new.self c.fill-front.result
    (headed p) d (read p) (f ++ more) j counted refl all
    c.open.new.self c.truncate-then-not-open.new.self
    (omega (arith, e.count, begun_le c.args.key.now c.args.prefix.now u.frames u.ended c.if-self.false u.pending c.args.input.now c.fill-front.new.self c.fill-front.result (headed p)))
    (e.head ∙ head_g c.args.key.now c.args.prefix.now u.frames u.ended c.if-self.false u.pending c.args.input.now c.fill-front.new.self c.fill-front.result (headed p) d (read p) (f ++ more) j counted refl)
    (c.truncate-then-not-open.ensures ∙ ap (λ (n : ℕ). take n c.open.new.self) c.len-begun.ensures.len)

pub returns-then-not-open : goal.returns-then-not-open
returns-then-not-open c =
    let u = c.self.inside in
    let p = (goal.at.returns-then-not-open c).In-Ok-Some in
    let d = c.in-Ok-Some.head in
    let x = c.args.input.now in
    let k = c.fill-front.result in
    let f = c.fill-front.new.self in
    let j : ℕ = 21 + d.len - c.len.result in
    let more : List ℕ = take j (take (length x - k) (drop k x)) in
    let len : c.len.result ≡ length f = c.len.ensures.len in
    let is : j ≡ 21 + d.len - length f = ap (λ (n : ℕ). 21 + d.len - n) len in
    let counted : j ≡ min (21 + d.len - length f) (length (take (length x - k) (drop k x))) = omega (arith, is, c.if-rest-missing.false) in
    let all = long_len c.args.key.now c.args.prefix.now u.frames u.ended c.if-self.false u.pending c.args.input.now c.fill-front.new.self c.fill-front.result
    (headed p) d (read p) (f ++ more) j counted refl is in
    let e = c.if-not-open.ensures in
    let new : Progress = record { begun = c.truncate-then-not-open.new.self; frames = u.frames; ended = u.ended } in
    let stops = wrong_stops c.args.key.now c.args.prefix.now u.frames u.ended c.if-self.false u.pending c.args.input.now c.fill-front.new.self c.fill-front.result
    (headed p) d (read p) (f ++ more) j counted refl all
    c.nonce-nonce.result c.open.new.self c.truncate-then-not-open.new.self c.args.out.now c.open.new.out c.nonce-nonce.ensures e.none
    (omega (arith, e.count, begun_le c.args.key.now c.args.prefix.now u.frames u.ended c.if-self.false u.pending c.args.input.now c.fill-front.new.self c.fill-front.result (headed p)))
    (c.truncate-then-not-open.ensures ∙ ap (λ (n : ℕ). take n c.open.new.self) c.len-begun.ensures.len) e.out in
    subst (λ (q : Progress). IsStopped c.args.key.now c.args.prefix.now q new c.args.input.now c.args.out.now c.open.new.out error.InvalidTag) c.self.view_is stops

pub invariant_of-self-2 : goal.invariant_of-self-2
invariant_of-self-2 c = subst IsBegun (sym c.if-not-open.ensures.emptied) nothing_begun

pub returns : goal.returns
returns c =
    let u = c.self.inside in
    let p = (goal.at.returns c).In-Ok-Some in
    let d = c.in-Ok-Some.head in
    let x = c.args.input.now in
    let k = c.fill-front.result in
    let f = c.fill-front.new.self in
    let j : ℕ = 21 + d.len - c.len.result in
    let more : List ℕ = take j (take (length x - k) (drop k x)) in
    let len : c.len.result ≡ length f = c.len.ensures.len in
    let is : j ≡ 21 + d.len - length f = ap (λ (n : ℕ). 21 + d.len - n) len in
    let counted : j ≡ min (21 + d.len - length f) (length (take (length x - k) (drop k x))) = omega (arith, is, c.if-rest-missing.false) in
    let all = long_len c.args.key.now c.args.prefix.now u.frames u.ended c.if-self.false u.pending c.args.input.now c.fill-front.new.self c.fill-front.result
    (headed p) d (read p) (f ++ more) j counted refl is in
    let e = c.if-not-open.ensures in
    let new : List ℕ → Progress = λ (l : List ℕ). record { begun = l; frames = u.frames + 1; ended = d.last } in
    let fed : Fed = record { taken = k + j; written = d.len; ended = d.last } in
    let opens = right_opens c.args.key.now c.args.prefix.now u.frames u.ended c.if-self.false u.pending c.args.input.now c.fill-front.new.self c.fill-front.result
    (headed p) d (read p) (f ++ more) j counted refl all
    c.nonce-nonce.result c.args.out.now c.open.new.out c.nonce-nonce.ensures e.message (omega (arith, (read p).most, c.requires.room, c.open.auto.out)) e.rest in
    inr (subst (λ (q : Progress). IsOpened c.args.key.now c.args.prefix.now q (new c.open.new.self) c.args.input.now c.args.out.now c.open.new.out fed) c.self.view_is
    (subst (λ (l : List ℕ). IsOpened c.args.key.now c.args.prefix.now (record { begun = u.pending; frames = u.frames; ended = u.ended }) (new l) c.args.input.now c.args.out.now c.open.new.out fed) (sym e.emptied) opens))
