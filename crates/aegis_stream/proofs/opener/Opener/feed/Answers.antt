use Rattle.std.proofs.Common.{ℕ, ◌+◌, ◌-◌, ◌≡◌, List, ◌++◌, Some, None, Ok, Err, false, length, take, sym, ap, subst, ◌∙◌, arith, length-take, length-append, take-append-drop}
use Rattle.std.proofs.lemmas.List.{take_all}
use Rattle.std.proofs.lemmas.Slice.{take-put_mid}
use borrow.Rule.Slice.PartMut.{put_mid}
use Rattle.aegis_stream.specs.Opening.{Opening, Took, IsFed, IsRefused}
use Rattle.aegis_stream.specs.Progress.{Moves}
use Rattle.aegis_stream.specs.declared.fed.Fed.{Fed}
use Rattle.aegis_stream.proofs.Openings.{short_feeds, fed_is, refused_is}
use Rattle.aegis_stream.proofs.opener.Opener.feed.Goals as goal

pub returns-then-input-missing-clause-feeds : goal.returns-then-input-missing-clause-feeds
returns-then-input-missing-clause-feeds c =
    let o = c.self.inside in
    let x = c.args.input.now in
    let out = c.args.out.now in
    let u = o.unsealer in
    let old : Opening = record { key = o.key; prefix = take o.prefix_len o.prefix; begun = u.begun; frames = u.frames; ended = u.ended; refused = o.refused } in
    let put : List ℕ = put_mid o.prefix_len (o.prefix_len + length x - o.prefix_len) o.prefix c.copy_from_slice.new.self in
    let copied : c.copy_from_slice.new.self ≡ x = c.copy_from_slice.ensures.after in
    let lens = ap length copied in
    let eight = c.self.told.1 in
    let grown : take (o.prefix_len + length x) put ≡ old.prefix ++ x =
    take-put_mid o.prefix_len (o.prefix_len + length x - o.prefix_len) o.prefix c.copy_from_slice.new.self (o.prefix_len + length x) (omega (arith, lens)) (omega (arith, c.self.invariant, eight))
    ∙ ap (λ (l : List ℕ). old.prefix ++ l) copied in
    let new : Opening = record { key = o.key; prefix = take (o.prefix_len + length x) put; begun = u.begun; frames = u.frames; ended = u.ended; refused = o.refused } in
    let fed : Fed = record { taken = length x; written = 0; ended = false } in
    let is : record { key = o.key; prefix = old.prefix ++ x; begun = u.begun; frames = u.frames; ended = u.ended; refused = None } ≡ new =
    (λ i. record { key = o.key; prefix = sym grown i; begun = u.begun; frames = u.frames; ended = u.ended; refused = sym c.in_default.is i }) in
    subst (λ (a : Opening). (taken : List ℕ) → Took a taken → IsFed a new taken x out out fed) c.self.view_is
    (λ taken t. subst (λ (a : Opening). IsFed old a taken x out out fed) is
    (short_feeds old taken t c.in_default.is x out (omega (arith, c.if-input-missing.true, length-take o.prefix_len o.prefix, c.self.invariant, eight))))

pub returns-in-Ok-clause-feeds : goal.returns-in-Ok-clause-feeds
returns-in-Ok-clause-feeds c =
    let o = c.self.inside in
    let x = c.args.input.now in
    let out = c.args.out.now in
    let n = o.prefix_len in
    let u = o.unsealer in
    let q = c.feed.new.self in
    let fed = c.in-Ok.fed in
    let front = c.split_at.result.0.now in
    let rest = c.split_at.result.1.now in
    let prefix = c.completed-prefix.result in
    let old : Opening = record { key = o.key; prefix = take n o.prefix; begun = u.begun; frames = u.frames; ended = u.ended; refused = o.refused } in
    let cut : front ++ rest ≡ x =
    ap (λ (l : List ℕ). l ++ rest) c.split_at.ensures.front ∙ ap (λ (l : List ℕ). take (8 - n) x ++ l) c.split_at.ensures.back ∙ take-append-drop (8 - n) x in
    let whole : prefix ≡ old.prefix ++ front = c.completed-prefix.ensures in
    let eight : length (old.prefix ++ front) ≡ 8 =
    omega (arith, length-append old.prefix front, length-take n o.prefix, c.split_at.ensures.front_len, c.self.invariant, c.self.told.1) in
    let all : take 8 prefix ≡ old.prefix ++ front =
    take_all 8 prefix (omega (arith, ap length whole, eight)) ∙ whole in
    let new : Opening = record { key = o.key; prefix = take 8 prefix; begun = q.begun; frames = q.frames; ended = q.ended; refused = o.refused } in
    let is : new ≡ record { key = o.key; prefix = old.prefix ++ front; begun = q.begun; frames = q.frames; ended = q.ended; refused = None } =
    (λ i. record { key = o.key; prefix = all i; begun = q.begun; frames = q.frames; ended = q.ended; refused = c.in_default.is i }) in
    let moves : Moves o.key (old.prefix ++ front) u q rest out c.feed.new.out (Ok fed) =
    subst (λ (p : List ℕ). Moves o.key p u q rest out c.feed.new.out (Ok fed)) whole c.in-Ok.ensures in
    subst (λ (a : Opening). (taken : List ℕ) → Took a taken → IsFed a new taken x out c.feed.new.out (record { taken = 8 - n + fed.taken; written = fed.written; ended = fed.ended })) c.self.view_is
    (λ taken t. fed_is old taken t c.in_default.is front rest x cut eight out c.feed.new.out q fed (8 - n) new (sym c.split_at.ensures.front_len) is moves)

pub returns-in-Err-clause-feeds : goal.returns-in-Err-clause-feeds
returns-in-Err-clause-feeds c =
    let o = c.self.inside in
    let x = c.args.input.now in
    let out = c.args.out.now in
    let n = o.prefix_len in
    let u = o.unsealer in
    let q = c.feed.new.self in
    let e = c.in-Err.refusal in
    let front = c.split_at.result.0.now in
    let rest = c.split_at.result.1.now in
    let prefix = c.completed-prefix.result in
    let old : Opening = record { key = o.key; prefix = take n o.prefix; begun = u.begun; frames = u.frames; ended = u.ended; refused = o.refused } in
    let new : Opening = record { key = o.key; prefix = take n o.prefix; begun = q.begun; frames = q.frames; ended = q.ended; refused = Some e } in
    let cut : front ++ rest ≡ x =
    ap (λ (l : List ℕ). l ++ rest) c.split_at.ensures.front ∙ ap (λ (l : List ℕ). take (8 - n) x ++ l) c.split_at.ensures.back ∙ take-append-drop (8 - n) x in
    let whole : prefix ≡ old.prefix ++ front = c.completed-prefix.ensures in
    let eight : length (old.prefix ++ front) ≡ 8 =
    omega (arith, length-append old.prefix front, length-take n o.prefix, c.split_at.ensures.front_len, c.self.invariant, c.self.told.1) in
    let moves : Moves o.key (old.prefix ++ front) u q rest out c.feed.new.out (Err e) =
    subst (λ (p : List ℕ). Moves o.key p u q rest out c.feed.new.out (Err e)) whole c.in-Err.ensures in
    subst (λ (a : Opening). (taken : List ℕ) → Took a taken → IsRefused a new taken x out c.feed.new.out e) c.self.view_is
    (λ taken t. refused_is old taken t c.in_default.is front rest x cut eight out c.feed.new.out q e moves)
