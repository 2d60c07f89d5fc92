use Rattle.std.proofs.Common.{◌≡◌, ◌≤◌, ℕ, ◌+◌, ◌-◌, List, [], ◌++◌, length, take, drop, sym, ap, ◌∙◌, subst, arith, length-append, length-take, length-drop}
use Rattle.std.proofs.lemmas.List.{take-append-le, length-take-le}
use Rattle.std.proofs.Math.Seq.{take-append-add}
use Rattle.std.specs.Io.KnownBytes.{Consumes}
use Rattle.program_io.proofs.StreamLemmas.{consumes_more}
use Rattle.seal_run.proofs.filling.fill.Goals as goal
use borrow.Rule.Slice.PartMut.{put_mid}

-- what was there, and the front of what came behind it
joined : (a n k : ℕ) (buf ys : List ℕ) → a ≤ length buf → n ≤ length ys → take (a + n) (put_mid a k buf ys) ≡ take a buf ++ take n ys
joined a n k buf ys within most =
    let len : length (take a buf) ≡ a = length-take-le a buf within in
    let post : List ℕ = drop k (drop a buf) in
    ap (λ (m : ℕ). take (m + n) (take a buf ++ (ys ++ post))) (sym len)
    ∙ take-append-add (take a buf) (ys ++ post) n
    ∙ ap (λ (l : List ℕ). take a buf ++ l) (take-append-le n ys post most)

wide : (a : ℕ) (buf ys : List ℕ) → a ≤ length buf → length ys ≡ length buf - a → length (put_mid a (length buf - a) buf ys) ≡ length buf
wide a buf ys within same =
    let rest : List ℕ = drop (length buf - a) (drop a buf) in
    omega (arith, length-append (take a buf) (ys ++ rest), length-append ys rest, length-take-le a buf within, length-drop (length buf - a) (drop a buf), length-drop a buf)

pub loop-filled-preserved : goal.loop-filled-preserved
loop-filled-preserved g c =
    let a : ℕ = c.loop-filled.filled in
    let n : ℕ = c.in_ok-count.count in
    let buf : List ℕ = c.loop-filled.buf in
    let ys : List ℕ = c.read.new.buf in
    let within : a ≤ length buf = c.loop-filled.invariant.within in
    let same : length ys ≡ length buf - a = omega (arith, c.read.auto.buf, length-take (length buf - a) (drop a buf), length-drop a buf) in
    let few : n ≤ length ys = omega (arith, c.in_ok-count.ensures.bound) in
    let len : length (put_mid a (length buf - a) buf ys) ≡ length buf = wide a buf ys within same in
    record {
      within = omega (arith, len, few, same, within);
      wide = len ∙ c.loop-filled.invariant.wide;
      bytes = subst (Consumes (g.S.Source.left c.args.source.now) (g.S.Source.left c.read.new.self)) (sym (joined a n (length buf - a) buf ys within few))
          (consumes_more (g.S.Source.left c.args.source.now) (g.S.Source.left c.loop-filled.source) (g.S.Source.left c.read.new.self) (take a buf) (take n ys) c.loop-filled.invariant.bytes c.in_ok-count.ensures.bytes.0);
      faults = c.in_ok-count.ensures.cause.kept ∙ c.loop-filled.invariant.faults;
      tells = c.in_ok-count.ensures.tells ∙ c.loop-filled.invariant.tells;
    }

pub returns-then-count-eq0-clause-most : goal.returns-then-count-eq0-clause-most
returns-then-count-eq0-clause-most g c =
    let a : ℕ = c.loop-filled.filled in
    let n : ℕ = c.in_ok-count.count in
    let buf : List ℕ = c.loop-filled.buf in
    let ys : List ℕ = c.read.new.buf in
    let within : a ≤ length buf = c.loop-filled.invariant.within in
    let same : length ys ≡ length buf - a = omega (arith, c.read.auto.buf, length-take (length buf - a) (drop a buf), length-drop a buf) in
    let few : n ≤ length ys = omega (arith, c.in_ok-count.ensures.bound) in
    let len : length (put_mid a (length buf - a) buf ys) ≡ length buf = wide a buf ys within same in (
      take a buf ++ take n ys,
      omega (arith, len, few, same, within, length-append (take a buf) (take n ys), length-take a buf, length-take n ys),
      consumes_more (g.S.Source.left c.args.source.now) (g.S.Source.left c.loop-filled.source) (g.S.Source.left c.read.new.self) (take a buf) (take n ys) c.loop-filled.invariant.bytes c.in_ok-count.ensures.bytes.0,
    )
