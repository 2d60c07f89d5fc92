use Rattle.std.proofs.Common.{◌≡◌, Bool, true, false, not, take, refl, sym, ◌∙◌, ap}
use Rattle.std.specs.Cmp.Lexicographic.{other_text}
use Rattle.std.proofs.lemmas.Bool.{false≢true}
use Rattle.raf_format.specs.Header.{head_of}
use Rattle.raf_format.proofs.Headers.{candidate_is}
use Rattle.raf_format.proofs.header.parse_header.Goals as goal

was_false : (p : Bool) → true ≡ not p → false ≡ p
was_false true e = absurd (false≢true (sym e))
was_false false e = refl

pub returns-then-ne-clause-refused : goal.returns-then-ne-clause-refused
returns-then-ne-clause-refused c = (
  refl,
  λ h says.
      let b = c.args.bytes.now in
      let k = c.candidate-header.result in
      let of = c.candidate-header.ensures in
      let same : k ≡ h = candidate_is b h k says c.told-bytes of.version of.algorithm of.chunk_size of.size of.id in
      let eq : take 64 b ≡ c.head_bytes-head.result = says.head ∙ ap head_of (sym same) ∙ sym c.head_bytes-head.ensures in
      other_text (take 64 b) c.head_bytes-head.result (was_false _ c.if-ne.ensures) eq,
)
