use Rattle.std.proofs.Common.{◌≡◌, ℕ, ◌*◌, ◌/◌, ◌∙◌, Bool, true, false, cond, refl, sym, ap, arith}
use Rattle.std.specs.Prelude.{nat_lt}
use Rattle.std.proofs.lemmas.Bool.Decides.{nat_tests}
use Rattle.raf_format.specs.Cipher.{cipher_of}
use Rattle.raf_format.specs.File.{shape_of}
use Rattle.raf.specs.Change.{truncate_change}
use Rattle.raf.proofs.planning.plan_truncate.Goals.{then-size-before, else-size-before}
use Rattle.raf.proofs.planning.plan_truncate.Goals as goal

pub returns-clause-found : goal.returns-clause-found
returns-clause-found g c =
    let h = c.args.header.now in
    let branches : Bool → ℕ = λ t. cond {A = ℕ} t (c.args.size / h.chunk_size * h.chunk_size) h.file_size in
    let from : branches (nat_lt c.args.size h.file_size) ≡ c.if-size-before.from = elim c.if-size-before.branch [
      | then-size-before w ↦
          let t : nat_lt c.args.size h.file_size ≡ true = grind (arith, nat_tests) in
          ap branches t ∙ sym (w.from-is ∙ ap (λ (n : ℕ). c.args.size / n * n) c.from-chunk_size.ensures)
      | else-size-before w ↦
          let t : nat_lt c.args.size h.file_size ≡ false = grind (arith, nat_tests) in
          ap branches t ∙ sym w.from-is
    ] in
    c.plan_by.ensures (shape_of (cipher_of g.A.Algorithm.variant) h) (truncate_change h.chunk_size h.file_size c.args.size) refl refl from refl refl c.in_ok-layout.ensures.found
