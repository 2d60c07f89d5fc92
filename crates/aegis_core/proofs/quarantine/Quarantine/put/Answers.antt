use Rattle.std.proofs.Common.{◌≡◌, ◌+◌, ◌≤◌, ℕ, List, length, take, drop, sym, ap, arith}
use Rattle.aegis_core.specs.Written.{Written}
use Rattle.aegis_core.proofs.StreamsLemmas.{front_len, rest_after}
use Rattle.aegis_core.proofs.quarantine.Quarantine.put.Goals as goal

pub returns-clause-rest : goal.returns-clause-rest
returns-clause-rest c =
    let n : ℕ = c.self.inside.len in
    let b : List ℕ = c.self.inside.buf.now in
    let k : ℕ = length c.args.piece.now in
    let bytes : c.args.self.now.bytes ≡ take n b = ap (λ (w : Written). w.bytes) (sym c.self.view_is) in
    let all : c.args.self.now.capacity ≡ length b = ap (λ (w : Written). w.capacity) (sym c.self.view_is) in
    let rest : c.args.self.now.rest ≡ drop n b = ap (λ (w : Written). w.rest) (sym c.self.view_is) in
    let front : length c.args.self.now.bytes ≡ n = front_len _ b n bytes c.self.invariant in
    let room : n + k ≤ length b = omega (arith, c.requires) in
    rest_after b c.copy_from_slice.new.self _ n k rest room (ap length c.copy_from_slice.ensures.after)
