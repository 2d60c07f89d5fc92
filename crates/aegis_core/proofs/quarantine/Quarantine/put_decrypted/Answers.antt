use Rattle.std.proofs.Common.{◌≡◌, ◌+◌, ◌≤◌, ℕ, List, length, take, drop, sym, ap, ◌∙◌, arith, subst}
use Rattle.aegis_core.specs.Written.{Written}
use Rattle.aegis_core.specs.Family.{cipher_text, keyed}
use Rattle.aegis_core.specs.Pieces.{Holds}
use Rattle.aegis_core.proofs.StreamsLemmas.{bytes_after, mid_of, front_len, rest_after_both}
use Rattle.aegis_core.proofs.quarantine.Quarantine.put_decrypted.Goals as goal

pub returns-clause-holds : goal.returns-clause-holds
returns-clause-holds g c = λ f key nonce ad h.
    let n : ℕ = c.self.inside.len in
    let b : List ℕ = c.self.inside.buf.now in
    let k : ℕ = length c.args.piece.now in
    let bytes : c.args.self.now.bytes ≡ take n b = ap (λ (w : Written). w.bytes) (sym c.self.view_is) in
    let all : c.args.self.now.capacity ≡ length b = ap (λ (w : Written). w.capacity) (sym c.self.view_is) in
    let written : c.self.inside.len ≤ length c.self.inside.buf.now = c.self.invariant in
    let front : length c.args.self.now.bytes ≡ c.self.inside.len = front_len _ b n bytes written in
    let room : c.self.inside.len + length c.args.piece.now ≤ length c.self.inside.buf.now = omega (arith, c.requires.room) in
    let ly : length c.copy_from_slice.new.self ≡ length c.args.piece.now = ap length c.copy_from_slice.ensures.after in
    let lz : length c.decrypt.new.piece ≡ length c.args.piece.now = c.decrypt.auto.piece ∙ ap length (mid_of n k b c.copy_from_slice.new.self written (omega arith)) ∙ ly in
    let P : List ℕ → Type 0 = λ v. Holds g.S.LaneState.family g.S.LaneState.lanes f c.decrypt.new.self key nonce ad v in
    subst P (sym (bytes_after b c.copy_from_slice.new.self c.decrypt.new.piece c.args.self.now.bytes n k bytes room ly lz)) (c.decrypt.ensures.holds f key nonce ad c.args.self.now.bytes h)

pub returns-clause-text : goal.returns-clause-text
returns-clause-text g c = λ f key nonce ad h.
    let n : ℕ = c.self.inside.len in
    let b : List ℕ = c.self.inside.buf.now in
    let k : ℕ = length c.args.piece.now in
    let bytes : c.args.self.now.bytes ≡ take n b = ap (λ (w : Written). w.bytes) (sym c.self.view_is) in
    let all : c.args.self.now.capacity ≡ length b = ap (λ (w : Written). w.capacity) (sym c.self.view_is) in
    let written : c.self.inside.len ≤ length c.self.inside.buf.now = c.self.invariant in
    let front : length c.args.self.now.bytes ≡ c.self.inside.len = front_len _ b n bytes written in
    let room : c.self.inside.len + length c.args.piece.now ≤ length c.self.inside.buf.now = omega (arith, c.requires.room) in
    let ly : length c.copy_from_slice.new.self ≡ length c.args.piece.now = ap length c.copy_from_slice.ensures.after in
    let mid = mid_of n k b c.copy_from_slice.new.self written (omega arith) in
    let lz : length c.decrypt.new.piece ≡ length c.args.piece.now = c.decrypt.auto.piece ∙ ap length mid ∙ ly in
    sym (mid ∙ c.copy_from_slice.ensures.after) ∙ c.decrypt.ensures.text f key nonce ad c.args.self.now.bytes h
    ∙ ap (λ (v : List ℕ). drop (length c.args.self.now.bytes) (cipher_text f (keyed f key nonce ad) v))
    (sym (bytes_after b c.copy_from_slice.new.self c.decrypt.new.piece c.args.self.now.bytes n k bytes room ly lz))

pub returns-clause-rest : goal.returns-clause-rest
returns-clause-rest g c =
    let n : ℕ = c.self.inside.len in
    let b : List ℕ = c.self.inside.buf.now in
    let k : ℕ = length c.args.piece.now in
    let bytes : c.args.self.now.bytes ≡ take n b = ap (λ (w : Written). w.bytes) (sym c.self.view_is) in
    let all : c.args.self.now.capacity ≡ length b = ap (λ (w : Written). w.capacity) (sym c.self.view_is) in
    let rest : c.args.self.now.rest ≡ drop n b = ap (λ (w : Written). w.rest) (sym c.self.view_is) in
    let written : n ≤ length b = c.self.invariant in
    let front : length c.args.self.now.bytes ≡ n = front_len _ b n bytes written in
    let room : n + k ≤ length b = omega (arith, c.requires.room) in
    let ly : length c.copy_from_slice.new.self ≡ k = ap length c.copy_from_slice.ensures.after in
    let lz : length c.decrypt.new.piece ≡ k = c.decrypt.auto.piece ∙ ap length (mid_of n k b c.copy_from_slice.new.self written (omega arith)) ∙ ly in
    rest_after_both b c.copy_from_slice.new.self c.decrypt.new.piece _ n k rest room ly lz
