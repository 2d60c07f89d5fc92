-- A variant's sealing is its family's.
use Rattle.std.proofs.Common.{◌≡◌, length, refl, Bool, true, false, ℕ, List, sym, ap, ◌∙◌}
use Rattle.std.specs.Bool.{OnTrue, OnFalse}
use Rattle.aes_spec.specs.Bytes.{xor_bytes}
use Rattle.aegis_core.specs.Lanes.{State}
use Rattle.aegis_core.specs.Family.{Family, sealed_by, stream_by}
use Rattle.aegis_core.specs.Sealing.{family_of, seal, stream}
use Rattle.aegis_core.specs.declared.variant.Variant.{Variant}

-- a state that is the initial one of its family
pub started : (f d : Family) (s : State) (key nonce : List ℕ) → d ≡ f → s ≡ f.initial key nonce → s ≡ d.initial key nonce
started f d s key nonce e h = h ∙ ap (λ (v : Family). v.initial key nonce) (sym e)

pub seal_as : (v w : Variant) (f : Family) (t : ℕ) (key nonce ad m : List ℕ) (p : List ℕ × List ℕ) → v ≡ w → f ≡ family_of w
    → sealed_by f t key nonce ad m ≡ p → seal v t key nonce ad m ≡ p
unfolding seal
seal_as v w f t key nonce ad m p ev ef e =
    ap (λ (x : Variant). seal x t key nonce ad m) ev ∙ ap (λ (x : Family). sealed_by x t key nonce ad m) (sym ef) ∙ e

-- what no message seals to under the family, none seals to under the variant
pub seal_none : (v w : Variant) (f : Family) (t : ℕ) (key nonce ad m : List ℕ) (p : List ℕ × List ℕ) → v ≡ w → f ≡ family_of w
    → ((sealed_by f t key nonce ad m ≡ p) → ⊥) → (seal v t key nonce ad m ≡ p) → ⊥
unfolding seal
seal_none v w f t key nonce ad m p ev ef without e =
    without (ap (λ (x : Family). sealed_by x t key nonce ad m) ef ∙ ap (λ (x : Variant). seal x t key nonce ad m) (sym ev) ∙ e)

pub on_true : (b : Bool) (P Q : Type 0) → (P → Q) → OnTrue b P → OnTrue b Q
on_true true P Q f p = f p
on_true false P Q f p = p

pub on_false : (b : Bool) (P Q : Type 0) → (P → Q) → OnFalse b P → OnFalse b Q
on_false true P Q f p = p
on_false false P Q f p = f p

pub stream_as : (v w : Variant) (f : Family) (key nonce : List ℕ) (n : ℕ) (out : List ℕ) → v ≡ w → f ≡ family_of w → out ≡ stream_by f key nonce n → out ≡ stream v key nonce n
unfolding seal stream
stream_as v w f key nonce n out ev ef e =
    e ∙ ap (λ (x : Family). stream_by x key nonce n) ef ∙ ap (λ (x : Variant). stream x key nonce n) (sym ev)

pub xor_stream_as : (v w : Variant) (f : Family) (key nonce old out : List ℕ) → v ≡ w → f ≡ family_of w → out ≡ xor_bytes old (stream_by f key nonce (length old))
    → out ≡ xor_bytes old (stream v key nonce (length old))
xor_stream_as v w f key nonce old out ev ef e =
    e ∙ ap (λ (k : List ℕ). xor_bytes old k) (stream_as v w f key nonce (length old) (stream_by f key nonce (length old)) ev ef refl)
