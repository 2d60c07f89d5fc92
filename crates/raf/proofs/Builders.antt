-- What holds over what a builder holds, over its settings.
use Rattle.std.proofs.Common.{◌≡◌, ℕ, Option, sym, subst}
use Rattle.raf.specs.Outside.{Outside}
use Rattle.raf.specs.Opening.{Settings}

pub built : {X : Type 0} (P : Outside → Option ℕ → X → Type 0) (s t : Settings) (m : Option ℕ) (x y : X) → s ≡ t → m ≡ s.most → y ≡ x → P s.outside m x → P t.outside t.most y
built P s t m x y same most is holds =
    subst (λ (s : Settings). P s.outside s.most y) same (subst (λ (n : Option ℕ). P s.outside n y) most (subst (P s.outside m) (sym is) holds))

pub built_whole : {X : Type 0} (P : Settings → X → Type 0) (s t : Settings) (x y : X) → s ≡ t → y ≡ x → P s x → P t y
built_whole P s t x y same is holds = subst (λ (s : Settings). P s y) same (subst (P s) (sym is) holds)
