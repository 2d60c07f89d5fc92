-- What an adapter holds (this project's own).
use Rattle.std.specs.Prelude.{ℕ, List}
use Rattle.aegis_aead.specs.declared.adapter.Adapter.{Adapter}

-- the key of an adapter
abbrev pub held_key : {K S : Type 0} {n t : ℕ} → Adapter K S n t → List ℕ
held_key adapter = adapter.key
