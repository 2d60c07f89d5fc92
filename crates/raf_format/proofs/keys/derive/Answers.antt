use Rattle.std.proofs.Common.{◌≡◌, inl, inr, ◌++◌, length, ◌∙◌}
use Rattle.raf_format.proofs.DerivedKeys.{short_kdf, long_kdf}
use Rattle.raf_format.proofs.keys.derive.Goals as goal

pub returns-then-key-eq16 : goal.returns-then-key-eq16
returns-then-key-eq16 c = λ v is.
    c.copy_from_slice.ensures.after ∙ c.short_mac.ensures ∙ short_kdf v c.args.key.now (c.args.prefix.now ++ c.args.text.now) (is ∙ c.if-key-eq16.true)

pub returns-else-key-eq16 : goal.returns-else-key-eq16
returns-else-key-eq16 c = λ v is.
    let long : length c.args.key.now ≡ 32 = elim c.requires.key [ inl short ↦ absurd (c.if-key-eq16.false short) | inr long ↦ long ] in
    c.copy_from_slice-else-key-eq16.ensures.after ∙ c.long_mac.ensures ∙ long_kdf v c.args.key.now (c.args.prefix.now ++ c.args.text.now) (is ∙ long)
