-- Two files that are compared, step by step.
use Rattle.std.proofs.Common.{◌≡◌, inl, inr, ℕ, ◌+◌, ◌≤◌, List, None, ◌<◌, Result, Ok, Err, refl, sym, ◌∙◌, ap, subst, arith}
use Rattle.std.specs.Result.{OnOk, IfErr}
use Rattle.raf_io.specs.Kinds.{kind_of}
use Rattle.raf_tree.specs.Hashing.{Hashing}
use Rattle.raf_tree.specs.Calls.{Content}
use Rattle.raf_format.specs.Cipher.{Cipher}
use Rattle.raf_format.specs.File.{File, IsFile, chunk_count, chunk_at, file_of}
use Rattle.raf_format.specs.declared.header.Header.{Header}
use Rattle.raf.specs.Outside.{Outside, Quiet}
use Rattle.raf.specs.Handle.{Handle}
use Rattle.raf.specs.Clash.{HasContent, Looked, OneFailed, long}
use Rattle.raf.specs.Clashing.{Halts, Steps, Unreadable}
use Rattle.raf_io.specs.declared.errors.Error.{Error}
use Rattle.raf_io.specs.declared.errors.ErrorKind.{ErrorKind}
use Rattle.raf_io.specs.declared.errors.ErrorKind.TheVariants.{Io, InvalidArgument, AuthenticationFailed, AlreadyExists, NotFound, Overflow, MerkleNotEnabled, CorruptedChunk, Rng, Hash, Broken, OutOfMemory}
use Rattle.raf.proofs.Moves.{moved_same, moved_any, moved_less, moved_then, quiet_then, kept_same, kept_then, caused_later}

-- one file, looked at again and again
pub same_long : (C : Cipher) (a b : Handle) → b.header ≡ a.header → long C b ≡ long C a
same_long C a b same = ap (λ (h : Header). Rattle.raf_format.specs.File.layout_len (Rattle.raf_format.specs.File.shape_of C h) h.file_size) same

pub looked_same : (C : Cipher) (traffic calls : ℕ) (a : Handle) → Looked C traffic calls a a
looked_same C traffic calls a = record {
  key = refl;
  header = refl;
  tree = refl;
  broken = refl;
  kept = kept_same a.outside a.outside refl;
  moved = moved_any a.outside a.outside _ _ _ _ _ (moved_same a.outside a.outside refl);
  strays = λ b tells far. refl;
}

pub looked_less : (C : Cipher) (t c t' c' : ℕ) (a b : Handle) → t ≤ t' → c ≤ c' → Looked C t c a b → Looked C t' c' a b
looked_less C t c t' c' a b more_t more_c x = record {
  key = x.key;
  header = x.header;
  tree = x.tree;
  broken = x.broken;
  kept = x.kept;
  moved = moved_less a.outside b.outside _ _ _ _ _ (long C a) t' 0 0 c' x.moved (omega arith) more_t (omega arith) (omega arith) more_c;
  strays = x.strays;
}

pub looked_then : (C : Cipher) (t c t' c' : ℕ) (a b d : Handle) → Looked C t c a b → Looked C t' c' b d → Looked C (t + t') (c + c') a d
looked_then C t c t' c' a b d x y = record {
  key = y.key ∙ x.key;
  header = y.header ∙ x.header;
  tree = y.tree ∙ x.tree;
  broken = y.broken ∙ x.broken;
  kept = kept_then a.outside b.outside d.outside x.kept y.kept;
  moved = moved_less a.outside d.outside _ _ _ _ _ (long C a) (t + t') 0 0 (c + c') (moved_then a.outside b.outside d.outside _ _ _ _ _ _ _ _ _ _ x.moved y.moved)
      (omega (arith, same_long C a b x.header)) (omega arith) (omega arith) (omega arith) (omega arith);
  strays = λ bytes tells far. y.strays bytes (x.kept.bytes ∙ tells) (omega (arith, far, same_long C a b x.header)) ∙ x.strays bytes tells far;
}

-- what a file has it has afterwards
pub content_stays : (C : Cipher) (E : List ℕ → Hashing) (setting : List ℕ) (t c : ℕ) (a b : Handle) (x : Content) → Looked C t c a b → HasContent C E setting a x → HasContent C E setting b x
content_stays C E setting t c a b x looked has = record {
  file = has.file;
  tree = has.tree;
  holds = record {
    bytes = has.holds.bytes;
    tells = looked.kept.bytes ∙ has.holds.tells;
    is_file = subst (λ (h : Header). IsFile C b.key has.holds.bytes h) (sym looked.header) (subst (λ (k : List ℕ). IsFile C k has.holds.bytes a.header) (sym looked.key) has.holds.is_file);
    file = has.holds.file ∙ ap (λ (k : List ℕ). file_of C k a.header has.holds.bytes) (sym looked.key) ∙ ap (λ (h : Header). file_of C b.key h has.holds.bytes) (sym looked.header);
  };
  hashed = looked.moved.setting ∙ has.hashed;
  kept = looked.tree ∙ has.kept;
  grown = has.grown;
  is = has.is;
}

-- a step after steps without a fault
unreadable_before : (C : Cipher) (t c : ℕ) (a b : Handle) → Looked C t c a b → Unreadable C b → Unreadable C a
unreadable_before C t c a b looked is = λ bytes tells.
    let found = is bytes (looked.kept.bytes ∙ tells) in
    let P : List ℕ → Header → Type 0 = λ k h. (i : ℕ) × (i < chunk_count h.chunk_size h.file_size) × (chunk_at C (C.chunk_key k h.id) h bytes i ≡ None) in
    subst (λ (h : Header). P a.key h) looked.header (subst (λ (k : List ℕ). P k b.header) looked.key found)

failed_later : (kind : ErrorKind) (a b p q c d : Outside) → Quiet a p → Quiet b q → OneFailed kind p q c d → OneFailed kind a b c d
failed_later kind a b p q c d calm_a calm_b (inl f) = inl (caused_later kind a p c calm_a f.0, quiet_then b q d calm_b f.1)
failed_later kind a b p q c d calm_a calm_b (inr f) = inr (quiet_then a p c calm_a f.0, caused_later kind b q d calm_b f.1)

module _ (C D : Cipher) (t c t' c' : ℕ) (a b p q : Handle) (first : Looked C t c a p) (second : Looked D t' c' b q)
    (calm : Quiet a.outside p.outside × Quiet b.outside q.outside) where
  halts_later : (x y : Handle) (kind : ErrorKind) → Halts C D p q x y kind → Halts C D a b x y kind
  halts_later x y Io f = failed_later Io a.outside b.outside p.outside q.outside x.outside y.outside calm.0 calm.1 f
  halts_later x y Hash f = failed_later Hash a.outside b.outside p.outside q.outside x.outside y.outside calm.0 calm.1 f
  halts_later x y AuthenticationFailed f = (
    elim f.0 [ inl u ↦ inl (unreadable_before C t c a p first u) | inr u ↦ inr (unreadable_before D t' c' b q second u) ],
    quiet_then a.outside p.outside x.outside calm.0 f.1,
    quiet_then b.outside q.outside y.outside calm.1 f.2,
  )
  halts_later x y Rng f = absurd f
  halts_later x y (InvalidArgument r) f = absurd f
  halts_later x y AlreadyExists f = absurd f
  halts_later x y NotFound f = absurd f
  halts_later x y Overflow f = absurd f
  halts_later x y MerkleNotEnabled f = absurd f
  halts_later x y (CorruptedChunk i) f = absurd f
  halts_later x y Broken f = absurd f
  halts_later x y OutOfMemory f = absurd f

  pub steps_later : {T : Type 0} (u v u' v' : ℕ) (x y : Handle) (result : Result T Error) → Steps C D u v u' v' p q x y result
      → Steps C D (t + u) (c + v) (t' + u') (c' + v') a b x y result
  steps_later {T = S} u v u' v' x y result s = record {
    first = looked_then C t c u v a p x first s.first;
    second = looked_then D t' c' u' v' b q y second s.second;
    quiet = calm_then result s.quiet;
    halted = halted_then result s.halted;
  }
    where
      calm_then : (result : Result S Error) → OnOk result (Quiet p.outside x.outside × Quiet q.outside y.outside) → OnOk result (Quiet a.outside x.outside × Quiet b.outside y.outside)
      calm_then (Ok r) z = (quiet_then a.outside p.outside x.outside calm.0 z.0, quiet_then b.outside q.outside y.outside calm.1 z.1)
      calm_then (Err e) z = tt

      halted_then : (result : Result S Error) → IfErr result (λ e. Halts C D p q x y (kind_of e)) → IfErr result (λ e. Halts C D a b x y (kind_of e))
      halted_then (Ok r) z = tt
      halted_then (Err e) z = halts_later x y (kind_of e) z

pub steps_less : {T : Type 0} (C D : Cipher) (t c t' c' u v u' v' : ℕ) (a b x y : Handle) (result : Result T Error) → t ≤ u → c ≤ v → t' ≤ u' → c' ≤ v'
    → Steps C D t c t' c' a b x y result → Steps C D u v u' v' a b x y result
steps_less C D t c t' c' u v u' v' a b x y result h i h' i' s = record {
  first = looked_less C t c u v a x h i s.first;
  second = looked_less D t' c' u' v' b y h' i' s.second;
  quiet = s.quiet;
  halted = s.halted;
}
