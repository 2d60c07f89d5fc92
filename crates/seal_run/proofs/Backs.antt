-- What opening gives back of the stream of a source's bytes.
use Rattle.std.proofs.Common.{◌≡◌, inl, inr, ℕ, ◌≤◌, ◌<◌, List, ◌++◌, length, take, drop, Option, Some, refl, sym, ap, ◌∙◌, subst, arith, length-append, length-take}
use Rattle.std.specs.Prelude.{IfSome}
use Rattle.std.specs.List.{concat}
use Rattle.std.proofs.lemmas.List.{take_at, drop_at, take_all, take-take, take-append-drop}
use Rattle.std.proofs.lemmas.List.Folds.{concat-append}
use Rattle.std.specs.Io.KnownBytes.{Appends}
use Rattle.program_io.specs.Streams.{Intake, Output, AppendsPrefix}
use Rattle.aegis_stream.specs.Spell.{spell}
use Rattle.aegis_stream.specs.Unspell.{State, unspell}
use Rattle.aegis_stream.specs.Unspell.State.{Ended, More}
use Rattle.aegis_stream.specs.Laws.{GivesFront, IsStream}
use Rattle.seal_run.specs.Ends.{most_bytes}
use Rattle.seal_run.specs.Pieces.{pieces}
use Rattle.seal_run.specs.Sealing.{Seals, stream_of}
use Rattle.seal_run.specs.Unsealing.{Unseals, UnsealsUpTo, IsNoStream, MayBeStream, released, state_of}
use Rattle.seal_run.specs.Laws.{GivesBack, SealThenUnseal}
use Rattle.seal_run.specs.declared.ends.StreamEnd.{StreamEnd}
use Rattle.seal_run.specs.declared.ends.StreamEnd.TheVariants.{Whole, ReadFault, WriteFault, OutOfMemory, NotAStream, TooLong}
use Rattle.seal_run.proofs.Cuts.{pieces_some, pieces_all, are_pieces}

-- what holds of what is told
of_told : (P : List ℕ → Type 0) (told : Option (List ℕ)) (b : List ℕ) → told ≡ Some b → IfSome told P → P b
of_told P told b tells h = subst (λ (o : Option (List ℕ)). IfSome o P) tells h

module _ (laws : IsStream) (key prefix bytes : List ℕ) (long : length prefix ≡ 8) where
  abbrev S : List ℕ
  S = stream_of key prefix bytes

  fronts : (n : ℕ) → GivesFront key prefix (pieces bytes) (take n S)
  fronts n = laws.fronts key prefix (pieces bytes) n long (pieces_some bytes) (are_pieces bytes)

  -- what is released of the stream is a front of the bytes
  front : (m : ℕ) × (m ≤ length bytes) × (released key S ≡ take m bytes)
  front =
      let ms = (unspell key (take most_bytes S)).messages in
      let k = length ms in
      let first = concat (take k (pieces bytes)) in
      let rest = concat (drop k (pieces bytes)) in
      let all : bytes ≡ first ++ rest =
      sym (pieces_all bytes) ∙ ap concat (sym (take-append-drop k (pieces bytes))) ∙ concat-append (take k (pieces bytes)) (drop k (pieces bytes)) in
      let is : concat ms ≡ first = ap concat (sym (fronts most_bytes).front) in (
        length first,
        omega (arith, ap length all, length-append first rest),
        is ∙ sym (take_at first rest (length first) refl) ∙ ap (λ (l : List ℕ). take (length first) l) (sym all),
      )

  front_written : (old new : Option (List ℕ)) → AppendsPrefix old new (released key S) → AppendsPrefix old new bytes
  front_written old new (n, le, put) =
      let f = front in
      let cut : AppendsPrefix old new (take f.0 bytes) = subst (λ (l : List ℕ). AppendsPrefix old new l) f.2 (n, le, put) in (
        cut.0,
        omega (arith, cut.1, length-take f.0 bytes),
        subst (λ (l : List ℕ). Appends old new l) (take-take cut.0 f.0 bytes (omega (arith, cut.1, length-take f.0 bytes))) cut.2,
      )

  all_written : (old new : Option (List ℕ)) → Appends old new (released key S) → AppendsPrefix old new bytes
  all_written old new put = let f = front in (f.0, f.1, subst (λ (l : List ℕ). Appends old new l) f.2 put)

  ended : length S ≤ most_bytes → state_of key S ≡ Ended
  ended le = (fronts most_bytes).ended.1 (take_all most_bytes S le)

  all_back : length S ≤ most_bytes → released key S ≡ bytes
  all_back le = ap concat ((fronts most_bytes).all.0 (ended le)) ∙ pieces_all bytes

  -- the stream is one
  is_one : IsNoStream (state_of key S) S → ⊥
  is_one none = elim (fronts most_bytes).state [
    | inl done ↦ subst (λ (s : State). IsNoStream s S) done none
    | inr more ↦ apart (sym more ∙ ended (subst (λ (s : State). IsNoStream s S) more none))
  ]
    where
      apart : More ≡ Ended → ⊥
      apart same = cc

  gives : (second : Intake) (opened : Output) → second.left ≡ Some S → (end : StreamEnd) → UnsealsUpTo key second opened end → GivesBack bytes S opened end
  gives second opened tells Whole w =
      let fits = of_told (λ b. (length b ≤ most_bytes) × (state_of key b ≡ Ended)) second.left S tells w.1 in
      subst (λ (l : List ℕ). Appends opened.written opened.after l) (all_back fits.0) (of_told (λ b. Appends opened.written opened.after (released key b)) second.left S tells w.2)
  gives second opened tells ReadFault w = front_written opened.written opened.after (of_told (λ b. AppendsPrefix opened.written opened.after (released key b)) second.left S tells w)
  gives second opened tells WriteFault w = front_written opened.written opened.after (of_told (λ b. AppendsPrefix opened.written opened.after (released key b)) second.left S tells w)
  gives second opened tells OutOfMemory w = tt
  gives second opened tells NotAStream w = is_one (of_told (λ b. IsNoStream (state_of key b) b) second.left S tells w.0)
  gives second opened tells TooLong w = (
    (of_told (λ b. (most_bytes < length b) × MayBeStream (state_of key b)) second.left S tells w.0).0,
    all_written opened.written opened.after (of_told (λ b. Appends opened.written opened.after (released key b)) second.left S tells w.1),
  )

same_stream : (before stream other : List ℕ) → before ++ stream ≡ before ++ other → stream ≡ other
same_stream before stream other same =
    sym (drop_at before stream (length before) refl) ∙ ap (λ (l : List ℕ). drop (length before) l) same ∙ drop_at before other (length before) refl

pub seal_then_unseal : IsStream → SealThenUnseal
seal_then_unseal laws = record {
  back = λ key prefix bytes before stream source sink second opened end long told was is seals tells unseals.
      let S = stream_of key prefix bytes in
      let put = of_told (λ b. (length b ≤ most_bytes) × Appends sink.written sink.after (stream_of key prefix b)) source.left bytes told seals.writes.1 in
      let ends : Appends (Some before) (Some (before ++ stream)) S =
      subst (λ (o : Option (List ℕ)). Appends o (Some (before ++ stream)) S) was (subst (λ (o : Option (List ℕ)). Appends sink.written o S) is put.1) in
      let same : S ≡ stream = sym (same_stream before stream S ends) in
      subst (λ (l : List ℕ). GivesBack bytes l opened end) same
      (gives laws key prefix bytes long second opened (tells ∙ ap (λ (l : List ℕ). Some l) (sym same)) end unseals.writes);
}
