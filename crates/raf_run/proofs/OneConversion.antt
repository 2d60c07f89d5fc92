-- What is written of a conversion is one function of its content.
use Rattle.std.proofs.Common.{◌≡◌, ℕ, ◌<◌, ◌≤◌, Bool, true, false, List, [], ◌++◌, length, Option, Some, None, refl, sym, ap, ◌∙◌, arith, subst, inl, inr}
use Rattle.std.specs.Prelude.{◌⊎◌, ◌≢◌, ◌-◌, ◌+◌, min, slice_index, codes}
use Rattle.std.specs.List.{concat}
use Rattle.raf_format.specs.Numbers.{variant_of}
use Rattle.raf_format.specs.File.{File, Opens}
use Rattle.raf_format.proofs.Ciphers.{lawful}
use Rattle.raf_format.proofs.Opened.{opens_one}
use Rattle.raf_io.specs.Source.{IsShort}
use Rattle.raf_io.specs.declared.errors.ErrorKind.{ErrorKind}
use Rattle.raf_io.specs.declared.errors.ErrorKind.TheVariants.{Io, InvalidArgument, AuthenticationFailed, Overflow, Rng, OutOfMemory}
use Rattle.raf_io.specs.declared.errors.Reason.TheVariants.{ChunkSize}
use Rattle.raf.specs.Apply.{file_after}
use Rattle.raf.specs.Converted.{writes}
use Rattle.raf.specs.Handle.{outline}
use Rattle.raf.specs.Opening.{IsChunkSize}
use Rattle.raf.specs.Read.{IsByteOf}
use Rattle.raf.specs.declared.command.Command.TheVariants as command
use Rattle.raf.proofs.Starvings.{starved_one}
use Rattle.raf_script.specs.declared.conversion.Conversion.{Conversion}
use Rattle.raf_run.specs.Disk.{memory_of, over}
use Rattle.raf_run.specs.Answers.{memory_status}
use Rattle.raf_run.specs.Conversions.{EndsConverted, EndsUnmade, RefusedBy, piece_len, old_ground, new_ground}
use Rattle.raf_run.specs.ConversionLaws.{is_want, header_of, refusal, Unopened, Verdict, Follows, OneConversion}
use Rattle.raf_run.specs.Text.{outcome_text, end_text, line, word, hex_word}
use Rattle.raf_run.specs.declared.answer.End.{End}
use Rattle.raf_run.proofs.OneText.{some_same}
use Rattle.raf_run.proofs.Openings.{no_cause, why_unmade}
use Rattle.raf_run.proofs.SamePieces.{pieces_one, dried_one, piece_of}
use Rattle.raf_run.proofs.Verdicts.{Kept, Dries, StarvedBy, Leaves, stored, left_behind, moved_leaves, made_of, converts, one_verdict}
use Rattle.raf_run.proofs.Refusals.{want_status, refused_told, why_unopened}

-- ---- what a conversion leaves, by how far it came

-- no new file can be made
abbrev NotMade : Conversion → Type 0
NotMade c = (IsChunkSize c.chunk_size → ⊥) ⊎ (length c.random < 32)

-- one was made
abbrev IsMade : Conversion → Type 0
IsMade c = IsChunkSize c.chunk_size × (32 ≤ length c.random)

-- the old file isn't opened, for a cause
abbrev Shut : Conversion → Type 0
Shut c = (kind : ErrorKind) × Unopened c kind

-- it is, and no new one was made; or one was, which holds this
abbrev LeftBy : Conversion → File → List ℕ → Type 0
LeftBy c F storage = (NotMade c × (storage ≡ [])) ⊎ (IsMade c × Leaves c F storage)

abbrev LeftOf : Conversion → List ℕ → Type 0
LeftOf c storage = (Shut c × (storage ≡ [])) ⊎ ((F : File) × Opens (old_ground c).cipher c.old_key c.storage F × LeftBy c F storage)

-- a refusal that isn't want of memory
no_want : (end : End) (kind : ErrorKind) → RefusedBy kind end → memory_status end.outcome ≢ 7 → is_want kind ≡ false
no_want end kind by other = go (is_want kind) refl
  where
    go : (t : Bool) → is_want kind ≡ t → is_want kind ≡ false
    go false is = is
    go true is = absurd (other (refused_told end kind by ∙ want_status kind is))

not_made : (c : Conversion) (end : End) → EndsUnmade c end → memory_status end.outcome ≢ 7 → NotMade c × (end.storage ≡ [])
not_made c end (kind, (b, maker, (after, refused, bytes)), by) other = (
  go (why_unmade (new_ground c).answers b (over (memory_of []) b.outside) kind maker.builder.truncate maker.builder.setting maker.builder.most maker.builder.exact refused.why cause),
  some_same (sym bytes ∙ (refused.kept (λ io. no_io io.0)).0),
)
  where
    cause : is_want kind ≡ false
    cause = no_want end kind by other

    no_io : kind ≡ Io → ⊥
    no_io is = let odd : true ≡ false = sym (ap is_want is) ∙ cause in (cc)

    go : ((kind ≡ InvalidArgument ChunkSize) × (IsChunkSize b.chunk_size → ⊥)) ⊎ ((kind ≡ Rng) × IsChunkSize b.chunk_size × IsShort b.outside.left 32) → NotMade c
    go (inl p) = inl (λ is. p.1 (subst IsChunkSize (sym maker.chunk_size) is))
    go (inr p) = inr (subst (λ (l : Option (List ℕ)). IsShort l 32) maker.builder.left p.2)

left_of : (c : Conversion) (end : End) → EndsConverted c end → memory_status end.outcome ≢ 7 → LeftOf c end.storage
left_of c end (inl (kind, refused, by, empty)) other = inl ((kind, (no_want end kind by other, why_unopened c kind refused)), empty)
left_of c end (inr (inl (by, empty))) other = absurd (other (refused_told end OutOfMemory by))
left_of c end (inr (inr (from, (b, is, opened), inl unmade))) other =
    inr ((opened.holds c.storage refl).0, (opened.holds c.storage refl).1, inl (not_made c end unmade other))
left_of c end (inr (inr (from, (b, is, opened), inr (to, (maker, made_by, made), moved)))) other =
    let of = made_of c from to b is opened maker made_by made in
    inr ((opened.holds c.storage refl).0, (opened.holds c.storage refl).1, inr (of, moved_leaves c from to b is opened maker made_by made end moved other))

not_both : (c : Conversion) → NotMade c → IsMade c → ⊥
not_both c (inl never) made = never made.0
not_both c (inr few) made = omega (arith, few, made.1)

-- pieces that were dried up leave what no other end leaves
not_dried : (c : Conversion) (F : File) (s : List ℕ) → refusal c F ≡ Some Rng → Kept c F s → ⊥
not_dried c F s dried (inl (is, over, e)) = let odd : Some Rng ≡ Some Overflow = sym dried ∙ over in (cc)
not_dried c F s dried (inr (is, inl none, short, rest)) = let odd : Some Rng ≡ None = sym dried ∙ none in (cc)
not_dried c F s dried (inr (is, inr missing, short, rest)) = let odd : Some Rng ≡ Some AuthenticationFailed = sym dried ∙ missing in (cc)

dries_one : (c : Conversion) (F : File) (s t : List ℕ) → Dries c F s → Dries c F t → s ≡ t
dries_one c F s t p q =
    let pieces : p.pieces ≡ q.pieces =
    dried_one F p.short (new_ground c).cipher.nonce_len c.chunk_size 0 (length c.random - 32) p.pieces q.pieces p.are q.are p.read q.read p.wants q.wants in
    let piece : p.piece ≡ q.piece = next_one c F p q pieces in
    starved_one (new_ground c).cipher (lawful (variant_of c.algorithm)) c.key (file_after None (outline (new_ground c).cipher (header_of c)) (writes 0 q.pieces))
    (command.Write (length (concat q.pieces)) q.piece) (stored c q.pieces) (left_behind c q.pieces) s t
    (subst (λ (piece : List ℕ). StarvedBy c s q.pieces piece) piece (subst (λ (pieces : List (List ℕ)). StarvedBy c s pieces p.piece) pieces p.starved)) q.starved
  where
    next_one : (c : Conversion) (F : File) {s t : List ℕ} (p : Dries c F s) (q : Dries c F t) → p.pieces ≡ q.pieces → p.piece ≡ q.piece
    next_one c F p q pieces =
        let at : length (concat p.pieces) ≡ length (concat q.pieces) = ap (λ (l : List (List ℕ)). length (concat l)) pieces in
        piece_of F p.short (length (concat p.pieces)) p.piece q.piece (p.len ∙ ap (λ (n : ℕ). min piece_len (F.size - n)) at ∙ sym q.len) p.byte
        (λ k lt. subst (λ (n : ℕ). IsByteOf F.shape.chunk_size F.chunks (n + k) (slice_index q.piece k)) (sym at) (q.byte k lt))

kept_one : (c : Conversion) (F : File) (s t : List ℕ) → Kept c F s → Kept c F t → s ≡ t
kept_one c F s t (inl (is, why, e)) (inl (is', why', e')) = e ∙ sym e'
kept_one c F s t (inl (is, why, e)) (inr (is', why', short, more)) = let odd : false ≡ true = sym is ∙ is' in (cc)
kept_one c F s t (inr (is, why, short, more)) (inl (is', why', e')) = let odd : true ≡ false = sym is ∙ is' in (cc)
kept_one c F s t (inr (is, why, short, (ps, are, read, stop, e))) (inr (is', why', short', (qs, are', read', stop', e'))) =
    e ∙ ap (stored c) (pieces_one F short 0 ps qs are are' read read' stop stop') ∙ sym e'

leaves_one : (c : Conversion) (F : File) (s t : List ℕ) → Leaves c F s → Leaves c F t → s ≡ t
leaves_one c F s t (inl p) (inl q) = dries_one c F s t p q
leaves_one c F s t (inl p) (inr q) = absurd (not_dried c F t p.refused q)
leaves_one c F s t (inr p) (inl q) = absurd (not_dried c F s q.refused p)
leaves_one c F s t (inr p) (inr q) = kept_one c F s t p q

left_by_one : (c : Conversion) (F : File) (s t : List ℕ) → LeftBy c F s → LeftBy c F t → s ≡ t
left_by_one c F s t (inl (never, e)) (inl (never', e')) = e ∙ sym e'
left_by_one c F s t (inl (never, e)) (inr (made, l)) = absurd (not_both c never made)
left_by_one c F s t (inr (made, l)) (inl (never, e)) = absurd (not_both c never made)
left_by_one c F s t (inr (made, l)) (inr (made', l')) = leaves_one c F s t l l'

left_one : (c : Conversion) (s t : List ℕ) → LeftOf c s → LeftOf c t → s ≡ t
left_one c s t (inl (shut, e)) (inl (shut', e')) = e ∙ sym e'
left_one c s t (inl ((kind, (cause, why)), e)) (inr (F, opens, l)) = absurd (no_cause (old_ground c).cipher c.old_key c.storage (old_ground c).answers F kind opens why cause)
left_one c s t (inr (F, opens, l)) (inl ((kind, (cause, why)), e)) = absurd (no_cause (old_ground c).cipher c.old_key c.storage (old_ground c).answers F kind opens why cause)
left_one c s t (inr (F, opens, l)) (inr (G, opens', l')) =
    left_by_one c F s t l
    (subst (λ (F : File). LeftBy c F t) (opens_one (old_ground c).cipher (lawful (variant_of c.old_algorithm)) c.old_key c.storage G F opens' opens) l')

-- ---- the text

abbrev outcome_text_of : ErrorKind → List ℕ
outcome_text_of kind = line (codes "error ") (word kind)

refused_text : (end : End) (kind : ErrorKind) → RefusedBy kind end → outcome_text end.outcome ≡ outcome_text_of kind
refused_text end kind (error, is, by) = ap outcome_text is ∙ ap outcome_text_of by

text_one : (c : Conversion) (e f : End) (v : Option ErrorKind) → Follows c v e → Follows c v f → (memory_status e.outcome ≡ memory_status f.outcome) × (outcome_text e.outcome ≡ outcome_text f.outcome)
text_one c e f None p q = (p.0 ∙ sym q.0, ap outcome_text p.1 ∙ sym (ap outcome_text q.1))
text_one c e f (Some kind) p q = (p.0 ∙ sym q.0, refused_text e kind p.1 ∙ sym (refused_text f kind q.1))

pub one_conversion : OneConversion
one_conversion c e f p q other other' = go (converts c e p) (converts c f q)
  where
    storage : e.storage ≡ f.storage
    storage = left_one c e.storage f.storage (left_of c e p other) (left_of c f q other')

    go : (memory_status e.outcome ≡ 7) ⊎ ((v : Option ErrorKind) × Verdict c v × Follows c v e) → (memory_status f.outcome ≡ 7) ⊎ ((v : Option ErrorKind) × Verdict c v × Follows c v f)
        → (memory_status e.outcome ≡ memory_status f.outcome) × (end_text e ≡ end_text f)
    go (inl seven) h = absurd (other seven)
    go (inr h) (inl seven) = absurd (other' seven)
    go (inr (v, is, so)) (inr (w, is', so')) =
        let one = text_one c e f v so (subst (λ (v : Option ErrorKind). Follows c v f) (one_verdict c w v is' is) so') in
        (one.0, λ i. one.1 i ++ line (codes "storage ") (hex_word (storage i)))
