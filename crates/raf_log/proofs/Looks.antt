-- What a read of the file leaves, and why it is refused.
use Rattle.std.proofs.Common.{◌≡◌, inl, inr, Bool, true, false, cond, ℕ, zero, suc, ◌+◌, ◌*◌, ◌≤◌, min, max, List, ◌++◌, length, take, drop, Option, Some, None, refl, sym, ◌∙◌, ap, subst, arith, length-take, length-drop}
use Rattle.std.specs.Prelude.{nat_eq, nat_lt}
use Rattle.std.proofs.lemmas.Bool.Decides.{nat_tests}
use Rattle.std.proofs.lemmas.Bool.{false≢true}
use Rattle.std.proofs.lemmas.List.{nil_from_length, take_all}
use Rattle.raf_io.specs.Source.{Takes}
use Rattle.raf_tree.specs.Hashing.{Hashing}
use Rattle.raf_tree.specs.Tree.{height}
use Rattle.raf_format.specs.Cipher.{Cipher}
use Rattle.raf_format.specs.File.{File, chunk_count, file_layout}
use Rattle.raf.specs.Concern.{valid, sum_where, none_missing}
use Rattle.raf.specs.Due.{Due, Answers, is_refused, is_fault}
use Rattle.raf.specs.Due.Due.{Exactly, Merkle}
use Rattle.raf.specs.Apply.{apply, answer, cause_of}
use Rattle.raf.specs.Image.{asked_by, changes_by, traffic_by, calls_by, moved_chunks}
use Rattle.raf.specs.Outside.{Caused, Moved}
use Rattle.raf.specs.Handle.{Handle, Holds, OfTree, KeptAnswer, Measures, limit_of, outline}
use Rattle.raf.specs.Stepped.{Stepped, Went, with_size, refuses, Shaped}
use Rattle.raf.specs.Content.{IsWhole, content, Contents}
use Rattle.raf.specs.Meaning.{Faultable}
use Rattle.raf.specs.declared.command.Command.TheVariants as asks
use Rattle.raf.specs.declared.command.Reply.{Reply}
use Rattle.raf.specs.declared.command.Reply.TheVariants.{Bytes, Refused}
use Rattle.raf_io.specs.declared.errors.ErrorKind.{ErrorKind}
use Rattle.raf_io.specs.declared.errors.ErrorKind.TheVariants.{Io, InvalidArgument, AuthenticationFailed, AlreadyExists, NotFound as Missing, Overflow, MerkleNotEnabled, CorruptedChunk, Rng, Hash, Broken, OutOfMemory}
use Rattle.raf_log.specs.Opening.{Looked, ReadsAtMost}
use Rattle.raf_log.specs.Sweep.{Calm, PieceRead, NotFound}
use Rattle.raf_log.specs.declared.error.LogErrorKind.TheVariants as log
use Rattle.raf.proofs.Moves.{quiet_same, moved_same, moved_any, moved_less}

pub looked_same : (C : Cipher) (old new : Handle) → new ≡ old → Looked C old new
looked_same C old new same = record {
  key = ap (λ (h : Handle). h.key) same;
  header = ap (λ (h : Handle). h.header) same;
  tree = ap (λ (h : Handle). h.tree) same;
  broken = ap (λ (h : Handle). h.broken) same;
  bytes = ap (λ (h : Handle). h.outside.bytes) same;
  durable = ap (λ (h : Handle). h.outside.durable) same;
  setting = ap (λ (h : Handle). h.outside.setting) same;
  left = λ F held. ap (λ (h : Handle). h.outside.left) same;
  strays = λ F held. ap (λ (h : Handle). h.outside.strays) same;
}

-- a sum over nothing
pub none_summed : (f : ℕ → ℕ) (i n : ℕ) → sum_where (λ _. false) f i n ≡ 0
none_summed f i zero = refl
none_summed f i (suc n) = omega (arith, none_summed f (i + 1) n)

none_asked : (limit : Option ℕ) (F : File) (at n : ℕ) → asked_by limit F (asks.Read at n) ≡ 0
none_asked limit F at n = go (is_refused (apply limit F (asks.Read at n)).0)
  where
    go : (t : Bool) → cond t 0 (sum_where (λ _. false) (λ _. F.shape.nonce_len) 0 (chunk_count F.shape.chunk_size F.size)) ≡ 0
    go true = refl
    go false = none_summed (λ _. F.shape.nonce_len) 0 (chunk_count F.shape.chunk_size F.size)

none_called : (limit : Option ℕ) (F : File) (at n : ℕ) → calls_by limit F (asks.Read at n) ≡ 0
none_called None F at n = refl
none_called (Some most) F at n = go (is_refused (apply (Some most) F (asks.Read at n)).0)
  where
    moved : moved_chunks F (asks.Read at n) ≡ 0
    moved = omega (arith, none_summed (λ _. 1) 0 (chunk_count F.shape.chunk_size F.size))

    go : (t : Bool) → cond t 0 (min (moved_chunks F (asks.Read at n) * (2 * height most + 1)) (2 * moved_chunks F (asks.Read at n) + 3 * height most)) ≡ 0
    go true = refl
    go false = ap (λ (k : ℕ). min (k * (2 * height most + 1)) (2 * k + 3 * height most)) moved ∙ (let e : min (0 * (2 * height most + 1)) (2 * 0 + 3 * height most) ≡ 0 = omega arith in e)

none_changed : (limit : Option ℕ) (F : File) (at n : ℕ) → changes_by limit F (asks.Read at n) ≡ 0
none_changed limit F at n = go (is_refused (apply limit F (asks.Read at n)).0)
  where
    go : (t : Bool) → cond t 0 (sum_where (λ _. false) (λ _. 1) 0 (chunk_count F.shape.chunk_size F.size) + cond (nat_eq F.size F.size) 0 1 + cond (nat_lt F.size F.size) 1 0) ≡ 0
    go true = refl
    go false =
        let same : nat_eq F.size F.size ≡ true = grind (arith, nat_tests) in
        let less : nat_lt F.size F.size ≡ false = grind (arith, nat_tests) in
        omega (arith, none_summed (λ _. 1) 0 (chunk_count F.shape.chunk_size F.size), ap {B = ℕ} (λ (t : Bool). cond t 0 1) same, ap {B = ℕ} (λ (t : Bool). cond t 1 0) less)

-- nothing was taken
pub takes_nothing : (old new : Option (List ℕ)) (got : List ℕ) → length got ≡ 0 → Takes old got new → new ≡ old
takes_nothing None None got none t = refl
takes_nothing None (Some l) got none t = absurd t
takes_nothing (Some b) None got none t = absurd t
takes_nothing (Some b) (Some l) got none t = ap (λ (x : List ℕ). Some x) (sym (t ∙ ap (λ (g : List ℕ). g ++ l) (nil_from_length got none)))

-- a reply that is due says whether the command is refused
refused_due : (P : Reply → Type 0) (d : Due) (kind : ErrorKind) → ((r : Reply) → P r → ⊥) → Answers P d (Refused kind) → is_refused d ≡ true
refused_due P (Exactly r) kind none is = ap (λ (r : Reply). is_refused (Exactly r)) (sym is)
refused_due P Merkle kind none is = absurd (none (Refused kind) is)

read_due : (P : Reply → Type 0) (d : Due) (got : List ℕ) → ((r : Reply) → P r → ⊥) → Answers P d (Bytes got) → is_refused d ≡ false
read_due P (Exactly r) got none is = ap (λ (r : Reply). is_refused (Exactly r)) (sym is)
read_due P Merkle got none is = absurd (none (Bytes got) is)

same_bytes : (d : Due) (P : Reply → Type 0) (x got : List ℕ) → d ≡ Exactly (Bytes x) → Answers P d (Bytes got) → got ≡ x
same_bytes d P x got is due = inner (subst (λ (d : Due). Answers P d (Bytes got)) is due)
  where
    inner : Bytes got ≡ Bytes x → got ≡ x
    inner e = cc

module _ (C : Cipher) (contents : Contents C) (E : List ℕ → Hashing) (old new : Handle) (at n : ℕ) (reply : Reply) (stepped : Stepped C E old new (asks.Read at n) reply) where
  never : (F : File) (r : Reply) → OfTree E old (KeptAnswer F (asks.Read at n) r) → ⊥
  never F r (s, t, a, b, odd) = odd

  module _ (w : Went C E old new (asks.Read at n) reply) where
    header_at : (t : Bool) → cond t old.header (with_size old.header old.header.file_size) ≡ old.header
    header_at true = refl
    header_at false = refl

    unmarked_after : old.broken ≡ false → (t : Bool) → new.broken ≡ t → new.broken ≡ old.broken
    unmarked_after unmarked false is = is ∙ sym unmarked
    unmarked_after unmarked true is = absurd (false≢true (w.marked.cause is).0)

    left_at : (F : File) → Holds C old F → (t : Bool) → is_fault reply ≡ t → new.outside.left ≡ old.outside.left
    left_at F held false calm =
        let a = w.answered F held calm in
        takes_nothing old.outside.left new.outside.left a.nonces (a.drawn ∙ none_asked (limit_of old) F at n) a.taken
    left_at F held true fault =
        let l = (w.cut F held fault).left in
        takes_nothing old.outside.left new.outside.left l.0 (omega (arith, l.1, none_asked (limit_of old) F at n)) l.2

    looked_at : old.broken ≡ false → Looked C old new
    looked_at unmarked = record {
      key = w.stays.key;
      header = w.stays.header ∙ header_at (refuses reply);
      tree = (w.stays.bytes (inl refl)).1;
      broken = unmarked_after unmarked new.broken refl;
      bytes = (w.stays.bytes (inl refl)).0;
      durable = w.stays.durable (inl refl);
      setting = (w.bounded (outline C old.header) (inr refl)).setting;
      left = λ F held. left_at F held (is_fault reply) refl;
      strays = w.strays;
    }

  pub looked : Looked C old new
  looked = go old.broken refl
    where
      go : (t : Bool) → old.broken ≡ t → Looked C old new
      go true set = looked_same C old new (stepped.barred set).1
      go false unmarked = looked_at (stepped.went unmarked) unmarked

  -- the most that it asked: no random byte, no change and no hash
  same_file : (F : File) → (apply (limit_of old) F (asks.Read at n)).1 ≡ F
  same_file F = go (valid (limit_of old) F (asks.Read at n))
    where
      go : (t : Bool) → (cond {A = Due × File} t (answer F (asks.Read at n), F) (Exactly (Refused (cause_of (limit_of old) F (asks.Read at n))), F)).1 ≡ F
      go true = refl
      go false = refl

  pub asked : ReadsAtMost C old new (λ F. traffic_by (limit_of old) F (asks.Read at n))
  asked = λ F measures. go F measures old.broken refl
    where
      longest : (F : File) → max (file_layout F) (file_layout (apply (limit_of old) F (asks.Read at n)).1) ≤ file_layout F
      longest F = let e : file_layout (apply (limit_of old) F (asks.Read at n)).1 ≡ file_layout F = ap file_layout (same_file F) in omega (arith, e)

      go : (F : File) → Measures C old F → (t : Bool) → old.broken ≡ t → Moved old.outside new.outside (file_layout F) (traffic_by (limit_of old) F (asks.Read at n)) 0 0 0
      go F measures true set =
          moved_any old.outside new.outside (file_layout F) (traffic_by (limit_of old) F (asks.Read at n)) 0 0 0
          (moved_same old.outside new.outside (ap (λ (h : Handle). h.outside) (stepped.barred set).1))
      go F measures false unmarked =
          moved_less old.outside new.outside _ _ _ _ _ _ _ _ _ _ ((stepped.went unmarked).bounded F measures)
          (longest F) (omega arith) (omega (arith, none_asked (limit_of old) F at n)) (omega (arith, none_changed (limit_of old) F at n)) (omega (arith, none_called (limit_of old) F at n))

  -- a read that was answered
  module _ (got : List ℕ) (is : reply ≡ Bytes got) where
    pub was_unmarked : old.broken ≡ false
    was_unmarked = go old.broken refl
      where
        odd : Bytes got ≡ Refused Broken → ⊥
        odd e = cc

        go : (t : Bool) → old.broken ≡ t → old.broken ≡ false
        go false unmarked = unmarked
        go true set = absurd (odd (sym is ∙ (stepped.barred set).0))

    calm_reply : is_fault reply ≡ false
    calm_reply = ap is_fault is

    pub calm : Calm C old new
    calm = record { looked = looked; unmarked = was_unmarked; quiet = (stepped.went was_unmarked).quiet calm_reply }

    due_is : (F : File) (held : Holds C old F) → Answers (λ r. OfTree E old (KeptAnswer F (asks.Read at n) r)) (apply (limit_of old) F (asks.Read at n)).0 (Bytes got)
    due_is F held = subst (λ (r : Reply). Answers (λ r. OfTree E old (KeptAnswer F (asks.Read at n) r)) (apply (limit_of old) F (asks.Read at n)).0 r) is ((stepped.went was_unmarked).answered F held calm_reply).due

    pub fine : (F : File) → Holds C old F → is_refused (apply (limit_of old) F (asks.Read at n)).0 ≡ false
    fine F held = read_due (λ r. OfTree E old (KeptAnswer F (asks.Read at n) r)) (apply (limit_of old) F (asks.Read at n)).0 got (never F) (due_is F held)

    pub bytes_are : (F : File) → Holds C old F → IsWhole F → got ≡ take n (drop at (content F))
    bytes_are F held whole =
        same_bytes (apply (limit_of old) F (asks.Read at n)).0 (λ r. OfTree E old (KeptAnswer F (asks.Read at n) r)) (take n (drop at (content F))) got
        (contents.read old F held whole (limit_of old) at n) (due_is F held)

    -- a piece that lies in the file
    pub piece_read : (piece : List ℕ) (k : ℕ) → got ≡ take k piece → length piece ≡ n → at + n ≤ old.header.file_size → PieceRead C old new at piece
    piece_read piece k front long within = record {
      passed = record { calm = calm; fine = λ F held. subst (λ (m : ℕ). is_refused (apply (limit_of old) F (asks.Read at m)).0 ≡ false) (sym long) (fine F held) };
      shows = λ F held whole.
          let size : F.size ≡ old.header.file_size = ap (λ (f : File). f.size) held.file in
          let are : take k piece ≡ take n (drop at (content F)) = sym front ∙ bytes_are F held whole in
          let full : length piece ≤ k = omega (arith, ap length are, length-take k piece, length-take n (drop at (content F)), length-drop at (content F), contents.long old F held whole, size, long, within) in
          ap (λ (m : ℕ). take m (drop at (content F))) long ∙ sym are ∙ take_all k piece full;
    }

  -- a read that was refused
  module _ (kind : ErrorKind) (is : reply ≡ Refused kind) where
    kind_is : (k : ErrorKind) → Refused kind ≡ Refused k → kind ≡ k
    kind_is k e = cc

    at_kind : (k : ErrorKind) → kind ≡ k → NotFound C old new (log.Raf k) → NotFound C old new (log.Raf kind)
    at_kind k e why = subst (λ (k : ErrorKind). NotFound C old new (log.Raf k)) (sym e) why

    marked : old.broken ≡ true → NotFound C old new (log.Raf kind)
    marked set = at_kind Broken (kind_is Broken (sym is ∙ (stepped.barred set).0)) (record {
      looked = looked;
      why = set;
      fault = quiet_same old.outside new.outside (ap (λ (h : Handle). h.outside) (stepped.barred set).1);
    })

    module _ (unmarked : old.broken ≡ false) where
      closed : (F : File) (held : Holds C old F) → is_fault reply ≡ false → none_missing (λ _. true) 0 F.chunks ≡ false
      closed F held calm =
          contents.missing F (limit_of old) at n
          (refused_due (λ r. OfTree E old (KeptAnswer F (asks.Read at n) r)) (apply (limit_of old) F (asks.Read at n)).0 kind (never F)
          (subst (λ (r : Reply). Answers (λ r. OfTree E old (KeptAnswer F (asks.Read at n) r)) (apply (limit_of old) F (asks.Read at n)).0 r) is ((stepped.went unmarked).answered F held calm).due))

      calmly : is_fault reply ≡ false → NotFound C old new (log.Raf kind)
      calmly calm = go ((stepped.went unmarked).shaped calm)
        where
          go : Shaped (limit_of old) (outline C old.header) (asks.Read at n) reply → NotFound C old new (log.Raf kind)
          go (inl (auth, _)) = at_kind AuthenticationFailed (kind_is AuthenticationFailed (sym is ∙ auth)) (record {
            looked = looked;
            why = (unmarked, λ F held. closed F held calm);
            fault = (stepped.went unmarked).quiet calm;
          })
          go (inr (got, bytes, _)) = absurd (odd (sym is ∙ bytes))
            where
              odd : Refused kind ≡ Bytes got → ⊥
              odd e = cc

      faulty : (k : ErrorKind) → kind ≡ k → Caused k old.outside new.outside → Faultable (limit_of old) k (outline C old.header) (asks.Read at n) → NotFound C old new (log.Raf kind)
      faulty Io e cause may = at_kind Io e (record { looked = looked; why = unmarked; fault = cause })
      faulty Rng e cause may = absurd (omega (arith, may.1, none_asked (limit_of old) (outline C old.header) at n))
      faulty Hash e cause may = absurd (omega (arith, may.1, none_called (limit_of old) (outline C old.header) at n))
      faulty (InvalidArgument r) e cause may = absurd cause
      faulty AuthenticationFailed e cause may = absurd cause
      faulty AlreadyExists e cause may = absurd cause
      faulty Missing e cause may = absurd cause
      faulty Overflow e cause may = absurd cause
      faulty MerkleNotEnabled e cause may = absurd cause
      faulty (CorruptedChunk i) e cause may = absurd cause
      faulty Broken e cause may = absurd cause
      faulty OutOfMemory e cause may = absurd cause

      went_wrong : (t : Bool) → is_fault reply ≡ t → NotFound C old new (log.Raf kind)
      went_wrong false calm = calmly calm
      went_wrong true fault =
          let f = (stepped.went unmarked).failed fault in
          faulty f.kind (kind_is f.kind (sym is ∙ f.is)) f.cause (f.may (outline C old.header) (inr refl))

    pub refused : NotFound C old new (log.Raf kind)
    refused = go old.broken refl
      where
        go : (t : Bool) → old.broken ≡ t → NotFound C old new (log.Raf kind)
        go true set = marked set
        go false unmarked = went_wrong unmarked (is_fault reply) refl
