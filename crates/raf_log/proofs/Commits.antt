-- The commitment of a log is its file's.
use Rattle.std.proofs.Common.{◌≡◌, inl, Bool, true, false, cond, ◌&&◌, not, ℕ, ◌+◌, List, [], ◌∷◌, ◌++◌, map, Option, Some, refl, sym, ◌∙◌, ap, subst, arith}
use Rattle.std.specs.Prelude.{is_some}
use Rattle.std.specs.Option.{option_map}
use Rattle.raf_tree.specs.Hashing.{Hashing}
use Rattle.raf_tree.specs.Tree.{root, leaves}
use Rattle.raf_tree.specs.Kept.{Kept as Tree, kept, tree_height}
use Rattle.raf_format.specs.Cipher.{Cipher}
use Rattle.raf_format.specs.File.{File}
use Rattle.raf.specs.Concern.{none_missing}
use Rattle.raf.specs.Due.{Due, Answers, is_fault}
use Rattle.raf.specs.Due.Due.{Exactly, Merkle}
use Rattle.raf.specs.Apply.{apply}
use Rattle.raf.specs.Handle.{Handle, Holds, WithTree, OfTree, KeptAnswer, Grown, limit_of}
use Rattle.raf.specs.Stepped.{Stepped, Answered}
use Rattle.raf.specs.Session.{present, TreeDecides}
use Rattle.raf.specs.Content.{Contents}
use Rattle.raf.specs.declared.command.Command.TheVariants as asks
use Rattle.raf.specs.declared.command.Reply.{Reply}
use Rattle.raf.specs.declared.command.Reply.TheVariants as answers
use Rattle.raf_io.specs.declared.errors.ErrorKind.TheVariants.{AuthenticationFailed, MerkleNotEnabled}
use Rattle.raf_log.specs.Log.{LogHandle, LogFile, KeepsLog, extent_of, log_handle}
use Rattle.raf_log.specs.Call.{log_reply, appends, LogDue, apply_log, LogAnswered, LogStepped}
use Rattle.raf_log.specs.declared.command.LogCommand.TheVariants as command
use Rattle.raf_log.specs.declared.command.LogReply.TheVariants as reply
use Rattle.raf_log.specs.declared.error.LogErrorKind.TheVariants.{Raf}
use Rattle.raf_log.proofs.Idle.{answered_by, asked_step}
use Rattle.raf_log.proofs.Extents.{size_stays}

module _ (C : Cipher) (contents : Contents C) (E : List ℕ → Hashing) (old new : LogHandle) (L : LogFile) (keeps : KeepsLog C old L) (grown : WithTree E old.file (Grown L.file)) (unmarked : old.file.broken ≡ false) where
  abbrev F : File
  F = L.file

  abbrev limit : Option ℕ
  limit = limit_of old.file

  size_is : L.file.size ≡ old.file.header.file_size
  size_is = ap (λ (f : File). f.size) keeps.holds.file

  never_read : (at n : ℕ) (r : Reply) → OfTree E old.file (KeptAnswer L.file (asks.Read at n) r) → ⊥
  never_read at n r (s, t, a, b, odd) = odd

  -- ---- the commitment

  module _ (a : Reply) (starts : new.starts ≡ old.starts) (stepped : Stepped C E old.file new.file asks.Commitment a) (calm : is_fault a ≡ false) where
    hashed : Answered C E old.file new.file L.file keeps.holds.bytes asks.Commitment a
    hashed = (stepped.went unmarked).answered L.file keeps.holds calm

    nothing : (i : ℕ) (cs : List (Option (List ℕ))) → none_missing (λ _. false) i cs ≡ true
    nothing i [] = refl
    nothing i (c ∷ cs) = nothing (i + 1) cs

    apply_is : apply (limit_of old.file) L.file asks.Commitment ≡ cond {A = Due × File} (is_some (limit_of old.file)) (Merkle, L.file) (Exactly (answers.Refused MerkleNotEnabled), L.file)
    apply_is = ap (λ (t : Bool). cond {A = Due × File} (t && is_some (limit_of old.file)) (Merkle, L.file) (Exactly (answers.Refused (cond (not t) AuthenticationFailed MerkleNotEnabled)), L.file)) (nothing 0 L.file.chunks)

    none_is : (l : Option ℕ) (t : Tree) → l ≡ Some t.max_chunks → is_some l ≡ true
    none_is l t e = ap is_some e

    committed : OfTree E old.file (KeptAnswer L.file asks.Commitment a) → (out : List ℕ) × (log_reply (extent_of old) a ≡ reply.Commitment out)
        × TreeDecides E old.file.outside.setting (limit_of old.file) L.file asks.Commitment (answers.Commitment out)
    committed (s, t, set, kept_is, is) =
        let g : Grown L.file (E s) t = grown s t set kept_is in
        let out : List ℕ = (E s).commitment (kept t (tree_height t) 0) L.file.id L.file.size in
        let most : limit_of old.file ≡ Some t.max_chunks = ap (option_map (λ (t : Tree). t.max_chunks)) kept_is in
        let due : answers.Commitment ((E s).commitment (kept t (tree_height t) 0) L.file.id L.file.size)
        ≡ answers.Commitment ((E s).commitment (root (E s) (tree_height t) (leaves (E s) (present L.file.chunks))) L.file.id L.file.size) =
        ap (λ (r : List ℕ). answers.Commitment ((E s).commitment r L.file.id L.file.size))
        (g.keeps.root ∙ ap (λ (l : List (List ℕ)). root (E s) (tree_height t) (leaves (E s) l)) (sym (ap present g.present ∙ all_there g.chunks))) in (
          (E s).commitment (kept t (tree_height t) 0) L.file.id L.file.size,
          ap (log_reply (extent_of old)) is,
          subst (λ (x : Option (List ℕ)). TreeDecides E x (limit_of old.file) L.file asks.Commitment (answers.Commitment ((E s).commitment (kept t (tree_height t) 0) L.file.id L.file.size))) (sym set)
              (subst (λ (m : Option ℕ). TreeDecides E (Some s) m L.file asks.Commitment (answers.Commitment ((E s).commitment (kept t (tree_height t) 0) L.file.id L.file.size))) (sym most) due),
        )
      where
        all_there : (cs : List (List ℕ)) → present (map (λ m. Some m) cs) ≡ cs
        all_there [] = refl
        all_there (c ∷ cs) = ap (λ (l : List (List ℕ)). c ∷ l) (all_there cs)

    pub commit_told : LogAnswered C E old new L command.Commitment (log_reply (extent_of old) a)
    commit_told = go (is_some (limit_of old.file)) refl
      where
        file : (t : Bool) → (cond {A = Due × File} t (Merkle, L.file) (Exactly (answers.Refused MerkleNotEnabled), L.file)).1 ≡ L.file
        file true = refl
        file false = refl

        same : (apply (limit_of old.file) L.file asks.Commitment).1 ≡ L.file
        same = ap (λ (p : Due × File). p.1) apply_is ∙ file (is_some (limit_of old.file))

        keeps_on : KeepsLog C new L
        keeps_on = record { holds = subst (Holds C new.file) same hashed.holds; is_log = keeps.is_log; starts = starts ∙ keeps.starts }

        grows_on : WithTree E new.file (Grown L.file)
        grows_on = subst (λ (f : File). WithTree E new.file (Grown f)) same (hashed.grown (inl grown))

        due : (t : Bool) → is_some (limit_of old.file) ≡ t → Answers (λ r. OfTree E old.file (KeptAnswer L.file asks.Commitment r)) (cond {A = Due × File} t (Merkle, L.file) (Exactly (answers.Refused MerkleNotEnabled), L.file)).0 a
        due t is = subst (λ (t : Bool). Answers (λ r. OfTree E old.file (KeptAnswer L.file asks.Commitment r)) (cond {A = Due × File} t (Merkle, L.file) (Exactly (answers.Refused MerkleNotEnabled), L.file)).0 a) is
            (subst (λ (p : Due × File). Answers (λ r. OfTree E old.file (KeptAnswer L.file asks.Commitment r)) p.0 a) apply_is hashed.due)

        log_is : (t : Bool) → is_some (limit_of old.file) ≡ t → apply_log (limit_of old.file) L command.Commitment ≡ (cond t LogDue.Hashed (LogDue.Known (reply.Refused (Raf MerkleNotEnabled))), L)
        log_is t is = ap (λ (t : Bool). (cond t LogDue.Hashed (LogDue.Known (reply.Refused (Raf MerkleNotEnabled))), L)) is

        go : (t : Bool) → is_some (limit_of old.file) ≡ t → LogAnswered C E old new L command.Commitment (log_reply (extent_of old) a)
        go true is = answered_by C E old new L command.Commitment (log_reply (extent_of old) a) (LogDue.Hashed, L) (log_is true is) (committed (due true is)) keeps_on grows_on hashed.unmarked
        go false is = answered_by C E old new L command.Commitment (log_reply (extent_of old) a) (LogDue.Known (reply.Refused (Raf MerkleNotEnabled)), L) (log_is false is) (ap (log_reply (extent_of old)) (due false is)) keeps_on grows_on hashed.unmarked

pub commit_done : (C : Cipher) (contents : Contents C) (E : List ℕ → Hashing) (file after : Handle) (starts : List ℕ) (spare : ℕ) (a : Reply)
    → appends (log_reply (extent_of (log_handle file starts spare)) a) ≡ false → Stepped C E file after asks.Commitment a
    → LogStepped C E (log_handle file starts spare) (log_handle after starts spare) command.Commitment (log_reply (extent_of (log_handle file starts spare)) a)
commit_done C contents E file after starts spare a none stepped =
    asked_step C E (log_handle file starts spare) (log_handle after starts spare) command.Commitment asks.Commitment a refl stepped
    (ap (λ (t : Bool). cond t (starts ++ file.header.file_size ∷ []) starts) (sym none))
    (size_stays C E file after asks.Commitment a stepped refl ∙ ap (λ (t : Bool). cond t (file.header.file_size + 0) file.header.file_size) (sym none))
    (ap (λ (t : Bool). spare + cond t 1 0) none ∙ (let e : spare + 0 ≡ spare = omega arith in e))
    (λ L keeps grown unmarked calm. commit_told C contents E (log_handle file starts spare) (log_handle after starts spare) L keeps grown unmarked a refl stepped calm)
