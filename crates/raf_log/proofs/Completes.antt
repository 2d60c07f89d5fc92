-- Valid input and no fault: a log is opened, and a session answered, but for want of memory.
use Rattle.std.proofs.Common.{◌≡◌, inl, inr, false, ℕ, ◌^◌, ◌<◌, List, Some, Result, Ok, Err, refl, sym, ◌∙◌, ap, subst, arith}
use Rattle.std.specs.Prelude.{◌⊎◌, IfOk, IfErr}
use Rattle.std.proofs.lemmas.Bool.{false≢true}
use Rattle.raf_tree.specs.Hashing.{Hashing}
use Rattle.raf_format.specs.Cipher.{Cipher}
use Rattle.raf_format.specs.File.{File}
use Rattle.raf_format.specs.Laws.{AreLawful}
use Rattle.raf.specs.Outside.{Outside}
use Rattle.raf.specs.Handle.{Handle, Holds, hash_len_of}
use Rattle.raf.specs.Opening.{Settings}
use Rattle.raf.specs.Session.{Ground}
use Rattle.raf.specs.Content.{content}
use Rattle.raf.specs.Complete.{NoneFailed, CanOpen, Complete}
use Rattle.raf_io.specs.declared.errors.ErrorKind.TheVariants.{Io, InvalidArgument, AuthenticationFailed, AlreadyExists, NotFound, Overflow, MerkleNotEnabled, CorruptedChunk, Rng, Hash, Broken, OutOfMemory}
use Rattle.raf_log.specs.Kinds.{log_kind, opening_kind}
use Rattle.raf_log.specs.Log.{LogFile, IsLog}
use Rattle.raf_log.specs.Opening.{IsNoLog, WhyNoLog, LogFault, LogNotOpened}
use Rattle.raf_log.specs.Session.{AllLogAnswer, log_rooms, LogWhole, LogFaulted, LogRefused, LogRan, LogMeets}
use Rattle.raf_log.specs.Complete.{LogComplete}
use Rattle.raf_log.specs.declared.command.LogCommand.{LogCommand}
use Rattle.raf_log.specs.declared.command.LogReply.{LogReply}
use Rattle.raf_log.specs.declared.error.LogError.{LogError}
use Rattle.raf_log.specs.declared.error.LogErrorKind.{LogErrorKind}
use Rattle.raf_log.specs.declared.error.LogErrorKind.TheVariants as log
use Rattle.raf_log.proofs.Spelled.{one_list}

-- a log is no file that is none
is_one : (L : LogFile) (kind : LogErrorKind) (old new : Outside) → IsLog L → IsNoLog L.file kind → LogFault kind old new → NoneFailed old new → kind ≡ log.OutOfMemory
is_one L (log.Raf Io) old new is why fault none = absurd (none Io fault)
is_one L (log.Raf AuthenticationFailed) old new is why fault none = absurd (false≢true (sym why ∙ is.whole))
is_one L (log.Raf (InvalidArgument r)) old new is why fault none = absurd why
is_one L (log.Raf AlreadyExists) old new is why fault none = absurd why
is_one L (log.Raf NotFound) old new is why fault none = absurd why
is_one L (log.Raf Overflow) old new is why fault none = absurd why
is_one L (log.Raf MerkleNotEnabled) old new is why fault none = absurd why
is_one L (log.Raf (CorruptedChunk i)) old new is why fault none = absurd why
is_one L (log.Raf Rng) old new is why fault none = absurd why
is_one L (log.Raf Hash) old new is why fault none = absurd why
is_one L (log.Raf Broken) old new is why fault none = absurd why
is_one L (log.Raf OutOfMemory) old new is why fault none = absurd why
is_one L log.Format old new is why fault none = absurd (why.1 L.entries is.entries.0 is.entries.1)
is_one L log.TooLong old new is why fault none = absurd why
is_one L log.OutOfMemory old new is why fault none = refl
is_one L log.Overflow old new is why fault none = absurd why

module _ (C : Cipher) (lawful : AreLawful C) (E : List ℕ → Hashing) (complete : Complete C E) where
  opening : (old new : Handle) (L : LogFile) (kind : LogErrorKind) → LogNotOpened C old new kind → old.broken ≡ false → Holds C old L.file → IsLog L → NoneFailed old.outside new.outside → kind ≡ log.OutOfMemory
  opening old new L kind n unmarked held is none = is_one L kind old.outside new.outside is (why kind n.why) n.fault none
    where
      why : (kind : LogErrorKind) → WhyNoLog C old kind → IsNoLog L.file kind
      why (log.Raf Broken) set = absurd (false≢true (sym unmarked ∙ set))
      why (log.Raf Io) w = tt
      why (log.Raf AuthenticationFailed) w = w.1 L.file held
      why (log.Raf (InvalidArgument r)) w = absurd w
      why (log.Raf AlreadyExists) w = absurd w
      why (log.Raf NotFound) w = absurd w
      why (log.Raf Overflow) w = absurd w
      why (log.Raf MerkleNotEnabled) w = absurd w
      why (log.Raf (CorruptedChunk i)) w = absurd w
      why (log.Raf Rng) w = absurd w
      why (log.Raf Hash) w = absurd w
      why (log.Raf OutOfMemory) w = absurd w
      why log.Format w = w.1 L.file held
      why log.TooLong w = absurd w
      why log.OutOfMemory w = tt
      why log.Overflow w = absurd w

  sessions : (key b : List ℕ) (L : LogFile) (s : Settings) (commands : List LogCommand) (before after : Outside) (outcome : Result (List LogReply) LogError)
      → LogMeets C E key s commands before after outcome → before.setting ≡ s.outside.setting → before.bytes ≡ Some b → CanOpen C E key before.setting s.most b L.file → IsLog L
      → log_rooms (hash_len_of E s.outside.setting) commands < 2 ^ 64 → NoneFailed before after
      → IfErr outcome (λ e. log_kind e ≡ log.OutOfMemory)
      × IfOk outcome (λ replies. AllLogAnswer (record { cipher = C; answers = E; setting = s.outside.setting; limit = s.most; key = key }) L commands replies)
  sessions key b L s commands before after (Err e) meets set tells can is fits none = (go meets.refused, tt)
    where
      go : LogRefused C E key s commands before after (log_kind e) → log_kind e ≡ log.OutOfMemory
      go (inl bad) = absurd (omega (arith, bad.0, fits))
      go (inr (_, inl (k, same, n))) = same ∙ ap opening_kind (complete.opening key b L.file s.most before after k n tells can none)
      go (inr (_, inr no_log)) =
          let w = no_log.why b tells in
          is_one L (log_kind e) before after is (subst (λ (F : File). IsNoLog F (log_kind e)) (lawful.one_file key b w.0 L.file w.1 can.opens) w.3) no_log.fault none
  sessions key b L s commands before after (Ok replies) meets set tells can is fits none =
      (tt, subst (λ (l : LogFile). AllLogAnswer (record { cipher = C; answers = E; setting = s.outside.setting; limit = s.most; key = key }) l commands replies) same (played ran.run))
    where
      G : Ground
      G = record { cipher = C; answers = E; setting = s.outside.setting; limit = s.most; key = key }

      ran : LogRan (record { cipher = C; answers = E; setting = s.outside.setting; limit = s.most; key = key }) b commands before after replies
      ran = meets.answered b tells

      file : ran.log.file ≡ L.file
      file = lawful.one_file key b ran.log.file L.file ran.opens can.opens

      entries : ran.log.entries ≡ L.entries
      entries = one_list ran.log.entries L.entries ran.is_log.entries.0 is.entries.0 (sym ran.is_log.entries.1 ∙ ap content file ∙ is.entries.1)

      same : ran.log ≡ L
      same = λ i. record { file = file i; entries = entries i }

      played : LogWhole (record { cipher = C; answers = E; setting = s.outside.setting; limit = s.most; key = key }) ran.log commands before after replies
          ⊎ LogFaulted (record { cipher = C; answers = E; setting = s.outside.setting; limit = s.most; key = key }) ran.log commands before after replies
          → AllLogAnswer (record { cipher = C; answers = E; setting = s.outside.setting; limit = s.most; key = key }) ran.log commands replies
      played (inl whole) = whole.played
      played (inr cut) = absurd (none cut.kind cut.cause)

  pub log_complete : LogComplete C E
  log_complete = record { opening = opening; sessions = sessions }
