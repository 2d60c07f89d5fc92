-- What a write and a truncation have in common, and a change that is ready to be carried out.
use Rattle.std.proofs.Common.{◌≡◌, ℕ, ◌^◌, ◌<◌, ◌≤◌, true, false, List, Option, Some, refl, sym, ◌∙◌, ap, arith}
use Rattle.std.specs.Prelude.{◌⊎◌, nat_lt, nat_le}
use Rattle.std.proofs.lemmas.Bool.{ltb-true, and_parts}
use Rattle.std.proofs.lemmas.Bool.Decides.{nat_tests}
use Rattle.raf_tree.specs.Kept.{Kept}
use Rattle.raf_format.specs.Cipher.{Cipher}
use Rattle.raf_format.specs.File.{File, shape_of, chunk_count, layout_len}
use Rattle.raf.specs.Due.{Due, Answers, is_fault, is_refused}
use Rattle.raf.specs.Due.Due.{Exactly}
use Rattle.raf.specs.Concern.{can_have, within, fits}
use Rattle.raf.specs.Apply.{apply}
use Rattle.raf.specs.Change.{Change}
use Rattle.raf.specs.Meaning.{Authentic}
use Rattle.raf.specs.Handle.{Handle, HasRoom, limit_of, outline}
use Rattle.raf.specs.Plan.{Ranged}
use Rattle.raf.specs.Stepped.{HasForm, Needs, Shaped, refuses, may_mark, may_settle}
use Rattle.raf.specs.declared.command.Command.{Command}
use Rattle.raf.specs.declared.command.Command.TheVariants as command
use Rattle.raf.specs.declared.command.Reply.{Reply}
use Rattle.raf.specs.declared.command.Reply.TheVariants.{Refused}
use Rattle.raf_io.specs.declared.errors.ErrorKind.TheVariants.{AuthenticationFailed}
use Rattle.raf.proofs.StillSteps.{may_change}
use Rattle.raf.proofs.Arms.{Alters}
use Rattle.raf.proofs.ChangeBounds.{limit_by}

pub marks : (c : Command) → may_change c ≡ true → may_mark c ≡ true
marks (command.Read offset len) kind = absurd cc
marks (command.Write offset bytes) kind = refl
marks (command.Truncate size) kind = refl
marks command.Size kind = absurd cc
marks command.Sync kind = absurd cc
marks command.Rebuild kind = absurd cc
marks command.Verify kind = absurd cc
marks command.Commitment kind = absurd cc

pub settles : (c : Command) → may_change c ≡ true → may_settle c ≡ true
settles (command.Read offset len) kind = absurd cc
settles (command.Write offset bytes) kind = refl
settles (command.Truncate size) kind = refl
settles command.Size kind = absurd cc
settles command.Sync kind = absurd cc
settles command.Rebuild kind = absurd cc
settles command.Verify kind = absurd cc
settles command.Commitment kind = absurd cc

pub authentic_by : (C : Cipher) (key b : List ℕ) (F : File) (due : Due) (c : Command) → may_change c ≡ true → Authentic C key b F c due
authentic_by C key b F due (command.Read offset len) kind = absurd cc
authentic_by C key b F due (command.Write offset bytes) kind = tt
authentic_by C key b F due (command.Truncate size) kind = tt
authentic_by C key b F due command.Size kind = absurd cc
authentic_by C key b F due command.Sync kind = absurd cc
authentic_by C key b F due command.Rebuild kind = absurd cc
authentic_by C key b F due command.Verify kind = absurd cc
authentic_by C key b F due command.Commitment kind = absurd cc

pub shaped_by : (limit : Option ℕ) (F : File) (reply : Reply) (c : Command) → may_change c ≡ true
    → ((reply ≡ Refused AuthenticationFailed) × (fits limit F c ≡ true) × Needs F c) ⊎ Answers (HasForm c) (apply limit F c).0 reply → Shaped limit F c reply
shaped_by limit F reply (command.Read offset len) kind either = absurd cc
shaped_by limit F reply (command.Write offset bytes) kind either = either
shaped_by limit F reply (command.Truncate size) kind either = either
shaped_by limit F reply command.Size kind either = absurd cc
shaped_by limit F reply command.Sync kind either = absurd cc
shaped_by limit F reply command.Rebuild kind either = absurd cc
shaped_by limit F reply command.Verify kind either = absurd cc
shaped_by limit F reply command.Commitment kind either = absurd cc

-- a change of an open file whose plan fits
pub record Ready (C : Cipher) (old : Handle) (c : Command) (K : Change) (done : Reply) : Type 0 where
  pub alters : Alters C old.header c K done
  pub calm : is_refused (Exactly done) ≡ false
  pub answered : refuses done ≡ false
  pub faultless : is_fault done ≡ false
  pub least : 16 ≤ old.header.chunk_size
  pub ranged : Ranged old.header.chunk_size old.header.file_size K
  pub fits : can_have (limit_of old) (outline C old.header) K.size ≡ true
  pub room : HasRoom (chunk_count old.header.chunk_size old.header.file_size) old.tree

pub can_fit : (limit : Option ℕ) (F : File) (size : ℕ) → can_have limit F size ≡ true → layout_len F.shape size < 2 ^ 64
can_fit limit F size can = ltb-true (layout_len F.shape size) (2 ^ 64) (and_parts (nat_lt (layout_len F.shape size) (2 ^ 64)) (within limit (chunk_count F.shape.chunk_size size)) can).0

pub can_within : (limit : Option ℕ) (F : File) (size most : ℕ) → can_have limit F size ≡ true → limit ≡ Some most → chunk_count F.shape.chunk_size size ≤ most
can_within limit F size most can is =
    let t = (and_parts (nat_lt (layout_len F.shape size) (2 ^ 64)) (within limit (chunk_count F.shape.chunk_size size)) can).1 in
    let u : nat_le (chunk_count F.shape.chunk_size size) most ≡ true = sym (ap (λ (l : Option ℕ). within l (chunk_count F.shape.chunk_size size)) is) ∙ t in
    grind (arith, nat_tests, u)

module _ (C : Cipher) (old : Handle) (c : Command) (K : Change) (done : Reply) (ready : Ready C old c K done) where
  pub new_fits : layout_len (shape_of C old.header) K.size < 2 ^ 64
  new_fits = can_fit (limit_of old) (outline C old.header) K.size ready.fits

  pub new_room : HasRoom (chunk_count old.header.chunk_size K.size) old.tree
  new_room t is = can_within (limit_of old) (outline C old.header) K.size t.max_chunks ready.fits (ap {B = Option ℕ} (λ (o : Option Kept). limit_by o) is)
