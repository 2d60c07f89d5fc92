-- What a reading of the source's bytes says of an answer.
use Rattle.std.proofs.Common.{◌≡◌, ℕ, ◌≤◌, ◌^◌, List, length, Option, Some, None, Result, Err, subst, sym}
use Rattle.std.specs.Prelude.{IfSome}
use Rattle.program_io.specs.Streams.{Intake}
use Rattle.raf_script.specs.declared.script.ScriptError.{ScriptError}
use Rattle.raf_script.specs.declared.script.ScriptError.TheVariants as errors
use Rattle.raf_run.specs.Answers.{WasRead, IsText, WhyUnread, answer_of}

-- what holds of a text holds of what the source told, if that is the text
told_text : (P : List ℕ → Type 0) (left : Option (List ℕ)) (text : List ℕ) → IfSome left (λ bytes. bytes ≡ text) → P text → IfSome left P
told_text P None text same h = tt
told_text P (Some bytes) text same h = subst P (sym same) h

module _ {A : Type 0} (Reads : List ℕ → Result A ScriptError → Type 0) (i : Intake) (text : List ℕ)
    (read : WasRead (λ bytes. bytes ≡ text) i) (short : length text ≤ 2 ^ 26) where
  -- no content was read of the text
  pub why_unread : (e : ScriptError) → Reads text (Err e) → WhyUnread Reads i (answer_of e)
  why_unread (errors.Line n) h = (read.0, told_text (IsText Reads (Err (errors.Line n))) i.left text read.2 (record { short = short; reads = h }))
  why_unread errors.OutOfMemory h = read.0
