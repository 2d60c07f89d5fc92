-- Errors by their kinds (this project's own).
use Rattle.raf_io.specs.Kinds.{kind_of}
use Rattle.raf_io.specs.declared.errors.Error.{Error}
use Rattle.raf_io.specs.declared.errors.Error.TheVariants as raf
use Rattle.raf_io.specs.declared.errors.ErrorKind.{ErrorKind}
use Rattle.raf_io.specs.declared.errors.ErrorKind.TheVariants as kind
use Rattle.raf_log.specs.declared.error.LogError.{LogError}
use Rattle.raf_log.specs.declared.error.LogError.TheVariants as error
use Rattle.raf_log.specs.declared.error.LogErrorKind.{LogErrorKind}
use Rattle.raf_log.specs.declared.error.LogErrorKind.TheVariants.{Raf, Format, TooLong, OutOfMemory, Overflow}

-- the kind of the same name
abbrev pub log_kind : LogError → LogErrorKind
log_kind (error.Raf e) = Raf (kind_of e)
log_kind error.Format = Format
log_kind error.TooLong = TooLong
log_kind error.OutOfMemory = OutOfMemory
log_kind error.Overflow = Overflow

-- an opening's refusal, as the log's
abbrev pub opening_refusal : Error → LogError
opening_refusal raf.OutOfMemory = error.OutOfMemory
opening_refusal e = error.Raf e

abbrev pub opening_kind : ErrorKind → LogErrorKind
opening_kind kind.OutOfMemory = OutOfMemory
opening_kind k = Raf k
