-- Errors by their kinds (this project's own).
use Rattle.raf_io.specs.declared.errors.Error.{Error}
use Rattle.raf_io.specs.declared.errors.Error.TheVariants as error
use Rattle.raf_io.specs.declared.errors.ErrorKind.{ErrorKind}
use Rattle.raf_io.specs.declared.errors.ErrorKind.TheVariants.{Io, InvalidArgument, AuthenticationFailed, AlreadyExists, NotFound, Overflow, MerkleNotEnabled, CorruptedChunk, Rng, Hash, Broken, OutOfMemory}

-- the kind of the same name
abbrev pub kind_of : Error → ErrorKind
kind_of (error.Io fault) = Io
kind_of (error.InvalidArgument reason) = InvalidArgument reason
kind_of error.AuthenticationFailed = AuthenticationFailed
kind_of error.AlreadyExists = AlreadyExists
kind_of error.NotFound = NotFound
kind_of error.Overflow = Overflow
kind_of error.MerkleNotEnabled = MerkleNotEnabled
kind_of (error.CorruptedChunk index) = CorruptedChunk index
kind_of error.Rng = Rng
kind_of error.Hash = Hash
kind_of error.Broken = Broken
kind_of error.OutOfMemory = OutOfMemory
