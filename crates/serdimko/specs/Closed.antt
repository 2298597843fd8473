-- Which errors of a writer say that its reader has closed it.
use Rattle.std.specs.Prelude.{ℕ, Bool, true, false, Result, Ok, Err}
use Rattle.std.specs.IoError.{error_kind}
use Rattle.std.specs.declared.io.Error.{Error}
use Rattle.std.specs.declared.io.ErrorKind.{ErrorKind}

abbrev pub is_closing : ErrorKind → Bool
is_closing ErrorKind.BrokenPipe = true
is_closing kind = false

abbrev pub says_closed : Result ℕ Error → Bool
says_closed (Ok count) = false
says_closed (Err error) = is_closing (error_kind error)
