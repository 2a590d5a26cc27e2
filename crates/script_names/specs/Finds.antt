-- What an answer says of the first error.
use Rattle.std.specs.Prelude.{◌≡◌, Option, Some, None, Result, Ok, Err}
use Rattle.script_names.specs.declared.error.NameError.{NameError}
use Rattle.script_names.specs.declared.error.CheckError.{CheckError}
use Rattle.script_names.specs.declared.error.CheckError.TheVariants as errors

-- this error, unless memory ran out
abbrev pub IsError : CheckError → Option NameError → Type 0
IsError errors.Memory error = Unit {0}
IsError (errors.Name e) error = error ≡ Some e

-- no error where the answer is Ok, and else this one, unless memory ran out
abbrev pub Finds : {A : Type 0} → Result A CheckError → Option NameError → Type 0
Finds (Ok x) error = error ≡ None
Finds (Err e) error = IsError e error
