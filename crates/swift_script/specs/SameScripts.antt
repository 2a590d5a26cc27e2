-- Whether two scripts are equal, as a test.
use Rattle.std.specs.Prelude.{Bool}
use Rattle.std.specs.Str.{bytes_eq}
use Rattle.script_printing.specs.Script.{ScriptView}
use Rattle.script_printing.specs.Printed.{printed}

-- two scripts have one printed form, which is so where they are equal
abbrev pub same_scripts : ScriptView → ScriptView → Bool
same_scripts a b = bytes_eq (printed a) (printed b)
