-- The errors that a file throws. (Own.)
use Rattle.std.specs.Prelude.{◌==◌, ◌++◌, ℕ, zero, suc, pos, Bool, List, [], codes}
use Rattle.std.specs.Fmt.{decimal}
use Rattle.script_grammar.specs.Tree.{DeclTree}
use Rattle.plain_parts.specs.Flow.{Thrown}
use Rattle.swift_plain.specs.Calls.{either}
use Rattle.swift_plain.specs.Signatures.{decls_have}

-- whether a number is thrown that is no less
abbrev pub is_needed : List DeclTree → ℕ → Bool
is_needed ds n = decls_have (Thrown (pos n)) ds

-- what stands before the number of a case
abbrev pub case_word : ℕ → List ℕ
case_word n = either (n == 0) (codes "code") (codes ", code")

-- the case of a number, where there has to be one
abbrev pub case_text : List DeclTree → ℕ → List ℕ
case_text ds n = either (is_needed ds n) (case_word n ++ decimal n) []

-- the cases of numbers below one
abbrev pub cases_text : List DeclTree → ℕ → List ℕ
cases_text ds zero = []
cases_text ds (suc n) = cases_text ds n ++ case_text ds n

-- the errors of a script that throws some
unfoldable pub enum_text : List DeclTree → List ℕ
enum_text ds = codes "enum Failure: Error { case " ++ (cases_text ds 100 ++ codes " }\n\n")

-- the errors of a script: a case for each number up to the greatest that it throws
abbrev pub failures_text : List DeclTree → List ℕ
failures_text ds = either (is_needed ds 0) (enum_text ds) []
