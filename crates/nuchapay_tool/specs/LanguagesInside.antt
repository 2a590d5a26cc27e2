-- In which language a text is. No public clause names these. (Our own.)
use Rattle.std.specs.Prelude.{ℕ, Bool, List, codes, nat_eq, if◌then◌else◌}
use Rattle.std.specs.List.{ends_with}
use Rattle.nuchapay_tool.specs.declared.requests.Language.{Language}
use Rattle.nuchapay_tool.specs.declared.requests.Language.TheVariants.{Script, Swift}
use Rattle.nuchapay_tool.specs.declared.requests.Source.{Source}
use Rattle.nuchapay_tool.specs.declared.requests.Source.TheVariants.{Stdin, File}

-- whether a file of this name is of Swift
abbrev pub is_swift_name : List ℕ → Bool
is_swift_name name = ends_with nat_eq name (codes ".swift")

-- in which language a text is, by where it comes from
abbrev pub language_by_source : Source → Language
language_by_source Stdin = Script
language_by_source (File path) = if is_swift_name path.now then Swift else Script
