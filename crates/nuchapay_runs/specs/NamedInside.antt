-- What names are found by, as callers see it.
use Rattle.std.specs.Prelude.{map, Option, Some, None}
use denote.Bor.{Bor}
use Rattle.script_code.specs.Tree.{Wanted, wanted_of}
use Rattle.script_code.specs.declared.instruction.CompiledAwait.{CompiledAwait}
use Rattle.nuchapay_runs.specs.declared.formula.NamesAt.{NamesAt}
use Rattle.nuchapay_runs.specs.Formulas.{NamesView}

-- names behind references, as callers see them
abbrev pub names_view : NamesAt → NamesView
names_view n = record { script = n.script.now; executor = n.executor.0; actor = n.actor.0; variables = map (λ w. w.now) n.variables.now }

-- what is waited for behind a reference, as callers see it, if there is something
abbrev pub wanted_if_lent : Option (Bor CompiledAwait) → Option Wanted
wanted_if_lent None = None
wanted_if_lent (Some w) = Some (wanted_of w.now)
