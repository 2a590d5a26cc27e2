-- A turn that is explained, as callers see it.
use Rattle.std.specs.Prelude.{ℕ}
use Rattle.script_code.specs.Seen.{rows_of}
use Rattle.swift_script.specs.Scripts.{ScriptView}
use Rattle.swift_journal.specs.Records.{owned_view}
use Rattle.swift_report.specs.declared.report.Report.{Report}
use Rattle.run_pictures.specs.Values.{values_view, values_views}
use Rattle.nuchapay_runs.specs.Explains.{IsWhyIn}
use Rattle.nuchapay_runs.specs.NamedInside.{names_view}
use Rattle.nuchapay_runs.specs.Why.{KnownTurn}
use Rattle.nuchapay_runs.specs.declared.explained.ExplainedTurn.{ExplainedTurn}
use Rattle.nuchapay_runs.specs.declared.explained.Explained.{Explained}
use Rattle.nuchapay_runs.specs.declared.explained.Explained.TheVariants as said

-- what is known of a turn behind references, as callers see it
abbrev pub known_of : ExplainedTurn → KnownTurn
known_of t = record { names = names_view t.names; endings = t.endings.now; method = t.method.now; instructions = t.instructions.now; position = t.position; journal = t.journal.now; place = t.place; turn = owned_view t.found.now; before = rows_of t.before.now; own = values_view t.own.now; values = values_views t.values.now; last = t.last }

-- the text that is said of the turn at a place explains it
abbrev pub TellsAt : ScriptView → Report → ℕ → ℕ → Explained → Type 0
TellsAt p report executor place (said.Found text) = IsWhyIn p report executor place text.items
TellsAt p report executor place _ = Unit {0}
