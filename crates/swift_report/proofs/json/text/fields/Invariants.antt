use Rattle.swift_report.proofs.Prelude.{◌≡◌, ◌++◌, ◌-◌, actor_count, fields_json}
use Rattle.swift_report.proofs.json.text.fields.Given as goal

abbrev pub invariant-loop-actor : goal.invariant-loop-actor
invariant-loop-actor l = l.out.items ++ fields_json l.script l.fields l.actor (actor_count l.script - l.actor) ≡ l.initial.out.items ++ fields_json l.script l.fields 0 (actor_count l.script)
