use Rattle.std.proofs.Common.{rules}
use Rattle.std.specs.Prelude.{IsNone}
use Rattle.swift_translation.proofs.file.written.Goals as goal

pub returns-clause-text : goal.returns-clause-text
returns-clause-text c =
    let none : IsNone c.script-script.result.1 = search rules in
    record { source = c.new-source.result; from = c.new-source.ensures; is = c.script-script.ensures none }
