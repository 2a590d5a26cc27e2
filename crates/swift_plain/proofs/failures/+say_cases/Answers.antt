use Rattle.std.proofs.Common.{arith, map}
use Rattle.script_grammar.specs.Tree.{view_decl}
use Rattle.swift_plain.proofs.Cases.{one_more_case}
use Rattle.swift_plain.proofs.Lines.{then_goes}
use Rattle.swift_plain.proofs.failures.+say_cases.Goals as goal

pub returns-else-count-eq0 : goal.returns-else-count-eq0
returns-else-count-eq0 t c =
    rw (one_more_case (map view_decl c.args.decls.now) c.args.count (omega (arith, c.if-count-eq0.false))) (then_goes c.args.page.now c.say_cases.new.page c.say_case.new.page _ _ c.say_cases.ensures c.say_case.ensures)
