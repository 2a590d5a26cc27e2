use Rattle.swift_script.proofs.Prelude.{sym, subst, ScriptView, IsCompiled}
use Rattle.swift_script.specs.Scripts.{parts_of}
use Rattle.swift_script.proofs.reading.build.Goals as goal

pub finish-requires-clause-compiled : goal.finish-requires-clause-compiled
finish-requires-clause-compiled c = subst (λ (s : ScriptView). IsCompiled c.args.compiled (parts_of s)) (sym c.in_ok-by_kind.ensures) c.requires.compiled
