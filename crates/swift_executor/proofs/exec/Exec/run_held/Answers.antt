use Rattle.swift_executor.proofs.Prelude.{ap, ◌∙◌, name_of}
use Rattle.swift_executor.proofs.TurnsRun.{turns_goes}
use Rattle.swift_executor.proofs.VisitsDone.{refused_fault}
use Rattle.swift_executor.proofs.exec.Exec.run_held.Goals as goal

pub end_turns-left-requires-clause-at : goal.end_turns-left-requires-clause-at
end_turns-left-requires-clause-at g c =
    let all = rw c.in-Ok-Some.field-0-is at c.in-Ok-Some.ensures.runs in
    (turns_goes c.args.worker c.in-Ok-Some.ran.1 c.in-Ok-Some.ran.0 _ _ _ _ all).0 ∙ ap name_of c.deref_mut.ensures.value ∙ c.requires.at

pub returns-in-Err-clause-fault : goal.returns-in-Err-clause-fault
returns-in-Err-clause-fault g c = refused_fault c.args.worker c.in-Err.fault _ _ c.in-Err.ensures.refused.does
