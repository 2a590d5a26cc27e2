use Rattle.swift_tasks.proofs.Prelude.{ap, subst, AllByRecursion, ScriptView, arc_value, BookView, IsJobOf}
use Rattle.swift_tasks.proofs.book.Book.close.Goals as goal

pub returns-clause-bodies : goal.returns-clause-bodies
returns-clause-bodies c = subst (λ (s : ScriptView). AllByRecursion (IsJobOf s) c.jobs_of-jobs.result.items) (ap (λ (b : BookView). b.script) c.self.view_is) (c.jobs_of-jobs.ensures.bodies (arc_value c.self.inside.script) c.self.invariant.0.bodies)
