use Rattle.swift_executor.proofs.Prelude.{List, [], ◌∷◌, ◌++◌, ap, sym, subst, ◌∙◌, IsPermutation, IsPermutation-sym, IsPermutation-to_front, TaskId, ReadyTasksView}
use Rattle.swift_executor.proofs.tasks.ReadyTasks.add.Goals as goal

pub returns-clause-tasks : goal.returns-clause-tasks
returns-clause-tasks c =
    let old = c.args.self.now.tasks in
    let task = c.args.task in
    let same = c.push_reserved.ensures.items ∙ ap (λ (t : ReadyTasksView). t.tasks ++ task ∷ []) c.self.view_is in
    subst (λ (xs : List TaskId). IsPermutation (task ∷ old) xs) (sym same) (IsPermutation-sym (old ++ task ∷ []) (task ∷ old) (IsPermutation-to_front old task))
