use Rattle.swift_executor.proofs.Prelude.{◌≡◌, ◌<◌, ◌≤◌, List, [], ◌∷◌, ◌++◌, get_or, set, length, ap, sym, subst, ◌∙◌, arith, IsPermutation, TaskId, ReadyTasksView}
use Rattle.swift_executor.proofs.Removed.{removed, removed_last}
use Rattle.swift_executor.proofs.tasks.ReadyTasks.remove.Goals as goal

pub returns-then-place-len-clause-tasks : goal.returns-then-place-len-clause-tasks
returns-then-place-len-clause-tasks c =
    let task = c.args.task in
    let place = c.place_of-place.result in
    let last = c.in-Some.last in
    let front = c.pop.new.self.items in
    let old : c.args.self.now.tasks ≡ front ++ last ∷ [] = ap (λ (t : ReadyTasksView). t.tasks) (sym c.self.view_is) ∙ c.in-Some.ensures.items in
    let listed : c.deref.result.now ≡ front ++ last ∷ [] = c.deref.ensures.value ∙ c.in-Some.ensures.items in
    let is = subst (λ (xs : List TaskId). get_or xs place task ≡ task) listed (c.place_of-place.ensures.task task) in
    let ok = c.pop.new.self.ok in
    let lt : place < length front = omega (arith, c.if-place-len.true, c.len.ensures, ok) in
    subst (λ (xs : List TaskId). IsPermutation xs (task ∷ set front place last)) (sym old) (removed front last task place lt is)

pub returns-else-place-len-clause-tasks : goal.returns-else-place-len-clause-tasks
returns-else-place-len-clause-tasks c =
    let task = c.args.task in
    let place = c.place_of-place.result in
    let last = c.in-Some.last in
    let front = c.pop.new.self.items in
    let old : c.args.self.now.tasks ≡ front ++ last ∷ [] = ap (λ (t : ReadyTasksView). t.tasks) (sym c.self.view_is) ∙ c.in-Some.ensures.items in
    let listed : c.deref.result.now ≡ front ++ last ∷ [] = c.deref.ensures.value ∙ c.in-Some.ensures.items in
    let is = subst (λ (xs : List TaskId). get_or xs place task ≡ task) listed (c.place_of-place.ensures.task task) in
    let ok = c.pop.new.self.ok in
    let ge : length front ≤ place = omega (arith, c.if-place-len.false, c.len.ensures, ok) in
    let lt = subst (λ (xs : List TaskId). place < length xs) listed c.place_of-place.ensures.there in
    subst (λ (xs : List TaskId). IsPermutation xs (task ∷ front)) (sym old) (removed_last front last task place ge lt is)
