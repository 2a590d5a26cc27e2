use Rattle.swift_executor.proofs.Prelude.{ℕ, ◌<◌, List, [], ◌∷◌, ◌++◌, Global, length, set, get_or, sym, subst, ◌∙◌, arith, length-set, IsPermutation-to_front, IsPermutation-sym, IsPermutation, deque_items, VecDeque, PriorityListsView, Waiting, IsList, jobs_of}
use Rattle.std.proofs.Common.{All}
use Rattle.swift_executor.proofs.OneListOfAll.{all_list, exchange}
use Rattle.swift_executor.proofs.EditedListIsList.{each_set, push_list, rank_few}
use Rattle.swift_executor.proofs.queue.lists.PriorityLists.push.Goals as goal

pub invariant_of-self : goal.invariant_of-self
invariant_of-self g c =
    let lists = c.self.inside.lists in
    let k = c.number-level.result in
    let d = c.index-self-level.result in
    let new = c.push_back_reserved.new.self in
    let four = c.self.invariant.four in
    let lt : k < length lists = omega (arith, four, c.number-level.ensures, rank_few c.args.waiting.priority) in
    let newest : All (λ (x : Waiting g.row.B.Denot). x.arrival < c.args.waiting.arrival) (jobs_of lists) =
    subst (λ (q : PriorityListsView g.row.B.Denot). All (λ (x : Waiting g.row.B.Denot). x.arrival < c.args.waiting.arrival) q.jobs) (sym c.self.view_is) c.requires.newest in
    let here = all_list (deque_items {X = Waiting g.row.B.Denot} {Z = Global}) (λ (x : Waiting g.row.B.Denot). x.arrival < c.args.waiting.arrival) lists k d lt newest in
    record {
      four = length-set lists k new ∙ four;
      each = each_set (λ (j : ℕ) (l : VecDeque (Waiting g.row.B.Denot) Global). IsList c.self.inside.room j l) lists k new
          (push_list c.self.inside.room k (get_or lists k d) new c.args.waiting (c.self.invariant.each k d lt) (sym c.number-level.ensures) here c.push_back_reserved.ensures.items c.push_back_reserved.ensures.capacity)
          c.self.invariant.each;
    }

pub returns-clause-jobs : goal.returns-clause-jobs
returns-clause-jobs g c =
    let lists = c.self.inside.lists in
    let k = c.number-level.result in
    let d = c.index-self-level.result in
    let new = c.push_back_reserved.new.self in
    let four = c.self.invariant.four in
    let lt : k < length lists = omega (arith, four, c.number-level.ensures, rank_few c.args.waiting.priority) in
    let items = (get_or lists k d).items in
    subst (λ (q : PriorityListsView g.row.B.Denot). IsPermutation (c.args.waiting ∷ q.jobs) (jobs_of (set lists k new))) c.self.view_is
    (exchange (deque_items {X = Waiting g.row.B.Denot} {Z = Global}) (c.args.waiting ∷ []) [] lists k new d lt
    (subst (λ (s : List (Waiting g.row.B.Denot)). IsPermutation (c.args.waiting ∷ items) s) (sym c.push_back_reserved.ensures.items)
    (IsPermutation-sym (items ++ c.args.waiting ∷ []) (c.args.waiting ∷ items) (IsPermutation-to_front items c.args.waiting))))
