use Rattle.swift_executor.proofs.Prelude.{◌≢◌, ℕ, ◌<◌, [], ◌∷◌, Global, length, get_or, sym, ◌∙◌, arith, length-set, deque_items, VecDeque, Waiting, IsList}
use Rattle.swift_executor.proofs.OneListOfAll.{all_list, exchange}
use Rattle.swift_executor.proofs.EditedListIsList.{each_set, insert_list, rank_few}
use Rattle.swift_executor.proofs.queue.lists.insert_by_priority.Goals as goal

pub insert_by_arrival-requires-clause-apart : goal.insert_by_arrival-requires-clause-apart
insert_by_arrival-requires-clause-apart g c =
    let lists = c.args.lists.now in
    let k = c.number-level.result in
    let four = c.requires.lists.1.four in
    let lt : k < length lists = omega (arith, four, c.number-level.ensures, rank_few c.args.waiting.priority) in
    all_list (deque_items {X = Waiting g.row.B.Denot} {Z = Global}) (λ (x : Waiting g.row.B.Denot). x.arrival ≢ c.args.waiting.arrival) lists k c.index-lists-level.result lt c.requires.apart

pub returns-clause-jobs : goal.returns-clause-jobs
returns-clause-jobs g c =
    let lists = c.args.lists.now in
    let k = c.number-level.result in
    let four = c.requires.lists.1.four in
    let lt : k < length lists = omega (arith, four, c.number-level.ensures, rank_few c.args.waiting.priority) in
    exchange (deque_items {X = Waiting g.row.B.Denot} {Z = Global}) (c.args.waiting ∷ []) [] lists k c.insert_by_arrival.new.list c.index-lists-level.result lt c.insert_by_arrival.ensures.jobs

pub returns-clause-lists : goal.returns-clause-lists
returns-clause-lists g c =
    λ room h.
    let lists = c.args.lists.now in
    let k = c.number-level.result in
    let d = c.index-lists-level.result in
    let new = c.insert_by_arrival.new.list in
    let four = h.four in
    let lt : k < length lists = omega (arith, four, c.number-level.ensures, rank_few c.args.waiting.priority) in
    record {
      four = length-set lists k new ∙ four;
      each = each_set (λ (j : ℕ) (l : VecDeque (Waiting g.row.B.Denot) Global). IsList room j l) lists k new
          (insert_list room k (get_or lists k d) new c.args.waiting (h.each k d lt) (sym c.number-level.ensures) c.insert_by_arrival.ensures.by_arrival c.insert_by_arrival.ensures.jobs c.insert_by_arrival.ensures.capacity) h.each;
    }

pub insert_by_arrival-requires-clause-by_arrival : goal.insert_by_arrival-requires-clause-by_arrival
insert_by_arrival-requires-clause-by_arrival g c =
    let lists = c.args.lists.now in
    let k = c.number-level.result in
    let four = c.requires.lists.1.four in
    let lt : k < length lists = omega (arith, four, c.number-level.ensures, rank_few c.args.waiting.priority) in
    (c.requires.lists.1.each k c.index-lists-level.result lt).by_arrival
