use Rattle.swift_executor.proofs.Prelude.{ℕ, List, [], ◌∷◌, Global, get_or, sym, subst, ◌∙◌, length-set, IsPermutation-refl, IsPermutation, deque_items, VecDeque, Waiting, IsList}
use Rattle.swift_executor.proofs.OneListOfAll.{exchange}
use Rattle.swift_executor.proofs.EditedListIsList.{each_set, pop_list}
use Rattle.swift_executor.proofs.queue.lists.take_first.Goals as goal

pub returns-clause-rest : goal.returns-clause-rest
returns-clause-rest g c =
    let lists = c.args.lists.now in
    let k = c.args.level in
    let d = c.index-lists-level.result in
    let new = c.pop_front.new.self in
    exchange (deque_items {X = Waiting g.row.B.Denot} {Z = Global}) [] (c.in-Some.first ∷ []) lists k new d c.requires.within
    (subst (λ (s : List (Waiting g.row.B.Denot)). IsPermutation s (c.in-Some.first ∷ new.items)) (sym c.in-Some.ensures.items) (IsPermutation-refl (c.in-Some.first ∷ new.items)))

pub returns-clause-lists : goal.returns-clause-lists
returns-clause-lists g c =
    λ room h.
    let lists = c.args.lists.now in
    let k = c.args.level in
    let d = c.index-lists-level.result in
    let new = c.pop_front.new.self in
    record {
      four = length-set lists k new ∙ h.four;
      each = each_set (λ (j : ℕ) (l : VecDeque (Waiting g.row.B.Denot) Global). IsList room j l) lists k new
          (pop_list room k (get_or lists k d) new c.in-Some.first (h.each k d c.requires.within) c.in-Some.ensures.items c.in-Some.ensures.capacity) h.each;
    }
