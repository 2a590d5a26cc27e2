use Rattle.swift_executor.proofs.queue.lists.PriorityLists.insert.Goals as goal

pub invariant_of-self : goal.invariant_of-self
invariant_of-self g c = c.insert_by_priority.ensures.lists c.self.inside.room c.self.invariant
