-- What the fields of a queue keep.
use Rattle.swift_executor.specs.QueueInside.ArrivalOf.{AreArrivals}
use Rattle.swift_executor.specs.Queue.{IsOrderly}
use Rattle.swift_executor.specs.declared.queue.Queue.TheInside.{Inside}

-- the queue is orderly, and the arrival numbers that are noted are those of its jobs
pub record QueueInvariant {B : Type 0} (q : Inside B) : Type 0 where
  pub orderly : IsOrderly (record { jobs = q.lists.jobs; room = q.lists.room; arrived = q.arrived })
  pub arrivals : AreArrivals q.arrival_of.items q.lists.jobs
