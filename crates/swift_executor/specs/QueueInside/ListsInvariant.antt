-- What the fields of the lists keep.
use Rattle.swift_executor.specs.declared.queue.lists.PriorityLists.TheInside.{Inside}
use Rattle.swift_executor.specs.QueueInside.Lists.{AreLists}

-- there is a list for each priority, each with this room
abbrev pub ListsInvariant : {B : Type 0} → Inside B → Type 0
ListsInvariant x = AreLists x.room x.lists
