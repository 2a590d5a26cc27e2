use Rattle.swift_workers.proofs.shared_pool.SharedPool.give.Given as goal

abbrev pub ghosts-give_named : goal.ghosts-give_named
ghosts-give_named a = record { call = record { worker = a.worker; ends = a.ends; put = a.put.now; told = a.told; next = a.next } }
