use Rattle.swift_shared_book.proofs.Prelude.{Some}
use Rattle.swift_shared_book.proofs.lock.Lock.publish.Given as goal

abbrev pub ghosts-publish_named : goal.ghosts-publish_named
ghosts-publish_named g a = record { image = Some (g.T.Locked.image a.value.now) }
