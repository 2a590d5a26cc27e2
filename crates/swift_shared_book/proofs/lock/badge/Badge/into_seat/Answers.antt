use Rattle.swift_shared_book.proofs.Prelude.{ap, ◌∙◌, BadgeView}
use Rattle.swift_shared_book.proofs.LockCalls.{one_view}
use Rattle.swift_shared_book.proofs.lock.badge.Badge.into_seat.Goals as goal

pub into_seat-requires : goal.into_seat-requires
into_seat-requires g c =
    let known = c.requires in one_view _ known.0 (ap (λ (b : BadgeView _). b.knows) c.self.view_is ∙ known.1)
