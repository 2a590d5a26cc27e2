use Rattle.swift_certificate.proofs.Prelude.{◌≡◌, ◌<◌, ℕ, true, opened_by, is_closed}
use Rattle.swift_certificate.proofs.ends.have_closed.Given as goal

abbrev pub invariant-loop-place : goal.invariant-loop-place
invariant-loop-place l = (t g : ℕ) → t < l.place → g < opened_by t l.book.log → is_closed t g l.book.log ≡ true
