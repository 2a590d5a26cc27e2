use Rattle.swift_certificate.proofs.Prelude.{◌≡◌, ◌<◌, ℕ, Some, slice_get, Ending, Origin, life_of}
use Rattle.swift_certificate.proofs.ends.have_ended.Given as goal

abbrev pub invariant-loop-place : goal.invariant-loop-place
invariant-loop-place l = (t : ℕ) (x : Origin × Ending) → t < l.place → slice_get l.endings t ≡ Some x → ((life_of t l.book.log).origin ≡ Some x.0) × ((life_of t l.book.log).ending ≡ Some x.1)
