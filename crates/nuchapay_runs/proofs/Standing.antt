-- A turn stands at a place.
use Rattle.nuchapay_runs.proofs.Prelude.{◌≡◌, ◌<◌, ℕ, List, length, get_or, Contains-get_or, RecordView, FoldedView, HasFolded, HasTurn, first_of}

pub turn_at : (rs : List RecordView) (k task number : ℕ) → k < length rs → ((d : RecordView) → ((get_or rs k d).task ≡ task) × ((get_or rs k d).number ≡ number)) → HasTurn rs task number
turn_at rs k task number lt is = (let d = first_of rs k lt in (get_or rs k d, Contains-get_or rs k d lt, (is d).0, (is d).1))

pub folded_at : (fs : List FoldedView) (k task number : ℕ) → k < length fs → ((d : FoldedView) → ((get_or fs k d).task ≡ task) × ((get_or fs k d).number ≡ number)) → HasFolded fs task number
folded_at fs k task number lt is = (let d = first_of fs k lt in (get_or fs k d, Contains-get_or fs k d lt, (is d).0, (is d).1))
