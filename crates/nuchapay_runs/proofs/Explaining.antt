-- The text that explains a turn.
use Rattle.nuchapay_runs.proofs.Prelude.{◌≡◌, ℕ, ◌<◌, false, List, [], subst, ◌∙◌, Contains, IfNone, IfOk, IfSome, None, Ok, Err, Option, Result, Some, slice_get, Contains-get_or, Ending, Origin, ScriptView, CheckpointRoomView, RecordView, Report, Explains, IsInJournalOf, IsKnown, IsLast, IsNotFolded, IsWhyAt, Says, KnownTurn, why_text, Text}
use Rattle.std.proofs.lemmas.Option.{get_or_from_slice_get, slice_get_within}
use Rattle.std.specs.Global.{Vec}
use Rattle.run_pictures.specs.LastTurns.{IsLastTurn, IsOfOther}
use Rattle.nuchapay_runs.specs.declared.explained.Explained.{Explained}
use Rattle.nuchapay_runs.specs.declared.explained.Explained.TheVariants as said
use Rattle.nuchapay_runs.proofs.Joined.{whole}
use Rattle.nuchapay_runs.proofs.Standing.{turn_at}

pub is_last : (journal : List RecordView) (place : ℕ) (o : Option ℕ) → IfSome o (IsLastTurn journal place) → IfNone o ((earlier : ℕ) → earlier < place → IsOfOther journal place earlier)
    → IsLast journal place o
is_last journal place None some none = none
is_last journal place (Some last) some none = some

-- all that was written, where there was memory for it
pub is_why : {E : Type 0} (p : ScriptView) (es : List (Origin × Ending)) (e : ℕ) (c : CheckpointRoomView) (journal : List RecordView) (place : ℕ) (k : KnownTurn) (a b : Text) (r : Result (Vec ℕ) E)
    → IsKnown p es e c journal place k → Says a b (why_text k) → a.bytes.items ≡ [] → IfOk r (λ _. b.is_cut ≡ false) → IfOk r (λ bytes. bytes.items ≡ b.bytes.items)
    → IfOk r (λ text. IsWhyAt p es e c journal place text.items)
is_why p es e c journal place k a b (Ok text) known says empty uncut bytes = (k, known, bytes ∙ whole says empty uncut)
is_why p es e c journal place k a b (Err d) known says empty uncut bytes = uncut

contains_read : {X : Type 0} (xs : List X) (k : ℕ) (x : X) → slice_get xs k ≡ Some x → Contains xs x
contains_read xs k x is = subst (λ (y : _). Contains xs y) (get_or_from_slice_get xs k x x is) (Contains-get_or xs k x (slice_get_within xs k x is))

-- what is said of a turn that stands in a journal is not that it was folded
pub explains_there : (report : Report) (e place task number : ℕ) (x : Explained) → IsInJournalOf report.journals.items e place task number → IsNotFolded x → Explains report task number x
explains_there report e place task number (said.Found text) there not =
    (there.journal, contains_read report.journals.items e there.journal there.is, turn_at there.journal place task number there.at.within (λ d. (there.at.task_is d, there.at.number_is d)))
explains_there report e place task number said.Folded there not = absurd not
explains_there report e place task number said.Nowhere there not = tt
