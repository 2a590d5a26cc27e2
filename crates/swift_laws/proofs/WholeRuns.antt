-- Each turn of a run is known by its whole report.
use Rattle.swift_laws.proofs.Prelude.{◌≡◌, ℕ, zero, suc, ◌<◌, List, [], ◌∷◌, ◌++◌, length, map, refl, sym, subst, ap, ◌∙◌, arith, Some, slice_get, none-some, same_Some, slice_get_within, ScriptView, Event, FoldedView, RecordView, ReportView, BeginsIn, HasTurn, TurnPlace, in_checkpoint, in_journal, turns_of}
use Rattle.swift_journal.specs.Checkpoints.{folded_of}
use Rattle.swift_course.specs.Whole.{AreFoldedInto, HasWhole}
use Rattle.swift_course.proofs.Starts.{none_folded_at}
use Rattle.swift_laws.specs.Whole.{AllTurnsAreKnown, FoldedTurnsAreKnown, IsKnownTurn}
use Rattle.swift_laws.proofs.HistoriesApplied.{applied_stands, there}
use Rattle.swift_laws.proofs.HistoriesBegun.{begins_by}
use Rattle.swift_laws.proofs.HistoriesLocals.{finds_inherited}
use Rattle.swift_laws.proofs.HistoriesOnce.{stands_once}
use Rattle.swift_laws.proofs.OpenReports.{turns_stand}

same_executor : (e i k j : ℕ) → in_journal e i ≡ in_journal k j → e ≡ k
same_executor e i k j is = cc is

same_place : (e i k j : ℕ) → in_journal e i ≡ in_journal k j → i ≡ j
same_place e i k j is = cc is

module _ (script : ScriptView) (report : ReportView) (w : HasWhole script report) where
  known_at : (t n : ℕ) (p : TurnPlace) → HasTurn w.whole p t n → IsKnownTurn script report w t n
  known_at t n (in_journal e i) has =
      let r = has.0 in
      let task = has.2 in
      let number = has.3 in
      let begun : BeginsIn script w.whole.log r.task r.number r.env = begins_by script w.whole e i r w.legal.legal has.1 in
      let of_turn : BeginsIn script w.whole.log t n r.env = subst (λ (x : ℕ). BeginsIn script w.whole.log t x r.env) number (subst (λ (x : ℕ). BeginsIn script w.whole.log x r.number r.env) task begun) in
      record {
        executor = e;
        place = i;
        turn = r;
        is = has.1;
        task = task;
        number = number;
        begins = subst (λ (log : List Event). BeginsIn script log t n r.env) (sym w.fold.log) of_turn;
        finds = finds_inherited script w.whole e i r w.legal.legal has.1;
        once = λ k j q is_q task_q number_q.
            (let same = stands_once script w.whole (in_journal k j) (in_journal e i) t n w.legal.legal (q, is_q, task_q, number_q) has in (same_executor k j e i same, same_place k j e i same));
      }
  known_at t n (in_checkpoint e i) has = grind (arith, slice_get, none-some, none_folded_at)

pub all_known : AllTurnsAreKnown
all_known script report w t n accepted lt =
    let stands = turns_stand applied_stands script w.whole t n accepted w.legal.legal (subst (λ (log : List Event). n < length (turns_of t log)) w.fold.log lt) in
    known_at script report w t n stands.0 stands.1

-- what a map has at a place
mapped : {A B : Type 0} (f : A → B) (xs : List A) (i : ℕ) (y : B) → slice_get (map f xs) i ≡ Some y → (x : A) × (slice_get xs i ≡ Some x) × (y ≡ f x)
mapped f [] i y at = absurd (none-some y at)
mapped f (x ∷ xs) zero y at = (x, refl, sym (same_Some (f x) y at))
mapped f (x ∷ xs) (suc i) y at = mapped f xs i y at

in_front : {A : Type 0} (xs ys : List A) (i : ℕ) (x : A) → slice_get xs i ≡ Some x → slice_get (xs ++ ys) i ≡ Some x
in_front [] ys i x at = absurd (none-some x at)
in_front (y ∷ xs) ys zero x at = at
in_front (y ∷ xs) ys (suc i) x at = in_front xs ys i x at

pub folded_known : FoldedTurnsAreKnown
folded_known script report w e i f is =
    let fold = w.fold in
    let lt : e < length report.checkpoints = slice_get_within report.checkpoints e is.checkpoint is.is_checkpoint in
    let turns = there w.whole.journals e (let n = fold.executors in let m = fold.checkpoints in omega (arith, lt, n, m)) in
    let journal = there report.journals e (let m = fold.checkpoints in omega (arith, lt, m)) in
    let into : AreFoldedInto script e turns.0 journal.0 is.checkpoint = fold.turns e turns.0 journal.0 is.checkpoint turns.1 journal.1 is.is_checkpoint in
    let m = mapped folded_of into.past i f (ap (λ (fs : List FoldedView). slice_get fs i) (sym into.folded) ∙ is.stands) in
    let at : slice_get turns.0 i ≡ Some m.0 = ap (λ (rs : List RecordView). slice_get rs i) into.parts ∙ in_front into.past journal.0 i m.0 m.1 in
    (m.0, record { journal = turns.0; is_journal = turns.1; stands = at }, m.2)
