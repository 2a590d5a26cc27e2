-- Turns that repeat.
use Rattle.std.proofs.Common.{◌≡◌, ◌⊎◌, ℕ, zero, suc, ◌+◌, ◌-◌, ◌<◌, ◌≤◌, ◌==◌, Option, Some, None, List, [], ◌∷◌, ◌++◌, length, take, drop, get_or, slice_get, slice_range, option_map, option_copied, count_by, sym, ap, ap₂, subst, ◌∙◌, inl, inr, refl, arith}
use Rattle.std.proofs.lemmas.Bool.{cases_eq}
use Rattle.std.proofs.lemmas.Option.{none-some, same_Some, slice_get-get_or, slice_get-map, get_or_from_slice_get, slice_get_within}
use Rattle.std.proofs.lemmas.List.{get_or-drop, get_or-take, length-drop, length-take}
use Rattle.swift_script.specs.Scripts.{ScriptView}
use denote.Bor.{Bor}
use Rattle.swift_interpreter.specs.Frames.{FrameView, frame_if}
use Rattle.swift_interpreter.specs.Turn.{EffectView}
use Rattle.swift_interpreter.specs.declared.frame.Frame.{Frame}
use Rattle.swift_journal.specs.Records.{RecordView, frame_if_lent, owned_view}
use Rattle.swift_journal.specs.declared.record.OwnedRecord.{OwnedRecord}
use Rattle.swift_report.specs.declared.report.Report.{Report}
use Rattle.swift_explorer.specs.declared.moves.Move.{Move}
use Rattle.explorer_progress.specs.declared.again.PlayedReport.{PlayedReport}
use Rattle.explorer_progress.specs.declared.hint.NoProgress.{NoProgress}
use Rattle.explorer_progress.specs.declared.hint.RepeatedTask.{RepeatedTask}
use Rattle.explorer_progress.specs.declared.repeated.Repeated.{Repeated}
use Rattle.explorer_progress.specs.declared.turns.TurnAt.{TurnAt}
use Rattle.explorer_progress.specs.Rounds.{IsRound, IsTurn, Repeats, changes_at, journal_at, runs_of, tasks_of, with_task}
use Rattle.explorer_progress.specs.HintsInside.{AllRepeat, AreRecords, AreRepeated, AreTurns, IsLimit, IsPlayed, IsRecordAt, IsSameTurn, RepeatsAt}

abbrev numbered : RecordView → ℕ → List EffectView → Option FrameView → RecordView
numbered r n es a = record r { number = n; effects = es; after = a }

lent : (o : Option (Bor Frame)) → frame_if_lent o ≡ frame_if (option_copied o)
lent None = refl
lent (Some f) = refl

-- a record that says the same as another but for its number, if its effects and its frame after the turn are that one's
pub but_number : (found : OwnedRecord) (es : List EffectView) (after : Option (Bor Frame)) (n : ℕ) → es ≡ (owned_view found).effects → option_copied after ≡ found.after
    → numbered (owned_view found) n es (frame_if_lent after) ≡ record (owned_view found) { number = n }
but_number found es after n same is = ap₂ (λ (xs : List EffectView) (a : Option FrameView). numbered (owned_view found) n xs a) same (lent after ∙ ap frame_if is)

-- a later record of a journal that was compared with an earlier one
pub same_turn : (journal : List RecordView) (before place : ℕ) (found : OwnedRecord) (later : RecordView) → before < length journal → place < length journal
    → ((d : RecordView) → owned_view found ≡ get_or journal before d) → ((d : RecordView) → get_or journal place d ≡ later) → later ≡ record (owned_view found) { number = later.number } → (owned_view found).effects ≡ []
    → IsSameTurn journal before place
same_turn journal before place found later below within is same all alone =
    let earlier = owned_view found in
    record {
      earlier = earlier;
      later = later;
      first = slice_get-get_or journal before earlier below ∙ ap Some (sym (is earlier));
      again = slice_get-get_or journal place later within ∙ ap Some (same later);
      same = all;
      alone = alone;
    }

-- the turn at a place of steps is the record that stands where it is said to
pub is_turn : (report : Report) (steps : List Move) (turns : List TurnAt) (k : ℕ) (turn : TurnAt) (r : RecordView) → AreTurns report steps turns → slice_get turns k ≡ Some turn → IsRecordAt report turn r
    → IsTurn report steps k turn.executor turn.place r
is_turn report steps turns k turn r all at written =
    let there = (all.stand k turn at).there in
    let same : there.r ≡ r = same_Some there.r r (sym there.written ∙ written) in
    let task : turn.task.0 ≡ r.task = sym there.task ∙ ap (λ (x : RecordView). x.task) same in
    record {
      written = written;
      task =
          ap (λ (xs : List ℕ). slice_get xs k) (sym all.tasks)
          ∙ slice_get-map (λ (z : TurnAt). z.task.0) turns k
          ∙ ap (option_map (λ (z : TurnAt). z.task.0)) at
          ∙ ap Some task;
      number =
          ap (λ (x : RecordView). x.number) (sym same)
          ∙ there.number
          ∙ ap (λ (t : ℕ). count_by (λ u. u == t) (take k (runs_of steps))) task;
    }

-- a turn that repeats
repeats : (script : ScriptView) (run : PlayedReport) (steps : List Move) (turns : List TurnAt) (period k : ℕ) → IsPlayed script run → AreTurns run.report steps turns → RepeatsAt run turns period k
    → Repeats script run.report steps period k
repeats script run steps turns period k played all at =
    let report = run.report in
    let e = at.earlier.executor in
    let same = at.is.turn in
    let moved : at.later.executor ≡ e = sym at.is.executor in
    let written : IsRecordAt report at.later same.later = subst (λ (x : ℕ). slice_get (journal_at report x) at.later.place ≡ Some same.later) at.is.executor same.again in
    record {
      executor = e;
      before = at.earlier.place;
      place = at.later.place;
      earlier = same.earlier;
      later = same.later;
      first = is_turn report steps turns (k - period) at.earlier same.earlier all at.first same.first;
      again = subst (λ (x : ℕ). IsTurn report steps k x at.later.place same.later) moved (is_turn report steps turns k at.later same.later all at.again written);
      same = same.same;
      alone = same.alone;
      changes = subst (λ (x : ℕ). changes_at script report x at.later.place ≡ changes_at script report e at.earlier.place) moved (at.is.changes script played);
    }

all_case : (run : PlayedReport) (turns : List TurnAt) (period from later to k : ℕ) → later ≡ from - 1 → later ≤ k → k < to → RepeatsAt run turns period later → AllRepeat run turns period from to
    → (k ≡ later) ⊎ (k ≡ later → ⊥) → RepeatsAt run turns period k
all_case run turns period from later to k is low high here rest (inl same) = subst (λ (x : ℕ). RepeatsAt run turns period x) (sym same) here
all_case run turns period from later to k is low high here rest (inr other) = rest k (omega (arith, is, low, other)) high

-- one turn more repeats, before those that do
pub all_more : (run : PlayedReport) (turns : List TurnAt) (period from later to : ℕ) → later ≡ from - 1 → RepeatsAt run turns period later → AllRepeat run turns period from to → AllRepeat run turns period later to
all_more run turns period from later to is here rest k low high = all_case run turns period from later to k is low high here rest (cases_eq k later)

-- turns that repeat from some place on, of which the first round stands before that
pub repeated : (run : PlayedReport) (turns : List TurnAt) (again to : ℕ) (found : Repeated) → 1 ≤ found.period → found.from ≡ again - found.period → AllRepeat run turns found.period again to → AreRepeated run turns to found
repeated run turns again to found some from all = record {
  some = some;
  all = λ k low high. all k (omega (arith, from, low)) high;
}

-- one record more
pub records_push : (report : Report) (turns : List TurnAt) (round : List RecordView) (turn : TurnAt) (r : RecordView) → AreRecords report turns round → IsRecordAt report turn r → AreRecords report (turns ++ turn ∷ []) (round ++ r ∷ [])
records_push report [] [] turn r are is = (is, tt)
records_push report [] (x ∷ xs) turn r are is = absurd are
records_push report (t ∷ ts) [] turn r are is = absurd are
records_push report (t ∷ ts) (x ∷ xs) turn r are is = (are.0, records_push report ts xs turn r are.1 is)

pub tasks_push : (tasks : List RepeatedTask) (round : List RecordView) (r : RecordView) → tasks_of tasks (round ++ r ∷ []) ≡ with_task (tasks_of tasks round) r
tasks_push tasks [] r = refl
tasks_push tasks (x ∷ xs) r = tasks_push (with_task tasks x) xs r

records_length : (report : Report) (turns : List TurnAt) (round : List RecordView) → AreRecords report turns round → length round ≡ length turns
records_length report [] [] are = refl
records_length report [] (x ∷ xs) are = absurd are
records_length report (t ∷ ts) [] are = absurd are
records_length report (t ∷ ts) (x ∷ xs) are = ap suc (records_length report ts xs are.1)

-- the turn of a record
record_at : (report : Report) (turns : List TurnAt) (round : List RecordView) (k : ℕ) (r : RecordView) → AreRecords report turns round → slice_get round k ≡ Some r → (turn : TurnAt) × (slice_get turns k ≡ Some turn) × IsRecordAt report turn r
record_at report [] [] k r are at = absurd (none-some r at)
record_at report [] (x ∷ xs) k r are at = absurd are
record_at report (t ∷ ts) [] k r are at = absurd are
record_at report (t ∷ ts) (x ∷ xs) zero r are at = (t, refl, subst (λ (y : RecordView). IsRecordAt report t y) (same_Some x r at) are.0)
record_at report (t ∷ ts) (x ∷ xs) (suc k) r are at = record_at report ts xs k r are.1 at

-- an element of a part of a list, in the list
in_range : {X : Type 0} (xs : List X) (from to k : ℕ) (x : X) → slice_get (slice_range xs from to) k ≡ Some x → slice_get xs (from + k) ≡ Some x
in_range xs from to k x at =
    let short : k < length (slice_range xs from to) = slice_get_within (slice_range xs from to) k x at in
    let below : k < to - from = omega (arith, short, length-take (to - from) (drop from xs)) in
    let within : from + k < length xs = omega (arith, short, length-take (to - from) (drop from xs), length-drop from xs) in
    slice_get-get_or xs (from + k) x within
    ∙ ap Some (sym (get_or-drop from xs k x) ∙ sym (get_or-take (to - from) (drop from xs) k x below) ∙ get_or_from_slice_get (slice_range xs from to) k x x at)

-- the turns of a round, and those that repeat it
pub is_round : (script : ScriptView) (run : PlayedReport) (whole : List Move) (turns : List TurnAt) (to : ℕ) (found : Repeated) (round : List RecordView) (last : TurnAt) (hint : NoProgress)
    → AreTurns run.report whole turns → IsLimit run.report turns to → AreRepeated run turns to found → IsPlayed script run
    → found.from + found.period ≤ length turns → found.from + found.period + length run.report.endings.items ≤ to
    → AreRecords run.report (slice_range turns found.from (found.from + found.period)) round
    → slice_get turns (found.from + found.period - 1) ≡ Some last
    → hint.turns ≡ found.period → hint.tasks.items ≡ tasks_of [] round → hint.schedule.items ≡ take (last.step + 1) whole
    → IsRound script run.report whole hint
is_round script run whole turns to found round last hint all limit repeat played within long are at its_turns its_tasks its_steps =
    let report = run.report in
    let from = found.from in
    let period = found.period in
    let part = slice_range turns from (from + period) in
    let upto : length (runs_of hint.schedule.items) ≡ (from + period - 1) + 1 = ap (λ (xs : List Move). length (runs_of xs)) its_steps ∙ (all.stand (from + period - 1) last at).upto in
    let some : 1 ≤ period = repeat.some in
    let many : length round ≡ period = records_length report part round are ∙ (omega (arith, within, length-take (from + period - from) (drop from turns), length-drop from turns)) in
    record {
      some = omega (arith, some, its_turns);
      from = from;
      last = omega (arith, upto, some, its_turns);
      round = round;
      many = omega (arith, many, its_turns);
      turns = λ k r is.
          let found_at = record_at report part round k r are is in
          (found_at.0.executor, found_at.0.place, is_turn report whole turns (from + k) found_at.0 r all (in_range turns from (from + period) k found_at.0 found_at.1) found_at.2);
      tasks = its_tasks;
      to = to;
      long = omega (arith, long, its_turns);
      again = λ k low high. subst (λ (n : ℕ). Repeats script report whole n k) (sym its_turns) (repeats script run whole turns period k played all (repeat.all k (omega (arith, low, its_turns)) high));
      limit = limit.r;
      ends = (limit.turn.executor, limit.turn.place, is_turn report whole turns to limit.turn limit.r all limit.there limit.written);
      at_limit = limit.is;
    }
