use Rattle.std.proofs.Common.{◌≡◌, ℕ, ◌≤◌, ◌+◌, ◌-◌, ◌∙◌, List, [], Some, length, slice_get, slice_range, subst, ap, refl, arith}
use Rattle.std.specs.Prelude.{IfSome, Option}
use Rattle.std.specs.Global.{Vec}
use Rattle.std.proofs.lemmas.Option.{slice_get_read}
use Rattle.swift_journal.specs.Records.{RecordView}
use Rattle.explorer_progress.specs.declared.hint.RepeatedTask.{RepeatedTask}
use Rattle.explorer_progress.specs.HintsInside.{AreRecords}
use Rattle.explorer_progress.specs.Rounds.{tasks_of}
use Rattle.explorer_progress.proofs.Rounds.{is_round}
use Rattle.explorer_progress.proofs.hint.hint_at.Goals as goal

pub returns-in_ok-from_slice-in-Some-get : goal.returns-in_ok-from_slice-in-Some-get
returns-in_ok-from_slice-in-Some-get c =
    let run = c.args.run.now in
    let turns = c.args.turns.now in
    let whole = c.args.schedule.now in
    let found = c.args.repeated in
    let upto = found.from + found.period in
    let last = c.in-Some-get.last.now in
    let is : c.args.round ≡ upto = c.requires.round in
    let made : (round : List RecordView) × AreRecords run.report (slice_range turns found.from c.args.round) round × (c.in-Some.tasks.items ≡ tasks_of [] round) =
    subst (λ (o : Option (Vec RepeatedTask)). IfSome o (λ tasks. (round : List RecordView) × AreRecords run.report (slice_range turns found.from c.args.round) round × (tasks.items ≡ tasks_of [] round))) c.in-Some.is c.in_ok-tasks.ensures in
    let are = subst (λ (n : ℕ). AreRecords run.report (slice_range turns found.from n) made.0) is made.1 in
    let at = slice_get_read turns (length turns) _ last refl c.in-Some-get.ensures.lookup.3.0 c.in-Some-get.ensures.lookup.1 in
    let at_last : slice_get turns (upto - 1) ≡ Some last = subst (λ (n : ℕ). slice_get turns n ≡ Some last) (c.saturating_sub.ensures ∙ ap (λ (n : ℕ). n - 1) is) at in
    let steps = c.in_ok-steps_to-in-Some-get.ensures.upto (c.requires.turns.stand (upto - 1) last at_last).within in
    let within : upto ≤ length turns = omega (arith, is, c.requires.within) in
    let long : upto + length run.report.endings.items ≤ c.args.end = omega (arith, is, c.requires.long) in
    record {
      begins = c.in_ok-steps_to-in-Some-get.ensures.begins;
      endings = c.in_ok-from_slice-in-Some-get.ensures.items ∙ c.deref.ensures.value;
      round = λ script played. is_round script run whole turns c.args.end found made.0 last _ c.requires.turns c.requires.limit c.requires.repeated played within long are at_last refl made.2 steps;
    }
