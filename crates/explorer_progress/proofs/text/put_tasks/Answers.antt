use Rattle.std.proofs.Common.{◌≡◌, ◌<◌, ℕ, ◌+◌, ◌++◌, List, drop, length, sym, ap, ◌∙◌, append_assoc}
use Rattle.std.specs.Prelude.{get_or}
use Rattle.std.proofs.lemmas.List.{at_drop_more}
use Rattle.swift_types.specs.declared.outcome.Ending.{Ending}
use Rattle.swift_events.specs.declared.life.Origin.{Origin}
use Rattle.swift_script.specs.Scripts.{ScriptView}
use Rattle.explorer_progress.specs.declared.hint.RepeatedTask.{RepeatedTask}
use Rattle.explorer_progress.specs.HintText.{listed_text, tasks_text}
use Rattle.explorer_progress.proofs.text.put_tasks.Goals as goal

-- one task more
one_more : (p : ScriptView) (es : List (Origin × Ending)) (ts : List RepeatedTask) (k many : ℕ) (d : RepeatedTask) (old new all : List ℕ) → k < length ts
    → new ≡ old ++ listed_text p es k many (get_or ts k d) → old ++ tasks_text p es k many (drop k ts) ≡ all → new ++ tasks_text p es (k + 1) many (drop (k + 1) ts) ≡ all
one_more p es ts k many d old new all within is upto =
    let rest = tasks_text p es (k + 1) many (drop (k + 1) ts) in
    ap (λ (xs : List ℕ). xs ++ rest) is
    ∙ append_assoc old (listed_text p es k many (get_or ts k d)) rest
    ∙ sym (at_drop_more (λ (l : List RepeatedTask). old ++ tasks_text p es k many l) ts k d within)
    ∙ upto

pub loop-place-preserved : goal.loop-place-preserved
loop-place-preserved c =
    one_more c.args.script.now c.args.endings.now c.args.tasks.now c.loop-place.place c.args.many _ c.loop-place.out.items c.put_listed.new.out.items _
    c.loop-place-test.true c.in_ok-put_listed.ensures c.loop-place.invariant
