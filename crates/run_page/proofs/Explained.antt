-- What is told of turns, one more at a time.
use Rattle.run_page.proofs.Prelude.{◌≡◌, ℕ, ◌+◌, ◌<◌, List, ◌++◌, length, drop, get_or, sym, ap, refl, subst, ◌∙◌, append_assoc, append-nil, Option, Some, None, Result, Ok, Err, OnOk, ScriptView, TaskId, Event, Report, Explains, Tells, AppendsTold, AreTold, ExplainedTurn, IsTold, IsToldOfOne, all_explained_json, applied_turn, applied_turns, before_others, explained_json, told_of}
use Rattle.std.specs.declared.vec.Vec.{Vec}
use Rattle.std.specs.declared.alloc.Global.{Global}
use Rattle.std.proofs.lemmas.Grind.{flat_map-append}
use Rattle.nuchapay_runs.specs.declared.explained.Explained.TheVariants as said
use Rattle.run_page.proofs.Applied.{applied_from}

-- what explains a turn is told
pub one : {A E : Type 0} (result : Result A E) (p : ScriptView) (r : Report) (task number : ℕ) (text : Vec ℕ Global) (old new bytes : List ℕ) → Explains r task number (said.Found text) → Tells p r task number (said.Found text) → bytes ≡ text.items →
    OnOk result (new ≡ old ++ explained_json task number bytes) → OnOk result (AppendsTold (IsTold p r task number) all_explained_json old new)
one (Ok u) p r task number text old new bytes is tells same appended =
    let json = explained_json task number in (
      told_of task number (said.Found text),
      (said.Found text, is, tells, refl),
      appended ∙ ap (λ (xs : List ℕ). old ++ json xs) same ∙ ap (λ (xs : List ℕ). old ++ xs) (sym (append-nil (json text.items))),
    )
one (Err u) p r task number text old new bytes is tells same appended = tt

-- what is told of a turn, if there is one, stands before what is told of others
before : (p : ScriptView) (r : Report) (o : Option (TaskId × ℕ)) (turns : List (TaskId × ℕ)) (first rest : List ExplainedTurn) → IsToldOfOne p r o first → AreTold p r turns rest → AreTold p r (before_others o turns) (first ++ rest)
before p r (Some turn) turns first rest is others = (first, rest, is, others, refl)
before p r None turns first rest is others = subst (λ (xs : List ExplainedTurn). AreTold p r turns (xs ++ rest)) (sym is) others

-- a step of the loop that tells them
pub more : (p : ScriptView) (r : Report) (k : ℕ) (es : List Event) (e : Event) (o : Option (TaskId × ℕ)) (old new whole : List ℕ) (rest : List ExplainedTurn) →
    k < length es → ((d : Event) → e ≡ get_or es k d) → o ≡ applied_turn e → AppendsTold (IsToldOfOne p r o) all_explained_json old new →
    AreTold p r (applied_turns (drop (k + 1) es)) rest → whole ≡ new ++ all_explained_json rest → AppendsTold (AreTold p r (applied_turns (drop k es))) all_explained_json old whole
more p r k es e o old new whole rest lt is turn told others written =
    let first = told.0 in
    let turns = applied_turns (drop (k + 1) es) in
    let all : AreTold p r (before_others o turns) (first ++ rest) = before p r o turns first rest told.1 others in
    let from : before_others o turns ≡ applied_turns (drop k es) = ap (λ (x : Option (TaskId × ℕ)). before_others x turns) turn ∙ sym (applied_from k es e lt is) in (
      first ++ rest,
      subst (λ (ts : List (TaskId × ℕ)). AreTold p r ts (first ++ rest)) from all,
      written ∙ ap (λ (xs : List ℕ). xs ++ all_explained_json rest) told.2 ∙ append_assoc old (all_explained_json first) (all_explained_json rest)
          ∙ ap (λ (xs : List ℕ). old ++ xs) (sym (flat_map-append (λ (t : ExplainedTurn). explained_json t.task t.number t.text.items) first rest)),
    )
