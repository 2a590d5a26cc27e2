use Rattle.explorer_answers.proofs.Prelude.{◌≡◌, ℤ, ◌+◌, ◌++◌, List, Vec, map, ap, ◌∙◌, codes, decimal, Global, rows_of, Verdict, verdict_at, names_text}
use Rattle.swift_explorer.specs.FoundText.{schedule_text}
use Rattle.expectations.specs.FailureText.{failure_text}
use Rattle.explorer_answers.proofs.Pieces.{five_pieces}
use Rattle.explorer_answers.proofs.text.put_fails.Goals as goal

pub returns : goal.returns
returns c =
    let p = c.args.script.now in
    let e = c.args.expectation.now in
    let o = c.args.outcome.now in
    let x1 = c.put_place.new.out.items in
    let views = λ (all : List (Vec (Vec ℤ Global) Global)). map (λ (rows : Vec (Vec ℤ Global) Global). rows_of rows.items) all in
    let failed : c.put_failure.new.out.items ≡ x1 ++ failure_text p o.endings.items (views o.fields.items) e (verdict_at p e o) =
    c.in_ok-put_failure.ensures
    ∙ ap (λ (es : List _). x1 ++ failure_text p es (views c.deref-2.result.now) e c.args.verdict) c.deref.ensures.value
    ∙ ap (λ (fs : List (Vec (Vec ℤ Global) Global)). x1 ++ failure_text p o.endings.items (views fs) e c.args.verdict) c.deref-2.ensures.value
    ∙ ap (λ (v : Verdict). x1 ++ failure_text p o.endings.items (views o.fields.items) e v) c.requires.verdict in
    five_pieces c.extend_from_slice.result c.args.out.now.items x1 c.put_failure.new.out.items c.put_schedule.new.out.items c.put_names.new.out.items c.extend_from_slice.new.self.items
    (codes "fails in outcome " ++ decimal (c.args.place + 1) ++ codes ": ") (failure_text p o.endings.items (views o.fields.items) e (verdict_at p e o)) (schedule_text o.schedule.items) (names_text p o.endings.items) (codes "\n")
    c.in_ok-put_place.ensures failed
    (c.in_ok-put_schedule.ensures ∙ ap (λ (ms : List _). c.put_failure.new.out.items ++ schedule_text ms) c.deref-3.ensures.value)
    (c.in_ok-put_names.ensures ∙ ap (λ (es : List _). c.put_schedule.new.out.items ++ names_text p es) c.deref-4.ensures.value)
    c.extend_from_slice.ensures.items
