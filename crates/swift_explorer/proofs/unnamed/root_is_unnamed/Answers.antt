use Rattle.swift_explorer.proofs.Prelude.{rules, ◌≡◌, ℕ, subst, arith, true, refl, code_at, method_code, code_spares}
use Rattle.swift_reordering.proofs.Telling.{instructions_spare}
use Rattle.swift_explorer.proofs.UnnamedRoots.{all_spare_root, one_spares_more}
use Rattle.swift_explorer.proofs.unnamed.root_is_unnamed.Goals as goal

pub loop-place-init : goal.loop-place-init
loop-place-init c = λ m lt. absurd (omega (arith, lt))

pub loop-place-preserved : goal.loop-place-preserved
loop-place-preserved c =
    let script = c.args.script.now in
    let number = c.in-Ok.number in
    let place : number ≡ c.loop-place.place = search rules in
    one_spares_more script c.args.task.0 c.loop-place.place c.loop-place.invariant
    (subst (λ (m : ℕ). code_spares c.args.task.0 (method_code script m) ≡ true) place
    (instructions_spare c.args.task.0 c.instructions.result.now (method_code script number) (code_at (method_code script number)) c.instructions.ensures (c.if-not-all_spare.ensures refl)))

pub returns : goal.returns
returns c = λ _. all_spare_root c.args.script.now c.args.task.0 c.loop-place.place (omega (arith, c.if-task-root_count.false, c.root_count.ensures)) (omega (arith, c.loop-place-test.false, c.method_count-place-end.ensures)) c.loop-place.invariant
