use Rattle.swift_explorer.proofs.Prelude.{rules, ◌≡◌, ◌∙◌, ℕ, length, subst, ap, arith, length_push, FollowsCode, code_at, method_code}
use Rattle.swift_explorer.proofs.MarksRead.{have_push}
use Rattle.swift_explorer.proofs.marks.methods_marks.Goals as goal

pub loop-place-preserved : goal.loop-place-preserved
loop-place-preserved c =
    let script = c.args.script.now in
    let before = c.loop-place.invariant in
    let old = c.loop-place.marks.items in
    let own = c.in_ok-own.own in
    let pushed = c.in_ok-push.ensures.items in
    let lines = c.instructions.result.now in
    let place : c.in-Ok.number ≡ length old = search rules in
    record {
      many = (let one = length_push old own in let was = before.many in ap length pushed ∙ omega (arith, one, was));
      have = have_push c.args.kind script old c.push.new.self.items own lines pushed before.have c.in_ok-own.ensures (subst (λ (m : ℕ). FollowsCode lines (method_code script m) (code_at (method_code script m))) place c.instructions.ensures);
    }

pub loop-place-init : goal.loop-place-init
loop-place-init c = search rules
