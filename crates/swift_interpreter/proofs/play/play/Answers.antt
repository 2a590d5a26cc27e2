use Rattle.swift_interpreter.proofs.Prelude.{◌≡◌, ℕ, ◌+◌, ◌-◌, ◌∙◌, ap, sym, arith, rules, lent, state_of, exit_view, first, act, turn, yielding, TurnState}
use Rattle.swift_interpreter.proofs.Turns.{turn_on, turn_out, turn_limit}
use Rattle.swift_interpreter.proofs.play.play.Goals as goal

pub returns-then-gave-clause-played : goal.returns-then-gave-clause-played
returns-then-gave-clause-played c = λ code at follows.
    let g = lent c.args.outer.now c.args.env.now in
    let left = c.args.limit - c.loop-used.used in
    let one : left ≡ (left - 1) + 1 = omega arith in
    let same = c.in_ok-done.ensures.other c.if-done.false in
    turn_out g left (left - 1) (state_of at c.step_at_once.new.turn) (state_of at c.settle.new.turn) (state_of at c.gives_way-gave.new.turn) yielding one (c.settle.ensures.settled code at follows) (c.gives_way-gave.ensures.done c.if-gave.true g code at follows)
    ∙ (ap (λ (t : TurnState). turn g left (state_of at t)) same ∙ c.loop-used.invariant.same code at follows)

pub returns-in-Some-clause-played : goal.returns-in-Some-clause-played
returns-in-Some-clause-played c = λ code at follows.
    let g = lent c.args.outer.now c.args.env.now in
    let left = c.args.limit - c.loop-used.used in
    let one : left ≡ (left - 1) + 1 = omega arith in
    let same = c.in_ok-done.ensures.other c.if-done.false in
    let still = c.gives_way-gave.ensures.other c.if-gave.false in
    let out = rw c.in-Some.is at c.in_ok-exit.ensures.next in
    turn_out g left (left - 1) (state_of at c.step_at_once.new.turn) (state_of at c.settle.new.turn) (state_of at c.step.new.turn) (exit_view c.in-Some.exit) one (c.settle.ensures.settled code at follows) (out code at follows ∙ ap (λ (t : TurnState). act g (first (at t.frame.instruction)) (state_of at t)) still)
    ∙ (ap (λ (t : TurnState). turn g left (state_of at t)) same ∙ c.loop-used.invariant.same code at follows)

pub loop-used-preserved-then-done : goal.loop-used-preserved-then-done
loop-used-preserved-then-done c =
    let g = lent c.args.outer.now c.args.env.now in
    let left = c.args.limit - c.loop-used.used in
    let less = c.args.limit - (c.loop-used.used + 1) in
    let one : left ≡ less + 1 = omega arith in
    record {
      same = λ code at follows.
          let moved = c.in_ok-done.ensures.done c.if-done.true g code at follows in
          turn_on g left less (state_of at c.loop-used.turn) (state_of at c.loop-used.turn) (state_of at c.step_at_once.new.turn) one (sym moved.0) moved.1
          ∙ c.loop-used.invariant.same code at follows;
      back = c.step_at_once.ensures.back ∙ c.loop-used.invariant.back;
      method = c.step_at_once.ensures.method ∙ c.loop-used.invariant.method;
    }

pub loop-used-preserved : goal.loop-used-preserved
loop-used-preserved c =
    let g = lent c.args.outer.now c.args.env.now in
    let left = c.args.limit - c.loop-used.used in
    let less = c.args.limit - (c.loop-used.used + 1) in
    let one : left ≡ less + 1 = omega arith in
    let same = c.in_ok-done.ensures.other c.if-done.false in
    let still = c.gives_way-gave.ensures.other c.if-gave.false in
    let further = rw c.in_default.is at c.in_ok-exit.ensures.next in
    record {
      same = λ code at follows.
          turn_on g left less (state_of at c.step_at_once.new.turn) (state_of at c.settle.new.turn) (state_of at c.step.new.turn) one (c.settle.ensures.settled code at follows) (further code at follows ∙ ap (λ (t : TurnState). act g (first (at t.frame.instruction)) (state_of at t)) still)
          ∙ (ap (λ (t : TurnState). turn g left (state_of at t)) same ∙ c.loop-used.invariant.same code at follows);
      back = search rules;
      method = c.step.ensures.method ∙ c.gives_way-gave.ensures.method ∙ c.settle.ensures.method ∙ c.step_at_once.ensures.method ∙ c.loop-used.invariant.method;
    }

pub returns-clause-played : goal.returns-clause-played
returns-clause-played c = λ code at follows.
    let g = lent c.args.outer.now c.args.env.now in
    let s = state_of at c.loop-used.turn in
    let none : 0 ≡ c.args.limit - c.loop-used.used = omega arith in
    turn_limit g s (state_of at c.settle-2.new.turn) _ (c.settle-2.ensures.settled code at follows) (c.end_of_steps.ensures.end code at follows)
    ∙ ap (λ (n : ℕ). turn g n s) none ∙ c.loop-used.invariant.same code at follows
