use Rattle.swift_interpreter.proofs.Prelude.{◌≡◌, ◌+◌, Some, None, sym, ap, ◌∙◌, arith, slice_get, Code, TurnStateView, settled, state_of, unbound}
use Rattle.swift_interpreter.proofs.Settling.{ends_ahead, settled_none, unbind_there, none_there, few_ends}
use Rattle.swift_interpreter.proofs.settle.settle.Goals as goal

pub returns-in_default-clause-settled : goal.returns-in_default-clause-settled
returns-in_default-clause-settled c = λ body at follows.
    let ins = c.args.instructions.now in
    let here = c.loop-ended.turn.frame.instruction in
    let none : unbound (slice_get ins here) ≡ None = sym c.in_default.ensures in
    sym (settled_none (at here) (state_of at c.loop-ended.turn) (none_there ins body at follows here none))
    ∙ c.loop-ended.invariant.same body at follows

pub loop-ended-preserved : goal.loop-ended-preserved
loop-ended-preserved c =
    let ins = c.args.instructions.now in
    let here = c.loop-ended.turn.frame.instruction in
    let next = c.in-Some.next in
    let some : unbound (slice_get ins here) ≡ Some next = sym c.in-Some.ensures in
    record {
      same = λ body at follows.
          let there = unbind_there ins body at follows here next some in
          ap (λ (s : TurnStateView). settled s.todo s) (c.unbind.ensures.state at)
          ∙ sym (ap (λ (code : Code). settled code (state_of at c.loop-ended.turn)) there)
          ∙ c.loop-ended.invariant.same body at follows;
      ends = λ body at follows.
          let one : ends_ahead (at here) ≡ ends_ahead (at next) + 1 = ap ends_ahead (unbind_there ins body at follows here next some) in
          let same : ends_ahead (at c.unbind.new.turn.frame.instruction) ≡ ends_ahead (at next) = ap (λ (s : TurnStateView). ends_ahead s.todo) (c.unbind.ensures.state at) in
          let before = c.loop-ended.invariant.ends body at follows in
          omega arith;
      fields = c.unbind.ensures.fields ∙ c.loop-ended.invariant.fields;
      method = c.unbind.ensures.method ∙ c.loop-ended.invariant.method;
    }

pub returns-clause-settled : goal.returns-clause-settled
returns-clause-settled c = λ body at follows.
    let here = c.loop-ended.turn.frame.instruction in
    let few = few_ends c.args.instructions.now body at follows c.args.turn.now.frame.instruction in
    let before = c.loop-ended.invariant.ends body at follows in
    let none : ends_ahead (at here) ≡ 0 = omega arith in
    sym (settled_none (at here) (state_of at c.loop-ended.turn) none) ∙ c.loop-ended.invariant.same body at follows
