use Rattle.std.proofs.Common.{sym}
use Rattle.swift_lowering.proofs.OneValue.{always, lone_before_more, lone_given, lone_let_go, lone_of_no_value, lone_of_none, never}
use Rattle.swift_lowering.proofs.alone.lone_value.Goals as goal

pub returns-in_default : goal.returns-in_default
returns-in_default c = lone_of_none (sym c.in_default.ensures)

pub returns-then-stmt-ne0 : goal.returns-then-stmt-ne0
returns-then-stmt-ne0 c = lone_before_more (sym c.in-Some.ensures) c.if-stmt-ne0.true

pub returns-in_default-value_of : goal.returns-in_default-value_of
returns-in_default-value_of c = lone_of_no_value (sym c.in-Some.ensures) (sym c.in_default-value_of.ensures)

pub returns-then-is_said : goal.returns-then-is_said
returns-then-is_said c = lone_let_go (sym c.in-Some.ensures) (sym c.in-Some-value_of.ensures) (always c.if-is_said.true c.is_said.ensures.let_go)

pub returns : goal.returns
returns c = lone_given (sym c.in-Some.ensures) c.if-stmt-ne0.false (sym c.in-Some-value_of.ensures) (never c.if-is_said.false c.is_said.ensures.let_go)
