use Rattle.std.proofs.Common.{sym}
use Rattle.swift_expressions.specs.Lowered as lowered
use Rattle.swift_expressions.proofs.Scoped.{holds_where}
use Rattle.swift_expressions.proofs.name.name.Goals as goal

pub returns-in_default-clause-means : goal.returns-in_default-clause-means
returns-in_default-clause-means c = λ n. c.global_name.ensures.means c.in_default.ensures.none n

pub returns-in-Constant-clause-means : goal.returns-in-Constant-clause-means
returns-in-Constant-clause-means c = λ n. lowered.a_value c.in-Some.place c.in-Some.ensures.found (sym c.in-Some-binding_at.ensures) (holds_where c.in-Constant.is) (c.with_kind.ensures.gives n)

pub returns-in-Child-clause-means : goal.returns-in-Child-clause-means
returns-in-Child-clause-means c = λ n. c.next_child.ensures.means c.in-Some.ensures.found c.in-Child.is n
