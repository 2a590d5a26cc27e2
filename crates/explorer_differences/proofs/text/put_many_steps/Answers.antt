use Rattle.std.proofs.Common.{ℕ, ap}
use Rattle.std.specs.Prelude.{codes, count_by}
use Rattle.swift_explorer.specs.FoundText.{many_text}
use Rattle.explorer_differences.specs.Difference.{is_space}
use Rattle.explorer_differences.proofs.Pieces.{two_pieces}
use Rattle.explorer_differences.proofs.text.put_many_steps.Goals as goal

pub returns : goal.returns
returns c =
    let said = λ (n : ℕ). many_text n (codes "step") (codes "steps") in
    two_pieces c.put_many.result c.args.out.now.items c.extend_from_slice.new.self.items c.put_many.new.out.items
    (codes "the schedules agree for ") (said c.steps_in.result) (said (count_by is_space c.args.steps.now))
    c.in_ok-extend_from_slice.ensures.items (ap said c.steps_in.ensures) c.put_many.ensures
