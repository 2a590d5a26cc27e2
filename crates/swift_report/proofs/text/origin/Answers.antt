use Rattle.std.proofs.Common.{◌++◌, List, ℕ, sym, ap, ◌∙◌}
use Rattle.std.specs.Prelude.{codes}
use Rattle.swift_report.specs.Text.{origin_text, task_name}
use Rattle.swift_report.proofs.Joined.{if_ok, two_joined}
use Rattle.swift_report.proofs.text.origin.Goals as goal

pub returns-in_ok-extend_from_slice-in-Root : goal.returns-in_ok-extend_from_slice-in-Root
returns-in_ok-extend_from_slice-in-Root c =
    two_joined c.extend_from_slice-in-Root.result c.args.out.now.items c.extend_from_slice.new.self.items c.extend_from_slice-in-Root.new.self.items
    (codes "root ") c.root_name.result.now (origin_text c.args.script.now c.args.number_of c.args.origin)
    (ap (origin_text c.args.script.now c.args.number_of) c.in-Root.is ∙ ap (λ (name : List ℕ). codes "root " ++ name) (sym c.root_name.ensures))
    c.in_ok-extend_from_slice-in-Root.ensures.items (if_ok c.extend_from_slice-in-Root.result _ _ _ c.extend_from_slice-in-Root.ensures.items)

pub returns-in_ok-extend_from_slice-in-Child : goal.returns-in_ok-extend_from_slice-in-Child
returns-in_ok-extend_from_slice-in-Child c =
    two_joined c.task_name.result c.args.out.now.items c.extend_from_slice-in-Child.new.self.items c.task_name.new.out.items
    (codes "child ") (task_name c.in-Child.owner) (origin_text c.args.script.now c.args.number_of c.args.origin)
    (ap (origin_text c.args.script.now c.args.number_of) c.in-Child.is) c.in_ok-extend_from_slice-in-Child.ensures.items c.task_name.ensures

pub returns-in_ok-extend_from_slice-in-Spawned : goal.returns-in_ok-extend_from_slice-in-Spawned
returns-in_ok-extend_from_slice-in-Spawned c =
    two_joined c.task_name-in-Spawned.result c.args.out.now.items c.extend_from_slice-in-Spawned.new.self.items c.task_name-in-Spawned.new.out.items
    (codes "spawned ") (task_name c.in-Spawned.by) (origin_text c.args.script.now c.args.number_of c.args.origin)
    (ap (origin_text c.args.script.now c.args.number_of) c.in-Spawned.is) c.in_ok-extend_from_slice-in-Spawned.ensures.items c.task_name-in-Spawned.ensures

pub returns-in_ok-extend_from_slice-in-Detached : goal.returns-in_ok-extend_from_slice-in-Detached
returns-in_ok-extend_from_slice-in-Detached c =
    two_joined c.task_name-in-Detached.result c.args.out.now.items c.extend_from_slice-in-Detached.new.self.items c.task_name-in-Detached.new.out.items
    (codes "detached ") (task_name c.in-Detached.by) (origin_text c.args.script.now c.args.number_of c.args.origin)
    (ap (origin_text c.args.script.now c.args.number_of) c.in-Detached.is) c.in_ok-extend_from_slice-in-Detached.ensures.items c.task_name-in-Detached.ensures
