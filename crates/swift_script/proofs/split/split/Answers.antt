use Rattle.swift_script.proofs.Prelude.{refl, tree_of}
use Rattle.swift_script.proofs.Divided.{one_more}
use Rattle.swift_script.proofs.split.split.Goals as goal

pub loop-decl-preserved : goal.loop-decl-preserved
loop-decl-preserved c = one_more c.loop-decl.yielded c.in-Some.decl (tree_of c.loop-decl.split) (tree_of c.add.new.self) c.loop-decl.invariant c.in_ok-add.ensures

pub loop-decl-init : goal.loop-decl-init
loop-decl-init c = rw (c.new.ensures.items, c.new-2.ensures.items, c.new-3.ensures.items, c.new-4.ensures.items) refl
