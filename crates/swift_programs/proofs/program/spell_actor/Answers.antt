use Rattle.std.specs.Prelude.{codes}
use Rattle.swift_programs.proofs.Wrote.{put_after, put_fourth}
use Rattle.swift_programs.proofs.program.spell_actor.Goals as goal

pub returns : goal.returns
returns c =
    let now = c.add-2.new.out.items in
    let methods = rw c.deref-3.ensures.value at c.in_ok-spell_methods.ensures in
    let members = rw c.deref-2.ensures.value at c.in_ok-add.ensures in
    let last = put_after c.add-2.result c.add.new.out.items c.spell_methods.new.out.items now _ _ methods c.add-2.ensures in
    let rest = put_after c.add-2.result c.put.new.out.items c.add.new.out.items now _ _ members last in
    put_fourth c.add-2.result c.args.out.now.items c.put.new.out.items now (codes "@globalActor actor ") c.args.actor.now.name.items (codes " {\n") _ (rw c.deref.ensures.value at c.in_ok-put.ensures) rest
