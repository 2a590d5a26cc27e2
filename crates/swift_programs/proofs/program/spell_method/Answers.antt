use Rattle.std.specs.Prelude.{codes}
use Rattle.swift_programs.proofs.Wrote.{put_after, put_fourth}
use Rattle.swift_programs.proofs.program.spell_method.Goals as goal

pub returns : goal.returns
returns c =
    let params = rw c.deref-2.ensures.value at c.in_ok-spell_params.ensures in
    let last = rw c.deref-3.ensures.value at c.put-2.ensures in
    let rest = put_after c.put-2.result c.put.new.out.items c.spell_params.new.out.items c.put-2.new.out.items _ _ params last in
    put_fourth c.put-2.result c.args.out.now.items c.put.new.out.items c.put-2.new.out.items (codes "\n    func ") c.args.method.now.name.items (codes "(") _ (rw c.deref.ensures.value at c.in_ok-put.ensures) rest
