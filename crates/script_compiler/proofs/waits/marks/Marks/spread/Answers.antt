use Rattle.script_compiler.proofs.Prelude.{arith, refl, Marks}
use Rattle.script_compiler.proofs.Spread.{spreading_begins, spreading_goes_on, taken_within}
use Rattle.script_compiler.proofs.waits.marks.Marks.spread.Goals as goal

pub loop-method-init : goal.loop-method-init
loop-method-init c = spreading_begins c.args.callers.now c.args.self.now c.requires.closed c.requires.pending

pub mark_list-requires-clause-list : goal.mark_list-requires-clause-list
mark_list-requires-clause-list c =
    let taken : Marks = record { marked = c.loop-method.self.marked; pending = c.pop.new.self } in
    let w = taken_within c.args.callers.now c.args.self.now c.loop-method.self taken c.in-Some.method c.loop-method.invariant c.in-Some.ensures.items in
    let n = c.loop-method.invariant.count in let q = c.requires.count in
    omega (arith, w, n, q)

pub loop-method-preserved : goal.loop-method-preserved
loop-method-preserved c =
    let taken : Marks = record { marked = c.loop-method.self.marked; pending = c.pop.new.self } in
    spreading_goes_on c.args.callers.now c.args.self.now c.loop-method.self taken c.mark_list.new.self c.in-Some.method
    c.loop-method.invariant refl c.in-Some.ensures.items c.in_ok-mark_list.ensures
