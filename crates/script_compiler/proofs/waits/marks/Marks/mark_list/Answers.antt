use Rattle.script_compiler.proofs.Prelude.{◌≡◌, suc, List, ◌≤◌, Some, length, arith, refl, slice_get_read, ListEntry}
use Rattle.std.specs.List.{slice_get}
use Rattle.script_compiler.proofs.Walk.{walk_goes_on, walk_has}
use Rattle.script_compiler.proofs.waits.marks.Marks.mark_list.Goals as goal
use Rattle.script_compiler.proofs.waits.marks.Marks.mark_list.Goals.{After-index-entry}

entry_is : (c : After-index-entry) → slice_get c.args.lists.now.entries.items c.in-Some.place ≡ Some c.index-entry.result.now
entry_is c =
    let i : suc c.in-Some.place ≤ length c.args.lists.now.entries.items = rw c.in-Some.is at c.loop-next.invariant.inside in
    let es : List ListEntry = c.args.lists.now.entries.items in
    slice_get_read es (length es) c.in-Some.place c.index-entry.result.now refl (omega arith) c.index-entry.ensures

pub mark-requires : goal.mark-requires
mark-requires c =
    let e : ListEntry = c.index-entry.result.now in
    let has = walk_has c.args.lists.now c.args.list c.in-Some.place e c.loop-next.next c.args.self.now c.loop-next.self c.in-Some.is
    (entry_is (goal.at.mark-requires c).After-index-entry) c.loop-next.invariant in
    let m = c.requires.methods e.method has in
    let n = c.loop-next.invariant.marking.count in
    omega (arith, m, n)

pub loop-next-smaller : goal.loop-next-smaller
loop-next-smaller c =
    rw c.in-Some.is (let o = c.requires.orderly.older c.in-Some.place c.index-entry.result.now (entry_is (goal.at.loop-next-smaller c).After-index-entry) in omega (arith, o))

pub loop-next-preserved : goal.loop-next-preserved
loop-next-preserved c =
    walk_goes_on c.args.lists.now c.args.list c.in-Some.place c.index-entry.result.now c.loop-next.next c.args.self.now c.loop-next.self c.mark.new.self
    c.requires.orderly c.in-Some.is (entry_is (goal.at.loop-next-preserved c).After-index-entry) c.loop-next.invariant c.in_ok-mark.ensures
