use Rattle.std.proofs.Common.{◌<◌, ◌-◌, length, subst, arith}
use Rattle.std.proofs.lemmas.List.{get_or_read}
use Rattle.swift_log.specs.declared.entry.LogEntry.{LogEntry}
use Rattle.swift_log.specs.EntriesInside.{Joins}
use Rattle.swift_log.proofs.Marks.{joined}
use Rattle.swift_log.proofs.log.join.Goals as goal

pub returns-in-Some-clause-joined : goal.returns-in-Some-clause-joined
returns-in-Some-clause-joined c = λ _.
    let xs = c.args.entries.now.items in
    let some = c.if-count-eq0.false in
    let count = c.len-count.ensures in
    let long = c.args.entries.now.ok.0 in
    let inside : c.len-count.result - 1 < length xs = omega (arith, some, count, long) in
    joined xs c.args.event (c.len-count.result - 1) c.in-Some.entry (omega (arith, some, count, long))
    (subst (λ (x : LogEntry). Joins x c.args.event c.in-Some.entry)
    (get_or_read xs (c.len-count.result - 1) c.index.result.now inside c.index.ensures c.in-Some.entry) c.in-Some.ensures)
