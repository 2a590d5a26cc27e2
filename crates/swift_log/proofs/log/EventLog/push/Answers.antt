use Rattle.std.proofs.Common.{◌≡◌, ◌+◌, ◌<◌, ℤ, List, [], ◌∷◌, ◌++◌, sym, subst, ap, ◌∙◌}
use Rattle.std.specs.Global.{Vec}
use Rattle.std.specs.Prelude.{vec_len}
use Rattle.swift_log.specs.Logs.{LogView}
use Rattle.swift_log.specs.declared.entry.LogEntry.{LogEntry}
use Rattle.swift_log.specs.EntriesInside.{numbers_of}
use Rattle.swift_log.specs.MarksInside.{events_in, IsMark}
use Rattle.swift_log.proofs.Marks.{mark_last}
use Rattle.swift_log.proofs.LogSteps.{follows, marks_follow, reads, stands_too}
use Rattle.swift_log.proofs.log.EventLog.push.Goals as goal

pub invariant_of-self : goal.invariant_of-self
invariant_of-self c =
    let s = c.self.inside in
    let some : 0 < s.room = subst (λ (v : LogView). 0 < v.room) (sym c.self.view_is) c.requires in
    stands_too s c.join.new.entries c.args.event c.self.invariant some (c.join.ensures.joined c.if-join.true) c.join.ensures.len c.join.ensures.capacity

pub invariant_of-self-2 : goal.invariant_of-self-2
invariant_of-self-2 c =
    let s = c.self.inside in
    let some : 0 < s.room = subst (λ (v : LogView). 0 < v.room) (sym c.self.view_is) c.requires in
    let same : c.join.new.entries ≡ s.entries = c.join.ensures.same c.if-join.false in
    let last : c.push_reserved.new.self.items ≡ s.entries.items ++ c.of.result ∷ [] = c.push_reserved.ensures.items ∙ ap (λ (es : Vec LogEntry). es.items ++ c.of.result ∷ []) same in
    let mark = mark_last s.entries.items c.of.result (record { entry = c.len.result; start = s.len }) (c.len.ensures ∙ ap (λ (es : Vec LogEntry). vec_len es) same ∙ s.entries.ok.0) c.self.invariant.len in
    follows s c.push_reserved.new.self c.push_number.new.numbers c.push_mark.new.marks c.args.event c.of.result c.len-place.result c.self.invariant some (c.len-place.ensures ∙ s.numbers.ok.0) c.of.ensures
    last (c.push_reserved.ensures.len ∙ ap (λ (es : Vec LogEntry). vec_len es + 1) same) (c.push_reserved.ensures.capacity ∙ c.join.ensures.capacity)
    c.push_number.ensures.items c.push_number.ensures.len c.push_number.ensures.capacity
    (c.push_mark.ensures.marks c.push_reserved.new.self.items
    (marks_follow s.entries.items c.push_reserved.new.self.items c.of.result s.marks.items last c.self.invariant.marks)
    (subst (λ (xs : List LogEntry). IsMark xs (record { entry = c.len.result; start = s.len })) (sym last) mark))
    c.push_mark.ensures.capacity

pub returns-clause-events : goal.returns-clause-events
returns-clause-events c =
    let s = c.self.inside in
    let same : c.join.new.entries ≡ s.entries = c.join.ensures.same c.if-join.false in
    ap (λ (ns : List ℤ). events_in ns c.push_reserved.new.self.items) c.push_number.ensures.items
    ∙ ap (λ (xs : List LogEntry). events_in (s.numbers.items ++ numbers_of c.args.event) xs) (c.push_reserved.ensures.items ∙ ap (λ (es : Vec LogEntry). es.items ++ c.of.result ∷ []) same)
    ∙ reads s.numbers.items s.entries.items c.args.event c.of.result c.len-place.result c.self.invariant.within (c.len-place.ensures ∙ s.numbers.ok.0) c.of.ensures
    ∙ ap (λ (v : LogView). v.events ++ c.args.event ∷ []) c.self.view_is
