use Rattle.swift_explorer.proofs.Prelude.{◌<◌, ◌∷◌, [], ◌++◌, length, take, take_all, take_more, ap, sym, subst, ◌∙◌, arith, Event, IsRead}
use Rattle.std.proofs.lemmas.List.{length-take-le}
use Rattle.swift_explorer.proofs.LogsRead.{read_first}
use Rattle.swift_explorer.proofs.keys.log_digest.LogDigest.read_on.Goals as goal

pub loop-place-init : goal.loop-place-init
loop-place-init c = (let first = read_first c.args.self.now c.args.log.now.events c.requires in record { read = first.0; short = first.1 })

pub note-requires : goal.note-requires
note-requires c =
    let all = c.args.log.now.events in
    let k = c.loop-place.place in
    let was = c.loop-place.invariant in
    let count = was.read.count ∙ length-take-le k all was.short in
    record { some = (take k all, was.read); few = omega (arith, count, c.loop-place-test.true, c.len-place-end.ensures.limit, c.len-place-end.ensures.len) }

pub loop-place-preserved : goal.loop-place-preserved
loop-place-preserved c =
    let all = c.args.log.now.events in
    let k = c.loop-place.place in
    let e = c.event.result in
    let low : k < length all = omega (arith, c.loop-place-test.true, c.len-place-end.ensures.len) in
    record {
      read = subst (IsRead c.note.new.self) (ap (λ (x : Event). take k all ++ x ∷ []) (c.event.ensures e) ∙ sym (take_more all k e low)) (c.in_ok-note.ensures (take k all) c.loop-place.invariant.read);
      short = omega (arith, low);
    }

pub returns : goal.returns
returns c = subst (IsRead c.loop-place.self) (take_all c.loop-place.place c.args.log.now.events (omega (arith, c.loop-place-test.false, c.len-place-end.ensures.len))) c.loop-place.invariant.read
