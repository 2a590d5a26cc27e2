use Rattle.run_pictures.proofs.Prelude.{◌≡◌, ◌<◌, ◌+◌, true, false, if◌then◌else◌, length, drop, rules, sym, ◌∙◌, cond-true, cond-false, begins_block, goes_on, only_goes_on}
use Rattle.run_pictures.proofs.Blocks.{block_more}
use Rattle.run_pictures.proofs.picture.quiet.only_goes_on.Goals as goal

pub returns-then-begins_block : goal.returns-then-begins_block
returns-then-begins_block c =
    let t = c.args.task.0 in
    let log = c.args.log.now.events in
    let i = c.loop-place.place in
    let e = c.event-event.result in
    let lt : i < length log = search rules in
    let begins : begins_block e ≡ true = search rules in
    sym (block_more t log i e lt c.event-event.ensures ∙ cond-true (begins_block e) true (if goes_on t e then only_goes_on t (drop (i + 1) log) else false) begins)
    ∙ c.loop-place.invariant

pub returns-then-not-goes_on : goal.returns-then-not-goes_on
returns-then-not-goes_on c =
    let t = c.args.task.0 in
    let log = c.args.log.now.events in
    let i = c.loop-place.place in
    let e = c.event-event.result in
    let rest = only_goes_on t (drop (i + 1) log) in
    let lt : i < length log = search rules in
    let within : begins_block e ≡ false = search rules in
    let other : goes_on t e ≡ false = search rules in
    sym (block_more t log i e lt c.event-event.ensures ∙ cond-false (begins_block e) true (if goes_on t e then rest else false) within ∙ cond-false (goes_on t e) rest false other)
    ∙ c.loop-place.invariant

pub loop-place-preserved : goal.loop-place-preserved
loop-place-preserved c =
    let t = c.args.task.0 in
    let log = c.args.log.now.events in
    let i = c.loop-place.place in
    let e = c.event-event.result in
    let rest = only_goes_on t (drop (i + 1) log) in
    let lt : i < length log = search rules in
    let within : begins_block e ≡ false = search rules in
    let same : goes_on t e ≡ true = search rules in
    sym (block_more t log i e lt c.event-event.ensures ∙ cond-false (begins_block e) true (if goes_on t e then rest else false) within ∙ cond-true (goes_on t e) rest false same)
    ∙ c.loop-place.invariant
