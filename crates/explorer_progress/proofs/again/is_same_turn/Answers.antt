use Rattle.std.proofs.Common.{◌<◌, length, vec_len, ap, sym, ◌∙◌, arith}
use Rattle.std.proofs.lemmas.Bool.{eqb-true}
use Rattle.std.proofs.lemmas.List.{nil_from_length}
use Rattle.std.proofs.lemmas.Result.{IfOk-weaker}
use Rattle.swift_interpreter.specs.Frames.{effect_views}
use Rattle.explorer_progress.proofs.Rounds.{but_number, same_turn}
use Rattle.explorer_progress.proofs.again.is_same_turn.Goals as goal

pub returns : goal.returns
returns c =
    let journal = c.args.journal.now in
    let found = c.in_ok-found.found in
    let below : c.args.before < length journal = omega (arith, c.if-before-len.false, c.len.ensures.len) in
    let within : c.args.place < length journal = omega (arith, c.if-place-len.false, c.len-else-before-len.ensures.len) in
    let zero = eqb-true (vec_len found.effects) 0 (sym c.is_empty.ensures ∙ c.if-not-is_empty.false) in
    let none = nil_from_length found.effects.items (omega (arith, zero, found.effects.ok.0)) in
    let all = but_number found (effect_views c.deref.result.now) c.as_ref.result c.number.result (ap effect_views c.deref.ensures.value) c.as_ref.ensures.value in
    IfOk-weaker c.has.result _ _
    (λ yes same. λ is. same_turn journal c.args.before c.args.place found _ below within c.in_ok-found.ensures (same is) all (ap effect_views none))
    c.has.ensures.same
