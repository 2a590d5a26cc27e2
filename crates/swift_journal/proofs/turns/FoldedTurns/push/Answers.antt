use Rattle.swift_journal.proofs.Prelude.{◌≡◌, List, ◌∷◌, [], ◌++◌, length, rules, ap, ◌∙◌, ended_view, FoldedView, FoldedHead}
use Rattle.swift_journal.proofs.FoldedReads.{reads_as_kept}
use Rattle.swift_journal.proofs.FoldedStay.{pushed_placed, pushed_view}
use Rattle.swift_journal.proofs.turns.FoldedTurns.push.Goals as goal

pub returns-clause-ok : goal.returns-clause-ok
returns-clause-ok c =
    let t = c.self.inside in
    let e = c.args.turn.now in
    let put = c.in_ok-append.ensures in
    let h : FoldedHead = record {
      start = c.in_ok-short.field-0;
      first_effect = c.in_ok-short-2.field-0;
      task = e.task;
      number = e.number;
      method = e.after.method;
      instruction = e.after.instruction;
      variables = e.after.variables;
      pending = e.after.pending;
      after = c.kind_of_after.result;
      exit = e.exit;
    } in
    let start : h.start ≡ length t.words.items = search rules in
    let first : h.first_effect ≡ length t.effects.items = search rules in
    pushed_view t.heads.items c.append.new.heads.items t.words.items c.append.new.words.items e.words.now t.effects.items c.append.new.effects.items e.effects.now
    h (ended_view e) put.heads put.words put.effects start first
    (reads_as_kept h.start h.first_effect e.task e.number e.exit e.after c.kind_of_after.result e.words.now e.effects.now c.kind_of_after.ensures) c.self.invariant
    ∙ ap (λ (x : List FoldedView). x ++ ended_view e ∷ []) c.self.view_is

pub invariant_of-self-2 : goal.invariant_of-self-2
invariant_of-self-2 c =
    let t = c.self.inside in
    let e = c.args.turn.now in
    let put = c.in_ok-append.ensures in
    let h : FoldedHead = record {
      start = c.in_ok-short.field-0;
      first_effect = c.in_ok-short-2.field-0;
      task = e.task;
      number = e.number;
      method = e.after.method;
      instruction = e.after.instruction;
      variables = e.after.variables;
      pending = e.after.pending;
      after = c.kind_of_after.result;
      exit = e.exit;
    } in
    let start : h.start ≡ length t.words.items = search rules in
    let first : h.first_effect ≡ length t.effects.items = search rules in
    pushed_placed t.heads.items c.append.new.heads.items t.words.items c.append.new.words.items e.words.now t.effects.items c.append.new.effects.items e.effects.now
    h put.heads put.words put.effects start first c.self.invariant
