use Rattle.swift_undo.proofs.Prelude.{◌≡◌, ℕ, List, [], get_or, sym, subst, Contains}
use Rattle.swift_undo.proofs.ReadRows.{added_kept, added_there}
use Rattle.swift_undo.proofs.rows.add_reader.Goals as goal

pub returns-clause-there : goal.returns-clause-there
returns-clause-there c =
    added_there c.reach.new.readers.items c.args.row c.args.place c.index_mut.result.now c.push.new.self c.in_ok-reach.ensures.there c.in_ok-push.ensures.items

pub returns-clause-kept : goal.returns-clause-kept
returns-clause-kept c = λ k p has.
    added_kept c.reach.new.readers.items c.args.row c.args.place c.index_mut.result.now c.push.new.self c.in_ok-reach.ensures.there c.index_mut.ensures.value c.in_ok-push.ensures.items k p
    (subst (λ (ps : List ℕ). Contains ps p) (sym (c.reach.ensures.same k)) has)
