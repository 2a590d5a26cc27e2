use Rattle.swift_executor.proofs.TurnsAside.{has_chosen, undone, was_aside}
use Rattle.swift_executor.proofs.state.ExecState.undo.Goals as goal

pub bring_back-requires : goal.bring_back-requires
bring_back-requires c =
    let h = c.requires.2 in
    (h.1.played, was_aside c.requires.0 c.requires.1 h.0 c.args.aside.now h.1 c.args.self.now h.2)

pub put_back-requires : goal.put_back-requires
put_back-requires c =
    let h = c.requires.2 in
    has_chosen c.requires.0 c.requires.1 h.0 c.args.aside.now h.1 c.bring_back.new.self (c.bring_back.ensures.state h.1.played (was_aside c.requires.0 c.requires.1 h.0 c.args.aside.now h.1 c.args.self.now h.2))

pub returns-clause-state : goal.returns-clause-state
returns-clause-state c = λ worker s h.
    undone worker s h.0 c.args.aside.now h.1 c.bring_back.new.self (c.bring_back.ensures.state h.1.played (was_aside worker s h.0 c.args.aside.now h.1 c.args.self.now h.2)) c.put_back.new.self c.put_back.ensures c.facts.ensures.keeps
