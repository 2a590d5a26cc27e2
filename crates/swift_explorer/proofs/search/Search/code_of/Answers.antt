use Rattle.swift_explorer.proofs.Prelude.{ℤ, List, subst, IsCode, IsNumbered, KeyCode}
use Rattle.swift_explorer.proofs.PartsKnown.{if_ok_with}
use Rattle.swift_explorer.proofs.search.Search.code_of.Goals as goal

pub returns-clause-code : goal.returns-clause-code
returns-clause-code c =
    let parts = c.code.new.self in
    let numbers = c.put_key.new.key.items in
    if_ok_with (λ (code : KeyCode). (key : List ℤ) × IsNumbered c.args.history.now key × IsCode parts code key) (λ (code : KeyCode). IsCode parts code c.deref.result.now) c.code.result
    (λ code is. (numbers, c.in_ok-put_key.ensures, subst (IsCode parts code) c.deref.ensures.value is)) c.code.ensures.code
