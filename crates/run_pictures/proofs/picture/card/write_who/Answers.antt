use Rattle.std.proofs.Common.{List, ℕ, subst}
use Rattle.run_pictures.specs.SaysInside.{Says}
use Rattle.run_pictures.proofs.Drawing.{says_then}
use Rattle.run_pictures.proofs.picture.card.write_who.Goals as goal

pub returns : goal.returns
returns c = λ es names.
    let called = subst (λ (xs : List ℕ). Says c.say.new.self c.say-2.new.self xs) (c.name.ensures _ es names) c.say-2.ensures in
    says_then (says_then (says_then (says_then c.turn.ensures c.say.ensures) called) c.say-3.ensures) c.number.ensures
