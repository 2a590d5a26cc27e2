use Rattle.std.proofs.Common.{List, ℕ, Option, IfSome, sym, subst}
use Rattle.script_hints.proofs.Told.{hint_is}
use Rattle.script_hints.specs.Helps.{HasField, HelpsTwice, not_taken, shared}
use Rattle.script_hints.proofs.names.twice.shared_at.Goals as goal

pub returns-in_default : goal.returns-in_default
returns-in_default c = subst (HelpsTwice c.args.blamed) (sym c.none.ensures) not_taken

pub returns-in_default-name_at : goal.returns-in_default-name_at
returns-in_default-name_at c = subst (HelpsTwice c.args.blamed) (sym c.none-in_default-name_at.ensures) not_taken

pub returns : goal.returns
returns c = hint_is (HelpsTwice c.args.blamed) _ c.of.result c.taken_text-help.result (shared c.args.place c.in-Some.kind c.in-Some-name_at.name.now (c.in-Some-name_at.ensures, c.in-Some.ensures) (subst (λ (o : Option (List ℕ)). IfSome o (HasField c.args.blamed)) c.in-Some-name_at.ensures c.requires)) c.taken_text-help.ensures c.of.ensures
