use Rattle.std.proofs.Common.{ℕ, Option, IfSome, sym, subst}
use Rattle.script_hints.proofs.Told.{hint_is}
use Rattle.script_hints.specs.Helps.{HelpsRoot, IsRoot, no_root, itself, later}
use Rattle.script_hints.proofs.roots.root_hint.Goals as goal

pub returns-in_default : goal.returns-in_default
returns-in_default c = subst (HelpsRoot c.args.blamed) (sym c.none.ensures) no_root

pub returns-in-None : goal.returns-in-None
returns-in-None c = subst (HelpsRoot c.args.blamed) (sym c.none-in-None.ensures) no_root

pub returns-then-place-saturating_add : goal.returns-then-place-saturating_add
returns-then-place-saturating_add c = hint_is (HelpsRoot c.args.blamed) _ c.of.result c.bytes-help.result itself c.bytes-help.ensures c.of.ensures

pub returns-in-Some-name_at : goal.returns-in-Some-name_at
returns-in-Some-name_at c = hint_is (HelpsRoot c.args.blamed) _ c.of-in-Some-name_at.result c.later_text.result (later c.in-Some.place c.in-Some-name_at.name.now (c.in-Some-name_at.ensures, subst (λ (o : Option ℕ). IfSome o (IsRoot c.args.blamed)) c.in-Some.is c.in_ok-place.ensures)) c.later_text.ensures c.of-in-Some-name_at.ensures
