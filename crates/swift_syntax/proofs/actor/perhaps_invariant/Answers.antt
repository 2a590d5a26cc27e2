use Rattle.std.proofs.Common.{[], refl, sym}
use Rattle.std.proofs.lemmas.List.{append-nil}
use Rattle.swift_syntax.proofs.DeclaredRows.{continues_same}
use Rattle.swift_syntax.proofs.actor.perhaps_invariant.Goals as goal

pub returns-in_default : goal.returns-in_default
returns-in_default c =
    record {
      continues = continues_same c.args.reader.now;
      adds = λ n b. record { more = []; stmts = sym (append-nil c.args.reader.now.tree.value.stmts.items); holds = λ xs l. (refl, rw c.in_default.is refl) };
    }
