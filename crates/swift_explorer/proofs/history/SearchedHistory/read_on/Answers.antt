use Rattle.swift_explorer.proofs.Prelude.{sym, subst, on_ok_weaker, IsRead, IsReadOf}
use Rattle.swift_explorer.proofs.Trial.{as_read}
use Rattle.swift_explorer.proofs.history.SearchedHistory.read_on.Goals as goal

pub read_on-requires : goal.read_on-requires
read_on-requires c = subst (IsReadOf c.args.self.now.digest) (sym c.log.ensures) c.requires.1.read

pub returns-clause-same : goal.returns-clause-same
returns-clause-same c = on_ok_weaker c.read_on.result (λ read. as_read c.args.self.now c.read_on.new.self (subst (IsRead c.read_on.new.self) c.log.ensures read)) c.read_on.ensures

pub returns-clause-read : goal.returns-clause-read
returns-clause-read c = on_ok_weaker c.read_on.result (λ read. subst (IsRead c.read_on.new.self) c.log.ensures read) c.read_on.ensures
