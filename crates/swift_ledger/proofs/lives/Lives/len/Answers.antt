use Rattle.swift_ledger.proofs.Prelude.{length, ◌∙◌, ap, tasks_of, length-lives_of}
use Rattle.swift_ledger.proofs.lives.Lives.len.Goals as goal

pub returns : goal.returns
returns c = λ roots log are. c.len.ensures ∙ c.args.self.now.lives.ok.0 ∙ ap length are.lives ∙ length-lives_of (tasks_of roots log) log
