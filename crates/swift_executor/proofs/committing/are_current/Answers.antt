use Rattle.swift_executor.proofs.Prelude.{sym, ◌∙◌, rules, ltb-true, level_at}
use Rattle.swift_executor.proofs.committing.are_current.Goals as goal

pub returns-clause-current : goal.returns-clause-current
returns-clause-current c = λ e. (
  c.levels.result.now,
  c.levels.ensures.levels,
  c.requires.stayed c.levels_changed-changed.result c.levels.result.now c.levels_changed-changed.ensures c.levels.ensures.levels (search rules),
  ltb-true 0 (level_at c.levels.result.now c.args.task) (sym c.is_known.ensures ∙ e),
)
