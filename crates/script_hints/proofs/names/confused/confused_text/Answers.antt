use Rattle.std.proofs.Common.{subst}
use Rattle.script_context.specs.Declarations.{IsNamedAs}
use Rattle.script_hints.proofs.Told.{text_says}
use Rattle.script_hints.specs.Helps.{HelpsConfused, group, meant, task}
use Rattle.script_hints.proofs.names.confused.confused_text.Goals as goal

pub returns-in-Task : goal.returns-in-Task
returns-in-Task c = text_says (HelpsConfused c.args.blamed) _ c.value_text.result (task c.args.place (subst (IsNamedAs c.args.blamed.tokens.now c.args.place c.args.blamed.found.now) c.in-Task.is c.requires)) c.value_text.ensures

pub returns-in-Group : goal.returns-in-Group
returns-in-Group c = text_says (HelpsConfused c.args.blamed) _ c.value_text-in-Group.result (group c.args.place (subst (IsNamedAs c.args.blamed.tokens.now c.args.place c.args.blamed.found.now) c.in-Group.is c.requires)) c.value_text-in-Group.ensures

pub returns-in_default : goal.returns-in_default
returns-in_default c = text_says (HelpsConfused c.args.blamed) _ c.other_text.result (meant c.args.place c.args.kind c.args.wanted c.requires) c.other_text.ensures
