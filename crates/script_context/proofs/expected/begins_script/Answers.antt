use Rattle.std.proofs.Common.{map, subst}
use Rattle.script_tokens.specs.Pieces.{piece}
use Rattle.script_parser.specs.Answers.{IsFirstFault}
use Rattle.script_context.proofs.Beginning.{spells, ends}
use Rattle.script_context.proofs.expected.begins_script.Goals as goal

pub returns-in-Ok : goal.returns-in-Ok
returns-in-Ok c = λ t. spells _ _ c.in-Ok.ensures.found

pub returns-in-Fault : goal.returns-in-Fault
returns-in-Fault c = λ t. ends _ c.in-Fault.fault (subst (IsFirstFault (map piece c.args.tokens.now)) c.in-Fault.is c.in-Err.ensures.fault) (c.is_at_end.ensures t)
