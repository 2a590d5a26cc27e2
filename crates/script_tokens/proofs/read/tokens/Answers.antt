use Rattle.std.proofs.Common.{map, arith, refl}
use Rattle.std.proofs.lemmas.Grind.{common_steps}
use Rattle.script_tokens.specs.Pieces.{piece, lexeme_piece}
use Rattle.script_tokens.proofs.Reading.{taken, passed_by, no_more, no_span_more}
use Rattle.script_tokens.proofs.read.tokens.Goals as goal

pub loop-rest-preserved-in_ok-add-in-Some : goal.loop-rest-preserved-in_ok-add-in-Some
loop-rest-preserved-in_ok-add-in-Some c =
    taken (lexeme_piece c.in-Some.lexeme) _ _ _
    c.loop-rest.invariant
    (grind (arith, common_steps))
    (rw c.in-Some.is at c.front.ensures.front)
    c.front.ensures.shorter
    refl
    c.in_ok-add-in-Some.ensures.tokens
    c.in_ok-add-in-Some.ensures.spans

pub loop-rest-preserved : goal.loop-rest-preserved
loop-rest-preserved c = passed_by c.loop-rest.invariant (grind (arith, common_steps)) (rw c.in-None.is at c.front.ensures.front) c.front.ensures.shorter

pub returns-clause-tokens : goal.returns-clause-tokens
returns-clause-tokens c = no_more c.args.text.now c.loop-rest.rest.now (map piece c.loop-rest.found.tokens.items) (grind (arith, common_steps)) c.loop-rest.invariant.tokens

pub returns-clause-spans : goal.returns-clause-spans
returns-clause-spans c = no_span_more c.args.text.now c.loop-rest.rest.now c.loop-rest.found.spans.items (grind (arith, common_steps)) c.loop-rest.invariant.spans
