use Rattle.expectations.proofs.Prelude.{◌≡◌, ◌<◌, List, [], ◌∷◌, length, map, ap, ◌∙◌, arith, length-map, map-append, piece, Token}
use Rattle.std.proofs.lemmas.Grind.{common_steps}
use Rattle.expectations.proofs.Joining.{joins_end, joins_first, tokens_shorter}
use Rattle.expectations.proofs.spelling.join.Goals as goal

pub tokens-preserved : goal.tokens-preserved
tokens-preserved c =
    let rest = c.tokens.rest.now in
    let names = c.tokens.names.items in
    let token = c.in_ok-token.token in
    let some : 0 < length rest = grind (arith, common_steps) in
    joins_first (map piece c.args.tokens.now) (map piece names) _ (map piece rest) (map piece c.in_ok-token.after.now) (piece token)
    (omega (arith, some, length-map rest piece)) c.in_ok-token.ensures
    (ap (λ (ts : List Token). map piece ts) c.in_ok-push.ensures.items ∙ map-append piece names (token ∷ []))
    c.tokens.invariant

pub tokens-smaller : goal.tokens-smaller
tokens-smaller c =
    let some : 0 < length c.tokens.rest.now = grind (arith, common_steps) in
    tokens_shorter c.tokens.rest.now c.in_ok-token.after.now (piece c.in_ok-token.token) some c.in_ok-token.ensures

pub returns : goal.returns
returns c =
    let empty : c.tokens.rest.now ≡ [] = grind (arith, common_steps) in
    joins_end (map piece c.args.tokens.now) (map piece c.tokens.names.items) (map piece c.tokens.rest.now) c.tokens.invariant (ap (λ (ts : List Token). map piece ts) empty)
