use Rattle.std.proofs.Common.{◌≡◌, ◌<◌, length, arith, refl}
use Rattle.std.proofs.lemmas.Grind.{common_steps}
use Rattle.std.proofs.lemmas.List.Elements.{All-push}
use Rattle.swift_syntax.specs.declared.token.Token.{Token}
use Rattle.swift_syntax.specs.Lexes.{token_between}
use Rattle.swift_syntax.specs.Places.{IsTokenOf}
use Rattle.swift_syntax.proofs.ReadSoFar.{after_space, after_line, after_token, no_more}
use Rattle.swift_syntax.proofs.list.tokens.Goals as goal

pub loop-rest-preserved-in-Space : goal.loop-rest-preserved-in-Space
loop-rest-preserved-in-Space c = record {
  reading = after_space c.loop-rest.invariant.reading (grind (arith, common_steps)) (rw c.in-Space.is at c.front-piece.ensures.front) c.front-piece.ensures.shorter;
  within = c.loop-rest.invariant.within;
}

pub loop-rest-preserved-in-Line : goal.loop-rest-preserved-in-Line
loop-rest-preserved-in-Line c = record {
  reading = after_line c.loop-rest.invariant.reading (grind (arith, common_steps)) (rw c.in-Line.is at c.front-piece.ensures.front) c.front-piece.ensures.shorter;
  within = c.loop-rest.invariant.within;
}

pub loop-rest-preserved : goal.loop-rest-preserved
loop-rest-preserved c =
    let text = c.args.text.now in
    let rest = c.loop-rest.rest.now in
    let after = c.front-piece.result.1.now in
    let t : Token = record { kind = c.in-Token.kind; from = c.saturating_sub-from.result; to = c.saturating_sub-to.result; begins_line = c.loop-rest.begins_line; after_space = c.loop-rest.after_space } in
    let is : t ≡ token_between text rest after c.in-Token.kind c.loop-rest.begins_line c.loop-rest.after_space = rw c.saturating_sub-from.ensures (rw c.saturating_sub-to.ensures refl) in
    let begins : 0 < length rest = grind (arith, common_steps) in
    let one : IsTokenOf text t = (omega (arith, c.loop-rest.invariant.reading.shorter, c.front-piece.ensures.shorter), omega arith) in
    record {
      reading = after_token c.in-Token.kind t c.push.new.self.items
          c.loop-rest.invariant.reading
          begins
          (rw c.in-Token.is at c.front-piece.ensures.front)
          c.front-piece.ensures.shorter
          is
          c.in_ok-push-in-Token.ensures.items;
      within = rw c.in_ok-push-in-Token.ensures.items (All-push (IsTokenOf text) c.loop-rest.found.items t c.loop-rest.invariant.within one);
    }

pub returns-clause-tokens : goal.returns-clause-tokens
returns-clause-tokens c = no_more c.args.text.now c.loop-rest.rest.now c.loop-rest.begins_line c.loop-rest.after_space c.loop-rest.found.items (grind (arith, common_steps)) c.loop-rest.invariant.reading
