use Rattle.script_compiler.proofs.Prelude.{◌≡◌, suc, List, drop, map, sym, ◌∙◌, arith, length-drop, at_drop_all, text_of, parameters_error, past_names, with_parameters, Name, names_grow, from_next}
use Rattle.script_compiler.proofs.lowering.method.parameters.Goals as goal

pub returns-clause-finds : goal.returns-clause-finds
returns-clause-finds c =
    sym c.loop-param.invariant.errors ∙ at_drop_all (λ ps. parameters_error c.loop-param.scope c.loop-param.at (map text_of ps)) c.args.params.now c.loop-param.param-index (omega (arith, c.loop-param-test.false))

pub returns-clause-after : goal.returns-clause-after
returns-clause-after c =
    sym (at_drop_all (λ ps. past_names (map text_of ps) c.loop-param.at) c.args.params.now c.loop-param.param-index (omega (arith, c.loop-param-test.false))) ∙ c.loop-param.invariant.after

pub returns-clause-scope : goal.returns-clause-scope
returns-clause-scope c =
    sym (at_drop_all (λ ps. with_parameters c.loop-param.scope (map text_of ps)) c.args.params.now c.loop-param.param-index (omega (arith, c.loop-param-test.false))) ∙ c.loop-param.invariant.standing

pub new_name-requires : goal.new_name-requires
new_name-requires c =
    let x = c.param-item.result in
    let xs = c.args.params.now in
    let i = c.loop-param.param-index in
    let here = from_next (λ (ys : List Name). past_names (map text_of ys) c.loop-param.at ≡ past_names (map text_of xs) c.args.at.now) xs i x c.loop-param-test.true c.param-item.is c.loop-param.invariant.after in
    omega (arith, c.requires.names, here, names_grow (map text_of (drop (suc i) xs)) (suc c.loop-param.at))

pub add-requires-clause-room : goal.add-requires-clause-room
add-requires-clause-room c = omega (arith, c.loop-param.invariant.room, c.loop-param-test.true, length-drop c.loop-param.param-index c.args.params.now)
