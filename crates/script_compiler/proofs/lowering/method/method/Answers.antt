use Rattle.script_compiler.proofs.Prelude.{◌≡◌, suc, List, length, map, refl, ap, subst, ◌∙◌, arith, length-map, Stmt, text_of, view_stmt, view_method, block_tree, block_size, past_names, past_block, method_grows, block_grows, Code, FollowsCode, code_at, ScopeView, PlaceCounts, counts_of, most_of, block_code}
use Rattle.script_compiler.proofs.Room.{counts_fit, parameters_alone}
use Rattle.script_compiler.proofs.Standing.{method_standing}
use Rattle.script_compiler.proofs.lowering.method.method.Goals as goal

pub unless_seen-requires : goal.unless_seen-requires
unless_seen-requires c = omega (arith, c.requires.names, method_grows (view_method c.args.method.now) c.args.at.now)

pub parameters-requires : goal.parameters-requires
parameters-requires c =
    let m = view_method c.args.method.now in
    let here : past_names (map text_of c.deref.result.now) c.unless_seen.new.at ≡ past_names m.params (suc c.args.at.now) = λ i. past_names (map text_of (c.deref.ensures.value i)) (c.in_ok-unless_seen.ensures.after i) in
    record {
      names = omega (arith, c.requires.names, here, block_grows (block_tree m.body) (past_names m.params (suc c.args.at.now)));
      room = omega (arith, c.requires.size, ap (λ (s : ScopeView). length s.kinds) c.fields_alone-scope.ensures, ap length c.deref.ensures.value, length-map c.args.method.now.params.items text_of);
    }

pub most_of-most-requires : goal.most_of-most-requires
most_of-most-requires c =
    omega (
      arith,
      c.requires.size,
      ap (λ (n : PlaceCounts). n.numbers) c.counts.ensures,
      ap (λ (n : PlaceCounts). n.handles) c.counts.ensures,
      counts_fit c.parameters.new.scope.kinds,
      parameters_alone _ _ c.fields_alone-scope.result c.parameters.new.scope c.deref.result.now c.fields_alone-scope.ensures c.in_ok-parameters.ensures.scope,
      ap length c.deref.ensures.value,
      length-map c.args.method.now.params.items text_of,
      ap (λ (ss : List Stmt). block_size (block_tree (map view_stmt ss))) c.deref-2.ensures.value,
    )

pub instructions-requires : goal.instructions-requires
instructions-requires c =
    let m = view_method c.args.method.now in
    let at = c.in_ok-parameters.ensures.after ∙ (λ i. past_names (map text_of (c.deref.ensures.value i)) (c.in_ok-unless_seen.ensures.after i)) in
    let here : past_block (block_tree (map view_stmt c.deref-3.result.now)) c.parameters.new.at ≡ past_block (block_tree m.body) (past_names m.params (suc c.args.at.now)) = λ i. past_block (block_tree (map view_stmt (c.deref-3.ensures.value i))) (at i) in
    record {
      names = omega (arith, c.requires.names, here);
      room =
          omega (
            arith,
            c.requires.size,
            parameters_alone _ _ c.fields_alone-scope.result c.parameters.new.scope c.deref.result.now c.fields_alone-scope.ensures c.in_ok-parameters.ensures.scope,
            ap length c.deref.ensures.value,
            length-map c.args.method.now.params.items text_of,
            ap (λ (ss : List Stmt). block_size (block_tree (map view_stmt ss))) c.deref-3.ensures.value,
          );
    }

pub returns-clause-method : goal.returns-clause-method
returns-clause-method c =
    let p = c.args.plan.now in
    let m = c.args.method.now in
    let standing = method_standing p c.declared.result.now c.args.actor.0 m c.deref.result.now c.fields_alone-scope.result c.parameters.new.scope c.declared.ensures.directory c.fields_alone-scope.ensures c.deref.ensures.value c.in_ok-parameters.ensures.scope in
    let most = c.most_of-most.ensures ∙ (λ i. most_of ((c.counts.ensures ∙ ap (λ (s : ScopeView). counts_of s.kinds) standing) i) (block_tree (map view_stmt (c.deref-2.ensures.value i)))) in
    record {
      name = c.in_ok-name.ensures.items ∙ c.deref-4.ensures.value;
      actor = refl;
      params = omega (arith, c.len.ensures, m.params.ok.0, length-map m.params.items text_of);
      numbers = ap (λ (n : PlaceCounts). n.numbers) most;
      handles = ap (λ (n : PlaceCounts). n.handles) most;
      stands = subst (λ (code : Code). FollowsCode c.in_ok-instructions.instructions.items code (code_at code)) (λ i. block_code p (standing i) (block_tree (map view_stmt (c.deref-3.ensures.value i)))) c.in_ok-instructions.ensures.code;
    }
