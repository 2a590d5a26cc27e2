use Rattle.script_compiler.proofs.Prelude.{◌≡◌, ◌+◌, ◌++◌, ◌∷◌, [], suc, List, Option, drop, map, sym, ap, ◌∙◌, arith, at_drop_all, Method, view_method, with_name, fields_alone, earlier, methods_error, past_method, past_methods, methods_grow, from_next, method_of}
use Rattle.script_names.specs.declared.error.NameError.{NameError}
use Rattle.script_compiler.proofs.Clear.{earlier_none, name_is_new}
use Rattle.script_compiler.proofs.Small.{method_next}
use Rattle.script_compiler.proofs.Steps.{front, method_more}
use Rattle.script_compiler.proofs.lowering.actor.methods.Goals as goal

pub method-requires : goal.method-requires
method-requires c =
    let x = c.next-item.result in
    let xs = c.args.methods.now in
    let i = c.loop-next.next-index in
    let here = from_next (λ (ys : List Method). past_methods (map view_method ys) c.loop-next.at ≡ past_methods (map view_method xs) c.args.at.now) xs i x c.loop-next-test.true c.next-item.is c.loop-next.invariant.after in
    record {
      names = omega (arith, c.requires.names, here, methods_grow (map view_method (drop (suc i) xs)) (past_method (view_method x) c.loop-next.at));
      size = omega (arith, c.loop-next.invariant.size, method_next xs i x c.loop-next-test.true c.next-item.is);
    }

pub loop-next-preserved : goal.loop-next-preserved
loop-next-preserved c =
    let x = c.next-item.result in
    let xs = c.args.methods.now in
    let i = c.loop-next.next-index in
    let lt = c.loop-next-test.true in
    let is = c.next-item.is in
    let left = front xs i x lt is in
    let s = fields_alone c.args.plan.now.directory c.args.actor.0 in
    let rest = map view_method (drop (i + 1) xs) in
    let made = c.in_ok-method.ensures in
    let name = (view_method x).name in
    let seen = c.in_ok-add.ensures.ok ∙ ap (with_name c.loop-next.seen) c.deref.ensures.value ∙ name_is_new c.loop-next.seen c.loop-next.at name (earlier_none _ _ made.finds).0 in
    record {
      errors =
          (λ j. methods_error s (seen j) (made.after j) rest)
          ∙ sym (ap (λ (o : Option NameError). earlier o (methods_error s (c.loop-next.seen ++ name ∷ []) (past_method (view_method x) c.loop-next.at) rest)) made.finds)
          ∙ sym (ap (λ (ys : List Method). methods_error s c.loop-next.seen c.loop-next.at (map view_method ys)) left)
          ∙ c.loop-next.invariant.errors;
      after =
          ap (past_methods rest) made.after ∙ sym (ap (λ (ys : List Method). past_methods (map view_method ys) c.loop-next.at) left) ∙ c.loop-next.invariant.after;
      size = omega (arith, c.loop-next.invariant.size, method_next xs i x lt is);
      are =
          λ done h. method_more (method_of c.args.plan.now c.args.actor.0) xs i x c.loop-next.all.items c.push.new.self.items c.in_ok-method.field-0 done
          lt is c.in_ok-push.ensures.items made.method (c.loop-next.invariant.are done h);
    }

pub returns-clause-finds : goal.returns-clause-finds
returns-clause-finds c =
    sym c.loop-next.invariant.errors ∙ at_drop_all (λ (ms : List Method). methods_error (fields_alone c.args.plan.now.directory c.args.actor.0) c.loop-next.seen c.loop-next.at (map view_method ms)) c.args.methods.now c.loop-next.next-index (omega (arith, c.loop-next-test.false))

pub returns-clause-after : goal.returns-clause-after
returns-clause-after c =
    sym (at_drop_all (λ (ms : List Method). past_methods (map view_method ms) c.loop-next.at) c.args.methods.now c.loop-next.next-index (omega (arith, c.loop-next-test.false))) ∙ c.loop-next.invariant.after
