use Rattle.script_compiler.proofs.Prelude.{◌≡◌, ◌≤◌, ◌+◌, ◌++◌, suc, [], List, Option, drop, map, refl, sym, ap, subst, ◌∙◌, arith, append-nil, at_drop_all, err_from_is_err_and, AllZip, BYTES, Decl, view_decl, script_size, earlier, past_decl, past_decls, declarations_error, SeenView, seen_after, declaration_fails, decls_grow, from_next, script_in, CompiledMethod, CompiledRoot, MethodView, root_of, actors_from, methods_from, local_view, actor_view, root_view, IsMethod}
use Rattle.script_names.specs.declared.error.NameError.{NameError}
use Rattle.script_compiler.specs.declared.compiled.CompiledLocal.{CompiledLocal}
use Rattle.script_compiler.proofs.PartsMade.{ArePartsOf, parts_next}
use Rattle.script_compiler.proofs.Steps.{front}
use Rattle.script_compiler.proofs.lowering.declaration.declarations.Goals as goal

pub loop-decl-init : goal.loop-decl-init
loop-decl-init c =
    let decls = map view_decl c.args.decls.now in
    let nothing = c.nothing-seen.ensures in
    record {
      errors = ap (λ (s : SeenView). declarations_error c.args.plan.now.directory s 0 decls) nothing;
      after = refl;
      size = c.requires.size;
      parts = record {
        locals = ap (λ (ls : List CompiledLocal). map local_view ls ++ (script_in decls).locals) c.new.ensures.items;
        actors = λ i. map actor_view (c.new-2.ensures.items i) ++ actors_from c.args.plan.now (nothing i).actors (script_in decls).actors;
        views = [];
        methods = subst (λ (ms : List CompiledMethod). AllZip IsMethod ms []) (sym c.new-3.ensures.items) tt;
        all_methods = ap (λ (s : SeenView). methods_from c.args.plan.now s.actors (script_in decls).actors) nothing;
        roots = ap (λ (rs : List CompiledRoot). map root_view rs ++ map (root_of c.args.plan.now) (script_in decls).roots) c.new-4.ensures.items;
      };
    }

pub declaration-requires : goal.declaration-requires
declaration-requires c =
    let x = c.decl-item.result in
    let xs = c.args.decls.now in
    let i = c.loop-decl.decl-index in
    let here = from_next (λ (ys : List Decl). past_decls (map view_decl ys) c.loop-decl.at ≡ past_decls (map view_decl xs) 0) xs i x c.loop-decl-test.true c.decl-item.is c.loop-decl.invariant.after in
    let size = from_next (λ (ys : List Decl). script_size (map view_decl ys) ≤ BYTES) xs i x c.loop-decl-test.true c.decl-item.is c.loop-decl.invariant.size in
    record {
      names = omega (arith, c.requires.names, here, decls_grow (map view_decl (drop (suc i) xs)) (past_decl (view_decl x) c.loop-decl.at));
      size = omega (arith, size);
    }

pub loop-decl-preserved : goal.loop-decl-preserved
loop-decl-preserved c =
    let p = c.args.plan.now in
    let x = c.decl-item.result in
    let xs = c.args.decls.now in
    let i = c.loop-decl.decl-index in
    let seen = c.loop-decl.seen in
    let at = c.loop-decl.at in
    let rest = map view_decl (drop (i + 1) xs) in
    let left = front xs i x c.loop-decl-test.true c.decl-item.is in
    let before = c.loop-decl.invariant in
    let made = c.in_ok-declaration.ensures in
    let whole = script_in (map view_decl xs) in
    record {
      errors =
          (λ j. declarations_error p.directory (made.seen j) (made.after j) rest)
          ∙ sym (ap (λ (o : Option NameError). earlier o (declarations_error p.directory (seen_after seen (view_decl x)) (past_decl (view_decl x) at) rest)) made.finds)
          ∙ sym (ap (λ (ys : List Decl). declarations_error p.directory seen at (map view_decl ys)) left)
          ∙ before.errors;
      after = ap (past_decls rest) made.after ∙ sym (ap (λ (ys : List Decl). past_decls (map view_decl ys) at) left) ∙ before.after;
      size = let size = subst (λ (ys : List Decl). script_size (map view_decl ys) ≤ BYTES) left before.size in omega (arith, size);
      parts =
          subst (λ (s : SeenView). ArePartsOf p s.actors (script_in rest) whole c.declaration.new.parts) (sym made.seen)
          (parts_next p seen (view_decl x) rest whole c.loop-decl.parts c.declaration.new.parts made.parts (subst (λ (ys : List Decl). ArePartsOf p seen.actors (script_in (map view_decl ys)) whole c.loop-decl.parts) left before.parts));
    }

pub returns-in_err-declaration-clause-finds : goal.returns-in_err-declaration-clause-finds
returns-in_err-declaration-clause-finds c =
    let p = err_from_is_err_and c.from_residual.result c.from_residual.ensures.1 in
    rw (p.1, p.2) (declaration_fails c.args.plan.now.directory c.loop-decl.seen c.loop-decl.at c.args.decls.now c.loop-decl.decl-index c.decl-item.result c.in_err-declaration.field-0.0 _ c.loop-decl-test.true c.decl-item.is c.loop-decl.invariant.errors c.in_err-declaration.ensures.finds)

pub returns-clause-finds : goal.returns-clause-finds
returns-clause-finds c =
    sym c.loop-decl.invariant.errors ∙ at_drop_all (λ (ds : List Decl). declarations_error c.args.plan.now.directory c.loop-decl.seen c.loop-decl.at (map view_decl ds)) c.args.decls.now c.loop-decl.decl-index c.loop-decl-test.false

pub returns-clause-locals : goal.returns-clause-locals
returns-clause-locals c =
    let made = map local_view c.loop-decl.parts.locals.items in
    sym (append-nil made) ∙ sym (at_drop_all (λ (ds : List Decl). made ++ (script_in (map view_decl ds)).locals) c.args.decls.now c.loop-decl.decl-index c.loop-decl-test.false) ∙ c.loop-decl.invariant.parts.locals

pub returns-clause-actors : goal.returns-clause-actors
returns-clause-actors c =
    let made = map actor_view c.loop-decl.parts.actors.items in
    sym (append-nil made)
    ∙ sym (at_drop_all (λ (ds : List Decl). made ++ actors_from c.args.plan.now c.loop-decl.seen.actors (script_in (map view_decl ds)).actors) c.args.decls.now c.loop-decl.decl-index c.loop-decl-test.false)
    ∙ c.loop-decl.invariant.parts.actors

pub returns-clause-methods : goal.returns-clause-methods
returns-clause-methods c =
    let done = c.loop-decl.invariant.parts in
    let all = sym (append-nil done.views) ∙ sym (at_drop_all (λ (ds : List Decl). done.views ++ methods_from c.args.plan.now c.loop-decl.seen.actors (script_in (map view_decl ds)).actors) c.args.decls.now c.loop-decl.decl-index c.loop-decl-test.false) ∙ done.all_methods in
    subst (λ (views : List MethodView). AllZip IsMethod c.loop-decl.parts.methods.items views) all done.methods

pub returns-clause-roots : goal.returns-clause-roots
returns-clause-roots c =
    let made = map root_view c.loop-decl.parts.roots.items in
    sym (append-nil made)
    ∙ sym (at_drop_all (λ (ds : List Decl). made ++ map (root_of c.args.plan.now) (script_in (map view_decl ds)).roots) c.args.decls.now c.loop-decl.decl-index c.loop-decl-test.false)
    ∙ c.loop-decl.invariant.parts.roots
