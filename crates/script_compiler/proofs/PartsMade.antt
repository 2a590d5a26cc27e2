-- What declarations are compiled to, one after the other.
use Rattle.script_compiler.proofs.Prelude.{◌≡◌, ℕ, List, [], ◌∷◌, ◌++◌, map, refl, ap, ◌∙◌, append_assoc, append-nil, AllZip, DeclTree, Executes, Binds, Acts, Roots, SeenView, seen_after, ScriptView, script_in, PlanView, MethodView, root_of, actors_from, methods_from, method_of, local_view, actor_view, root_view, IsMethod}
use Rattle.script_compiler.specs.declared.lowering.declaration.Parts.{Parts}
use Rattle.script_compiler.specs.PartsInside.{ArePartsAfter}

-- With what these declarations are compiled to, the first actor with number k, the parts are those of the whole.
pub record ArePartsOf (p : PlanView) (k : ℕ) (left whole : ScriptView) (parts : Parts) : Type 0 where
  pub locals : map local_view parts.locals.items ++ left.locals ≡ whole.locals
  pub actors : map actor_view parts.actors.items ++ actors_from p k left.actors ≡ actors_from p 0 whole.actors
  pub views : List MethodView
  pub methods : AllZip IsMethod parts.methods.items views
  pub all_methods : views ++ methods_from p k left.actors ≡ methods_from p 0 whole.actors
  pub roots : map root_view parts.roots.items ++ map (root_of p) left.roots ≡ map (root_of p) whole.roots

more_of : {A : Type 0} (old new one rest whole : List A) → new ≡ old ++ one → old ++ (one ++ rest) ≡ whole → new ++ rest ≡ whole
more_of old new one rest whole made before = ap (λ xs. xs ++ rest) made ∙ append_assoc old one rest ∙ before

-- and so they are after one declaration more
pub parts_next : (p : PlanView) (seen : SeenView) (x : DeclTree) (rest : List DeclTree) (whole : ScriptView) (old new : Parts) → ArePartsAfter p seen.actors (script_in (x ∷ [])) old new
    → ArePartsOf p seen.actors (script_in (x ∷ rest)) whole old → ArePartsOf p (seen_after seen x).actors (script_in rest) whole new
parts_next p seen (Executes x) rest whole old new one before = record {
  locals = more_of _ _ [] _ _ one.locals before.locals;
  actors = more_of _ _ [] _ _ one.actors before.actors;
  views = before.views ++ [];
  methods = one.methods before.views before.methods;
  all_methods = more_of before.views _ [] _ _ refl before.all_methods;
  roots = more_of _ _ [] _ _ one.roots before.roots;
}
parts_next p seen (Binds l) rest whole old new one before = record {
  locals = more_of _ _ (l ∷ []) _ _ one.locals before.locals;
  actors = more_of _ _ [] _ _ one.actors before.actors;
  views = before.views ++ [];
  methods = one.methods before.views before.methods;
  all_methods = more_of before.views _ [] _ _ refl before.all_methods;
  roots = more_of _ _ [] _ _ one.roots before.roots;
}
parts_next p seen (Acts a) rest whole old new one before =
    let here = map (method_of p seen.actors) a.methods in
    record {
      locals = more_of _ _ [] _ _ one.locals before.locals;
      actors = more_of _ _ (actors_from p seen.actors (a ∷ [])) _ _ one.actors before.actors;
      views = before.views ++ (here ++ []);
      methods = one.methods before.views before.methods;
      all_methods = more_of before.views _ here _ _ (ap (λ (ms : List MethodView). before.views ++ ms) (append-nil here)) before.all_methods;
      roots = more_of _ _ [] _ _ one.roots before.roots;
    }
parts_next p seen (Roots r) rest whole old new one before = record {
  locals = more_of _ _ [] _ _ one.locals before.locals;
  actors = more_of _ _ [] _ _ one.actors before.actors;
  views = before.views ++ [];
  methods = one.methods before.views before.methods;
  all_methods = more_of before.views _ [] _ _ refl before.all_methods;
  roots = more_of _ _ (root_of p r ∷ []) _ _ one.roots before.roots;
}
