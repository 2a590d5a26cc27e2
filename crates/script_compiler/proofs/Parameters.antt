-- A script's directory has as many numbers of parameters as methods.
use Rattle.script_compiler.proofs.Prelude.{◌≡◌, ℕ, List, [], ◌∷◌, ◌++◌, length, refl, arith, length-append, cond_both, MethodTree, ActorTree, DeclTree, Executes, Binds, Acts, Roots, is_among, method_key, DirectoryView, field_names, with_names, with_method, with_methods, with_actor, with_decls, directory_of, nothing_declared}

abbrev AsMany : DirectoryView → Type 0
AsMany d = length d.params ≡ length d.methods

method_more : (actor : ℕ) (m : MethodTree) (d : DirectoryView) → AsMany d → AsMany (with_method actor m d)
method_more actor m d h =
    let key = method_key actor m.name in
    let more = record d { methods = d.methods ++ key ∷ []; params = d.params ++ length m.params ∷ [] } in
    cond_both (is_among d.methods key) d more AsMany (λ _. h) (λ _. omega (arith, h, length-append d.methods (key ∷ []), length-append d.params (length m.params ∷ [])))

methods_more : (actor : ℕ) (ms : List MethodTree) (d : DirectoryView) → AsMany d → AsMany (with_methods actor ms d)
methods_more actor [] d h = h
methods_more actor (m ∷ ms) d h = methods_more actor ms (with_method actor m d) (method_more actor m d h)

actor_more : (a : ActorTree) (d : DirectoryView) → AsMany d → AsMany (with_actor a d)
actor_more a d h =
    let alone = record d { actors = d.actors ++ a.name ∷ []; fields = d.fields ++ with_names [] (field_names a.fields) ∷ [] } in
    cond_both (is_among d.actors a.name) d (with_methods (length d.actors) a.methods alone) AsMany (λ _. h) (λ _. methods_more (length d.actors) a.methods alone h)

decls_more : (xs : List DeclTree) (d : DirectoryView) → AsMany d → AsMany (with_decls xs d)
decls_more [] d h = h
decls_more (Executes x ∷ xs) d h = decls_more xs _ h
decls_more (Binds l ∷ xs) d h = decls_more xs _ h
decls_more (Acts a ∷ xs) d h = decls_more xs (with_actor a d) (actor_more a d h)
decls_more (Roots r ∷ xs) d h = decls_more xs _ h

pub as_many_parameters : (decls : List DeclTree) → length (directory_of decls).params ≡ length (directory_of decls).methods
as_many_parameters decls = decls_more decls nothing_declared refl
