-- Where names are in order, the directory leaves nothing out.
use Rattle.script_names.proofs.Prelude.{◌≡◌, ◌≤◌, ◌+◌, ℕ, suc, nat_eq, nat_le, Bool, true, false, cond, List, [], ◌∷◌, ◌++◌, map, length, refl, sym, ap, ◌∙◌, append_assoc, Option, None, Some, arith, length-append, ◌&&◌, bytes_eq, or_parts, or_from, and_left, ne_eqb, append-nil, FieldTree, MethodTree, ActorTree, DeclTree, Executes, Binds, Acts, Roots, NameError, is_among, with_name, method_key, DirectoryView, field_names, with_names, with_method, with_methods, with_actor, with_decls, directory_of, nothing_declared, executors_in, locals_in, roots_in, actors_in, fields_in, methods_from, params_in, declared_in, ScopeView, fields_alone, SeenView, earlier, at_name, where_so, past_name_if, past_fields, past_if, past_method, past_decl, optional_error, repeat_error, method_error, methods_error, fields_error, on_error, executor_error, kind_error, actor_error, root_error, target_error, seen_after, declarations_error, names_error}
use Rattle.std.proofs.lemmas.List.Folds.{list_any-append}
use Rattle.swift_types.specs.declared.limits.TheConstants.{ACTORS, EXECUTORS, TASKS}
use Rattle.script_names.specs.declared.error.NameErrorKind.{NameErrorKind}
use Rattle.script_names.specs.declared.error.NameErrorKind.TheVariants.{Twice, TooMany}

earlier_none : (f g : Option NameError) → earlier f g ≡ None → (f ≡ None) × (g ≡ None)
earlier_none None g e = (refl, e)
earlier_none (Some m) g e = absurd (cc)

at_name_none : (at : ℕ) (o : Option NameErrorKind) → at_name at o ≡ None → o ≡ None
at_name_none at None e = refl
at_name_none at (Some k) e = absurd (cc)

where_so_none : (b : Bool) (m : NameErrorKind) → where_so b m ≡ None → b ≡ false
where_so_none true m e = absurd (cc)
where_so_none false m e = refl

-- a name that is not repeated is new
fresh_name : (seen : List (List ℕ)) (at : ℕ) (name : List ℕ) → repeat_error seen at name ≡ None → is_among seen name ≡ false
fresh_name seen at name e = where_so_none (is_among seen name) Twice (at_name_none at (where_so (is_among seen name) Twice) e)

-- a new name goes after the others
after_others : (names : List (List ℕ)) (name : List ℕ) → is_among names name ≡ false → with_name names name ≡ names ++ name ∷ []
after_others names name e = ap (λ (b : Bool). cond b names (names ++ name ∷ [])) e

and_right : (a b : Bool) → b ≡ false → (a && b) ≡ false
and_right true b e = e
and_right false b e = refl

-- another method of one actor
other_method : (actor : ℕ) (n m : List ℕ) → bytes_eq n m ≡ false → bytes_eq (method_key actor n) (method_key actor m) ≡ false
other_method actor n m e = and_right (nat_eq actor actor) _ e

-- a method of another actor
others : (actor k : ℕ) (n : List ℕ) (ms : List MethodTree) → nat_eq k actor ≡ false → is_among (map (λ m. method_key actor m.name) ms) (method_key k n) ≡ false
others actor k n [] e = refl
others actor k n (m ∷ ms) e = or_from _ _ (and_left _ _ e) (others actor k n ms e)

not_among-append : (xs ys : List (List ℕ)) (n : List ℕ) → is_among xs n ≡ false → is_among ys n ≡ false → is_among (xs ++ ys) n ≡ false
not_among-append xs ys n p q = list_any-append (bytes_eq n) xs ys ∙ or_from _ _ p q

not_among-parts : (xs : List (List ℕ)) (x n : List ℕ) → is_among (xs ++ x ∷ []) n ≡ false → (is_among xs n ≡ false) × (bytes_eq n x ≡ false)
not_among-parts xs x n e =
    let p = or_parts _ _ (sym (list_any-append (bytes_eq n) xs (x ∷ [])) ∙ e) in
    (p.0, (or_parts _ _ p.1).0)

-- all fields of an actor
fields_kept : (seen : List (List ℕ)) (at : ℕ) (fs : List FieldTree) → fields_error seen at fs ≡ None → with_names seen (field_names fs) ≡ seen ++ field_names fs
fields_kept seen at [] e = sym (append-nil seen)
fields_kept seen at (f ∷ fs) e =
    let parts = earlier_none (repeat_error seen at f.name) (fields_error (seen ++ f.name ∷ []) (suc at) fs) e in
    ap (λ (ns : List (List ℕ)). with_names ns (field_names fs)) (after_others seen f.name (fresh_name seen at f.name parts.0))
    ∙ fields_kept (seen ++ f.name ∷ []) (suc at) fs parts.1 ∙ append_assoc seen (f.name ∷ []) (field_names fs)

-- a directory with these methods after the others
abbrev more_methods : DirectoryView → List (List ℕ) → List ℕ → DirectoryView
more_methods d ms ps = record d { methods = d.methods ++ ms; params = d.params ++ ps }

-- one method of a name that is not there yet
added : (actor : ℕ) (m : MethodTree) (d : DirectoryView) → is_among d.methods (method_key actor m.name) ≡ false → with_method actor m d ≡ more_methods d (method_key actor m.name ∷ []) (length m.params ∷ [])
added actor m d e = ap (λ (b : Bool). cond b d (more_methods d (method_key actor m.name ∷ []) (length m.params ∷ []))) e

-- all methods of an actor
methods_kept : (s : ScopeView) (actor at : ℕ) (seen : List (List ℕ)) (ms : List MethodTree) (d : DirectoryView) → ((n : List ℕ) → is_among seen n ≡ false → is_among d.methods (method_key actor n) ≡ false) → methods_error s seen at ms ≡ None → with_methods actor ms d ≡ more_methods d (map (λ m. method_key actor m.name) ms) (map (λ m. length m.params) ms)
methods_kept s actor at seen [] d new e = rw (append-nil d.methods, append-nil d.params)
methods_kept s actor at seen (m ∷ ms) d new e =
    let one = method_error s seen at m in
    let parts = earlier_none one (methods_error s (seen ++ m.name ∷ []) (past_method m at) ms) e in
    let fresh : is_among seen m.name ≡ false = fresh_name seen at m.name (earlier_none (repeat_error seen at m.name) _ parts.0).0 in
    let d' = more_methods d (method_key actor m.name ∷ []) (length m.params ∷ []) in
    let still : (n : List ℕ) → is_among (seen ++ m.name ∷ []) n ≡ false → is_among d'.methods (method_key actor n) ≡ false = λ n h. not_among-append d.methods _ (method_key actor n) (new n (not_among-parts seen m.name n h).0) (or_from _ _ (other_method actor n m.name (not_among-parts seen m.name n h).1) refl) in
    let first = ap (with_methods actor ms) (added actor m d (new m.name fresh)) in
    let rest = methods_kept s actor (past_method m at) (seen ++ m.name ∷ []) ms d' still parts.1 in
    first ∙ rest ∙ (rw (append_assoc d.methods _ _, append_assoc d.params _ _))

-- a directory, and what stands in the rest of the text
abbrev and_more : DirectoryView → List DeclTree → DirectoryView
and_more d xs = record {
  executors = d.executors ++ executors_in xs;
  locals = d.locals ++ locals_in xs;
  roots = d.roots ++ roots_in xs;
  actors = d.actors ++ actors_in xs;
  fields = d.fields ++ fields_in xs;
  methods = d.methods ++ methods_from (length d.actors) xs;
  params = d.params ++ params_in xs;
}

-- the directory of what was seen
record Holds (d : DirectoryView) (seen : SeenView) : Type 0 where
  executors : (n : List ℕ) → is_among seen.places n ≡ false → is_among d.executors n ≡ false
  actors : (n : List ℕ) → is_among seen.places n ≡ false → is_among d.actors n ≡ false
  locals : d.locals ≡ seen.locals
  roots : d.roots ≡ seen.roots
  methods : (k : ℕ) (n : List ℕ) → length d.actors ≤ k → is_among d.methods (method_key k n) ≡ false

-- all names before, and one more
more_places : (seen names : List (List ℕ)) (name : List ℕ) → ((n : List ℕ) → is_among seen n ≡ false → is_among names n ≡ false) → (n : List ℕ) → is_among (seen ++ name ∷ []) n ≡ false → is_among (names ++ name ∷ []) n ≡ false
more_places seen names name h n e =
    let p = not_among-parts seen name n e in
    not_among-append names (name ∷ []) n (h n p.0) (or_from _ _ p.1 refl)

-- an actor that is new
abbrev with_new_actor : ActorTree → DirectoryView → DirectoryView
with_new_actor a d = record d { actors = d.actors ++ a.name ∷ []; fields = d.fields ++ field_names a.fields ∷ []; methods = d.methods ++ map (λ m. method_key (length d.actors) m.name) a.methods; params = d.params ++ map (λ m. length m.params) a.methods }

actor_kept : (all d : DirectoryView) (seen : SeenView) (at : ℕ) (a : ActorTree) → Holds d seen → actor_error all seen at a ≡ None → with_actor a d ≡ with_new_actor a d
actor_kept all d seen at a h e =
    let s = fields_alone all seen.actors in
    let fields = past_name_if a.executor (suc at) in
    let invariant = past_fields a.fields fields in
    let methods_fine = methods_error s [] (past_if a.invariant invariant) a.methods in
    let from_invariant = earlier (optional_error s invariant a.invariant) methods_fine in
    let from_fields = earlier (fields_error [] fields a.fields) from_invariant in
    let from_executor = earlier (on_error all (suc at) a.executor) from_fields in
    let from_count = earlier (at_name at (where_so (nat_le ACTORS seen.actors) TooMany)) from_executor in
    let e0 = earlier_none (repeat_error seen.places at a.name) from_count e in
    let e1 = earlier_none (at_name at (where_so (nat_le ACTORS seen.actors) TooMany)) from_executor e0.1 in
    let e2 = earlier_none (on_error all (suc at) a.executor) from_fields e1.1 in
    let e3 = earlier_none (fields_error [] fields a.fields) from_invariant e2.1 in
    let e4 = earlier_none (optional_error s invariant a.invariant) methods_fine e3.1 in
    let fresh : is_among d.actors a.name ≡ false = h.actors a.name (fresh_name seen.places at a.name e0.0) in
    let d' = record d { actors = d.actors ++ a.name ∷ []; fields = d.fields ++ with_names [] (field_names a.fields) ∷ [] } in
    ap (λ (b : Bool). cond b d (with_methods (length d.actors) a.methods d')) fresh
    ∙ methods_kept s (length d.actors) (past_if a.invariant invariant) [] a.methods d' (λ n k. h.methods (length d.actors) n (omega arith)) e4.1
    ∙ ap (λ (ns : List (List ℕ)). record (with_new_actor a d) { fields = d.fields ++ ns ∷ [] }) (fields_kept [] fields a.fields e3.0)

still_holds : (d : DirectoryView) (seen : SeenView) (a : ActorTree) → Holds d seen → Holds (with_new_actor a d) (seen_after seen (Acts a))
still_holds d seen a h =
    let longer : length (d.actors ++ a.name ∷ []) ≡ length d.actors + 1 = length-append d.actors (a.name ∷ []) in
    let own = map (λ (m : MethodTree). method_key (length d.actors) m.name) a.methods in
    record {
      executors = λ n e. h.executors n (not_among-parts seen.places a.name n e).0;
      actors = more_places seen.places d.actors a.name h.actors;
      locals = h.locals;
      roots = h.roots;
      methods = λ k n l. not_among-append d.methods own (method_key k n) (h.methods k n (omega (arith, longer))) (others (length d.actors) k n a.methods (ne_eqb k (length d.actors) (λ same. omega (arith, longer))));
    }

actor_more : (d : DirectoryView) (a : ActorTree) (xs : List DeclTree) → and_more (with_new_actor a d) xs ≡ and_more d (Acts a ∷ xs)
actor_more d a xs =
    let longer : length (d.actors ++ a.name ∷ []) ≡ length d.actors + 1 = length-append d.actors (a.name ∷ []) in
    let own = map (λ (m : MethodTree). method_key (length d.actors) m.name) a.methods in
    ap (λ (k : ℕ). record (and_more (with_new_actor a d) xs) { methods = (d.methods ++ own) ++ methods_from k xs }) longer
    ∙ (rw (append_assoc d.actors _ _, append_assoc d.fields _ _, append_assoc d.methods _ _, append_assoc d.params _ _))

-- all declarations
decls_kept : (all d : DirectoryView) (seen : SeenView) (at : ℕ) (xs : List DeclTree) → Holds d seen → declarations_error all seen at xs ≡ None → with_decls xs d ≡ and_more d xs
decls_kept all d seen at [] h e = rw (append-nil d.executors, append-nil d.locals, append-nil d.roots, append-nil d.actors, append-nil d.fields, append-nil d.methods, append-nil d.params)
decls_kept all d seen at (Executes x ∷ xs) h e =
    let parts = earlier_none (executor_error seen at x) (declarations_error all (seen_after seen (Executes x)) (suc at) xs) e in
    let inner = earlier_none (repeat_error seen.places at x.name) (earlier (at_name at (where_so (nat_le EXECUTORS seen.executors) TooMany)) (kind_error at x.kind)) parts.0 in
    let fresh : is_among d.executors x.name ≡ false = h.executors x.name (fresh_name seen.places at x.name inner.0) in
    let d' = record d { executors = d.executors ++ x.name ∷ [] } in
    let holds : Holds d' (seen_after seen (Executes x)) = record {
      executors = more_places seen.places d.executors x.name h.executors;
      actors = λ n k. h.actors n (not_among-parts seen.places x.name n k).0;
      locals = h.locals;
      roots = h.roots;
      methods = h.methods;
    } in
    ap (λ (ns : List (List ℕ)). with_decls xs (record d { executors = ns })) (after_others d.executors x.name fresh)
    ∙ decls_kept all d' (seen_after seen (Executes x)) (suc at) xs holds parts.1
    ∙ ap (λ (ns : List (List ℕ)). record (and_more d xs) { executors = ns }) (append_assoc d.executors (x.name ∷ []) (executors_in xs))
decls_kept all d seen at (Binds x ∷ xs) h e =
    let parts = earlier_none (repeat_error seen.locals at x.name) (declarations_error all (seen_after seen (Binds x)) (suc at) xs) e in
    let fresh : is_among d.locals x.name ≡ false = ap (λ (ns : List (List ℕ)). is_among ns x.name) h.locals ∙ fresh_name seen.locals at x.name parts.0 in
    let d' = record d { locals = d.locals ++ x.name ∷ [] } in
    let holds : Holds d' (seen_after seen (Binds x)) = record {
      executors = h.executors;
      actors = h.actors;
      locals = ap (λ (ns : List (List ℕ)). ns ++ x.name ∷ []) h.locals;
      roots = h.roots;
      methods = h.methods;
    } in
    ap (λ (ns : List (List ℕ)). with_decls xs (record d { locals = ns })) (after_others d.locals x.name fresh)
    ∙ decls_kept all d' (seen_after seen (Binds x)) (suc at) xs holds parts.1
    ∙ ap (λ (ns : List (List ℕ)). record (and_more d xs) { locals = ns }) (append_assoc d.locals (x.name ∷ []) (locals_in xs))
decls_kept all d seen at (Roots x ∷ xs) h e =
    let parts = earlier_none (root_error all seen at x) (declarations_error all (seen_after seen (Roots x)) (past_decl (Roots x) at) xs) e in
    let inner = earlier_none (repeat_error seen.roots at x.name) (earlier (at_name at (where_so (nat_le TASKS (length seen.roots)) TooMany)) (target_error all (suc at) x.actor x.method (length x.args))) parts.0 in
    let fresh : is_among d.roots x.name ≡ false = ap (λ (ns : List (List ℕ)). is_among ns x.name) h.roots ∙ fresh_name seen.roots at x.name inner.0 in
    let d' = record d { roots = d.roots ++ x.name ∷ [] } in
    let holds : Holds d' (seen_after seen (Roots x)) = record {
      executors = h.executors;
      actors = h.actors;
      locals = h.locals;
      roots = ap (λ (ns : List (List ℕ)). ns ++ x.name ∷ []) h.roots;
      methods = h.methods;
    } in
    ap (λ (ns : List (List ℕ)). with_decls xs (record d { roots = ns })) (after_others d.roots x.name fresh)
    ∙ decls_kept all d' (seen_after seen (Roots x)) (past_decl (Roots x) at) xs holds parts.1
    ∙ ap (λ (ns : List (List ℕ)). record (and_more d xs) { roots = ns }) (append_assoc d.roots (x.name ∷ []) (roots_in xs))
decls_kept all d seen at (Acts a ∷ xs) h e =
    let parts = earlier_none (actor_error all seen at a) (declarations_error all (seen_after seen (Acts a)) (past_decl (Acts a) at) xs) e in
    ap (with_decls xs) (actor_kept all d seen at a h parts.0)
    ∙ decls_kept all (with_new_actor a d) (seen_after seen (Acts a)) (past_decl (Acts a) at) xs (still_holds d seen a h) parts.1
    ∙ actor_more d a xs

pub nothing_left_out : (decls : List DeclTree) → names_error decls ≡ None → directory_of decls ≡ declared_in decls
nothing_left_out decls e =
    let holds : Holds nothing_declared (record { places = []; locals = []; roots = []; executors = 0; actors = 0 }) = record { executors = λ n h. refl; actors = λ n h. refl; locals = refl; roots = refl; methods = λ k n l. refl } in
    decls_kept (directory_of decls) nothing_declared _ 0 decls holds e
