-- The order of declarations of different kinds means nothing to the rules on names and counts.
use Rattle.swift_script.proofs.Prelude.{◌≡◌, ℕ, suc, Bool, true, false, None, List, [], ◌∷◌, ◌++◌, length, map, refl, sym, ap, subst, ◌∙◌, append_assoc, append-nil, ◌||◌, nat_le, bytes_eq, or_parts, ACTORS, EXECUTORS, TASKS, ExecutorTree, LocalTree, ActorTree, RootTree, DeclTree, Executes, Binds, Acts, Roots, NameErrorKind, Twice, TooMany, is_among, DirectoryView, directory_of, SeenView, at_name, where_so, kind_error, repeat_error, target_error, decl_error, declarations_error, names_error, past_decl, seen_after, ScriptView, declarations_of, script_in, PlanView}
use Rattle.std.proofs.lemmas.Cmp.{nat_list_eq_equiv}
use Rattle.std.proofs.lemmas.List.Folds.{list_any-append}
use Rattle.script_compiler.proofs.ByKinds.{same_plan}
use Rattle.swift_script.proofs.NamesAnywhere.{earlier_parts, earlier_none, executor_kind, target, inside_error, inside}

-- A name is none of these.
abbrev pub Free : List (List ℕ) → List ℕ → Type 0
Free names n = is_among names n ≡ false

or_false : (a b : Bool) → a ≡ false → b ≡ false → (a || b) ≡ false
or_false true b e f = absurd cc
or_false false b e f = f

free_parts : (xs ys : List (List ℕ)) (n : List ℕ) → Free (xs ++ ys) n → Free xs n × Free ys n
free_parts xs ys n h = or_parts (is_among xs n) (is_among ys n) (sym (list_any-append (bytes_eq n) xs ys) ∙ h)

free_both : (xs ys : List (List ℕ)) (n : List ℕ) → Free xs n → Free ys n → Free (xs ++ ys) n
free_both xs ys n h k = list_any-append (bytes_eq n) xs ys ∙ or_false (is_among xs n) (is_among ys n) h k

abbrev Within : List (List ℕ) → List (List ℕ) → Type 0
Within xs ys = (n : List ℕ) → Free ys n → Free xs n

within_more : (xs ys : List (List ℕ)) (w : List ℕ) → Within xs ys → Within (xs ++ w ∷ []) (ys ++ w ∷ [])
within_more xs ys w h n f =
    let parts = free_parts ys (w ∷ []) n f in
    free_both xs (w ∷ []) n (h n parts.0) parts.1

abbrev pub ExecutorsOk : List (List ℕ) → ℕ → List ExecutorTree → Type 0
ExecutorsOk names count [] = Unit {0}
ExecutorsOk names count (x ∷ xs) = Free names x.name × (nat_le EXECUTORS count ≡ false) × (kind_error 0 x.kind ≡ None) × ExecutorsOk (names ++ x.name ∷ []) (suc count) xs

abbrev pub LocalsOk : List (List ℕ) → List LocalTree → Type 0
LocalsOk names [] = Unit {0}
LocalsOk names (l ∷ ls) = Free names l.name × LocalsOk (names ++ l.name ∷ []) ls

abbrev pub ActorsOk : DirectoryView → List (List ℕ) → ℕ → List ActorTree → Type 0
ActorsOk d names count [] = Unit {0}
ActorsOk d names count (a ∷ others) = Free names a.name × (nat_le ACTORS count ≡ false) × (inside_error d count 0 a ≡ None) × ActorsOk d (names ++ a.name ∷ []) (suc count) others

abbrev pub RootsOk : DirectoryView → List (List ℕ) → List RootTree → Type 0
RootsOk d names [] = Unit {0}
RootsOk d names (r ∷ rs) = Free names r.name × (nat_le TASKS (length names) ≡ false) × (target_error d 0 r.actor r.method (length r.args) ≡ None) × RootsOk d (names ++ r.name ∷ []) rs

abbrev pub Apart : List (List ℕ) → List ActorTree → Type 0
Apart names [] = Unit {0}
Apart names (a ∷ others) = Free names a.name × Apart names others

abbrev pub names_of : List ExecutorTree → List (List ℕ)
names_of xs = map (λ x. x.name) xs

pub record AllOk (d : DirectoryView) (seen : SeenView) (s : ScriptView) : Type 0 where
  pub executors : ExecutorsOk seen.places seen.executors s.executors
  pub locals : LocalsOk seen.locals s.locals
  pub actors : ActorsOk d seen.places seen.actors s.actors
  pub roots : RootsOk d seen.roots s.roots
  pub apart : Apart (names_of s.executors) s.actors

executors_among : (ps qs : List (List ℕ)) (count : ℕ) (xs : List ExecutorTree) → Within ps qs → ExecutorsOk qs count xs → ExecutorsOk ps count xs
executors_among ps qs count [] h ok = tt
executors_among ps qs count (x ∷ xs) h ok = (h x.name ok.0, ok.1, ok.2, executors_among (ps ++ x.name ∷ []) (qs ++ x.name ∷ []) (suc count) xs (within_more ps qs x.name h) ok.3)

-- actors among other names, where they are apart from what is added
actors_among : (d : DirectoryView) (ps qs more : List (List ℕ)) (count : ℕ) (others : List ActorTree) → ((n : List ℕ) → Free qs n → Free more n → Free ps n) → ActorsOk d qs count others → Apart more others → ActorsOk d ps count others
actors_among d ps qs more count [] h ok apart = tt
actors_among d ps qs more count (a ∷ others) h ok apart = (
  h a.name ok.0 apart.0,
  ok.1,
  ok.2,
  actors_among d (ps ++ a.name ∷ []) (qs ++ a.name ∷ []) more (suc count) others
      (λ n f g. let parts = free_parts qs (a.name ∷ []) n f in free_both ps (a.name ∷ []) n (h n parts.0 g) parts.1) ok.3 apart.1,
)

apart_from_none : (others : List ActorTree) → Apart [] others
apart_from_none [] = tt
apart_from_none (a ∷ others) = (refl, apart_from_none others)

apart_from : (d : DirectoryView) (names qs : List (List ℕ)) (count : ℕ) (others : List ActorTree) → Within names qs → ActorsOk d qs count others → Apart names others
apart_from d names qs count [] h ok = tt
apart_from d names qs count (a ∷ others) h ok =
    (h a.name ok.0, apart_from d names (qs ++ a.name ∷ []) (suc count) others (λ n f. h n (free_parts qs (a.name ∷ []) n f).0) ok.3)

apart_both : (w : List ℕ) (names : List (List ℕ)) (others : List ActorTree) → Apart (w ∷ []) others → Apart names others → Apart (w ∷ names) others
apart_both w names [] h k = tt
apart_both w names (a ∷ others) h k = (free_both (w ∷ []) names a.name h.0 k.0, apart_both w names others h.1 k.1)

-- a name from which executors are apart is none of theirs
none_of : (w : List ℕ) (qs : List (List ℕ)) (count : ℕ) (xs : List ExecutorTree) → Within (w ∷ []) qs → ExecutorsOk qs count xs → Free (names_of xs) w
none_of w qs count [] h ok = refl
none_of w qs count (x ∷ xs) h ok =
    let other : bytes_eq w x.name ≡ false = nat_list_eq_equiv.symm w x.name ∙ (or_parts (bytes_eq x.name w) false (h x.name ok.0)).0 in
    or_false (bytes_eq w x.name) (is_among (names_of xs) w) other (none_of w (qs ++ x.name ∷ []) (suc count) xs (λ n f. h n (free_parts qs (x.name ∷ []) n f).0) ok.3)

is_not_so : (at : ℕ) (b : Bool) (k : NameErrorKind) → at_name at (where_so b k) ≡ None → b ≡ false
is_not_so at true k e = absurd cc
is_not_so at false k e = refl

not_so : (at : ℕ) (b : Bool) (k : NameErrorKind) → b ≡ false → at_name at (where_so b k) ≡ None
not_so at true k e = absurd cc
not_so at false k e = refl

first_names : (ps : List (List ℕ)) (w : List ℕ) → Within ps (ps ++ w ∷ [])
first_names ps w n f = (free_parts ps (w ∷ []) n f).0

last_name : (ps : List (List ℕ)) (w : List ℕ) → Within (w ∷ []) (ps ++ w ∷ [])
last_name ps w n f = (free_parts ps (w ∷ []) n f).1

-- what the rules say of each kind
pub by_kinds : (d : DirectoryView) (seen : SeenView) (at : ℕ) (ds : List DeclTree) → declarations_error d seen at ds ≡ None → AllOk d seen (script_in ds)
by_kinds d seen at [] e = record { executors = tt; locals = tt; actors = tt; roots = tt; apart = tt }
by_kinds d seen at (Executes x ∷ ds) e =
    let parts = earlier_parts (decl_error d seen at (Executes x)) _ e in
    let own = earlier_parts (repeat_error seen.places at x.name) _ parts.0 in
    let rest = earlier_parts (at_name at (where_so (nat_le EXECUTORS seen.executors) TooMany)) (kind_error at x.kind) own.1 in
    let ok = by_kinds d (seen_after seen (Executes x)) (past_decl (Executes x) at) ds parts.1 in
    let s = script_in ds in
    record {
      executors = (is_not_so at (is_among seen.places x.name) Twice own.0, is_not_so at (nat_le EXECUTORS seen.executors) TooMany rest.0, (executor_kind at 0 x.kind).none rest.1, ok.executors);
      locals = ok.locals;
      actors = actors_among d seen.places (seen.places ++ x.name ∷ []) [] seen.actors s.actors (λ n f g. first_names seen.places x.name n f) ok.actors (apart_from_none s.actors);
      roots = ok.roots;
      apart = apart_both x.name (names_of s.executors) s.actors (apart_from d (x.name ∷ []) (seen.places ++ x.name ∷ []) seen.actors s.actors (last_name seen.places x.name) ok.actors) ok.apart;
    }
by_kinds d seen at (Binds l ∷ ds) e =
    let parts = earlier_parts (decl_error d seen at (Binds l)) _ e in
    let ok = by_kinds d (seen_after seen (Binds l)) (past_decl (Binds l) at) ds parts.1 in
    record {
      executors = ok.executors;
      locals = (is_not_so at (is_among seen.locals l.name) Twice parts.0, ok.locals);
      actors = ok.actors;
      roots = ok.roots;
      apart = ok.apart;
    }
by_kinds d seen at (Acts a ∷ ds) e =
    let parts = earlier_parts (decl_error d seen at (Acts a)) _ e in
    let own = earlier_parts (repeat_error seen.places at a.name) _ parts.0 in
    let rest = earlier_parts (at_name at (where_so (nat_le ACTORS seen.actors) TooMany)) (inside_error d seen.actors at a) own.1 in
    let ok = by_kinds d (seen_after seen (Acts a)) (past_decl (Acts a) at) ds parts.1 in
    let s = script_in ds in
    record {
      executors = executors_among seen.places (seen.places ++ a.name ∷ []) seen.executors s.executors (first_names seen.places a.name) ok.executors;
      locals = ok.locals;
      actors = (is_not_so at (is_among seen.places a.name) Twice own.0, is_not_so at (nat_le ACTORS seen.actors) TooMany rest.0, (inside d seen.actors at 0 a).none rest.1, ok.actors);
      roots = ok.roots;
      apart = (none_of a.name (seen.places ++ a.name ∷ []) seen.executors s.executors (last_name seen.places a.name) ok.executors, ok.apart);
    }
by_kinds d seen at (Roots r ∷ ds) e =
    let parts = earlier_parts (decl_error d seen at (Roots r)) _ e in
    let own = earlier_parts (repeat_error seen.roots at r.name) _ parts.0 in
    let rest = earlier_parts (at_name at (where_so (nat_le TASKS (length seen.roots)) TooMany)) (target_error d (suc at) r.actor r.method (length r.args)) own.1 in
    let ok = by_kinds d (seen_after seen (Roots r)) (past_decl (Roots r) at) ds parts.1 in
    record {
      executors = ok.executors;
      locals = ok.locals;
      actors = ok.actors;
      roots = (is_not_so at (is_among seen.roots r.name) Twice own.0, is_not_so at (nat_le TASKS (length seen.roots)) TooMany rest.0, (target d (suc at) 0 r.actor r.method (length r.args)).none rest.1, ok.roots);
      apart = ok.apart;
    }

-- and what they say of declarations in the order of their kinds
the_roots : (d : DirectoryView) (seen : SeenView) (at : ℕ) (rs : List RootTree) → RootsOk d seen.roots rs → declarations_error d seen at (map Roots rs) ≡ None
the_roots d seen at [] ok = refl
the_roots d seen at (r ∷ rs) ok =
    earlier_none (decl_error d seen at (Roots r)) _
    (earlier_none (repeat_error seen.roots at r.name) _ (not_so at _ Twice ok.0) (earlier_none (at_name at (where_so (nat_le TASKS (length seen.roots)) TooMany)) _ (not_so at _ TooMany ok.1) ((target d 0 (suc at) r.actor r.method (length r.args)).none ok.2)))
    (the_roots d (seen_after seen (Roots r)) (past_decl (Roots r) at) rs ok.3)

the_actors : (d : DirectoryView) (seen : SeenView) (at : ℕ) (others : List ActorTree) (after : List DeclTree) → ActorsOk d seen.places seen.actors others
    → ((places : List (List ℕ)) (count at' : ℕ) → declarations_error d (record seen { places = places; actors = count }) at' after ≡ None) → declarations_error d seen at (map Acts others ++ after) ≡ None
the_actors d seen at [] after ok h = h seen.places seen.actors at
the_actors d seen at (a ∷ others) after ok h =
    earlier_none (decl_error d seen at (Acts a)) _
    (earlier_none (repeat_error seen.places at a.name) _ (not_so at _ Twice ok.0) (earlier_none (at_name at (where_so (nat_le ACTORS seen.actors) TooMany)) _ (not_so at _ TooMany ok.1) ((inside d seen.actors 0 at a).none ok.2)))
    (the_actors d (seen_after seen (Acts a)) (past_decl (Acts a) at) others after ok.3 h)

the_locals : (d : DirectoryView) (seen : SeenView) (at : ℕ) (ls : List LocalTree) (after : List DeclTree) → LocalsOk seen.locals ls
    → ((locals : List (List ℕ)) (at' : ℕ) → declarations_error d (record seen { locals = locals }) at' after ≡ None) → declarations_error d seen at (map Binds ls ++ after) ≡ None
the_locals d seen at [] after ok h = h seen.locals at
the_locals d seen at (l ∷ ls) after ok h =
    earlier_none (decl_error d seen at (Binds l)) _ (not_so at _ Twice ok.0) (the_locals d (seen_after seen (Binds l)) (past_decl (Binds l) at) ls after ok.1 h)

the_executors : (d : DirectoryView) (seen : SeenView) (at : ℕ) (xs : List ExecutorTree) (after : List DeclTree) → ExecutorsOk seen.places seen.executors xs
    → ((places : List (List ℕ)) (count at' : ℕ) → places ≡ seen.places ++ names_of xs → declarations_error d (record seen { places = places; executors = count }) at' after ≡ None) → declarations_error d seen at (map Executes xs ++ after) ≡ None
the_executors d seen at [] after ok h = h seen.places seen.executors at (sym (append-nil seen.places))
the_executors d seen at (x ∷ xs) after ok h =
    earlier_none (decl_error d seen at (Executes x)) _
    (earlier_none (repeat_error seen.places at x.name) _ (not_so at _ Twice ok.0) (earlier_none (at_name at (where_so (nat_le EXECUTORS seen.executors) TooMany)) _ (not_so at _ TooMany ok.1) ((executor_kind 0 at x.kind).none ok.2)))
    (the_executors d (seen_after seen (Executes x)) (past_decl (Executes x) at) xs after ok.3 (λ places count at' e. h places count at' (e ∙ append_assoc seen.places (x.name ∷ []) (names_of xs))))

in_order : (d : DirectoryView) (s : ScriptView) → AllOk d (record { places = []; locals = []; roots = []; executors = 0; actors = 0 }) s → declarations_error d (record { places = []; locals = []; roots = []; executors = 0; actors = 0 }) 0 (declarations_of s) ≡ None
in_order d s ok =
    the_executors d _ 0 s.executors (map Binds s.locals ++ (map Acts s.actors ++ map Roots s.roots)) ok.executors (λ places count at e.
    the_locals d _ at s.locals (map Acts s.actors ++ map Roots s.roots) ok.locals (λ locals at'.
    the_actors d _ at' s.actors (map Roots s.roots) (actors_among d places [] (names_of s.executors) 0 s.actors (λ n f g. subst (λ (ps : List (List ℕ)). Free ps n) (sym e) g) ok.actors ok.apart) (λ places' count' at''.
    the_roots d _ at'' s.roots ok.roots)))

pub names_again : (ds : List DeclTree) → names_error ds ≡ None → names_error (declarations_of (script_in ds)) ≡ None
names_again ds e =
    let same : directory_of ds ≡ directory_of (declarations_of (script_in ds)) = ap (λ (p : PlanView). p.directory) (same_plan ds) in
    subst (λ (d : DirectoryView). declarations_error d (record { places = []; locals = []; roots = []; executors = 0; actors = 0 }) 0 (declarations_of (script_in ds)) ≡ None) same (in_order (directory_of ds) (script_in ds) (by_kinds (directory_of ds) _ 0 ds e))
