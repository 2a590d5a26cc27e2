-- In a script that is accepted no two actors have one name, no two fields of an actor, and no two roots; and no name has a dot.
use Rattle.expectations.proofs.Prelude.{◌≡◌, ◌<◌, ◌+◌, ℕ, zero, suc, Bool, true, false, ◌&&◌, List, [], ◌∷◌, ◌++◌, length, map, Option, Some, None, refl, sym, ap, subst, ◌∙◌, arith, slice_get, unwrap_or, nat_le, list_any, list_all, or_parts, or_right, list_any-append, is_name_byte, TokenView, FieldTree, ActorTree, RootTree, DeclTree, Executes, Binds, Acts, Roots, Each, one_more, IsDecl, an_executor, a_local, an_actor, IsScript, IsAccepted, no_actor, no_root, no_field, actor_at, root_at, actor_count, actor_name, actor_fields, field_name, root_count, root_name}
use Rattle.std.specs.Str.{bytes_eq}
use Rattle.std.proofs.lemmas.Slice.Eq.{bytes_eq-Decides}
use Rattle.swift_types.specs.declared.limits.TheConstants.{ACTORS, TASKS}
use Rattle.script_tokens.specs.declared.keyword.Keyword.TheVariants as key
use Rattle.script_grammar.specs.Grammar.{no_more, a_root}
use Rattle.script_names.specs.declared.error.NameErrorKind.TheVariants.{Twice, TooMany}
use Rattle.script_names.specs.Texts.{is_among}
use Rattle.script_names.specs.Directory.{DirectoryView, directory_of}
use Rattle.script_names.specs.Scope.{fields_alone}
use Rattle.script_names.specs.Rules.{SeenView, earlier, at_name, where_so, past_name_if, past_fields, past_if, past_decl, repeat_error, optional_error, methods_error, fields_error, on_error, actor_error, target_error, root_error, decl_error, seen_after, declarations_error, names_error}
use Rattle.script_compiler.proofs.Clear.{earlier_none, at_name_none}
use Rattle.script_compiler.specs.Plan.{PlanView}
use Rattle.script_compiler.specs.Compiled.{ActorView, RootView, actor_of, actors_from, root_of, compiled_of, plan_in}
use Rattle.script_printing.specs.Readable.{IsWord}
use Rattle.script_printing.specs.Script.{ScriptView, script_in}
use Rattle.script_printing.proofs.WordsLexAgain.{AreFound, lexes_found}
use Rattle.swift_script.specs.Scripts.{parts_of}

-- Names that are seen.

not_so : (b : Bool) → where_so b Twice ≡ None → b ≡ false
not_so true e = absurd (cc e)
not_so false e = refl

fresh : (seen : List (List ℕ)) (at : ℕ) (name : List ℕ) → repeat_error seen at name ≡ None → is_among seen name ≡ false
fresh seen at name e = not_so (is_among seen name) (at_name_none at (where_so (is_among seen name) Twice) e)

-- a name that is not among these and one more is neither of both
none_before : (seen : List (List ℕ)) (x name : List ℕ) → is_among (seen ++ x ∷ []) name ≡ false → (is_among seen name ≡ false) × (bytes_eq name x ≡ false)
none_before seen x name e =
    let parts = or_parts _ _ (sym (list_any-append (bytes_eq name) seen (x ∷ [])) ∙ e) in
    (parts.0, (or_parts _ _ parts.1).0)

same_bytes : (name x : List ℕ) → name ≡ x → bytes_eq name x ≡ true
same_bytes name x e = (bytes_eq-Decides name x).1 e

-- so it is another than this one
another : (seen : List (List ℕ)) (x name : List ℕ) → is_among (seen ++ x ∷ []) name ≡ false → name ≡ x → ⊥
another seen x name e same = let is = same_bytes name x same in let not = (none_before seen x name e).1 in absurd cc

-- Fields of an actor.

later_field : (seen : List (List ℕ)) (at : ℕ) (fs : List FieldTree) (k : ℕ) (f : FieldTree) → fields_error seen at fs ≡ None → slice_get fs k ≡ Some f → is_among seen f.name ≡ false
later_field seen at [] k f e there = absurd (cc there)
later_field seen at (g ∷ fs) zero f e there =
    let here = fresh seen at g.name (earlier_none (repeat_error seen at g.name) _ e).0 in
    let same : g ≡ f = cc in
    subst (λ (x : FieldTree). is_among seen x.name ≡ false) same here
later_field seen at (g ∷ fs) (suc k) f e there =
    (none_before seen g.name f.name (later_field (seen ++ g.name ∷ []) (suc at) fs k f (earlier_none (repeat_error seen at g.name) _ e).1 there)).0

fields_apart : (seen : List (List ℕ)) (at : ℕ) (fs : List FieldTree) (j k : ℕ) (f g : FieldTree) → fields_error seen at fs ≡ None → slice_get fs j ≡ Some f → slice_get fs k ≡ Some g → f.name ≡ g.name → j ≡ k
fields_apart seen at [] j k f g e left right same = absurd (cc left)
fields_apart seen at (h ∷ fs) zero zero f g e left right same = refl
fields_apart seen at (h ∷ fs) zero (suc k) f g e left right same =
    let is : h ≡ f = cc in
    absurd (another seen h.name g.name (later_field (seen ++ h.name ∷ []) (suc at) fs k g (earlier_none (repeat_error seen at h.name) _ e).1 right) (sym same ∙ ap (λ (x : FieldTree). x.name) (sym is)))
fields_apart seen at (h ∷ fs) (suc j) zero f g e left right same =
    let is : h ≡ g = cc in
    absurd (another seen h.name f.name (later_field (seen ++ h.name ∷ []) (suc at) fs j f (earlier_none (repeat_error seen at h.name) _ e).1 left) (same ∙ ap (λ (x : FieldTree). x.name) (sym is)))
fields_apart seen at (h ∷ fs) (suc j) (suc k) f g e left right same =
    ap suc (fields_apart (seen ++ h.name ∷ []) (suc at) fs j k f g (earlier_none (repeat_error seen at h.name) _ e).1 left right same)

-- Actors.

-- the name of an actor is new, and so is that of each of its fields
actor_new : (all : DirectoryView) (seen : SeenView) (at : ℕ) (a : ActorTree) → actor_error all seen at a ≡ None → (is_among seen.places a.name ≡ false) × (fields_error [] (past_name_if a.executor (suc at)) a.fields ≡ None)
actor_new all seen at a e =
    let s = fields_alone all seen.actors in
    let fields = past_name_if a.executor (suc at) in
    let named = earlier_none (repeat_error seen.places at a.name) _ e in
    let few = earlier_none (at_name at (where_so (nat_le ACTORS seen.actors) TooMany)) _ named.1 in
    let placed = earlier_none (on_error all (suc at) a.executor) _ few.1 in
    (fresh seen.places at a.name named.0, (earlier_none (fields_error [] fields a.fields) _ placed.1).0)

later_actor : (all : DirectoryView) (seen : SeenView) (at : ℕ) (ds : List DeclTree) (k : ℕ) (a : ActorTree) → declarations_error all seen at ds ≡ None → slice_get (script_in ds).actors k ≡ Some a → is_among seen.places a.name ≡ false
later_actor all seen at [] k a e there = absurd (cc there)
later_actor all seen at (Executes x ∷ ds) k a e there =
    (none_before seen.places x.name a.name (later_actor all (seen_after seen (Executes x)) (past_decl (Executes x) at) ds k a (earlier_none (decl_error all seen at (Executes x)) _ e).1 there)).0
later_actor all seen at (Binds l ∷ ds) k a e there = later_actor all (seen_after seen (Binds l)) (past_decl (Binds l) at) ds k a (earlier_none (decl_error all seen at (Binds l)) _ e).1 there
later_actor all seen at (Roots r ∷ ds) k a e there = later_actor all (seen_after seen (Roots r)) (past_decl (Roots r) at) ds k a (earlier_none (decl_error all seen at (Roots r)) _ e).1 there
later_actor all seen at (Acts b ∷ ds) zero a e there =
    let same : b ≡ a = cc in
    subst (λ (x : ActorTree). is_among seen.places x.name ≡ false) same (actor_new all seen at b (earlier_none (decl_error all seen at (Acts b)) _ e).0).0
later_actor all seen at (Acts b ∷ ds) (suc k) a e there =
    (none_before seen.places b.name a.name (later_actor all (seen_after seen (Acts b)) (past_decl (Acts b) at) ds k a (earlier_none (decl_error all seen at (Acts b)) _ e).1 there)).0

actors_apart : (all : DirectoryView) (seen : SeenView) (at : ℕ) (ds : List DeclTree) (j k : ℕ) (a b : ActorTree) → declarations_error all seen at ds ≡ None → slice_get (script_in ds).actors j ≡ Some a → slice_get (script_in ds).actors k ≡ Some b → a.name ≡ b.name → j ≡ k
actors_apart all seen at [] j k a b e left right same = absurd (cc left)
actors_apart all seen at (Executes x ∷ ds) j k a b e left right same = actors_apart all (seen_after seen (Executes x)) (past_decl (Executes x) at) ds j k a b (earlier_none (decl_error all seen at (Executes x)) _ e).1 left right same
actors_apart all seen at (Binds l ∷ ds) j k a b e left right same = actors_apart all (seen_after seen (Binds l)) (past_decl (Binds l) at) ds j k a b (earlier_none (decl_error all seen at (Binds l)) _ e).1 left right same
actors_apart all seen at (Roots r ∷ ds) j k a b e left right same = actors_apart all (seen_after seen (Roots r)) (past_decl (Roots r) at) ds j k a b (earlier_none (decl_error all seen at (Roots r)) _ e).1 left right same
actors_apart all seen at (Acts c ∷ ds) zero zero a b e left right same = refl
actors_apart all seen at (Acts c ∷ ds) zero (suc k) a b e left right same =
    let is : c ≡ a = cc in
    absurd (another seen.places c.name b.name (later_actor all (seen_after seen (Acts c)) (past_decl (Acts c) at) ds k b (earlier_none (decl_error all seen at (Acts c)) _ e).1 right) (sym same ∙ ap (λ (x : ActorTree). x.name) (sym is)))
actors_apart all seen at (Acts c ∷ ds) (suc j) zero a b e left right same =
    let is : c ≡ b = cc in
    absurd (another seen.places c.name a.name (later_actor all (seen_after seen (Acts c)) (past_decl (Acts c) at) ds j a (earlier_none (decl_error all seen at (Acts c)) _ e).1 left) (same ∙ ap (λ (x : ActorTree). x.name) (sym is)))
actors_apart all seen at (Acts c ∷ ds) (suc j) (suc k) a b e left right same =
    ap suc (actors_apart all (seen_after seen (Acts c)) (past_decl (Acts c) at) ds j k a b (earlier_none (decl_error all seen at (Acts c)) _ e).1 left right same)

-- the fields of each actor
fields_new : (all : DirectoryView) (seen : SeenView) (at : ℕ) (ds : List DeclTree) (k : ℕ) (a : ActorTree) → declarations_error all seen at ds ≡ None → slice_get (script_in ds).actors k ≡ Some a → (before : ℕ) × (fields_error [] before a.fields ≡ None)
fields_new all seen at [] k a e there = absurd (cc there)
fields_new all seen at (Executes x ∷ ds) k a e there = fields_new all (seen_after seen (Executes x)) (past_decl (Executes x) at) ds k a (earlier_none (decl_error all seen at (Executes x)) _ e).1 there
fields_new all seen at (Binds l ∷ ds) k a e there = fields_new all (seen_after seen (Binds l)) (past_decl (Binds l) at) ds k a (earlier_none (decl_error all seen at (Binds l)) _ e).1 there
fields_new all seen at (Roots r ∷ ds) k a e there = fields_new all (seen_after seen (Roots r)) (past_decl (Roots r) at) ds k a (earlier_none (decl_error all seen at (Roots r)) _ e).1 there
fields_new all seen at (Acts b ∷ ds) zero a e there =
    let same : b ≡ a = cc in
    subst (λ (x : ActorTree). (before : ℕ) × (fields_error [] before x.fields ≡ None)) same (past_name_if b.executor (suc at), (actor_new all seen at b (earlier_none (decl_error all seen at (Acts b)) _ e).0).1)
fields_new all seen at (Acts b ∷ ds) (suc k) a e there = fields_new all (seen_after seen (Acts b)) (past_decl (Acts b) at) ds k a (earlier_none (decl_error all seen at (Acts b)) _ e).1 there

-- Roots.

root_new : (all : DirectoryView) (seen : SeenView) (at : ℕ) (r : RootTree) → root_error all seen at r ≡ None → is_among seen.roots r.name ≡ false
root_new all seen at r e = fresh seen.roots at r.name (earlier_none (repeat_error seen.roots at r.name) _ e).0

later_root : (all : DirectoryView) (seen : SeenView) (at : ℕ) (ds : List DeclTree) (k : ℕ) (r : RootTree) → declarations_error all seen at ds ≡ None → slice_get (script_in ds).roots k ≡ Some r → is_among seen.roots r.name ≡ false
later_root all seen at [] k r e there = absurd (cc there)
later_root all seen at (Executes x ∷ ds) k r e there = later_root all (seen_after seen (Executes x)) (past_decl (Executes x) at) ds k r (earlier_none (decl_error all seen at (Executes x)) _ e).1 there
later_root all seen at (Binds l ∷ ds) k r e there = later_root all (seen_after seen (Binds l)) (past_decl (Binds l) at) ds k r (earlier_none (decl_error all seen at (Binds l)) _ e).1 there
later_root all seen at (Acts a ∷ ds) k r e there = later_root all (seen_after seen (Acts a)) (past_decl (Acts a) at) ds k r (earlier_none (decl_error all seen at (Acts a)) _ e).1 there
later_root all seen at (Roots q ∷ ds) zero r e there =
    let same : q ≡ r = cc in
    subst (λ (x : RootTree). is_among seen.roots x.name ≡ false) same (root_new all seen at q (earlier_none (decl_error all seen at (Roots q)) _ e).0)
later_root all seen at (Roots q ∷ ds) (suc k) r e there =
    (none_before seen.roots q.name r.name (later_root all (seen_after seen (Roots q)) (past_decl (Roots q) at) ds k r (earlier_none (decl_error all seen at (Roots q)) _ e).1 there)).0

roots_apart : (all : DirectoryView) (seen : SeenView) (at : ℕ) (ds : List DeclTree) (j k : ℕ) (q r : RootTree) → declarations_error all seen at ds ≡ None → slice_get (script_in ds).roots j ≡ Some q → slice_get (script_in ds).roots k ≡ Some r → q.name ≡ r.name → j ≡ k
roots_apart all seen at [] j k q r e left right same = absurd (cc left)
roots_apart all seen at (Executes x ∷ ds) j k q r e left right same = roots_apart all (seen_after seen (Executes x)) (past_decl (Executes x) at) ds j k q r (earlier_none (decl_error all seen at (Executes x)) _ e).1 left right same
roots_apart all seen at (Binds l ∷ ds) j k q r e left right same = roots_apart all (seen_after seen (Binds l)) (past_decl (Binds l) at) ds j k q r (earlier_none (decl_error all seen at (Binds l)) _ e).1 left right same
roots_apart all seen at (Acts a ∷ ds) j k q r e left right same = roots_apart all (seen_after seen (Acts a)) (past_decl (Acts a) at) ds j k q r (earlier_none (decl_error all seen at (Acts a)) _ e).1 left right same
roots_apart all seen at (Roots c ∷ ds) zero zero q r e left right same = refl
roots_apart all seen at (Roots c ∷ ds) zero (suc k) q r e left right same =
    let is : c ≡ q = cc in
    absurd (another seen.roots c.name r.name (later_root all (seen_after seen (Roots c)) (past_decl (Roots c) at) ds k r (earlier_none (decl_error all seen at (Roots c)) _ e).1 right) (sym same ∙ ap (λ (x : RootTree). x.name) (sym is)))
roots_apart all seen at (Roots c ∷ ds) (suc j) zero q r e left right same =
    let is : c ≡ r = cc in
    absurd (another seen.roots c.name q.name (later_root all (seen_after seen (Roots c)) (past_decl (Roots c) at) ds j q (earlier_none (decl_error all seen at (Roots c)) _ e).1 left) (same ∙ ap (λ (x : RootTree). x.name) (sym is)))
roots_apart all seen at (Roots c ∷ ds) (suc j) (suc k) q r e left right same =
    ap suc (roots_apart all (seen_after seen (Roots c)) (past_decl (Roots c) at) ds j k q r (earlier_none (decl_error all seen at (Roots c)) _ e).1 left right same)

-- Names as the text has them.

abbrev name_of : DeclTree → List ℕ
name_of (Executes x) = x.name
name_of (Binds l) = l.name
name_of (Acts a) = a.name
name_of (Roots r) = r.name

abbrev AreWords : List DeclTree → Type 0
AreWords [] = Unit {0}
AreWords (d ∷ ds) = IsWord (name_of d) × AreWords ds

found_parts : (ts us : List TokenView) → AreFound (ts ++ us) → AreFound ts × AreFound us
found_parts [] us h = (tt, h)
found_parts (t ∷ ts) us h = let rest = found_parts ts us h.1 in ((h.0, rest.0), rest.1)

decl_word : (limit : ℕ) (ts : List TokenView) (d : DeclTree) → IsDecl limit ts d → AreFound ts → IsWord (name_of d)
decl_word limit ts d (an_executor {x = x} is) h = (subst AreFound is.all h).1.0
decl_word limit ts d (a_local {l = l} is) h = (subst AreFound is.all h).1.0
decl_word limit ts d (an_actor {a = a} is) h = (subst AreFound is.all h).1.0
decl_word limit ts d (a_root {r = r} is) h = (subst AreFound is.all h).1.0

decl_words : (limit : ℕ) {ts : List TokenView} {ds : List DeclTree} → Each (IsDecl limit) ts ds → AreFound ts → AreWords ds
decl_words limit no_more h = tt
decl_words limit (one_more {ts} {us} {x} {xs} is rest) h =
    let parts = found_parts ts us h in
    (decl_word limit ts x is parts.0, decl_words limit rest parts.1)

actor_word : (ds : List DeclTree) (k : ℕ) (a : ActorTree) → AreWords ds → slice_get (script_in ds).actors k ≡ Some a → IsWord a.name
actor_word [] k a h there = absurd (cc there)
actor_word (Executes x ∷ ds) k a h there = actor_word ds k a h.1 there
actor_word (Binds l ∷ ds) k a h there = actor_word ds k a h.1 there
actor_word (Roots r ∷ ds) k a h there = actor_word ds k a h.1 there
actor_word (Acts b ∷ ds) zero a h there = let same : b ≡ a = cc in subst (λ (x : ActorTree). IsWord x.name) same h.0
actor_word (Acts b ∷ ds) (suc k) a h there = actor_word ds k a h.1 there

root_word : (ds : List DeclTree) (k : ℕ) (r : RootTree) → AreWords ds → slice_get (script_in ds).roots k ≡ Some r → IsWord r.name
root_word [] k r h there = absurd (cc there)
root_word (Executes x ∷ ds) k r h there = root_word ds k r h.1 there
root_word (Binds l ∷ ds) k r h there = root_word ds k r h.1 there
root_word (Acts a ∷ ds) k r h there = root_word ds k r h.1 there
root_word (Roots q ∷ ds) zero r h there = let same : q ≡ r = cc in subst (λ (x : RootTree). IsWord x.name) same h.0
root_word (Roots q ∷ ds) (suc k) r h there = root_word ds k r h.1 there

-- What a script is compiled to.

-- an actor of a tree, as callers see it
record IsActorOf (xs : List ActorTree) (k : ℕ) (v : ActorView) : Type 0 where
  tree : ActorTree
  there : slice_get xs k ≡ Some tree
  name : v.name ≡ tree.name
  fields : v.fields ≡ tree.fields

actor_is : (p : PlanView) (n : ℕ) (xs : List ActorTree) (k : ℕ) → k < length (actors_from p n xs) → IsActorOf xs k (unwrap_or (slice_get (actors_from p n xs) k) no_actor)
actor_is p n [] k low = absurd (omega (arith, low))
actor_is p n (a ∷ xs) zero low = record { tree = a; there = refl; name = refl; fields = refl }
actor_is p n (a ∷ xs) (suc k) low =
    let rest = actor_is p (suc n) xs k (omega (arith, low)) in
    record { tree = rest.tree; there = rest.there; name = rest.name; fields = rest.fields }

record IsRootOf (rs : List RootTree) (k : ℕ) (v : RootView) : Type 0 where
  tree : RootTree
  there : slice_get rs k ≡ Some tree
  name : v.name ≡ tree.name

root_is : (p : PlanView) (rs : List RootTree) (k : ℕ) → k < length (map (root_of p) rs) → IsRootOf rs k (unwrap_or (slice_get (map (root_of p) rs) k) no_root)
root_is p [] k low = absurd (omega (arith, low))
root_is p (r ∷ rs) zero low = record { tree = r; there = refl; name = refl }
root_is p (r ∷ rs) (suc k) low =
    let rest = root_is p rs k (omega (arith, low)) in
    record { tree = rest.tree; there = rest.there; name = rest.name }

actor_of_script : (p : ScriptView) (k : ℕ) → k < actor_count p → IsActorOf p.actors k (actor_at p k)
unfolding parts_of
actor_of_script p k low = actor_is (plan_in p) 0 p.actors k low

root_of_script : (p : ScriptView) (k : ℕ) → k < root_count p → IsRootOf p.roots k (root_at p k)
unfolding parts_of
root_of_script p k low = root_is (plan_in p) p.roots k low

field_there : (fs : List FieldTree) (i : ℕ) → i < length fs → slice_get fs i ≡ Some (unwrap_or (slice_get fs i) no_field)
field_there [] i low = absurd (omega (arith, low))
field_there (f ∷ fs) zero low = refl
field_there (f ∷ fs) (suc i) low = field_there fs i (omega (arith, low))

-- Names tell actors, the fields of an actor and roots apart, and are words.
pub record AreApart (p : ScriptView) : Type 0 where
  pub actors : (j k : ℕ) → j < actor_count p → k < actor_count p → actor_name p j ≡ actor_name p k → j ≡ k
  pub fields : (k i j : ℕ) → k < actor_count p → i < length (actor_fields p k) → j < length (actor_fields p k) → field_name p k i ≡ field_name p k j → i ≡ j
  pub roots : (q r : ℕ) → q < root_count p → r < root_count p → root_name p q ≡ root_name p r → q ≡ r
  pub actor_words : (k : ℕ) → k < actor_count p → list_all is_name_byte (actor_name p k) ≡ true
  pub root_words : (r : ℕ) → r < root_count p → list_all is_name_byte (root_name p r) ≡ true

apart_of : (ds : List DeclTree) → names_error ds ≡ None → AreWords ds → AreApart (script_in ds)
apart_of ds e words =
    let p = script_in ds in
    let none : SeenView = record { places = []; locals = []; roots = []; executors = 0; actors = 0 } in
    record {
      actors = λ j k low high same.
          let a = actor_of_script p j low in
          let b = actor_of_script p k high in
          actors_apart (directory_of ds) none 0 ds j k a.tree b.tree e a.there b.there (sym a.name ∙ same ∙ b.name);
      fields = λ k i j low left right same.
          let a = actor_of_script p k low in
          let new = fields_new (directory_of ds) none 0 ds k a.tree e a.there in
          let fs = actor_fields p k in
          fields_apart [] new.0 fs i j _ _ (subst (λ (x : List FieldTree). fields_error [] new.0 x ≡ None) (sym a.fields) new.1) (field_there fs i left) (field_there fs j right) same;
      roots = λ q r low high same.
          let a = root_of_script p q low in
          let b = root_of_script p r high in
          roots_apart (directory_of ds) none 0 ds q r a.tree b.tree e a.there b.there (sym a.name ∙ same ∙ b.name);
      actor_words = λ k low.
          let a = actor_of_script p k low in
          ap (list_all is_name_byte) a.name ∙ (actor_word ds k a.tree words a.there).bytes;
      root_words = λ r low.
          let a = root_of_script p r low in
          ap (list_all is_name_byte) a.name ∙ (root_word ds r a.tree words a.there).bytes;
    }

-- So it is in a script that is accepted.
pub accepted_apart : (bytes : List ℕ) (p : ScriptView) → IsAccepted bytes p → AreApart p
accepted_apart bytes p is = subst AreApart (sym is.is) (apart_of is.decls is.names (decl_words _ is.spelled.spelled (lexes_found is.spelled.lexed)))
