-- The printed form spells the declarations that it prints.
use Rattle.script_printing.proofs.Prelude.{ℕ, ℤ, pos, negsuc, suc, List, [], ◌∷◌, ◌++◌, Option, Some, None, refl, ap, ◌∙◌, append_assoc, arith, All, flat_map, TokenView, Name, Key, Sign, ExecutorKind, Plain, ExprTree, block_tree, ExecutorTree, LocalTree, FieldTree, MethodTree, ActorTree, RootTree, DeclTree, Executes, Binds, Acts, Roots, IsInt, plain, opposite, IsName, IsKind, by_priority, by_age, by_worker, IsExecutorDecl, IsLocal, IsField, IsOn, on_its_own, on_shared, IsInvariant, no_invariant, an_invariant, IsMethodDecl, IsActor, IsStart, IsRoot, IsDecl, an_executor, a_local, an_actor, a_root, IsScript, listed, braced, pieces_of_int, pieces_of_name, pieces_of_kind, pieces_of_field, pieces_of_on, pieces_of_invariant, pieces_of_method, pieces_of_block, pieces_of_priority, pieces_of_start, pieces_of_decl, pieces_of_script, ScriptView, declarations_of, InvariantFits, MethodFits, ActorFits}
use Rattle.script_tokens.specs.declared.mark.Mark.TheVariants as mark
use Rattle.script_tokens.specs.declared.keyword.Keyword.TheVariants as key
use Rattle.swift_types.specs.declared.executor_kind.ExecutorKind.TheVariants as kind
use Rattle.script_printing.proofs.ByKind.{declarations_hold}
use Rattle.script_printing.proofs.Spelled.{expression_with, each_of, listed_of, priority, body}

all_anything : {A : Type 0} (xs : List A) → All (λ (x : A). Unit {0}) xs
all_anything xs = λ k d h. tt

int : (n : ℤ) → Unit {0} → IsInt (pieces_of_int n) n
int (pos n) h = plain (pos n)
int (negsuc n) h = opposite (pos (suc n)) (λ e. cc)

name : (w : List ℕ) → Unit {0} → IsName (pieces_of_name w) w
name w h = refl

kind_of : (k : ExecutorKind) → IsKind (pieces_of_kind k) k
kind_of kind.Priority = by_priority
kind_of kind.Fifo = by_age
kind_of (kind.Pinned n) = by_worker n

executor : (x : ExecutorTree) → IsExecutorDecl (pieces_of_decl (Executes x)) x
executor x = record { kind = pieces_of_kind x.kind; has_kind = kind_of x.kind; all = refl }

local : (l : LocalTree) → IsLocal (pieces_of_decl (Binds l)) l
local l = record { default = pieces_of_int l.default; has_default = int l.default tt; all = refl }

field : (f : FieldTree) → Unit {0} → IsField (pieces_of_field f) f
field f h = record { start = pieces_of_int f.start; has_start = int f.start tt; all = refl }

on : (o : Option (List ℕ)) → IsOn (pieces_of_on o) o
on None = on_its_own
on (Some w) = on_shared w

invariant : (limit : ℕ) (o : Option ExprTree) → InvariantFits limit o → IsInvariant limit (pieces_of_invariant o) o
invariant limit None h = no_invariant
invariant limit (Some t) h = an_invariant (expression_with Plain limit limit t h.1 h.0 (omega arith))

method : (limit : ℕ) (m : MethodTree) → MethodFits limit m → IsMethodDecl limit (pieces_of_method m) m
method limit m h = record {
  params = listed pieces_of_name m.params;
  body = braced (pieces_of_block (block_tree m.body));
  has_params = listed_of IsName pieces_of_name (λ w. Unit {0}) name m.params (all_anything m.params);
  has_body = body limit m.body h.room h.body;
  all = refl;
}

actor : (limit : ℕ) (a : ActorTree) → ActorFits limit a → IsActor limit (pieces_of_decl (Acts a)) a
actor limit a h =
    let shared = pieces_of_on a.executor in
    let fields = flat_map pieces_of_field a.fields in
    let test = pieces_of_invariant a.invariant in
    let methods = flat_map pieces_of_method a.methods in
    let close : List TokenView = Sign mark.CloseBrace ∷ [] in
    record {
      on = shared;
      fields = fields;
      invariant = test;
      methods = methods;
      has_executor = on a.executor;
      has_fields = each_of IsField pieces_of_field (λ f. Unit {0}) field a.fields (all_anything a.fields);
      has_invariant = invariant limit a.invariant h.invariant;
      has_methods = each_of (IsMethodDecl limit) pieces_of_method (MethodFits limit) (method limit) a.methods h.methods;
      all = ap (λ ts. Key key.Actor ∷ Name a.name ∷ (shared ++ Sign mark.OpenBrace ∷ ts)) (append_assoc fields (test ++ methods) close ∙ ap (λ ts. fields ++ ts) (append_assoc test methods close));
    }

start : (r : RootTree) → IsStart (pieces_of_start r) r
start r = record { args = listed pieces_of_int r.args; has_args = listed_of IsInt pieces_of_int (λ n. Unit {0}) int r.args (all_anything r.args); all = refl }

root : (r : RootTree) → IsRoot (pieces_of_decl (Roots r)) r
root r = record {
  start = pieces_of_start r;
  at = pieces_of_priority r.priority;
  priority = Some r.priority;
  has_start = start r;
  has_priority = priority r.priority;
  is = refl;
  all = refl;
}

-- an actor is within the limit, and so is each other declaration
abbrev pub DeclFits : ℕ → DeclTree → Type 0
DeclFits limit (Executes x) = Unit {0}
DeclFits limit (Binds l) = Unit {0}
DeclFits limit (Acts a) = ActorFits limit a
DeclFits limit (Roots r) = Unit {0}

decl : (limit : ℕ) (d : DeclTree) → DeclFits limit d → IsDecl limit (pieces_of_decl d) d
decl limit (Executes x) h = an_executor (executor x)
decl limit (Binds l) h = a_local (local l)
decl limit (Acts a) h = an_actor (actor limit a h)
decl limit (Roots r) h = a_root (root r)

pub declarations : (limit : ℕ) (ds : List DeclTree) → All (DeclFits limit) ds → IsScript limit (flat_map pieces_of_decl ds) ds
declarations limit ds h = each_of (IsDecl limit) pieces_of_decl (DeclFits limit) (decl limit) ds h

pub script : (limit : ℕ) (s : ScriptView) → All (ActorFits limit) s.actors → IsScript limit (pieces_of_script s) (declarations_of s)
script limit s h =
    declarations limit (declarations_of s) (declarations_hold (DeclFits limit) s (record { executors = all_anything s.executors; locals = all_anything s.locals; actors = h; roots = all_anything s.roots }))
