-- The methods of accepted scripts close the groups that they open, since a group's block does not return.
use Rattle.swift_laws.proofs.Prelude.{◌≡◌, ℕ, zero, suc, ◌-◌, Bool, true, false, List, [], ◌∷◌, ◌++◌, map, refl, sym, subst, Option, Some, None, unwrap_or, slice_get, All, AllByRecursion, false≢true, recursion_from_All, ValueTree, Computed, Waited, MakeTree, Spawned, Detached, ActionTree, Let, LetTask, Assign, Makes, Return, HeadTree, If, While, Bind, Group, Assume, StmtTree, Do, Headed, IfElse, BlockTree, nothing, first_then, block_tree, MethodTree, ActorTree, scope_after, scope_within, NumberPlace, Variable, Field, Term, Operation, Code, end, act, PlanView, MethodView, plan_in, method_of, methods_from, no_method, WasAccepted, after_operation, LeadsTo, ClosesGroups}
use Rattle.std.proofs.Common.{if◌then◌else◌}
use Rattle.script_grammar.specs.declared.region.Region.{Region}
use Rattle.script_grammar.specs.declared.region.Region.TheVariants as region
use Rattle.script_grammar.specs.Grammar.{may_return}
use Rattle.script_names.specs.Scope.{ScopeView}
use Rattle.script_printing.specs.Limits.{ActionFits, region_in, StmtFits, BlockFits, MethodFits, ActorFits}
use Rattle.script_printing.proofs.Read.{actors_fit}
use Rattle.script_printing.specs.Script.{ScriptView}
use Rattle.script_parser.specs.declared.limits.TheConstants.{NESTING}
use Rattle.script_code.specs.Tree as code
use Rattle.script_code.specs.Tree.{followed}
use Rattle.script_compiler.specs.Lowered.{numbers_in, handles_in, place_named, set_at, value_to, make_to, action_code, headed_code, stmt_code, block_code}
use Rattle.script_compiler.specs.Methods.{method_scope}
use Rattle.swift_script.specs.Scripts.{parts_of}

-- statements one after the other

operation_map : (d : Operation) (P Q : ℕ → Type 0) → ((k : ℕ) → P k → Q k) → (n : ℕ) → after_operation d P n → after_operation d Q n
operation_map (code.return t) P Q f n h = h
operation_map (code.open_group x) P Q f n h = f (suc n) h
operation_map code.close_group P Q f zero h = absurd h
operation_map code.close_group P Q f (suc n) h = f n h
operation_map d P Q f n h = f n h

leads_followed : (a b : Code) (n k m : ℕ) → LeadsTo a n k → LeadsTo b k m → LeadsTo (followed a b) n m
leads_followed end b n k m p q = subst (λ (j : ℕ). LeadsTo b j m) (sym p) q
leads_followed (act d rest) b n k m p q = operation_map d (λ j. LeadsTo rest j k) (λ j. LeadsTo (followed rest b) j m) (λ j h. leads_followed rest b j k m h q) n p
leads_followed (code.choice t x y rest) b n k m p q = (p.0, p.1, leads_followed rest b n k m p.2 q)
leads_followed (code.loop t x rest) b n k m p q = (p.0, leads_followed rest b n k m p.1 q)

-- no group is open where a `return` may stand
abbrev Depth : Region → ℕ → Type 0
Depth r n = may_return r ≡ true → n ≡ 0

set_leads : (place : NumberPlace) (t : Term) (n : ℕ) → LeadsTo (act (set_at place t) end) n n
set_leads (Variable k) t n = refl
set_leads (Field f) t n = refl

make_leads : (p : PlanView) (s : ScopeView) (h : Option ℕ) (m : MakeTree) (n : ℕ) → LeadsTo (act (make_to p s h m) end) n n
make_leads p s h (Spawned c q) n = refl
make_leads p s h (Detached c q) n = refl

value_leads : (p : PlanView) (s : ScopeView) (place : NumberPlace) (v : ValueTree) (n : ℕ) → LeadsTo (value_to p s place v) n n
value_leads p s place (Computed t) n = set_leads place _ n
value_leads p s place (Waited w) n = refl

action_leads : (limit : ℕ) (r : Region) (p : PlanView) (s : ScopeView) (a : ActionTree) (n : ℕ) → ActionFits limit r a → Depth r n → LeadsTo (action_code p s a) n n
action_leads limit r p s (Let x v) n fits deep = value_leads p s (Variable (numbers_in s)) v n
action_leads limit r p s (LetTask x m) n fits deep = make_leads p s (Some (handles_in s)) m n
action_leads limit r p s (Assign x v) n fits deep = value_leads p s (place_named p s x) v n
action_leads limit r p s (Makes m) n fits deep = make_leads p s None m n
action_leads limit r p s (Return t) n fits deep = deep fits.0
action_leads limit r p s _ n fits deep = refl

assume_leads : (b : Bool) (inner : Code) (n : ℕ) → LeadsTo inner n n → LeadsTo (if b then act code.assume inner else act code.isolated end) n n
assume_leads true inner n h = h
assume_leads false inner n h = refl

head_leads : (p : PlanView) (s : ScopeView) (h : HeadTree) (inner : Code) (r : Region) (n : ℕ) → Depth r n → ((m : ℕ) → Depth (region_in r h) m → LeadsTo inner m m) → LeadsTo (headed_code p s h inner) n n
head_leads p s (If t) inner r n deep each = (each n deep, refl, refl)
head_leads p s (While t) inner r n deep each = (each n deep, refl)
head_leads p s (Bind x t) inner r n deep each = leads_followed inner (act code.unbind end) n n n (each n deep) refl
head_leads p s (Group x) inner r n deep each = leads_followed inner (act code.close_group end) (suc n) (suc n) n (each (suc n) (λ x. absurd (false≢true x))) refl
head_leads p s (Assume x) inner r n deep each = assume_leads _ inner n (each n (λ x. absurd (false≢true x)))

mutual
  stmt_leads : (limit : ℕ) (r : Region) (blocks : ℕ) (p : PlanView) (s : ScopeView) (x : StmtTree) (n : ℕ) → StmtFits limit r blocks x → Depth r n → LeadsTo (stmt_code p s x) n n
  stmt_leads limit r blocks p s (Do a) n fits deep = action_leads limit r p s a n fits deep
  stmt_leads limit r blocks p s (Headed h b) n fits deep =
      head_leads p s h (block_code p (scope_within s h) b) r n deep (λ m d. block_leads limit (region_in r h) (blocks - 1) p (scope_within s h) b m fits.2 d)
  stmt_leads limit r blocks p s (IfElse t a b) n fits deep = (block_leads limit r (blocks - 1) p s a n fits.2 deep, block_leads limit r (blocks - 1) p s b n fits.3 deep, refl)

  block_leads : (limit : ℕ) (r : Region) (blocks : ℕ) (p : PlanView) (s : ScopeView) (b : BlockTree) (n : ℕ) → BlockFits limit r blocks b → Depth r n → LeadsTo (block_code p s b) n n
  block_leads limit r blocks p s nothing n fits deep = refl
  block_leads limit r blocks p s (first_then x xs) n fits deep =
      leads_followed (stmt_code p s x) (block_code p (scope_after s x) xs) n n n (stmt_leads limit r blocks p s x n fits.0 deep) (block_leads limit r blocks p (scope_after s x) xs n fits.1 deep)

abbrev EachLeads : List MethodView → Type 0
EachLeads [] = Unit {0}
EachLeads (v ∷ vs) = LeadsTo v.code 0 0 × EachLeads vs

each_append : (vs ws : List MethodView) → EachLeads vs → EachLeads ws → EachLeads (vs ++ ws)
each_append [] ws a b = b
each_append (v ∷ vs) ws a b = (a.0, each_append vs ws a.1 b)

methods_lead : (limit : ℕ) (p : PlanView) (k : ℕ) (ms : List MethodTree) → AllByRecursion (MethodFits limit) ms → EachLeads (map (method_of p k) ms)
methods_lead limit p k [] fits = tt
methods_lead limit p k (m ∷ ms) fits = (block_leads limit region.Method (limit - 1) p (method_scope p k m) (block_tree m.body) 0 fits.0.body (λ x. refl), methods_lead limit p k ms fits.1)

actors_lead : (limit : ℕ) (p : PlanView) (k : ℕ) (actors : List ActorTree) → AllByRecursion (ActorFits limit) actors → EachLeads (methods_from p k actors)
actors_lead limit p k [] fits = tt
actors_lead limit p k (a ∷ others) fits =
    each_append (map (method_of p k) a.methods) (methods_from p (suc k) others) (methods_lead limit p k a.methods (recursion_from_All (MethodFits limit) a.methods fits.0.methods)) (actors_lead limit p (suc k) others fits.1)

lead_at : (vs : List MethodView) (m : ℕ) → EachLeads vs → LeadsTo (unwrap_or (slice_get vs m) no_method).code 0 0
lead_at [] m each = refl
lead_at (v ∷ vs) zero each = each.0
lead_at (v ∷ vs) (suc m) each = lead_at vs m each.1

pub accepted_closes : (script : ScriptView) → WasAccepted script → ClosesGroups script
unfolding parts_of
accepted_closes script a m =
    let fits : All (ActorFits NESTING) script.actors = subst (λ (s : ScriptView). All (ActorFits NESTING) s.actors) (sym a.1.is) (actors_fit NESTING a.1.spelled.pieces a.1.decls a.1.spelled.spelled) in
    lead_at (methods_from (plan_in script) 0 script.actors) m (actors_lead NESTING (plan_in script) 0 script.actors (recursion_from_All (ActorFits NESTING) script.actors fits))
