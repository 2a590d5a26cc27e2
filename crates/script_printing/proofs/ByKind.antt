-- Declarations, and the script that they make up.
use Rattle.script_printing.proofs.Prelude.{◌≡◌, List, [], ◌∷◌, ◌++◌, map, refl, ap, All, All-nil, All-cons, All-head, All-tail, All-append, All-map, ExecutorTree, LocalTree, ActorTree, RootTree, DeclTree, Executes, Binds, Acts, Roots, ScriptView, declarations_of, with_decl, script_in}

-- something holds of each declaration of a script
pub record HoldsOfAll (P : DeclTree → Type 0) (s : ScriptView) : Type 0 where
  pub executors : All (λ x. P (Executes x)) s.executors
  pub locals : All (λ l. P (Binds l)) s.locals
  pub actors : All (λ a. P (Acts a)) s.actors
  pub roots : All (λ r. P (Roots r)) s.roots

one_more_holds : (P : DeclTree → Type 0) (d : DeclTree) (s : ScriptView) → P d → HoldsOfAll P s → HoldsOfAll P (with_decl d s)
one_more_holds P (Executes x) s h e = record { executors = All-cons (λ y. P (Executes y)) x s.executors h e.executors; locals = e.locals; actors = e.actors; roots = e.roots }
one_more_holds P (Binds l) s h e = record { executors = e.executors; locals = All-cons (λ y. P (Binds y)) l s.locals h e.locals; actors = e.actors; roots = e.roots }
one_more_holds P (Acts a) s h e = record { executors = e.executors; locals = e.locals; actors = All-cons (λ y. P (Acts y)) a s.actors h e.actors; roots = e.roots }
one_more_holds P (Roots r) s h e = record { executors = e.executors; locals = e.locals; actors = e.actors; roots = All-cons (λ y. P (Roots y)) r s.roots h e.roots }

-- what holds of declarations holds of the script that they make up
pub script_holds : (P : DeclTree → Type 0) (ds : List DeclTree) → All P ds → HoldsOfAll P (script_in ds)
script_holds P [] h = record { executors = All-nil (λ x. P (Executes x)); locals = All-nil (λ l. P (Binds l)); actors = All-nil (λ a. P (Acts a)); roots = All-nil (λ r. P (Roots r)) }
script_holds P (d ∷ ds) h = one_more_holds P d (script_in ds) (All-head P d ds h) (script_holds P ds (All-tail P d ds h))

-- and what holds of a script holds of its declarations
pub declarations_hold : (P : DeclTree → Type 0) (s : ScriptView) → HoldsOfAll P s → All P (declarations_of s)
declarations_hold P s h =
    let executors = map Executes s.executors in
    let locals = map Binds s.locals in
    let actors = map Acts s.actors in
    let roots = map Roots s.roots in
    All-append P executors (locals ++ (actors ++ roots)) (All-map P Executes s.executors h.executors) (All-append P locals (actors ++ roots) (All-map P Binds s.locals h.locals) (All-append P actors roots (All-map P Acts s.actors h.actors) (All-map P Roots s.roots h.roots)))

-- so what holds of declarations holds of them in the order of their kinds
pub ordered_hold : (P : DeclTree → Type 0) (ds : List DeclTree) → All P ds → All P (declarations_of (script_in ds))
ordered_hold P ds h = declarations_hold P (script_in ds) (script_holds P ds h)

abbrev script : List ExecutorTree → List LocalTree → List ActorTree → List RootTree → ScriptView
script executors locals actors roots = record { executors = executors; locals = locals; actors = actors; roots = roots }

roots_again : (rs : List RootTree) → script_in (map Roots rs) ≡ script [] [] [] rs
roots_again [] = refl
roots_again (r ∷ rs) = ap (with_decl (Roots r)) (roots_again rs)

actors_again : (ts : List ActorTree) (rs : List RootTree) → script_in (map Acts ts ++ map Roots rs) ≡ script [] [] ts rs
actors_again [] rs = roots_again rs
actors_again (a ∷ ts) rs = ap (with_decl (Acts a)) (actors_again ts rs)

locals_again : (ls : List LocalTree) (ts : List ActorTree) (rs : List RootTree) → script_in (map Binds ls ++ (map Acts ts ++ map Roots rs)) ≡ script [] ls ts rs
locals_again [] ts rs = actors_again ts rs
locals_again (l ∷ ls) ts rs = ap (with_decl (Binds l)) (locals_again ls ts rs)

executors_again : (xs : List ExecutorTree) (ls : List LocalTree) (ts : List ActorTree) (rs : List RootTree) → script_in (map Executes xs ++ (map Binds ls ++ (map Acts ts ++ map Roots rs))) ≡ script xs ls ts rs
executors_again [] ls ts rs = locals_again ls ts rs
executors_again (x ∷ xs) ls ts rs = ap (with_decl (Executes x)) (executors_again xs ls ts rs)

-- the declarations of a script make it up
pub script_again : (s : ScriptView) → script_in (declarations_of s) ≡ s
script_again s = executors_again s.executors s.locals s.actors s.roots
