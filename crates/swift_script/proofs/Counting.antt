-- How many actors before a place have an invariant, as a loop counts them.
use Rattle.swift_script.proofs.Prelude.{◌≡◌, ℕ, ◌+◌, ◌<◌, Bool, true, false, Option, Some, None, List, length, map, take, get_or, refl, sym, ap, ◌∙◌, arith, is_some, count_by, length-map, get_or-map, Actor, ActorTree, view_if, view_actor}
use Rattle.std.proofs.lemmas.List.Sums.{count_by_more_yes, count_by_more_no}
use Rattle.script_grammar.specs.declared.expression.Expr.{Expr}

abbrev pub has_invariant : ActorTree → Bool
has_invariant a = is_some a.invariant

is_kept : (o : Option Expr) → is_some (view_if o) ≡ is_some o
is_kept None = refl
is_kept (Some e) = refl

-- the actor at a place has an invariant in the code where it has one in the tree
seen : (xs : List Actor) (k : ℕ) (x : Actor) (b : Bool) → k < length xs → x ≡ get_or xs k x → is_some x.invariant ≡ b → has_invariant (get_or (map view_actor xs) k (view_actor x)) ≡ b
seen xs k x b lt is e = ap has_invariant (get_or-map view_actor xs k x (view_actor x) lt ∙ ap view_actor (sym is)) ∙ is_kept x.invariant ∙ e

within : (xs : List Actor) (k : ℕ) → k < length xs → k < length (map view_actor xs)
within xs k lt = omega (arith, lt, length-map xs view_actor)

pub counted : (xs : List Actor) (k : ℕ) (x : Actor) → k < length xs → x ≡ get_or xs k x → is_some x.invariant ≡ true
    → count_by has_invariant (take (k + 1) (map view_actor xs)) ≡ count_by has_invariant (take k (map view_actor xs)) + 1
counted xs k x lt is e = count_by_more_yes has_invariant (map view_actor xs) k (view_actor x) (within xs k lt) (seen xs k x true lt is e)

pub passed_over : (xs : List Actor) (k : ℕ) (x : Actor) → k < length xs → x ≡ get_or xs k x → is_some x.invariant ≡ false
    → count_by has_invariant (take (k + 1) (map view_actor xs)) ≡ count_by has_invariant (take k (map view_actor xs))
passed_over xs k x lt is e = count_by_more_no has_invariant (map view_actor xs) k (view_actor x) (within xs k lt) (seen xs k x false lt is e)
