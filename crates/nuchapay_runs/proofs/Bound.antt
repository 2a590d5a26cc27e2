-- Bindings that stood, the outermost first.
use Rattle.nuchapay_runs.proofs.Prelude.{◌≡◌, ℕ, ◌+◌, ◌<◌, ℤ, List, [], ◌∷◌, ◌++◌, length, drop, get_or, map, reverse, refl, sym, ap, ◌∙◌, at_drop_more, map-append, reverse-append, reverse-reverse, pair_of, pairs_of, Binding, ScriptView, Says, binding_text, bindings_text, Text}
use Rattle.nuchapay_runs.proofs.Joined.{UpTo, more}

map_reverse : {A B : Type 0} (f : A → B) (xs : List A) → map f (reverse xs) ≡ reverse (map f xs)
map_reverse f [] = refl
map_reverse f (x ∷ xs) =
    ap (map f) (reverse-append (x ∷ []) xs)
    ∙ map-append f (reverse xs) (x ∷ [])
    ∙ ap (λ (l : List _). l ++ f x ∷ []) (map_reverse f xs)
    ∙ sym (reverse-append (f x ∷ []) (map f xs))

-- a frame keeps its own with the innermost last
pub own_turned : (p : ScriptView) (own : List Binding) → bindings_text p (map pair_of own) ≡ bindings_text p (reverse (pairs_of own))
own_turned p own = sym (ap (bindings_text p) (sym (map_reverse pair_of (reverse own)) ∙ ap (map pair_of) (reverse-reverse own)))

-- one binding more
pub bound_more : (p : ScriptView) (bs : List (ℕ × ℤ)) (i : ℕ) (b : ℕ × ℤ) (old now next : Text) (all : List ℕ) → i < length bs → ((d : ℕ × ℤ) → get_or bs i d ≡ b)
    → Says now next (binding_text p b) → UpTo old now (bindings_text p (drop i bs)) all → UpTo old next (bindings_text p (drop (i + 1) bs)) all
bound_more p bs i b old now next all lt is says upto =
    more (at_drop_more (bindings_text p) bs i b lt ∙ ap (λ (x : ℕ × ℤ). binding_text p x ++ bindings_text p (drop (i + 1) bs)) (is b)) upto says
