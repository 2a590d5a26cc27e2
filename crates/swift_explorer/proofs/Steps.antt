-- One more turn of a loop that writes numbers.
use Rattle.swift_explorer.proofs.Prelude.{◌≡◌, ℕ, ◌+◌, ◌<◌, ◌≤◌, ℤ, List, [], ◌∷◌, ◌++◌, length, map, reverse, take, get_or, refl, sym, ◌∙◌, ap, add-one, append_assoc, append-nil, pos, take_more, map-append, reverse-append, reverse-reverse, pair_of, pairs_of, some_numbers, list_numbers, each_numbers}
use Rattle.std.proofs.lemmas.List.{take_all}
use Rattle.script_code.specs.declared.sight.Binding.{Binding}

pub some-append : {A : Type 0} (f : A → List ℤ) (xs ys : List A) → some_numbers f (xs ++ ys) ≡ some_numbers f xs ++ some_numbers f ys
some-append f [] ys = refl
some-append f (x ∷ xs) ys = ap (λ l. (pos 1 ∷ f x) ++ l) (some-append f xs ys) ∙ sym (append_assoc (pos 1 ∷ f x) (some_numbers f xs) (some_numbers f ys))

-- one more value was written after a 1
pub some_step : {A : Type 0} (f : A → List ℤ) (xs : List A) (i : ℕ) (d : A) (x : A) (start k more : List ℤ) → i < length xs → get_or xs i d ≡ x
    → k ≡ start ++ some_numbers f (take i xs) → more ≡ k ++ (pos 1 ∷ f x) → more ≡ start ++ some_numbers f (take (i + 1) xs)
some_step f xs i d x start k more low at before written =
    let taken : take (i + 1) xs ≡ take i xs ++ x ∷ [] = take_more xs i d low ∙ ap (λ y. take i xs ++ y ∷ []) at in
    written
    ∙ ap (λ l. l ++ (pos 1 ∷ f x)) before
    ∙ append_assoc start (some_numbers f (take i xs)) (pos 1 ∷ f x)
    ∙ ap (λ l. start ++ (some_numbers f (take i xs) ++ l)) (sym (append-nil (pos 1 ∷ f x)))
    ∙ ap (λ l. start ++ l) (sym (some-append f (take i xs) (x ∷ [])))
    ∙ ap (λ ys. start ++ some_numbers f ys) (sym taken)

-- all were written, and the 0
pub some_all : {A : Type 0} (f : A → List ℤ) (xs : List A) (i : ℕ) (start k more : List ℤ) → length xs ≤ i → k ≡ start ++ some_numbers f (take i xs) → more ≡ k ++ pos 0 ∷ []
    → more ≡ start ++ list_numbers f xs
some_all f xs i start k more high before written =
    written
    ∙ ap (λ l. l ++ pos 0 ∷ []) (before ∙ ap (λ ys. start ++ some_numbers f ys) (take_all i xs high))
    ∙ append_assoc start (some_numbers f xs) (pos 0 ∷ [])

-- one more place of a table was written
pub each_step : {A : Type 0} (f : A → List ℤ) (at : ℕ → A) (i : ℕ) (start k more : List ℤ) → k ≡ start ++ each_numbers f at i → more ≡ k ++ f (at i)
    → more ≡ start ++ each_numbers f at (i + 1)
each_step f at i start k more before written =
    written
    ∙ ap (λ l. l ++ f (at i)) before
    ∙ append_assoc start (each_numbers f at i) (f (at i))
    ∙ ap (λ n. start ++ each_numbers f at n) (sym (add-one i))

-- two writes, one after the other
pub two_writes : (start mid end first second : List ℤ) → mid ≡ start ++ first → end ≡ mid ++ second → end ≡ start ++ (first ++ second)
two_writes start mid end first second one two = two ∙ ap (λ l. l ++ second) one ∙ append_assoc start first second

map_reverse : {X Y : Type 0} (f : X → Y) (xs : List X) → map f (reverse xs) ≡ reverse (map f xs)
map_reverse f [] = refl
map_reverse f (x ∷ xs) =
    ap (map f) (reverse-append (x ∷ []) xs) ∙ map-append f (reverse xs) (x ∷ []) ∙ ap (λ s. s ++ f x ∷ []) (map_reverse f xs) ∙ sym (reverse-append (f x ∷ []) (map f xs))

-- the bindings of a frame in the order in which it keeps them
pub reverse_pairs : (own : List Binding) → reverse (pairs_of own) ≡ map pair_of own
reverse_pairs own = sym (map_reverse pair_of (reverse own)) ∙ ap (map pair_of) (reverse-reverse own)
