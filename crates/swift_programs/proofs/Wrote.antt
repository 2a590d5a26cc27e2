-- What is written, part by part.
use Rattle.std.proofs.Common.{◌≡◌, ◌++◌, ◌∷◌, [], ℕ, List, ap, sym, refl, ◌∙◌, append_assoc, ◌+◌, ◌<◌, length, map, take, Result, Ok, Err, OnOk, Bool}
use Rattle.std.proofs.lemmas.List.{append-nil, map-append, map_more, take_more}
use Rattle.std.proofs.lemmas.List.Concat.{flat_map-append}
use Rattle.std.proofs.Math.ListN.{get_or}
use Rattle.std.specs.List.{flat_map, list_any}
use Rattle.std.specs.Prelude.{◌||◌}

-- one more of a list
pub flat_map_next : {X A B : Type 0} (f : A → List B) (view : X → A) (xs : List X) (i : ℕ) (x : X) → i < length xs → x ≡ get_or xs i x → flat_map f (map view (take (i + 1) xs)) ≡ flat_map f (map view (take i xs)) ++ f (view x)
flat_map_next f view xs i x h e =
    ap (flat_map f) (map_more view xs i x h) ∙ flat_map-append f (map view (take i xs)) (view (get_or xs i x) ∷ []) ∙ ap (λ ps. flat_map f (map view (take i xs)) ++ ps) (append-nil (f (view (get_or xs i x))) ∙ ap (λ y. f (view y)) (sym e))

-- the bytes of one more of a list
pub wrote_next : {X A B : Type 0} (f : A → List B) (view : X → A) (xs : List X) (i : ℕ) (x : X) → i < length xs → x ≡ get_or xs i x → (start before now : List B) → before ≡ start ++ flat_map f (map view (take i xs)) → now ≡ before ++ f (view x) → now ≡ start ++ flat_map f (map view (take (i + 1) xs))
wrote_next f view xs i x h e start before now p q =
    q ∙ ap (λ bytes. bytes ++ f (view x)) p ∙ append_assoc start (flat_map f (map view (take i xs))) (f (view x)) ∙ ap (λ bytes. start ++ bytes) (sym (flat_map_next f view xs i x h e))

-- the bytes of one more of a list as it is
pub wrote_more : {A B : Type 0} (f : A → List B) (xs : List A) (i : ℕ) (x : A) → i < length xs → x ≡ get_or xs i x → (start before now : List B) → before ≡ start ++ flat_map f (take i xs) → now ≡ before ++ f x → now ≡ start ++ flat_map f (take (i + 1) xs)
wrote_more f xs i x h e start before now p q =
    let next : flat_map f (take (i + 1) xs) ≡ flat_map f (take i xs) ++ f x = ap (flat_map f) (take_more xs i x h) ∙ flat_map-append f (take i xs) (get_or xs i x ∷ []) ∙ ap (λ ps. flat_map f (take i xs) ++ ps) (append-nil (f (get_or xs i x)) ∙ ap f (sym e)) in
    q ∙ ap (λ bytes. bytes ++ f x) p ∙ append_assoc start (flat_map f (take i xs)) (f x) ∙ ap (λ bytes. start ++ bytes) (sym next)

-- the list of one more
pub listed_next : {X A B : Type 0} (f : A → B) (view : X → A) (xs : List X) (i : ℕ) (x : X) → i < length xs → x ≡ get_or xs i x → (before now : List B) → before ≡ map f (map view (take i xs)) → now ≡ before ++ f (view x) ∷ [] → now ≡ map f (map view (take (i + 1) xs))
listed_next f view xs i x h e before now p q =
    q ∙ ap (λ ys. ys ++ f (view x) ∷ []) p ∙ ap (λ y. map f (map view (take i xs)) ++ f (view y) ∷ []) e ∙ sym (ap (map f) (map_more view xs i x h) ∙ map-append f (map view (take i xs)) (view (get_or xs i x) ∷ []))

-- a text after another one, unless memory ran out
pub put_after : {A E B : Type 0} (r : Result A E) (start before now x y : List B) → before ≡ start ++ x → OnOk r (now ≡ before ++ y) → OnOk r (now ≡ start ++ (x ++ y))
put_after (Ok v) start before now x y p q = q ∙ ap (λ bytes. bytes ++ y) p ∙ append_assoc start x y
put_after (Err e) start before now x y p q = q

-- a text after three
pub put_fourth : {A E B : Type 0} (r : Result A E) (start before now x y z w : List B) → before ≡ start ++ (x ++ (y ++ z)) → OnOk r (now ≡ before ++ w) → OnOk r (now ≡ start ++ (x ++ (y ++ (z ++ w))))
put_fourth (Ok v) start before now x y z w p q =
    q ∙ ap (λ bytes. bytes ++ w) p ∙ append_assoc start (x ++ (y ++ z)) w ∙ ap (λ bytes. start ++ bytes) (append_assoc x (y ++ z) w ∙ ap (λ bytes. x ++ bytes) (append_assoc y z w))
put_fourth (Err e) start before now x y z w p q = q

-- whether any of a list has a property, by what it is seen as
pub any_mapped : {X A : Type 0} (f : A → Bool) (view : X → A) (xs : List X) → list_any f (map view xs) ≡ list_any (λ x. f (view x)) xs
any_mapped f view [] = refl
any_mapped f view (x ∷ xs) = ap (λ rest. f (view x) || rest) (any_mapped f view xs)
