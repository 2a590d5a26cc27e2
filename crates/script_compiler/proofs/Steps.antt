-- One thing more, as a loop takes it.
use Rattle.script_compiler.proofs.Prelude.{◌≡◌, ℕ, suc, ◌+◌, ◌-◌, ◌<◌, Bool, true, false, refl, List, [], ◌∷◌, ◌++◌, length, map, get_or, drop, take, eqb, add-one, drop-cons, sym, ap, subst, ◌∙◌, append_assoc, arith, if◌then◌else◌, AllZip, map_push, take_more, eqb-true, eq-eqb, ActorId, MethodTree, view_method, Method, PlanView, executor_at, CompiledMethod, MethodView, actor_number, IsMethod, members_below}

-- the first of what is left
pub front : {A : Type 0} (xs : List A) (i : ℕ) (x : A) → i < length xs → x ≡ get_or xs i x → drop i xs ≡ x ∷ drop (i + 1) xs
front xs i x lt is = rw (add-one, drop-cons xs i x) (ap (λ y. y ∷ drop (suc i) xs) (sym is))

-- what is done and what is left are the whole, after one thing more
pub one_more : {A B : Type 0} (f : A → B) (done more : List A) (x : A) (y : B) (here rest whole : List B)
    → more ≡ done ++ x ∷ [] → f x ≡ y → here ≡ y ∷ rest → map f done ++ here ≡ whole → map f more ++ rest ≡ whole
one_more f done more x y here rest whole pushed made is e =
    ap (λ xs. map f xs ++ rest) pushed
    ∙ ap (λ ys. ys ++ rest) (map_push f done x)
    ∙ append_assoc (map f done) (f x ∷ []) rest
    ∙ ap (λ z. map f done ++ z ∷ rest) made
    ∙ ap (λ ys. map f done ++ ys) (sym is)
    ∙ e

-- two lists that agree, with one more each
pub zip_push : {A B : Type 0} (R : A → B → Type 0) (xs : List A) (ys : List B) (x : A) (y : B) → AllZip R xs ys → R x y → AllZip R (xs ++ x ∷ []) (ys ++ y ∷ [])
zip_push R [] [] x y h r = (r, tt)
zip_push R [] (y' ∷ ys) x y h r = absurd h
zip_push R (x' ∷ xs) [] x y h r = absurd h
zip_push R (x' ∷ xs) (y' ∷ ys) x y h r = (h.0, zip_push R xs ys x y h.1 r)

elsewhere : (b : Bool) → (b ≡ true → ⊥) → b ≡ false
elsewhere true h = absurd (h refl)
elsewhere false h = refl

-- one actor more, which runs on the executor or not
next_left : (n k : ℕ) → k < n → n - k ≡ suc (n - (k + 1))
next_left n k lt = omega arith

pub member_here : (p : PlanView) (e k n : ℕ) (done more : List ActorId) (m : ActorId) (whole : List ℕ) → k < n → executor_at p k ≡ e → m.0 ≡ k → more ≡ done ++ m ∷ []
    → map actor_number done ++ members_below p e k (n - k) ≡ whole
    → map actor_number more ++ members_below p e (k + 1) (n - (k + 1)) ≡ whole
member_here p e k n done more m whole lt on is pushed before =
    let j = n - (k + 1) in
    let here : members_below p e k (n - k) ≡ k ∷ members_below p e (k + 1) j =
    ap (members_below p e k) (next_left n k lt)
    ∙ ap (λ b. if b then k ∷ members_below p e (suc k) j else members_below p e (suc k) j) (eq-eqb (executor_at p k) e on)
    ∙ ap (λ i. k ∷ members_below p e i j) (sym (add-one k)) in
    one_more actor_number done more m k (members_below p e k (n - k)) (members_below p e (k + 1) j) whole pushed is here before

pub member_not : (p : PlanView) (e k n : ℕ) (done more : List ActorId) (whole : List ℕ) → k < n → (executor_at p k ≡ e → ⊥) → more ≡ done
    → map actor_number done ++ members_below p e k (n - k) ≡ whole
    → map actor_number more ++ members_below p e (k + 1) (n - (k + 1)) ≡ whole
member_not p e k n done more whole lt off same before =
    let j = n - (k + 1) in
    let no : eqb (executor_at p k) e ≡ false = elsewhere (eqb (executor_at p k) e) (λ t. off (eqb-true (executor_at p k) e t)) in
    let here : members_below p e k (n - k) ≡ members_below p e (k + 1) j =
    ap (members_below p e k) (next_left n k lt)
    ∙ ap (λ b. if b then k ∷ members_below p e (suc k) j else members_below p e (suc k) j) no
    ∙ ap (λ i. members_below p e i j) (sym (add-one k)) in
    ap (λ ms. map actor_number ms ++ members_below p e (k + 1) j) same ∙ ap (λ ms. map actor_number done ++ ms) (sym here) ∙ before

-- one method more
pub method_more : (f : MethodTree → MethodView) (ms : List Method) (i : ℕ) (m : Method) (all more : List CompiledMethod) (x : CompiledMethod) (done : List MethodView)
    → i < length ms → m ≡ get_or ms i m → more ≡ all ++ x ∷ [] → IsMethod x (f (view_method m))
    → AllZip IsMethod all (done ++ map f (map view_method (take i ms)))
    → AllZip IsMethod more (done ++ map f (map view_method (take (i + 1) ms)))
method_more f ms i m all more x done lt is pushed made before =
    let so_far = map f (map view_method (take i ms)) in
    let one : take (i + 1) ms ≡ take i ms ++ m ∷ [] = take_more ms i m lt ∙ ap (λ (y : Method). take i ms ++ y ∷ []) (sym is) in
    let views : map f (map view_method (take (i + 1) ms)) ≡ so_far ++ f (view_method m) ∷ [] =
    ap (λ (ys : List Method). map f (map view_method ys)) one
    ∙ ap (map f) (map_push view_method (take i ms) m)
    ∙ map_push f (map view_method (take i ms)) (view_method m) in
    let all_views : (done ++ so_far) ++ f (view_method m) ∷ [] ≡ done ++ map f (map view_method (take (i + 1) ms)) =
    append_assoc done so_far (f (view_method m) ∷ []) ∙ ap (λ vs. done ++ vs) (sym views) in
    subst (λ (vs : List MethodView). AllZip IsMethod more vs) all_views
    (subst (λ (ys : List CompiledMethod). AllZip IsMethod ys ((done ++ so_far) ++ f (view_method m) ∷ [])) (sym pushed)
    (zip_push IsMethod all (done ++ so_far) x (f (view_method m)) before made))
