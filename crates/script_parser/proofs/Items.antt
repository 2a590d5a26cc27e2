-- Items one after the other.
use Rattle.script_parser.proofs.Prelude.{◌≡◌, ℕ, zero, suc, ◌<◌, List, [], ◌∷◌, ◌++◌, length, Option, Some, None, Ok, refl, sym, ap, subst, ◌∙◌, append_assoc, length-append, arith, TokenView, Name, Each, no_more, one_more, ◌>>=◌, Reads, name_at, on_stop}
use Rattle.script_parser.specs.Model.Parts.{items_at}
use Rattle.script_parser.proofs.Steps.{done, ok_is, step_ok}
use Rattle.script_parser.proofs.Tokens.{name_is}

pub items_next : {A : Type 0} (stop : List TokenView → Option (List TokenView)) (read : Reads A) (n : ℕ) (ts : List TokenView) (x : A) (rest : List TokenView) (xs : List A) (after : List TokenView) → stop ts ≡ None → read ts ≡ Ok (x, rest) → items_at stop read n rest ≡ Ok (xs, after) → items_at stop read (suc n) ts ≡ Ok (x ∷ xs, after)
unfolding items_at
items_next stop read n ts x rest xs after stays one others = rw (stays, one, others) refl

pub items_end : {A : Type 0} (stop : List TokenView → Option (List TokenView)) (read : Reads A) (n : ℕ) (ts rest : List TokenView) → stop ts ≡ Some rest → items_at stop read (suc n) ts ≡ Ok ([], rest)
unfolding items_at
items_end stop read n ts rest e = rw e refl

pub items_again : {A : Type 0} (stop : List TokenView → Option (List TokenView)) (read : Reads A) (Is : List TokenView → A → Type 0)
    → ((us : List TokenView) (x : A) (r : List TokenView) → Is us x → read (us ++ r) ≡ Ok (x, r))
    → ((us : List TokenView) (x : A) (r : List TokenView) → Is us x → (0 < length us) × (stop (us ++ r) ≡ None))
    → {ts : List TokenView} {xs : List A} (n : ℕ) (next rest : List TokenView) → Each Is ts xs → length ts < n → stop next ≡ Some rest → items_at stop read n (ts ++ next) ≡ Ok (xs, rest)
items_again stop read Is reads goes zero next rest d lt e = absurd (omega arith)
items_again stop read Is reads goes (suc n) next rest no_more lt e = items_end stop read n next rest e
items_again stop read Is reads goes (suc n) next rest (one_more {ts} {us} {x} {xs} d ds) lt e =
    let g = goes ts x (us ++ next) d in
    ap (items_at stop read (suc n)) (append_assoc ts us next)
    ∙ items_next stop read n (ts ++ (us ++ next)) x (us ++ next) xs rest g.1 (reads ts x (us ++ next) d) (items_again stop read Is reads goes n next rest ds (omega (arith, length-append ts us, g.0)) e)

-- what was taken from the front
pub record Taken {A : Type 0} (Is : List TokenView → A → Type 0) (ts : List TokenView) (x : A × List TokenView) : Type 0 where
  pub front : List TokenView
  pub parts : ts ≡ front ++ x.1
  pub is : Is front x.0

-- items up to what stops them
pub record TakenUpTo {A : Type 0} (stop : List TokenView → Option (List TokenView)) (Is : List TokenView → A → Type 0) (ts : List TokenView) (x : List A × List TokenView) : Type 0 where
  pub front : List TokenView
  pub next : List TokenView
  pub parts : ts ≡ front ++ next
  pub stopped : stop next ≡ Some x.1
  pub each : Each Is front x.0

items_step : {A : Type 0} (stop : List TokenView → Option (List TokenView)) (read : Reads A) (Is : List TokenView → A → Type 0) (n : ℕ) (ts : List TokenView) (x : List A × List TokenView)
    → ((us : List TokenView) (y : A × List TokenView) → read us ≡ Ok y → Taken Is us y)
    → ((us : List TokenView) (y : List A × List TokenView) → items_at stop read n us ≡ Ok y → TakenUpTo stop Is us y)
    → (found : Option (List TokenView)) → stop ts ≡ found
    → on_stop found (λ rest. Ok ([], rest)) (read ts >>= λ y. items_at stop read n y.1 >>= λ ys. Ok (y.0 ∷ ys.0, ys.1)) ≡ Ok x → TakenUpTo stop Is ts x
items_step stop read Is n ts x one others (Some rest) is e =
    subst (λ y. TakenUpTo stop Is ts y) (ok_is ([], rest) x e) (record { front = []; next = ts; parts = refl; stopped = is; each = no_more })
items_step stop read Is n ts x one others None is e =
    let y = step_ok e in
    let ys = step_ok y.2 in
    let first = one ts y.0 y.1 in
    let second = others y.0.1 ys.0 ys.1 in
    subst (λ z. TakenUpTo stop Is ts z) (ok_is (y.0.0 ∷ ys.0.0, ys.0.1) x ys.2)
    (record { front = first.front ++ second.front; next = second.next; parts = first.parts ∙ ap (λ (w : List TokenView). first.front ++ w) second.parts ∙ sym (append_assoc first.front second.front second.next); stopped = second.stopped; each = one_more first.is second.each })

pub items_take : {A : Type 0} (stop : List TokenView → Option (List TokenView)) (read : Reads A) (Is : List TokenView → A → Type 0)
    → ((us : List TokenView) (y : A × List TokenView) → read us ≡ Ok y → Taken Is us y)
    → (n : ℕ) (ts : List TokenView) (x : List A × List TokenView) → items_at stop read n ts ≡ Ok x → TakenUpTo stop Is ts x
unfolding items_at
items_take stop read Is one zero ts x e = absurd cc
items_take stop read Is one (suc n) ts x e = items_step stop read Is n ts x one (λ us y. items_take stop read Is one n us y) (stop ts) refl e

-- the value that was read, and what it was taken from
pub taken_as : {A : Type 0} (Is : List TokenView → A → Type 0) (ts front rest : List TokenView) (v : A) (x : A × List TokenView) → ts ≡ front ++ rest → Is front v → done (v, rest) ≡ Ok x → Taken Is ts x
taken_as Is ts front rest v x parts is e = subst (λ y. Taken Is ts y) (ok_is (v, rest) x e) (record { front = front; parts = parts; is = is })

-- one part after the other
pub joined : (ts front us following rest : List TokenView) → ts ≡ front ++ us → us ≡ following ++ rest → ts ≡ (front ++ following) ++ rest
joined ts front us following rest e f = e ∙ ap (λ (w : List TokenView). front ++ w) f ∙ sym (append_assoc front following rest)

-- a part with one more token after it
pub closed_by : (p : TokenView) (front between rest : List TokenView) → between ≡ p ∷ rest → front ++ between ≡ (front ++ p ∷ []) ++ rest
closed_by p front between rest e = ap (λ (w : List TokenView). front ++ w) e ∙ sym (append_assoc front (p ∷ []) rest)

-- a part as a value of another kind
pub taken_with : {A B : Type 0} (Is : List TokenView → A → Type 0) (Are : List TokenView → B → Type 0) (make : A → B) (read : Reads A) (ts : List TokenView) (x : B × List TokenView)
    → ((us : List TokenView) (a : A) → Is us a → Are us (make a)) → ((a : A × List TokenView) → read ts ≡ Ok a → Taken Is ts a)
    → (read ts >>= λ a. Ok (make a.0, a.1)) ≡ Ok x → Taken Are ts x
taken_with Is Are make read ts x is takes e =
    let a = step_ok e in
    let t = takes a.0 a.1 in
    taken_as Are ts t.front a.0.1 (make a.0.0) x t.parts (is t.front a.0.0 t.is) a.2

-- what is made of a part that is read after one more token
pub taken_after : {A B : Type 0} (Is : List TokenView → A → Type 0) (Are : List TokenView → B → Type 0) (make : A → B) (read : Reads A) (p : TokenView) (ts : List TokenView) (x : B × List TokenView)
    → ((us : List TokenView) (a : A) → Is us a → Are (p ∷ us) (make a)) → ((a : A × List TokenView) → read ts ≡ Ok a → Taken Is ts a)
    → (read ts >>= λ a. Ok (make a.0, a.1)) ≡ Ok x → Taken Are (p ∷ ts) x
taken_after Is Are make read p ts x is takes e =
    let a = step_ok e in
    let t = takes a.0 a.1 in
    taken_as Are (p ∷ ts) (p ∷ t.front) a.0.1 (make a.0.0) x (ap (λ (w : List TokenView). p ∷ w) t.parts) (is t.front a.0.0 t.is) a.2

-- a name after one token
pub taken_name : {B : Type 0} (Are : List TokenView → B → Type 0) (make : List ℕ → B) (p : TokenView) (ts : List TokenView) (x : B × List TokenView)
    → ((n : List ℕ) → Are (p ∷ Name n ∷ []) (make n)) → (name_at ts >>= λ n. Ok (make n.0, n.1)) ≡ Ok x → Taken Are (p ∷ ts) x
taken_name Are make p ts x is e =
    let n = step_ok e in
    taken_as Are (p ∷ ts) (p ∷ Name n.0.0 ∷ []) n.0.1 (make n.0.0) x (ap (λ (w : List TokenView). p ∷ w) (name_is ts n.0 n.1)) (is n.0.0) n.2
