-- What the turns of a journal did, one by one.
use Rattle.nuchapay_runs.proofs.Prelude.{◌≡◌, ℕ, zero, suc, ◌<◌, ℤ, List, [], ◌∷◌, length, take, get_or, refl, sym, ap, ap₂, ◌∙◌, arith, get_or-map, length-map, ScriptView, RecordView, fields_after, replay, ValuesView, turn_values, values_from, values_view, values_views, TurnValues}

values_length : (p : ScriptView) (before : List (List ℤ)) (j : List RecordView) → length (values_from p before j) ≡ length j
values_length p before [] = refl
values_length p before (r ∷ rs) = ap suc (values_length p (fields_after p before r) rs)

-- one for each turn
pub as_many : (p : ScriptView) (before : List (List ℤ)) (j : List RecordView) (vs : List TurnValues) → values_views vs ≡ values_from p before j → length vs ≡ length j
as_many p before j vs are = sym (length-map vs values_view) ∙ ap length are ∙ values_length p before j

-- what one of them did, on the fields that those before it leave
values_at : (p : ScriptView) (before : List (List ℤ)) (j : List RecordView) (k : ℕ) (r : RecordView) (v : ValuesView) → k < length j
    → get_or (values_from p before j) k v ≡ turn_values p (replay p before (take k j)) (get_or j k r)
values_at p before [] k r v lt = absurd (omega (arith, lt))
values_at p before (x ∷ xs) zero r v lt = refl
values_at p before (x ∷ xs) (suc k) r v lt =
    let rest : k < length xs = omega (arith, lt) in
    values_at p (fields_after p before x) xs k r v rest

pub own_values : (p : ScriptView) (start before : List (List ℤ)) (j : List RecordView) (vs : List TurnValues) (k : ℕ) (r : RecordView) (v : TurnValues) → k < length j
    → values_views vs ≡ values_from p start j → v ≡ get_or vs k v → before ≡ replay p start (take k j) → r ≡ get_or j k r → values_view v ≡ turn_values p before r
own_values p start before j vs k r v lt are is fields turn =
    let below : k < length vs = omega (arith, lt, as_many p start j vs are) in
    ap values_view is
    ∙ sym (get_or-map values_view vs k v (values_view v) below)
    ∙ ap (λ (l : List ValuesView). get_or l k (values_view v)) are
    ∙ values_at p start j k r (values_view v) lt
    ∙ ap₂ (λ (f : List (List ℤ)) (x : RecordView). turn_values p f x) (sym fields) (sym turn)
