-- What names stand for.
use Rattle.expectations.proofs.Prelude.{◌≡◌, ℕ, ◌<◌, List, ◌∷◌, ◌++◌, length, subst, sym, ap₂, ◌∙◌, field, variable, ScriptView, actor_count, actor_fields, actor_name, field_name, root_count, root_name, Names, a_field, a_root}

pub names_field : (p : ScriptView) (n a f : List ℕ) (k i : ℕ) → n ≡ a ++ 46 ∷ f → k < actor_count p → actor_name p k ≡ a → i < length (actor_fields p k) → field_name p k i ≡ f → Names p n (field (record { actor = k; field = i }))
names_field p n a f k i is there named within called =
    subst (λ (m : List ℕ). Names p m (field (record { actor = k; field = i }))) (ap₂ (λ (x y : List ℕ). x ++ 46 ∷ y) named called ∙ sym is) (a_field k i there within)

pub names_root : (p : ScriptView) (n : List ℕ) (r : ℕ) → r < root_count p → root_name p r ≡ n → Names p n (variable r)
names_root p n r there named = subst (λ (m : List ℕ). Names p m (variable r)) named (a_root r there)
