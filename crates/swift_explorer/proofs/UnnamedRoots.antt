-- What is read of roots that no line names.
use Rattle.swift_explorer.proofs.Prelude.{◌≡◌, ◌<◌, ◌≤◌, ℕ, ◌+◌, List, [], ◌∷◌, ◌++◌, length, get_or, take, sym, subst, ap, ◌∙◌, true, inl, inr, arith, All, Option, unwrap_or, cases_eq, cases_lt, take_more, All-push, slice_get_past, Instruction, ScriptView, method_code, method_count, no_method, parts_of, root_count, MethodView, IsUnnamed, code_spares, instruction_spares}

pub spared_push : (t : ℕ) (xs : List Instruction) (i : ℕ) (x : Instruction) → i < length xs → x ≡ get_or xs i x → All (λ (line : Instruction). instruction_spares t line ≡ true) (take i xs) → instruction_spares t x ≡ true
    → All (λ (line : Instruction). instruction_spares t line ≡ true) (take (i + 1) xs)
spared_push t xs i x within is all spares =
    subst (All (λ (line : Instruction). instruction_spares t line ≡ true)) (sym (take_more xs i x within ∙ ap (λ (y : Instruction). take i xs ++ y ∷ []) (sym is)))
    (All-push (λ (line : Instruction). instruction_spares t line ≡ true) (take i xs) x all spares)

-- the first methods do not name the root
abbrev pub FirstSpare : ScriptView → ℕ → ℕ → Type 0
FirstSpare script t n = (m : ℕ) → m < n → code_spares t (method_code script m) ≡ true

pub one_spares_more : (script : ScriptView) (t n : ℕ) → FirstSpare script t n → code_spares t (method_code script n) ≡ true → FirstSpare script t (n + 1)
one_spares_more script t n first one m lt = elim (cases_eq m n) [
  | inl same ↦ subst (λ (k : ℕ). code_spares t (method_code script k) ≡ true) (sym same) one
  | inr ne ↦ first m (below m n lt ne)
] where
  below : (m n : ℕ) → m < n + 1 → (m ≡ n → ⊥) → m < n
  below m n lt ne = omega (arith, lt, ne)

pub all_spare_root : (script : ScriptView) (t n : ℕ) → t < root_count script → method_count script ≤ n → FirstSpare script t n → IsUnnamed script t
all_spare_root script t n low most first = record { root = low; spared = each } where
  each : (m : ℕ) → code_spares t (method_code script m) ≡ true
  each m = elim (cases_lt m n) [
    | inl lt ↦ first m lt
    | inr le ↦
        let past : length (parts_of script).methods ≤ m = omega (arith, most, le) in
        ap (λ (o : Option MethodView). code_spares t (unwrap_or o no_method).code) (slice_get_past (parts_of script).methods m past)
  ]
