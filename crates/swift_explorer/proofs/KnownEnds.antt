-- What a report says of the end of a history is what is known of it.
use Rattle.swift_explorer.proofs.Prelude.{◌≡◌, ◌<◌, ℕ, suc, List, [], ◌∷◌, length, refl, sym, subst, ap, ap₂, ◌∙◌, arith, inl, inr, None, Option, Some, slice_get, unwrap_or, slice_get_cases, Ending, ScriptView, root_count, Event, Life, Origin, tasks_of, life_of, Block, ReportView, standing, life_of_is, tasks_of_is, SearchedHistory, IsEndedAs, IsReportAfter, SomeGoesOn, AreEnded, IsHistory, rows_at}
use Rattle.swift_digest.proofs.Cards.{bare}

pub same_list : {A : Type 0} (xs ys : List A) → length xs ≡ length ys → ((i : ℕ) (x y : A) → slice_get xs i ≡ Some x → slice_get ys i ≡ Some y → x ≡ y) → xs ≡ ys
same_list [] [] many same = refl
same_list [] (y ∷ ys) many same = absurd (omega (arith, many))
same_list (x ∷ xs) [] many same = absurd (omega (arith, many))
same_list (x ∷ xs) (y ∷ ys) many same = ap₂ (λ z zs. z ∷ zs) (same 0 x y refl refl) (same_list xs ys (omega (arith, many)) (λ i a b at also. same (suc i) a b at also))

of_some : {A : Type 0} (o : Option A) (a b : A) → o ≡ Some a → o ≡ Some b → a ≡ b
of_some o a b is also = ap (λ (p : Option _). unwrap_or p a) (sym is ∙ also)

one_end : (log : List Event) (t : ℕ) (x y : Origin × Ending) → IsEndedAs log t x → IsEndedAs log t y → x ≡ y
one_end log t x y is also =
    ap₂ (λ (a : Origin) (b : Ending). (a, b)) (of_some (life_of t log).origin x.0 y.0 is.0 also.0) (of_some (life_of t log).ending x.1 y.1 is.1 also.1)

module _ (script : ScriptView) (bs : List Block) (log : List Event) (log_is : log ≡ (standing script bs).log) (report : ReportView) (of : IsReportAfter script bs report) where
  many : length report.endings ≡ tasks_of (root_count script) log
  many = of.outcome.tasks ∙ sym (tasks_of_is (root_count script) (standing script bs).log) ∙ ap (tasks_of (root_count script)) (sym log_is)

  says : (t : ℕ) (x : Origin × Ending) → slice_get report.endings t ≡ Some x → IsEndedAs log t x
  says t x at =
      let life = ap (λ (l : List Event). bare (life_of t l)) log_is ∙ life_of_is t (standing script bs).log in
      let is = of.outcome.endings t x at in
      (ap (λ (l : Life). l.origin) life ∙ is.0, ap (λ (l : Life). l.ending) life ∙ is.1)

  -- where some task has not ended, no report says where these blocks lead
  pub not_yet : SomeGoesOn log (tasks_of (root_count script) log) → ⊥
  not_yet goes =
      let t : ℕ = goes.0 in
      let lt : t < length report.endings = subst (λ (n : ℕ). t < n) (sym many) goes.1 in
      elim (slice_get_cases report.endings t).1 [
        | inl one ↦ goes.2 one.0 (says t one.0 one.2)
        | inr past ↦ (let le = past.0 in absurd (omega (arith, lt, le)))
      ]

  -- and where each has, it says so
  pub reached : (x : SearchedHistory) (es : List (Origin × Ending)) → IsHistory script bs x
      → length es ≡ tasks_of (root_count script) log → AreEnded log es → (report.endings ≡ es) × (report.fields ≡ rows_at x)
  reached x es h ended are = (
    same_list report.endings es (many ∙ sym ended) (λ t x y at also. one_end log t x y (says t x at) (are t y also)),
    same_list report.fields (rows_at x) (of.many ∙ sym h.many) (λ e f rows at also. of.outcome.fields e f at ∙ sym (h.followed.led.fields_are e rows also)),
  )

pub none_of : {A : Type 0} (o : Option A) → ((x : A) → o ≡ Some x → ⊥) → o ≡ None
none_of None never = refl
none_of (Some x) never = absurd (never x refl)
