-- The one value of a block, and which values are let go.
use Rattle.std.proofs.Common.{◌≡◌, ◌↔◌, ℕ, Bool, true, false, Option, None, Some, IsTrue, inl, inr, refl, sym, ap, subst, ◌∙◌}
use Rattle.swift_syntax.specs.declared.tree.Expr.{Expr}
use Rattle.swift_syntax.specs.declared.tree.Stmt.{Stmt}
use Rattle.swift_expressions.specs.States.{State, expr_at, form_at, stmt_at}
use Rattle.swift_lowering.specs.Alone as values
use Rattle.swift_lowering.specs.Alone.{IsLetGo, IsLone, IsSayingWord, calls_nobody, is_try_optional, value_of}

-- no statement stands there
pub lone_of_none : {s : State} {first : ℕ} → stmt_at s first ≡ None → IsLone s first 0
lone_of_none e = values.more (λ p o. let x : None ≡ Some o.stmt = sym e ∙ o.there in cc)

abbrev taken : {A : Type 0} → A → Option A → A
taken d None = d
taken d (Some x) = x

same_of : {A : Type 0} {o : Option A} {a b : A} → o ≡ Some a → o ≡ Some b → a ≡ b
same_of {a = a} e f = ap (taken a) (sym e ∙ f)

-- another one follows
pub lone_before_more : {s : State} {first : ℕ} {stmt : Stmt} → stmt_at s first ≡ Some stmt → (stmt.next ≡ 0 → ⊥) → IsLone s first 0
lone_before_more e follows = values.more (λ p o. follows (ap (λ (x : Stmt). x.next) (same_of e o.there) ∙ o.alone))

-- it is no value
pub lone_of_no_value : {s : State} {first : ℕ} {stmt : Stmt} → stmt_at s first ≡ Some stmt → value_of stmt.form ≡ None → IsLone s first 0
lone_of_no_value e is = values.more (λ p o. let x : None ≡ Some p = sym is ∙ ap (λ (y : Stmt). value_of y.form) (same_of e o.there) ∙ o.is in cc)

-- it is let go
pub lone_let_go : {s : State} {first place : ℕ} {stmt : Stmt} → stmt_at s first ≡ Some stmt → value_of stmt.form ≡ Some place → IsLetGo s place → IsLone s first 0
lone_let_go {s} e is goes = values.more (λ p o. o.given (subst (λ x. IsLetGo s x) (same_of is (ap (λ (y : Stmt). value_of y.form) (same_of e o.there) ∙ o.is)) goes))

-- it is given
pub lone_given : {s : State} {first place : ℕ} {stmt : Stmt} → stmt_at s first ≡ Some stmt → stmt.next ≡ 0 → value_of stmt.form ≡ Some place → (IsLetGo s place → ⊥) → IsLone s first place
lone_given {stmt = stmt} e alone is stays = values.one (record { stmt = stmt; there = e; alone = alone; is = is; given = stays })

-- what `↔` says where it is not so
pub never : {b : Bool} {P : Type 0} → b ≡ false → (IsTrue b ↔ P) → P → ⊥
never {b} is both p = let x : true ≡ false = sym (both.1 p) ∙ is in cc

pub always : {b : Bool} {P : Type 0} → b ≡ true → (IsTrue b ↔ P) → P
always is both = both.0 is

-- a `try?` is let go
pub tried_goes : (s : State) (place : ℕ) {e : Expr} {b : Bool} → e ≡ expr_at s place → b ≡ is_try_optional e.form → b ≡ true → (IsTrue true ↔ IsLetGo s place)
tried_goes s place is by holds = ((λ t. inl (sym (ap (λ (x : Expr). is_try_optional x.form) is) ∙ sym by ∙ holds)), (λ l. refl))

-- so is what is said
pub said_goes : (s : State) (place : ℕ) {e : Expr} {b d r : Bool} → e ≡ expr_at s place → b ≡ is_try_optional e.form → b ≡ false → d ≡ calls_nobody e.form → d ≡ true → (IsTrue r ↔ IsSayingWord s e.token) → (IsTrue r ↔ IsLetGo s place)
said_goes s place {e} {r = r} is by fails calls holds says =
    let other : is_try_optional (form_at s place) ≡ false = sym (ap (λ (x : Expr). is_try_optional x.form) is) ∙ sym by ∙ fails in
    let called : calls_nobody (form_at s place) ≡ true = sym (ap (λ (x : Expr). calls_nobody x.form) is) ∙ sym calls ∙ holds in
    let at : (IsTrue r ↔ IsSayingWord s (expr_at s place).token) = subst (λ (x : Expr). IsTrue r ↔ IsSayingWord s x.token) is says in
    ((λ t. inr (called, at.0 t)), (λ l. from_either other at l))
  where
    from_either : is_try_optional (form_at s place) ≡ false → (IsTrue r ↔ IsSayingWord s (expr_at s place).token) → IsLetGo s place → IsTrue r
    from_either other at (inl t) = let x : true ≡ false = sym t ∙ other in absurd cc
    from_either other at (inr w) = at.1 w.1

-- and nothing else
pub other_stays : (s : State) (place : ℕ) {e : Expr} {b d : Bool} → e ≡ expr_at s place → b ≡ is_try_optional e.form → b ≡ false → d ≡ calls_nobody e.form → d ≡ false → (IsTrue false ↔ IsLetGo s place)
other_stays s place is by fails calls no_call =
    let other : is_try_optional (form_at s place) ≡ false = sym (ap (λ (x : Expr). is_try_optional x.form) is) ∙ sym by ∙ fails in
    let called : calls_nobody (form_at s place) ≡ false = sym (ap (λ (x : Expr). calls_nobody x.form) is) ∙ sym calls ∙ no_call in
    ((λ t. absurd cc), (λ l. from_none other called l))
  where
    from_none : is_try_optional (form_at s place) ≡ false → calls_nobody (form_at s place) ≡ false → IsLetGo s place → IsTrue false
    from_none other called (inl t) = let x : true ≡ false = sym t ∙ other in absurd cc
    from_none other called (inr w) = let x : true ≡ false = sym w.0 ∙ called in absurd cc
