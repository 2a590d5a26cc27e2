-- Expressions, with what their names stand for.
use Rattle.expectations.proofs.Prelude.{◌≡◌, ℤ, List, ℕ, sym, subst, ap, ap₂, Operator, Term, number, opposite, denial, binary, ExprTree, Number, Named, Negated, Inverted, Both, ScriptView, IsRead, Names, a_number, a_name, a_minus, a_not, both}

read_as : (p : ScriptView) (d e : ExprTree) (s t : Term) → d ≡ e → s ≡ t → IsRead p e t → IsRead p d s
read_as p d e s t is same read = subst (λ (x : ExprTree). IsRead p x s) (sym is) (subst (λ (x : Term). IsRead p e x) (sym same) read)

pub number_read : (p : ScriptView) (d : ExprTree) (n m : ℤ) → d ≡ Number n → m ≡ n → IsRead p d (number m)
number_read p d n m is same = read_as p d (Number n) (number m) (number n) is (ap number same) (a_number n)

pub name_read : (p : ScriptView) (d : ExprTree) (n : List ℕ) (t : Term) → d ≡ Named n → Names p n t → IsRead p d t
name_read p d n t is named = subst (λ (x : ExprTree). IsRead p x t) (sym is) (a_name named)

pub minus_read : (p : ScriptView) (d e f : ExprTree) (s t : Term) → d ≡ Negated e → f ≡ e → t ≡ s → IsRead p f s → IsRead p d (opposite t)
minus_read p d e f s t is under same read = read_as p d (Negated e) (opposite t) (opposite s) is (ap opposite same) (a_minus (subst (λ (x : ExprTree). IsRead p x s) under read))

pub not_read : (p : ScriptView) (d e f : ExprTree) (s t : Term) → d ≡ Inverted e → f ≡ e → t ≡ s → IsRead p f s → IsRead p d (denial t)
not_read p d e f s t is under same read = read_as p d (Inverted e) (denial t) (denial s) is (ap denial same) (a_not (subst (λ (x : ExprTree). IsRead p x s) under read))

pub both_read : (p : ScriptView) (o : Operator) (d a b e f : ExprTree) (s t u v : Term) → d ≡ Both o a b → e ≡ a → f ≡ b → u ≡ s → v ≡ t → IsRead p e s → IsRead p f t → IsRead p d (binary o u v)
both_read p o d a b e f s t u v is under_a under_b same_s same_t read_a read_b =
    read_as p d (Both o a b) (binary o u v) (binary o s t) is (ap₂ (λ (x y : Term). binary o x y) same_s same_t)
    (both o (subst (λ (x : ExprTree). IsRead p x s) under_a read_a) (subst (λ (x : ExprTree). IsRead p x t) under_b read_b))
