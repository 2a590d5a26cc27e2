-- Expressions, one by one.
use Rattle.script_compiler.proofs.Prelude.{◌≡◌, ℕ, suc, ◌+◌, ◌<◌, List, [], ◌∷◌, ◌++◌, length, map, refl, sym, ap, ◌∙◌, get_or, drop, add-one, drop-cons, ExprTree, view, Expr, Term, term_of, terms_of, Formula}

-- one formula more
one_more : (fs : List Formula) (f : Formula) (ts : List Term) → terms_of (fs ++ f ∷ []) ++ ts ≡ terms_of fs ++ term_of f ∷ ts
one_more [] f ts = refl
one_more (x ∷ fs) f ts = ap (λ us. term_of x ∷ us) (one_more fs f ts)

pub formula_more : (g : ExprTree → Term) (fs fs' : List Formula) (f : Formula) (es : List Expr) (i : ℕ) (e : Expr) → i < length es → e ≡ get_or es i e
    → term_of f ≡ g (view e) → fs' ≡ fs ++ f ∷ []
    → terms_of fs' ++ map g (map view (drop (i + 1) es)) ≡ terms_of fs ++ map g (map view (drop i es))
formula_more g fs fs' f es i e h is made pushed =
    let rest = map g (map view (drop (i + 1) es)) in
    let front : map g (map view (drop i es)) ≡ g (view e) ∷ rest = rw (add-one, drop-cons es i e) (ap (λ x. g (view x) ∷ map g (map view (drop (suc i) es))) (sym is)) in
    ap (λ xs. terms_of xs ++ rest) pushed ∙ one_more fs f rest ∙ ap (λ t. terms_of fs ++ t ∷ rest) made ∙ ap (λ ts. terms_of fs ++ ts) (sym front)
