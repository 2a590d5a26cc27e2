-- What handles hold agrees with the names that stand.
use Rattle.script_compiler.proofs.Prelude.{◌≡◌, ◌<◌, ◌≤◌, ℕ, zero, suc, true, false, List, [], ◌∷◌, ◌++◌, take, length, Some, ap, refl, sym, ◌∙◌, arith, ◌⊎◌, inl, inr, count_by, slice_get, ◌==◌, take-append_seam, take-append-le, cases_lt, ne_eqb, eq-eqb, cond-true, cond-false, slice_get_within, Let, LetTask, StmtTree, Do, NameKind, is_among, place_of, fields_at, ScopeView, with_standing, meaning_of, scope_after, with_parameters, is_handle, handle_place, Held, none_held, held_at}
use Rattle.script_names.specs.declared.scope.NameKind.TheVariants as kind
use Rattle.script_compiler.proofs.Named.{before_all, own_meaning}

-- The handle of each task and of each group that stands holds it.
abbrev pub Agrees : Held → List NameKind → Type 0
Agrees held ks = (i : ℕ) (k : NameKind) → slice_get ks i ≡ Some k → is_handle k ≡ true → held (count_by is_handle (take i ks)) ≡ Some k

-- an element of the first of two lists
at_front : (ks ys : List NameKind) (i : ℕ) → i < length ks → slice_get (ks ++ ys) i ≡ slice_get ks i
at_front [] ys i l = absurd (omega (arith, l))
at_front (k ∷ ks) ys zero l = refl
at_front (k ∷ ks) ys (suc i) l = at_front ks ys i (omega (arith, l))

-- an element after those of the first list
at_end : (ks : List NameKind) (k x : NameKind) (i : ℕ) → length ks ≤ i → slice_get (ks ++ k ∷ []) i ≡ Some x → (i ≡ length ks) × (Some x ≡ Some k)
at_end [] k x zero l e = (refl, sym e)
at_end [] k x (suc i) l e = absurd (cc)
at_end (y ∷ ks) k x zero l e = absurd (omega (arith, l))
at_end (y ∷ ks) k x (suc i) l e =
    let rest = at_end ks k x i (omega (arith, l)) e in
    (omega (arith, rest.0), rest.1)

-- one name less stands
pub one_less : (held : Held) (ks : List NameKind) (k : NameKind) → Agrees held (ks ++ k ∷ []) → Agrees held ks
one_less held ks k g i x at is =
    let within : i < length ks = slice_get_within ks i x at in
    let short : i ≤ length ks = omega (arith, within) in
    ap (λ ys. held (count_by is_handle ys)) (sym (take-append-le i ks (k ∷ []) short)) ∙ g i x (at_front ks (k ∷ []) i within ∙ at) is

no_handle : (k : NameKind) → Some k ≡ Some kind.Number → is_handle k ≡ true → ⊥
no_handle kind.Field e h = cc
no_handle kind.Number e h = cc
no_handle kind.Task e h = cc
no_handle kind.Group e h = cc

-- one number more stands
pub one_number : (held : Held) (ks : List NameKind) → Agrees held ks → Agrees held (ks ++ kind.Number ∷ [])
one_number held ks g i x at is = by_place (cases_lt i (length ks))
  where
    by_place : (i < length ks) ⊎ (length ks ≤ i) → held (count_by is_handle (take i (ks ++ kind.Number ∷ []))) ≡ Some x
    by_place (inl within) =
        let short : i ≤ length ks = omega (arith, within) in
        ap (λ ys. held (count_by is_handle ys)) (take-append-le i ks (kind.Number ∷ []) short) ∙ g i x (sym (at_front ks (kind.Number ∷ []) i within) ∙ at) is
    by_place (inr past) = absurd (no_handle x (at_end ks kind.Number x i past at).1 is)

-- one task or group more stands, whose handle is the next one
pub one_handle : (held : Held) (ks : List NameKind) (k : NameKind) → Agrees held ks → Agrees (held_at (count_by is_handle ks) k held) (ks ++ k ∷ [])
one_handle held ks k g i x at is = by_place (cases_lt i (length ks))
  where
    by_place : (i < length ks) ⊎ (length ks ≤ i) → held_at (count_by is_handle ks) k held (count_by is_handle (take i (ks ++ k ∷ []))) ≡ Some x
    by_place (inl within) =
        let short : i ≤ length ks = omega (arith, within) in
        let at' : slice_get ks i ≡ Some x = sym (at_front ks (k ∷ []) i within) ∙ at in
        let below : count_by is_handle (take i ks) < count_by is_handle ks = before_all is_handle ks i x at' is in
        let other : (count_by is_handle (take i ks) == count_by is_handle ks) ≡ false = ne_eqb _ _ (λ same. omega (arith, below, same)) in
        ap (λ ys. held_at (count_by is_handle ks) k held (count_by is_handle ys)) (take-append-le i ks (k ∷ []) short)
        ∙ cond-false _ (Some k) (held (count_by is_handle (take i ks))) other ∙ g i x at' is
    by_place (inr past) =
        let last = at_end ks k x i past at in
        let whole : take i (ks ++ k ∷ []) ≡ ks = ap (λ (n : ℕ). take n (ks ++ k ∷ [])) last.0 ∙ take-append_seam ks (k ∷ []) in
        ap (λ ys. held_at (count_by is_handle ks) k held (count_by is_handle ys)) whole
        ∙ cond-true _ (Some k) (held (count_by is_handle ks)) (eq-eqb (count_by is_handle ks) (count_by is_handle ks) refl) ∙ sym last.1

-- what stood before a statement
pub before_statement : (s : ScopeView) (x : StmtTree) (held : Held) → Agrees held (scope_after s x).kinds → Agrees held s.kinds
before_statement s (Do (Let n v)) held g = one_less held s.kinds kind.Number g
before_statement s (Do (LetTask n m)) held g = one_less held s.kinds kind.Task g
before_statement s _ held g = g

-- the handle of a name
pub holds_named : (held : Held) (s : ScopeView) (name : List ℕ) (k : NameKind) → Agrees held s.kinds → is_handle k ≡ true → meaning_of s name ≡ Some k → held (handle_place s name) ≡ Some k
holds_named held s name k g is e =
    g (place_of s.names name) k (own_meaning (is_among (fields_at s.directory s.actor) name) (slice_get s.kinds (place_of s.names name)) k is e) is

-- Parameters are numbers.
pub none_agrees : (s : ScopeView) (names : List (List ℕ)) → Agrees none_held s.kinds → Agrees none_held (with_parameters s names).kinds
none_agrees s [] g = g
none_agrees s (n ∷ names) g = none_agrees (with_standing s n kind.Number) names (one_number none_held s.kinds g)
