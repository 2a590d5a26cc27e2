-- A name that does not stand there yet goes after those that do.
use Rattle.script_names.proofs.Prelude.{◌≡◌, ℕ, suc, ◌+◌, Bool, true, false, cond, List, [], ◌∷◌, ◌++◌, length, refl, sym, ap, subst, ◌∙◌, None, Some, Option, arith, length-append, ◌||◌, not, slice_get, if◌then◌else◌, bytes_eq, is_among, place_of, with_name, fields_at, ScopeView, with_standing, meaning_of, share_a_name}
use Rattle.script_names.specs.declared.scope.NameKind.{NameKind}
use Rattle.script_names.specs.declared.scope.NameKind.TheVariants as kinds

past_first : (b : Bool) (k : NameKind) (ks : List NameKind) (p : ℕ) (r : Bool) → (slice_get ks p ≡ None → r ≡ false) → slice_get (k ∷ ks) (cond (not b) (1 + p) 0) ≡ None → (b || r) ≡ false
past_first true k ks p r h e = absurd (cc)
past_first false k ks p r h e =
    let after : 1 + p ≡ suc p = omega arith in
    h (subst (λ (n : ℕ). slice_get (k ∷ ks) n ≡ None) after e)

-- a name without a kind is none of the names
not_among : (ns : List (List ℕ)) (ks : List NameKind) (w : List ℕ) → length ks ≡ length ns → slice_get ks (place_of ns w) ≡ None → is_among ns w ≡ false
not_among [] ks w l e = refl
not_among (n ∷ ns) [] w l e = absurd (omega arith)
not_among (n ∷ ns) (k ∷ ks) w l e =
    let rest : length ks ≡ length ns = omega arith in
    past_first (bytes_eq w n) k ks (place_of ns w) (is_among ns w) (not_among ns ks w rest) e

without_kind : (b : Bool) (k : NameKind) (o : Option NameKind) → (if b then Some k else o) ≡ None → o ≡ None
without_kind true k o e = absurd (cc)
without_kind false k o e = e

pub new_name : (s : ScopeView) (w : List ℕ) → length s.kinds ≡ length s.names → meaning_of s w ≡ None → with_name s.names w ≡ s.names ++ w ∷ []
new_name s w l e =
    let fresh = not_among s.names s.kinds w l (without_kind (is_among (fields_at s.directory s.actor) w) kinds.Field _ e) in
    ap (λ (b : Bool). cond b s.names (s.names ++ w ∷ [])) fresh

-- what stands there with the name
pub added : (s t : ScopeView) (w : List ℕ) (k : NameKind) (ns : List (List ℕ)) (ks : List NameKind) → length s.kinds ≡ length s.names → s ≡ t → meaning_of t w ≡ None → ns ≡ with_name s.names w → ks ≡ s.kinds ++ k ∷ [] → record s { names = ns; kinds = ks } ≡ with_standing t w k
added s t w k ns ks l same none names kinds =
    let none_there : meaning_of s w ≡ None = subst (λ (x : ScopeView). meaning_of x w ≡ None) (sym same) none in
    let both : ns ≡ s.names ++ w ∷ [] = names ∙ new_name s w l none_there in
    (λ i. record s { names = both i; kinds = kinds i }) ∙ ap (λ (x : ScopeView). with_standing x w k) same

-- as many kinds as names
pub as_many : (s t : ScopeView) (w : List ℕ) (k : NameKind) (ns : List (List ℕ)) (ks : List NameKind) → length s.kinds ≡ length s.names → s ≡ t → meaning_of t w ≡ None → ns ≡ with_name s.names w → ks ≡ s.kinds ++ k ∷ [] → length ks ≡ length ns
as_many s t w k ns ks l same none names kinds =
    let e = added s t w k ns ks l same none names kinds in
    let number : length ks ≡ length t.kinds + 1 = ap (λ (x : ScopeView). length x.kinds) e ∙ length-append t.kinds (k ∷ []) in
    let number' : length ns ≡ length t.names + 1 = ap (λ (x : ScopeView). length x.names) e ∙ length-append t.names (w ∷ []) in
    let same_kinds : length s.kinds ≡ length t.kinds = ap (λ (x : ScopeView). length x.kinds) same in
    let same_names : length s.names ≡ length t.names = ap (λ (x : ScopeView). length x.names) same in
    omega arith

-- of no names none is shared
pub none_shared : (ns : List (List ℕ)) → share_a_name [] ns ≡ false
none_shared [] = refl
none_shared (n ∷ ns) = none_shared ns
