-- Tokens that are joined one after the other.
use Rattle.expectations.proofs.Prelude.{◌≡◌, ℕ, ◌<◌, Option, Some, None, List, [], ◌∷◌, ◌++◌, length, map, refl, sym, subst, append_assoc, arith, append-nil, length-map, Token, TokenView, piece, Num, Huge, Name, Key, Sign, Stray, Joins, none, dotted, kept}
use Rattle.script_tokens.specs.declared.mark.Mark.TheVariants as mark
use Rattle.expectations.specs.FirstInside.{field_first, first_of, named_with}

-- `rest` is what is left of `all`, where these names were found before
abbrev pub GoesOn : List TokenView → List TokenView → List TokenView → Type 0
GoesOn all names rest = (us : List TokenView) → Joins rest us → Joins all (names ++ us)

pub joins_more : (all names rest after : List TokenView) (t : TokenView) → GoesOn all names rest → ((us : List TokenView) → Joins after us → Joins rest (t ∷ us)) → GoesOn all (names ++ t ∷ []) after
joins_more all names rest after t goes step us j = subst (Joins all) (sym (append_assoc names (t ∷ []) us)) (goes (t ∷ us) (step us j))

pub joins_end : (all names rest : List TokenView) → GoesOn all names rest → rest ≡ [] → Joins all names
joins_end all names rest goes is = subst (Joins all) (append-nil names) (goes [] (subst (λ (r : List TokenView). Joins r []) (sym is) none))

-- what an actor's name and what follows it join to
with_name : (a : List ℕ) (ts us : List TokenView) (x : Option (List ℕ × List TokenView)) → field_first ts ≡ x → Joins (named_with a ts x).1 us → Joins (Name a ∷ ts) ((named_with a ts x).0 ∷ us)
with_name a ts us None is joins = kept (Name a) joins
with_name a (Sign mark.Dot ∷ Name f ∷ ts) us (Some x) is joins =
    let same : (f, ts) ≡ x = cc is in
    subst (λ (y : List ℕ × List TokenView). Joins (Name a ∷ Sign mark.Dot ∷ Name f ∷ ts) (Name (a ++ 46 ∷ y.0) ∷ us)) same
    (dotted a f (subst (λ (y : List ℕ × List TokenView). Joins y.1 us) (sym same) joins))
with_name a _ us (Some x) is joins = absurd (cc is)

-- the first token, before what the others join to
pub first_joins : (ts us : List TokenView) → 0 < length ts → Joins (first_of ts).1 us → Joins ts ((first_of ts).0 ∷ us)
first_joins [] us some joins = absurd (omega (arith, some))
first_joins (Name a ∷ ts) us some joins = with_name a ts us (field_first ts) refl joins
first_joins (Num n ∷ ts) us some joins = kept (Num n) joins
first_joins (Huge ∷ ts) us some joins = kept Huge joins
first_joins (Key k ∷ ts) us some joins = kept (Key k) joins
first_joins (Sign m ∷ ts) us some joins = kept (Sign m) joins
first_joins (Stray ∷ ts) us some joins = kept Stray joins

pub joins_first : (all names more ts after : List TokenView) (t : TokenView) → 0 < length ts → (t, after) ≡ first_of ts → more ≡ names ++ t ∷ [] → GoesOn all names ts → GoesOn all more after
joins_first all names more ts after t some is added goes =
    subst (λ (ns : List TokenView). GoesOn all ns after) (sym added)
    (joins_more all names ts after t goes
    (λ us joins. subst (λ (x : TokenView × List TokenView). Joins ts (x.0 ∷ us)) (sym is) (first_joins ts us some (subst (λ (x : TokenView × List TokenView). Joins x.1 us) is joins))))

with_shorter : (a : List ℕ) (ts : List TokenView) (x : Option (List ℕ × List TokenView)) → field_first ts ≡ x → length (named_with a ts x).1 < length (Name a ∷ ts)
with_shorter a ts None is = omega arith
with_shorter a (Sign mark.Dot ∷ Name f ∷ ts) (Some x) is =
    let same : (f, ts) ≡ x = cc is in
    let fewer : length ts < length (Name a ∷ Sign mark.Dot ∷ Name f ∷ ts) = omega arith in
    subst (λ (y : List ℕ × List TokenView). length y.1 < length (Name a ∷ Sign mark.Dot ∷ Name f ∷ ts)) same fewer
with_shorter a _ (Some x) is = absurd (cc is)

-- it is one or more tokens
pub first_shorter : (ts : List TokenView) → 0 < length ts → length (first_of ts).1 < length ts
first_shorter [] some = absurd (omega (arith, some))
first_shorter (Name a ∷ ts) some = with_shorter a ts (field_first ts) refl
first_shorter (Num n ∷ ts) some = omega arith
first_shorter (Huge ∷ ts) some = omega arith
first_shorter (Key k ∷ ts) some = omega arith
first_shorter (Sign m ∷ ts) some = omega arith
first_shorter (Stray ∷ ts) some = omega arith

pub tokens_shorter : (ts after : List Token) (t : TokenView) → 0 < length ts → (t, map piece after) ≡ first_of (map piece ts) → length after < length ts
tokens_shorter ts after t some is =
    let many : 0 < length (map piece ts) = omega (arith, some, length-map ts piece) in
    let fewer = subst (λ (x : TokenView × List TokenView). length x.1 < length (map piece ts)) (sym is) (first_shorter (map piece ts) many) in
    omega (arith, fewer, length-map ts piece, length-map after piece)
