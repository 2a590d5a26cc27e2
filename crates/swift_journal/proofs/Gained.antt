-- What a list has gained.
use Rattle.swift_journal.proofs.Prelude.{◌≡◌, ◌+◌, List, [], ◌∷◌, ◌++◌, length, drop, refl, sym, ap, ◌∙◌, arith, append_assoc, length-append, append-nil, drop_at, drop_all, since}

pub since_same : {X : Type 0} (xs : List X) → since xs xs ≡ []
since_same xs = drop_all (length xs) xs (omega arith)

pub since_start : {X : Type 0} (xs : List X) → xs ≡ xs ++ since xs xs
since_start xs = sym (append-nil xs) ∙ ap (λ s. xs ++ s) (sym (since_same xs))

-- one element more
whole_push : {X : Type 0} (old now now' : List X) (x : X) → now ≡ old ++ since old now → now' ≡ now ++ x ∷ [] → now' ≡ old ++ (since old now ++ x ∷ [])
whole_push old now now' x e e' = e' ∙ ap (λ s. s ++ x ∷ []) e ∙ append_assoc old (since old now) (x ∷ [])

pub since_push : {X : Type 0} (old now now' : List X) (x : X) → now ≡ old ++ since old now → now' ≡ now ++ x ∷ [] → since old now' ≡ since old now ++ x ∷ []
since_push old now now' x e e' = ap (drop (length old)) (whole_push old now now' x e e') ∙ drop_at old (since old now ++ x ∷ []) (length old) refl

pub kept_push : {X : Type 0} (old now now' : List X) (x : X) → now ≡ old ++ since old now → now' ≡ now ++ x ∷ [] → now' ≡ old ++ since old now'
kept_push old now now' x e e' = whole_push old now now' x e e' ∙ ap (λ s. old ++ s) (sym (since_push old now now' x e e'))

pub length-since : {X : Type 0} (old now : List X) → now ≡ old ++ since old now → length now ≡ length old + length (since old now)
length-since old now e = ap length e ∙ length-append old (since old now)

pub kept_same : {X : Type 0} (old now now' : List X) → now' ≡ now → now ≡ old ++ since old now → now' ≡ old ++ since old now'
kept_same {X = X} old now now' e k = e ∙ k ∙ ap (λ (s : List X). old ++ since old s) (sym e)
