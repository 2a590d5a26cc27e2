-- The rule over lists of what seats know is that over lists of their views.
use Rattle.swift_course.proofs.Prelude.{◌≡◌, ℕ, zero, suc, List, [], ◌∷◌, ◌++◌, set, refl, sym, ap, ◌∙◌, subst, some, some-injective, some-ne-none, get_elem?, IsCourse, BookKnown}
use Rattle.swift_course.proofs.Parts.{seat_learns}
use Rattle.swift_course.specs.declared.known.Known.{Known}
use Rattle.swift_course.specs.Rule.{GivesAreKept, JoinsAreKept, PartsAreKept, SeatsLearnOf, views_of}

at_view : (all : List Known) (seat : ℕ) (v : Known) → get_elem? all seat ≡ some v → get_elem? (views_of all) seat ≡ some v.view
at_view [] seat v at = absurd (some-ne-none v (sym at))
at_view (k ∷ all) zero v at = ap (λ (x : Known). some x.view) (some-injective k v at)
at_view (k ∷ all) (suc seat) v at = at_view all seat v at

views_set : (all : List Known) (seat : ℕ) (w : Known) → views_of (set all seat w) ≡ set (views_of all) seat w.view
views_set (k ∷ all) (suc seat) w = ap (λ vs. k.view ∷ vs) (views_set all seat w)
views_set _ _ w = refl

views_push : (all : List Known) (w : Known) → views_of (all ++ w ∷ []) ≡ views_of all ++ w.view ∷ []
views_push [] w = refl
views_push (k ∷ all) w = ap (λ vs. k.view ∷ vs) (views_push all w)

pub learns : SeatsLearnOf
learns v image all seat holds at = seat_learns v.view image.facts (views_of all) seat holds (at_view all seat v at)

pub gives : GivesAreKept
gives v taken given known may all seat holds at =
    let g = may (views_of all) seat holds (at_view all seat v at) in
    let w : Known = record { view = g.0 } in
    (w, subst (IsCourse given.facts) (sym (views_set all seat w)) g.1, g.2)

pub parts : PartsAreKept
parts v left right may image all seat holds at =
    subst (IsCourse image.facts) (sym (views_push (set all seat left) right ∙ ap (λ (vs : List BookKnown). vs ++ right.view ∷ []) (views_set all seat left)))
    (may image.facts (views_of all) seat holds (at_view all seat v at))

pub joins : JoinsAreKept
joins v w both spent may image all seat other holds at apart at' =
    let front = views_set all seat both in
    subst (IsCourse image.facts) (sym (views_set (set all seat both) other spent ∙ ap (λ (vs : List BookKnown). set vs other spent.view) front))
    (may image.facts (views_of all) seat other holds (at_view all seat v at) apart (ap (λ (vs : List BookKnown). get_elem? vs other) (sym front) ∙ at_view (set all seat both) other w at'))
