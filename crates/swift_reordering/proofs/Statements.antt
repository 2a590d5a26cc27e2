-- What holds of each statement of a turn holds of what comes first, and of what follows that.
use Rattle.swift_reordering.proofs.Prelude.{◌≡◌, refl, ◌∙◌, ap, Bool, true, ◌&&◌, ◌||◌, Term, Operation, Code, followed, NextAction, first, ends, does, tests, both, ends_turn, turn_all}
use Rattle.script_code.specs.Tree as code

module _ (op : Operation → Bool) (test : Term → Bool) where
  pub followed_all : (a b : Code) (after : Bool) → turn_all op test (followed a b) after ≡ turn_all op test a (turn_all op test b after)
  followed_all code.end b after = refl
  followed_all (code.act d rest) b after = ap (λ (x : Bool). op d && (ends_turn d || x)) (followed_all rest b after)
  followed_all (code.choice t x y rest) b after = ap (λ (z : Bool). test t && (turn_all op test x z && turn_all op test y z)) (followed_all rest b after)
  followed_all (code.loop t x rest) b after = ap (λ (z : Bool). test t && (turn_all op test x true && z)) (followed_all rest b after)

  abbrev pub IsAll : Code → Type 0
  IsAll c = turn_all op test c true ≡ true

  abbrev pub FirstIs : NextAction → Type 0
  FirstIs ends = Unit {0}
  FirstIs (does d rest) = (op d ≡ true) × ((ends_turn d || turn_all op test rest true) ≡ true)
  FirstIs (tests t held failed) = (test t ≡ true) × IsAll held × IsAll failed

  pub first_is : (c : Code) → IsAll c → FirstIs (first c)
  first_is code.end is = tt
  first_is (code.act d rest) is = both (op d) _ is
  first_is (code.choice t a b rest) is =
      let parts = both (test t) _ is in
      let two = both (turn_all op test a (turn_all op test rest true)) _ parts.1 in
      (parts.0, followed_all a rest true ∙ two.0, followed_all b rest true ∙ two.1)
  first_is (code.loop t a rest) is =
      let parts = both (test t) _ is in
      let two = both (turn_all op test a true) _ parts.1 in
      (parts.0, followed_all a (code.loop t a rest) true ∙ ap (turn_all op test a) is ∙ two.0, two.1)
