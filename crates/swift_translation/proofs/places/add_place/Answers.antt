use Rattle.std.proofs.Common.{Option, IfSome, List, [], ◌∷◌, All, subst, sym}
use Rattle.std.proofs.lemmas.List.Elements.{All-append, All-cons, All-nil}
use Rattle.swift_translation.specs.MethodPlaces.{IsPlaceIn}
use Rattle.swift_translation.specs.declared.places.MethodPlace.{MethodPlace}
use Rattle.swift_translation.proofs.places.add_place.Goals as goal

pub returns-in_ok-push-in-Some : goal.returns-in_ok-push-in-Some
returns-in_ok-push-in-Some c =
    let one : IsPlaceIn c.args.text.now c.in-Some.place = subst (λ (o : Option MethodPlace). IfSome o (IsPlaceIn c.args.text.now)) c.in-Some.is c.in_ok-place.ensures in
    let more : All (IsPlaceIn c.args.text.now) (c.in-Some.place ∷ []) = All-cons (IsPlaceIn c.args.text.now) c.in-Some.place [] one (All-nil (IsPlaceIn c.args.text.now)) in
    subst (λ (found : List MethodPlace). All (IsPlaceIn c.args.text.now) found) (sym c.in_ok-push-in-Some.ensures.items)
    (All-append (IsPlaceIn c.args.text.now) c.args.found.now.items (c.in-Some.place ∷ []) c.requires.found more)
