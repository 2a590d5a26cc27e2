use Rattle.std.proofs.Common.{◌≡◌, All}
use Rattle.swift_translation.specs.MethodPlaces.{IsPlaceIn}
use Rattle.swift_translation.specs.Translations.{IsScriptOf}
use Rattle.nuchapay.proofs.input.script_in.Goals as goal

pub returns-in-Script-2-clause-read : goal.returns-in-Script-2-clause-read
returns-in-Script-2-clause-read c =
    let same : c.deref.result.now ≡ c.args.text.items = c.deref.ensures.value in
    let text : IsScriptOf c.deref.result.now c.in-Script-2.field-0.text.items = rw c.in-Script-2.is at c.in_ok-text-in-Swift.ensures.text in
    let placed : All (IsPlaceIn c.deref.result.now) c.in-Script-2.field-0.places.items = rw c.in-Script-2.is at c.in_ok-text-in-Swift.ensures.placed in
    rw c.in-Swift.is (rw same at text, rw same at placed)
