-- Which script is read of a text, and why none is (our own).
use Rattle.std.specs.Prelude.{◌≡◌, ℕ, All, List, []}
use Rattle.swift_syntax.specs.Places.{IsBlamedIn}
use Rattle.swift_translation.specs.MethodPlaces.{IsPlaceIn}
use Rattle.swift_translation.specs.Translations.{IsScriptOf}
use Rattle.nuchapay_tool.specs.declared.requests.Language.{Language}
use Rattle.nuchapay_tool.specs.declared.requests.Language.TheVariants as language
use Rattle.nuchapay.specs.declared.input.NoScript.{NoScript}
use Rattle.nuchapay.specs.declared.input.NoScript.TheVariants.{Unread, Refused, Memory}
use Rattle.nuchapay.specs.declared.input.ReadScript.{ReadScript}

-- What is read of a text: of the language of scripts the text itself, and of Swift the script that it becomes, with methods that are from
-- lines of it.
abbrev pub IsReadOf : Language → List ℕ → ReadScript → Type 0
IsReadOf language.Script text r = (r.text.items ≡ text) × (r.places.items ≡ [])
IsReadOf language.Swift text r = IsScriptOf text r.text.items × All (IsPlaceIn text) r.places.items

-- Why nothing is read of a text: a text of Swift breaks a rule, and bytes of it are to blame, or its end; or there is no memory.
abbrev pub IsUnreadOf : Language → List ℕ → NoScript → Type 0
IsUnreadOf language.Script text (Refused t r) = ⊥
IsUnreadOf language.Swift text (Refused t r) = (t.items ≡ text) × IsBlamedIn text r
IsUnreadOf of text (Unread e) = ⊥
IsUnreadOf of text Memory = Unit {0}
