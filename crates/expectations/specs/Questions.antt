-- What is asked of a script (our own).
use Rattle.std.specs.Prelude.{◌≡◌, ℕ, Bool, true, false, List, [], ◌∷◌, ◌++◌}
use Rattle.script_code.specs.Tree.{term_of}
use Rattle.swift_script.specs.Scripts.{ScriptView}
use Rattle.expectations.specs.declared.expectation.Expectation.{Expectation}
use Rattle.expectations.specs.declared.expectation.Expectation.TheVariants as expect
use Rattle.expectations.specs.Comments.{expected}
use Rattle.expectations.specs.Texts.{IsTest}

-- An expectation is that of a text.
abbrev pub IsExpected : ScriptView → List ℕ → Expectation → Type 0
IsExpected p text (expect.Test said test) = (said.items ≡ text) × IsTest p text (term_of test)
IsExpected p text expect.NoFault = ⊥

-- Expectations are those of texts, in order.
pub data AreExpected (p : ScriptView) : List (List ℕ) → List Expectation → Type 0 where
  no_more : AreExpected p [] []
  one_more : {text : List ℕ} {e : Expectation} {texts : List (List ℕ)} {es : List Expectation} → IsExpected p text e → AreExpected p texts es → AreExpected p (text ∷ texts) (e ∷ es)

-- that no root ends with a fault, where this is asked
abbrev pub no_fault : Bool → List Expectation
no_fault false = []
no_fault true = expect.NoFault ∷ []

-- What is asked of the script that these bytes spell: the expectations of these words and those of its comments, and perhaps that no root
-- ends with a fault.
pub record IsAsked (p : ScriptView) (bytes : List ℕ) (words : List (List ℕ)) (without_fault : Bool) (asked : List Expectation) : Type 0 where
  pub tests : List Expectation
  pub are : AreExpected p (words ++ expected bytes) tests
  pub all : asked ≡ tests ++ no_fault without_fault
