-- The texts of pages (our own).
use Rattle.std.specs.Prelude.{ℕ, Option, Some, None, List, [], ◌∷◌, codes}
use Rattle.std.specs.List.{concat}
use Rattle.nuchapay_tool.specs.declared.page.Page.{Page}
use Rattle.nuchapay_tool.specs.declared.page.ScriptPair.{ScriptPair}

-- the scripts of a page: one with the mistake, and the mended one
abbrev pub scripts_text : Option ScriptPair → List ℕ
scripts_text None = []
scripts_text (Some s) = concat (codes "\nFor example:\n\n" ∷ s.wrong.now ∷ codes "\nMended:\n\n" ∷ s.mended.now ∷ [])

-- what is printed of a page
abbrev pub page_text : Page → List ℕ
page_text p = concat (
    p.name.now ∷ codes " " ∷ p.title.now ∷ codes "\n\nWhen: " ∷ p.when.now ∷ codes "\nThen: " ∷ p.outcome.now ∷ codes "\nWhat to do: " ∷ p.help.now ∷ codes "\n" ∷ scripts_text p.scripts ∷ []
    )
