-- Schedules that were written down (our own).
use Rattle.std.specs.Prelude.{◌≡◌, ℕ, List, [], ◌∷◌, ◌++◌, codes}
use Rattle.swift_explorer.specs.FoundText.{schedule_text}
use Rattle.swift_explorer.specs.declared.moves.Move.{Move}
use Rattle.nuchapay.specs.declared.schedules.ReadSchedule.{ReadSchedule}
use Rattle.nuchapay.specs.declared.schedules.ReadSchedule.TheVariants.{Steps, Refused, OtherText}

-- the line of a schedule that these words are
abbrev pub line_of : List ℕ → List ℕ
line_of [] = codes "schedule\n"
line_of (b ∷ bs) = codes "schedule " ++ (b ∷ bs) ++ codes "\n"

-- Steps are what words spell: a search prints them so. (It shows no step that adds a root; but each root is added before the first turn
-- begins, in each history that is in order.)
abbrev pub AreSpelled : List ℕ → List Move → Type 0
AreSpelled words steps = schedule_text steps ≡ line_of words

-- what is read of words
abbrev pub IsReadAs : List ℕ → ReadSchedule → Type 0
IsReadAs words (Steps steps) = AreSpelled words steps.items
IsReadAs words (Refused number fault) = Unit {0}
IsReadAs words OtherText = Unit {0}
