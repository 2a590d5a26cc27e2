-- What stands in a picture, as bytes of its SVG (the form is our own).
use Rattle.std.specs.Prelude.{◌≡◌, ℕ, ◌+◌, ◌-◌, ◌*◌, ◌/◌, ◌%◌, Bool, false, true, if◌then◌else◌, nat_lt, Option, None, Some, List, [], ◌∷◌, ◌++◌, codes, decimal, drop, length, replicate, slice_get}
use Rattle.swift_types.specs.declared.env.Env.{Env}
use Rattle.swift_types.specs.declared.outcome.Ending.{Ending}
use Rattle.swift_types.specs.Priority.{rank}
use Rattle.swift_events.specs.declared.life.Origin.{Origin}
use Rattle.swift_script.specs.Scripts.{ScriptView}
use Rattle.swift_report.specs.Text.{exit_text, method_text, resume_text}
use Rattle.task_names.specs.Names.{task_name}
use Rattle.run_pictures.specs.Cells.{cells_of}
use Rattle.run_pictures.specs.declared.picture.Picture.{Picture}
use Rattle.run_pictures.specs.declared.picture.boxes.TurnBox.{TurnBox}
use Rattle.run_pictures.specs.declared.picture.cells.Cell.{Cell}
use Rattle.run_pictures.specs.declared.picture.placed.PlacedTurn.{PlacedTurn}

-- a turn, by its task and its number
abbrev pub turn_text : TurnBox → List ℕ
turn_text turn = codes "t" ++ decimal turn.task.0 ++ codes "." ++ decimal turn.number

abbrev pub cancelled_text : Bool → List ℕ
cancelled_text cancelled = if cancelled then codes " c1" else []

-- what a turn was given
abbrev pub env_text : Env → List ℕ
env_text env = codes "p" ++ decimal (rank env.priority) ++ cancelled_text env.cancelled

-- which turn it is, what its task is called, and its worker
abbrev pub who_text : ScriptView → List (Origin × Ending) → TurnBox → List ℕ
who_text p es turn = turn_text turn ++ codes " (" ++ task_name p es turn.task.0 ++ codes ") w" ++ decimal turn.worker

-- its method, what it was given and began with, and how it ended
abbrev pub does_text : ScriptView → TurnBox → List ℕ
does_text p turn = method_text p turn.method.0 ++ codes " " ++ env_text turn.env ++ codes " " ++ resume_text turn.resume ++ codes " -> " ++ exit_text p turn.exit

-- The title of a turn's box: which turn it is, what its task is called, its worker and its method, what it was given and began with, and
-- how it ended.
abbrev pub title_text : ScriptView → List (Origin × Ending) → TurnBox → List ℕ
title_text p es turn = who_text p es turn ++ codes " " ++ does_text p turn

-- the class of an outline: a turn that was undone has one of its own, and any other that of its task's colour, one of twelve
abbrev pub class_text : TurnBox → Bool → List ℕ
class_text turn undone = if undone then codes "x" else codes "c" ++ decimal (turn.task.0 % 12)

-- where an outline stands, so far from the left and from the top, and how wide it is
abbrev pub place_text : ℕ → ℕ → ℕ → List ℕ
place_text left top width = codes "\" x=\"" ++ decimal left ++ codes "\" y=\"" ++ decimal top ++ codes "\" width=\"" ++ decimal width

-- the outline of a turn's box
abbrev pub outline_text : TurnBox → Bool → ℕ → ℕ → ℕ → List ℕ
outline_text turn undone left top width =
    codes "<rect class=\"" ++ class_text turn undone ++ place_text left top width ++ codes "\" height=\"" ++ decimal 70 ++ codes "\" rx=\"6\"/>\n"

-- of a row of twelve cells, how far from the left the cell at a place of the picture stands
abbrev pub left_of : ℕ → ℕ
left_of slot = (slot % 12) * 150 + 168

-- the box of a turn: its title, after which so much more is said, its outline, and the rest
abbrev pub box_text : ScriptView → List (Origin × Ending) → TurnBox → Bool → List ℕ → ℕ → ℕ → ℕ → List ℕ → List ℕ
box_text p es turn undone more left top width rest =
    codes "<g><title>" ++ title_text p es turn ++ more ++ codes "</title>\n" ++ outline_text turn undone left top width ++ rest

-- The box of a turn: an element that begins with its title and its outline, which stands in the column of its cell, and in the lane of its
-- executor in the row of that. `tops` says where these are.
pub record IsBox (p : ScriptView) (es : List (Origin × Ending)) (tops : ℕ → ℕ → ℕ) (turn : TurnBox) (undone : Bool) (slot : ℕ) (text : List ℕ) : Type 0 where
  pub more : List ℕ
  pub width : ℕ
  pub rest : List ℕ
  pub is : text ≡ box_text p es turn undone more (left_of slot) (tops (slot / 12) turn.executor) width rest

-- the place of its cell for each turn of these cells, in order, the first of which has this place
abbrev pub slots_from : ℕ → List Cell → List ℕ
slots_from slot [] = []
slots_from slot (c ∷ cs) = replicate c.turns slot ++ slots_from (slot + 1) cs

-- what of a picture is not its turns: its script, where its tasks come from and how they ended, the cells that are shown, the place of the
-- cell of each column from the first that is shown on, that column, and how far from the top the boxes of an executor stand in a row
pub record Sheet : Type 0 where
  pub script : ScriptView
  pub endings : List (Origin × Ending)
  pub cells : List Cell
  pub slots : List ℕ
  pub first : ℕ
  pub tops : ℕ → ℕ → ℕ

-- the place of the cell of a column, from these of the columns from the first that is shown on; none where the column is not shown
abbrev pub shown_slot : List ℕ → ℕ → ℕ → Option ℕ
shown_slot slots first column = if nat_lt column first then None else slice_get slots (column - first)

-- a cell has several turns
abbrev pub is_fold : Option Cell → Bool
is_fold None = false
is_fold (Some c) = nat_lt 1 c.turns

-- a place, where the cell there has one turn
abbrev pub own_slot_of : List Cell → Option ℕ → Option ℕ
own_slot_of cells None = None
own_slot_of cells (Some slot) = if is_fold (slice_get cells slot) then None else Some slot

-- the place of the cell that the turn of a column has for itself, where that is shown
abbrev pub own_slot : List Cell → List ℕ → ℕ → ℕ → Option ℕ
own_slot cells slots first column = own_slot_of cells (shown_slot slots first column)

-- A turn that has a shown cell for itself has its box; any other has nothing.
abbrev pub IsDrawnAt : Sheet → TurnBox → PlacedTurn → Option ℕ → List ℕ → Type 0
IsDrawnAt sheet turn placed None text = text ≡ []
IsDrawnAt sheet turn placed (Some slot) text = IsBox sheet.script sheet.endings sheet.tops turn placed.is_undone slot text

abbrev pub IsDrawn : Sheet → TurnBox → PlacedTurn → List ℕ → Type 0
IsDrawn sheet turn placed text = IsDrawnAt sheet turn placed (own_slot sheet.cells sheet.slots sheet.first placed.moment.column) text

-- what there is of each turn, one after the other
abbrev pub AreDrawn : Sheet → List TurnBox → List PlacedTurn → List ℕ → Type 0
AreDrawn sheet [] placed text = text ≡ []
AreDrawn sheet (turn ∷ turns) [] text = text ≡ []
AreDrawn sheet (turn ∷ turns) (at ∷ ats) text = (one rest : List ℕ) × (text ≡ one ++ rest) × IsDrawn sheet turn at one × AreDrawn sheet turns ats rest

-- the beginning of the title of a fold of so many turns
abbrev pub fold_text : ℕ → List ℕ
fold_text turns = codes "<g><title>" ++ decimal turns ++ codes " turns in a row that only give way: "

-- a cell of several turns has an element that begins with how many they are; any other has nothing
abbrev pub IsFoldOf : Cell → Bool → List ℕ → Type 0
IsFoldOf c false text = text ≡ []
IsFoldOf c true text = (rest : List ℕ) × (text ≡ fold_text c.turns ++ rest)

-- what there is of each cell, one after the other
abbrev pub AreFolds : List Cell → List ℕ → Type 0
AreFolds [] text = text ≡ []
AreFolds (c ∷ cs) text = (one rest : List ℕ) × (text ≡ one ++ rest) × IsFoldOf c (nat_lt 1 c.turns) one × AreFolds cs rest

-- the first column of cells; this one where there are none
abbrev pub first_of : List Cell → ℕ → ℕ
first_of [] all = all
first_of (c ∷ cs) all = c.first

-- the last thousand of the cells of turns, of which these flags say whether they only give way
abbrev pub last_cells : List Bool → List Cell
last_cells quiet = drop (length (cells_of quiet) - 1000) (cells_of quiet)

-- The cells that are shown are the last thousand of those of all turns.
pub record IsSheetOf (turns : ℕ) (sheet : Sheet) : Type 0 where
  pub quiet : List Bool
  pub flags : length quiet ≡ turns
  pub cells : sheet.cells ≡ last_cells quiet
  pub slots : sheet.slots ≡ slots_from 0 sheet.cells
  pub first : sheet.first ≡ first_of sheet.cells turns

-- The text of a picture: between what comes before them and what comes after them stand the boxes of its turns, in order, and then the
-- folds of its cells.
pub record IsPicture (script : ScriptView) (es : List (Origin × Ending)) (picture : Picture) (text : List ℕ) : Type 0 where
  pub sheet : Sheet
  pub of_script : sheet.script ≡ script
  pub of_tasks : sheet.endings ≡ es
  pub is : IsSheetOf (length picture.boxes.items) sheet
  pub before : List ℕ
  pub boxes : List ℕ
  pub folds : List ℕ
  pub after : List ℕ
  pub whole : text ≡ before ++ boxes ++ folds ++ after
  pub drawn : AreDrawn sheet picture.boxes.items picture.placed.items boxes
  pub folded : AreFolds sheet.cells folds
