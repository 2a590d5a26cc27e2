-- Texts that are being written. No contract that others see cites these.
use Rattle.std.specs.Prelude.{◌≡◌, ℕ, ◌+◌, ◌-◌, ◌*◌, ◌^◌, Bool, false, min, List, ◌++◌, Option, None, Some, length, slice_get, unwrap_or}
use Rattle.std.specs.Global.{Vec}
use Rattle.swift_types.specs.declared.outcome.Ending.{Ending}
use Rattle.swift_events.specs.declared.life.Origin.{Origin}
use Rattle.swift_script.specs.Scripts.{ScriptView}
use Rattle.task_names.specs.Names.{task_name}
use Rattle.run_pictures.specs.Drawn.{Sheet, first_of, last_cells, slots_from}
use Rattle.run_pictures.specs.declared.picture.layout.Layout.{Layout}
use Rattle.run_pictures.specs.declared.picture.picture_text.PictureText.{PictureText}

-- A text goes on with these words, unless memory ran out.
pub record Says (old new : PictureText) (words : List ℕ) : Type 0 where
  pub said : new.is_cut ≡ false → (old.is_cut ≡ false) × (new.bytes.items ≡ old.bytes.items ++ words)

-- a text goes on with some words of which this holds
pub record SaysSome (Holds : List ℕ → Type 0) (old new : PictureText) : Type 0 where
  pub words : List ℕ
  pub says : Says old new words
  pub holds : Holds words

-- what each task is called
pub record AreNames (script : ScriptView) (es : List (Origin × Ending)) (names : List (Vec ℕ)) : Type 0 where
  pub many : length names ≡ length es
  pub each : (t : ℕ) (name : Vec ℕ) → slice_get names t ≡ Some name → name.items ≡ task_name script es t

-- where the boxes of a lane stand that begins here; a lane that is not there begins where the first row does
abbrev pub box_top_in : Option ℕ → ℕ
box_top_in None = 70
box_top_in (Some top) = min (top + 58) (2 ^ 64 - 1)

-- where the lane of an executor begins in a row, if that row has it
abbrev pub top_of : Layout → ℕ → ℕ → Option ℕ
top_of layout row e = unwrap_or (slice_get layout.tops.items (min (min (row * length layout.lanes.items) (2 ^ 64 - 1) + e) (2 ^ 64 - 1))) None

-- where the boxes of an executor stand in a row
abbrev pub box_top : Layout → ℕ → ℕ → ℕ
box_top layout row e = box_top_in (top_of layout row e)

-- the cells of a layout of so many turns are the last of theirs
pub record IsOfLayout (turns : ℕ) (layout : Layout) : Type 0 where
  pub quiet : List Bool
  pub flags : length quiet ≡ turns
  pub cells : layout.cells.items ≡ last_cells quiet
  pub slots : layout.slots.items ≡ slots_from 0 layout.cells.items
  pub first : layout.first_column ≡ first_of layout.cells.items turns

-- what is not the turns of what is drawn
abbrev pub sheet_of : ScriptView → List (Origin × Ending) → Layout → Sheet
sheet_of script es layout = record {
  script = script;
  endings = es;
  cells = layout.cells.items;
  slots = layout.slots.items;
  first = layout.first_column;
  tops = box_top layout;
}
