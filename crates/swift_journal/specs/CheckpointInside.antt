-- What the fields of a checkpoint say. No public clause names these.
use Rattle.std.specs.Prelude.{ℕ, ℤ, ◌-◌, Bool, true, false, List, [], ◌∷◌}
use Rattle.swift_journal.specs.Checkpoints.{FoldedView}
use Rattle.swift_journal.specs.EffectWordsInside.{effects_of}
use Rattle.swift_journal.specs.Ends.{exit_of, skip_exit}
use Rattle.swift_journal.specs.FrameWordsInside.{frame_if_of}
use Rattle.swift_journal.specs.JournalInside.{effect_part}
use Rattle.swift_journal.specs.LaidInside.{TurnSpan, read_at}
use Rattle.swift_journal.specs.declared.stored.StoredEffect.{StoredEffect}
use Rattle.swift_journal.specs.declared.stored.StoredAfter.{StoredAfter}
use Rattle.swift_journal.specs.declared.stored.StoredAfter.TheVariants.{Absent, Plain, Counted}
use Rattle.swift_journal.specs.declared.stored.FoldedHead.{FoldedHead}
use Rattle.swift_journal.specs.declared.stored.FrameHead.{FrameHead}
use Rattle.swift_journal.specs.declared.journal.EndedTurn.{EndedTurn}

-- whether a frame stands after a turn, and whether its counts are stored
abbrev pub after_kind : Bool → Bool → StoredAfter
after_kind false counted = Absent
after_kind true false = Plain
after_kind true true = Counted

abbrev pub is_there : StoredAfter → Bool
is_there Absent = false
is_there Plain = true
is_there Counted = true

abbrev pub has_counts : StoredAfter → Bool
has_counts Absent = false
has_counts Plain = false
has_counts Counted = true

-- the frame after a turn that was folded
abbrev pub after_of : FoldedHead → FrameHead
after_of h = record {
  method = h.method;
  instruction = h.instruction;
  variables = h.variables;
  pending = h.pending;
  counted = has_counts h.after;
  stands = is_there h.after;
}

-- a turn that was folded, by its head, its words and its effects
abbrev pub folded_from : FoldedHead → List ℤ → List StoredEffect → FoldedView
folded_from h ws es = record {
  task = h.task.0;
  number = h.number;
  exit = exit_of h.exit ws;
  effects = effects_of es (effect_part h.exit (after_of h) ws);
  after = frame_if_of (after_of h) (skip_exit h.exit ws);
}

-- what a journal lends of a turn for that
abbrev pub ended_view : EndedTurn → FoldedView
ended_view e = record {
  task = e.task.0;
  number = e.number;
  exit = exit_of e.exit e.words.now;
  effects = effects_of e.effects.now (effect_part e.exit e.after e.words.now);
  after = frame_if_of e.after (skip_exit e.exit e.words.now);
}

-- where the turn begins that comes first of these, or all words end
abbrev pub next_start : List FoldedHead → ℕ → ℕ
next_start [] words = words
next_start (h ∷ hs) words = h.start

abbrev pub next_effect : List FoldedHead → ℕ → ℕ
next_effect [] effects = effects
next_effect (h ∷ hs) effects = h.first_effect

-- a turn that was folded, and how many words and effects it has
pub record PlacedFold : Type 0 where
  pub head : FoldedHead
  pub size : ℕ
  pub effects : ℕ

-- turns in order, each of which ends where the next one begins
abbrev pub placed : List FoldedHead → ℕ → ℕ → List PlacedFold
placed [] words effects = []
placed (h ∷ hs) words effects =
    record { head = h; size = next_start hs words - h.start; effects = next_effect hs effects - h.first_effect } ∷ placed hs words effects

-- where the words and the effects of a turn stand
abbrev pub placed_span : PlacedFold → TurnSpan
placed_span p = record { start = p.head.start; size = p.size; first_effect = p.head.first_effect; effects = p.effects }

abbrev pub placed_from : PlacedFold → List ℤ → List StoredEffect → FoldedView
placed_from p = folded_from p.head

abbrev pub folded_at : List ℤ → List StoredEffect → PlacedFold → FoldedView
folded_at = read_at placed_span placed_from
