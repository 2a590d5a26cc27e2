-- What the fields of a journal say, and what they keep. No public clause names these.
use Rattle.std.specs.Prelude.{◌≡◌, ℕ, ℤ, List, [], ◌∷◌, ◌++◌, length, take, drop}
use Rattle.swift_journal.specs.EffectWordsInside.{effects_of}
use Rattle.swift_journal.specs.Ends.{resume_of, skip_resume, exit_of, skip_exit}
use Rattle.swift_journal.specs.FrameWordsInside.{frame_of, skip_frame, frame_if_of, skip_frame_if}
use Rattle.swift_journal.specs.LaidInside.{TurnSpan, read_at}
use Rattle.swift_journal.specs.Records.{RecordView}
use Rattle.swift_journal.specs.Words.{bindings_of}
use Rattle.swift_journal.specs.declared.stored.FrameHead.{FrameHead}
use Rattle.swift_journal.specs.declared.stored.StoredEffect.{StoredEffect}
use Rattle.swift_journal.specs.declared.stored.StoredExit.{StoredExit}
use Rattle.swift_journal.specs.declared.stored.TurnHead.{TurnHead}

-- Of the words of a turn: what it begins with comes first, then its frame, the outer bindings, how it ends, the frame after
-- it, and its effects.
abbrev pub frame_part : TurnHead → List ℤ → List ℤ
frame_part h ws = skip_resume h.resume ws

abbrev pub outer_part : TurnHead → List ℤ → List ℤ
outer_part h ws = skip_frame h.frame (frame_part h ws)

abbrev pub exit_part : TurnHead → List ℤ → List ℤ
exit_part h ws = drop h.ended ws

-- of the words from the exit on, those of the effects
abbrev pub effect_part : StoredExit → FrameHead → List ℤ → List ℤ
effect_part exit after ws = skip_frame_if after (skip_exit exit ws)

-- a turn, by its head, its words and its effects
abbrev pub record_of : TurnHead → List ℤ → List StoredEffect → RecordView
record_of h ws es = record {
  task = h.task.0;
  number = h.number;
  worker = h.worker;
  frame = frame_of h.frame (frame_part h ws);
  outer = bindings_of h.outer (outer_part h ws);
  resume = resume_of h.resume ws;
  env = record { priority = h.priority; cancelled = h.cancelled; room = h.room };
  exit = exit_of h.exit (exit_part h ws);
  effects = effects_of es (effect_part h.exit h.after (exit_part h ws));
  after = frame_if_of h.after (skip_exit h.exit (exit_part h ws));
}

-- where the words and the effects of a turn stand
abbrev pub span_of : TurnHead → TurnSpan
span_of h = record { start = h.start; size = h.size; first_effect = h.first_effect; effects = h.effects }

abbrev pub words_at : List ℤ → TurnHead → List ℤ
words_at words h = take h.size (drop h.start words)

abbrev pub effects_at : List StoredEffect → TurnHead → List StoredEffect
effects_at effects h = take h.effects (drop h.first_effect effects)

abbrev pub record_at : List ℤ → List StoredEffect → TurnHead → RecordView
record_at = read_at span_of record_of

-- A turn was put after others: to their heads came one by which the words and the effects that begin at these places say the turn.
pub record IsPut (old new : List TurnHead) (start : ℕ) (words : List ℤ) (first_effect : ℕ) (effects : List StoredEffect) (turn : RecordView) : Type 0 where
  pub head : TurnHead
  pub put : new ≡ old ++ head ∷ []
  pub span : span_of head ≡ record { start = start; size = length words; first_effect = first_effect; effects = length effects }
  pub says : record_of head words effects ≡ turn
