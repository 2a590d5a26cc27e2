-- Frames as they are stored. Only proofs use these.
use Rattle.std.specs.Prelude.{ℕ, ℤ, pos, Bool, true, false, Option, Some, None, List, [], ◌∷◌, ◌++◌, map, reverse, take, drop, length, slice_index_or}
use Rattle.std.specs.Int.{cast_signed, cast_unsigned, w64}
use denote.Bor.{Bor}
use Rattle.script_code.specs.Seen.{pair_of}
use Rattle.swift_interpreter.specs.Frames.{FrameView}
use Rattle.swift_interpreter.specs.declared.frame.Frame.{Frame}
use Rattle.swift_journal.specs.Words.{numbers_of, pair_words, bindings_of, skip_bindings}
use Rattle.swift_journal.specs.Ends.{pending_of, pending_words, skip_pending}
use Rattle.swift_journal.specs.declared.stored.FrameCounts.{FrameCounts}
use Rattle.swift_journal.specs.declared.stored.FrameHead.{FrameHead}

-- the word at a place, as a count
abbrev pub count_at : List ℤ → ℕ → ℕ
count_at ws k = cast_unsigned w64 (slice_index_or ws k (pos 0))

-- the counts of a frame, which are 0 where none are stored
abbrev pub counts_of : Bool → List ℤ → FrameCounts
counts_of false ws = record { made = 0; opened = 0; handles = 0; own = 0; groups = 0 }
counts_of true ws = record { made = count_at ws 0; opened = count_at ws 1; handles = count_at ws 2; own = count_at ws 3; groups = count_at ws 4 }

abbrev pub skip_counts : Bool → List ℤ → List ℤ
skip_counts false ws = ws
skip_counts true ws = drop 5 ws

abbrev pub counts_words : Bool → FrameCounts → List ℤ
counts_words false c = []
counts_words true c = cast_signed w64 c.made ∷ cast_signed w64 c.opened ∷ cast_signed w64 c.handles ∷ cast_signed w64 c.own ∷ cast_signed w64 c.groups ∷ []

abbrev pub frame_counts : Frame → FrameCounts
frame_counts f = record { made = f.made; opened = f.opened; handles = length f.handles.items; own = length f.own.items; groups = length f.groups.items }

-- the words after the handles, the bindings and the groups of a frame
abbrev pub skip_handles : FrameCounts → List ℤ → List ℤ
skip_handles c ws = drop c.handles ws

abbrev pub skip_own : FrameCounts → List ℤ → List ℤ
skip_own c ws = skip_bindings c.own (skip_handles c ws)

abbrev pub skip_groups : FrameCounts → List ℤ → List ℤ
skip_groups c ws = drop c.groups (skip_own c ws)

-- a frame, by its head, its variables, its counts and the words of its lists
abbrev pub frame_from : FrameHead → List ℤ → FrameCounts → List ℤ → FrameView
frame_from h variables c ws = record {
  method = h.method.0;
  instruction = h.instruction;
  variables = variables;
  handles = numbers_of (take c.handles ws);
  own = bindings_of c.own (skip_handles c ws);
  groups = reverse (numbers_of (take c.groups (skip_own c ws)));
  pending = pending_of h.pending (skip_groups c ws);
  made = c.made;
  opened = c.opened;
}

-- the words after the variables of a frame, and after its counts
abbrev pub skip_variables : FrameHead → List ℤ → List ℤ
skip_variables h ws = drop h.variables ws

abbrev pub head_counts : FrameHead → List ℤ → FrameCounts
head_counts h ws = counts_of h.counted (skip_variables h ws)

abbrev pub list_part : FrameHead → List ℤ → List ℤ
list_part h ws = skip_counts h.counted (skip_variables h ws)

-- a frame, by its head and its words
abbrev pub frame_of : FrameHead → List ℤ → FrameView
frame_of h ws = frame_from h (take h.variables ws) (head_counts h ws) (list_part h ws)

abbrev pub skip_frame : FrameHead → List ℤ → List ℤ
skip_frame h ws = skip_pending h.pending (skip_groups (head_counts h ws) (list_part h ws))

-- the words of the lists of a frame, its variables apart
abbrev pub list_words : Frame → List ℤ
list_words f = map pos f.handles.items ++ (pair_words (map pair_of f.own.items) ++ map pos f.groups.items)

abbrev pub frame_words : Bool → Frame → List ℤ
frame_words counted f = f.variables.items ++ (counts_words counted (frame_counts f) ++ (list_words f ++ pending_words f.pending))

-- a frame, where the flag says that there is one
abbrev pub frame_if : Bool → FrameView → Option FrameView
frame_if false f = None
frame_if true f = Some f

abbrev pub frame_if_of : FrameHead → List ℤ → Option FrameView
frame_if_of h ws = frame_if h.stands (frame_of h ws)

abbrev pub skip_if : Bool → List ℤ → List ℤ → List ℤ
skip_if false ws rest = ws
skip_if true ws rest = rest

abbrev pub skip_frame_if : FrameHead → List ℤ → List ℤ
skip_frame_if h ws = skip_if h.stands ws (skip_frame h ws)

abbrev pub frame_if_words : FrameHead → Option (Bor Frame) → List ℤ
frame_if_words h None = []
frame_if_words h (Some f) = frame_words h.counted f.now
