-- A turn that is folded reads as what was kept of it.
use Rattle.swift_journal.proofs.Prelude.{◌≡◌, ℕ, ℤ, Bool, true, false, Option, List, refl, ap, ◌∙◌, FrameView, EffectView, after_kind, folded_from, has_counts, is_there, FoldedView, effects_of, exit_of, skip_exit, frame_if_of, skip_frame_if, effect_part, FoldedHead, FrameHead, StoredEffect, StoredExit, StoredFault}
use Rattle.swift_types.specs.declared.id.MethodId.{MethodId}
use Rattle.swift_types.specs.declared.id.TaskId.{TaskId}
use Rattle.swift_journal.specs.declared.stored.StoredAfter.{StoredAfter}

abbrev head_of : MethodId → ℕ → ℕ → StoredFault → Bool → Bool → FrameHead
head_of m l v p counted stands = record { method = m; instruction = l; variables = v; pending = p; counted = counted; stands = stands }

frame_same : (m : MethodId) (l v : ℕ) (p : StoredFault) (stands counted : Bool) (ws : List ℤ)
    → frame_if_of (head_of m l v p (has_counts (after_kind stands counted)) (is_there (after_kind stands counted))) ws ≡ frame_if_of (head_of m l v p counted stands) ws
frame_same m l v p false counted ws = refl
frame_same m l v p true false ws = refl
frame_same m l v p true true ws = refl

rest_same : (m : MethodId) (l v : ℕ) (p : StoredFault) (stands counted : Bool) (ws : List ℤ)
    → skip_frame_if (head_of m l v p (has_counts (after_kind stands counted)) (is_there (after_kind stands counted))) ws ≡ skip_frame_if (head_of m l v p counted stands) ws
rest_same m l v p false counted ws = refl
rest_same m l v p true false ws = refl
rest_same m l v p true true ws = refl

abbrev head_by : ℕ → ℕ → TaskId → ℕ → StoredExit → FrameHead → StoredAfter → FoldedHead
head_by start first task number exit f a = record {
  start = start;
  first_effect = first;
  task = task;
  number = number;
  method = f.method;
  instruction = f.instruction;
  variables = f.variables;
  pending = f.pending;
  after = a;
  exit = exit;
}

-- by the frame after it
pub reads_as_kept : (start first : ℕ) (task : TaskId) (number : ℕ) (exit : StoredExit) (f : FrameHead) (a : StoredAfter) (ws : List ℤ) (es : List StoredEffect) → a ≡ after_kind f.stands f.counted
    → folded_from (head_by start first task number exit f a) ws es
    ≡ record { task = task.0; number = number; exit = exit_of exit ws; effects = effects_of es (effect_part exit f ws); after = frame_if_of f (skip_exit exit ws) }
reads_as_kept start first task number exit f a ws es is =
    let rest = skip_exit exit ws in
    let view : List EffectView → Option FrameView → FoldedView = λ (x : List EffectView). λ (y : Option FrameView). record { task = task.0; number = number; exit = exit_of exit ws; effects = x; after = y } in
    ap (λ (x : StoredAfter). folded_from (head_by start first task number exit f x) ws es) is
    ∙ ap (λ (s : List ℤ). view (effects_of es s) (frame_if_of (head_of f.method f.instruction f.variables f.pending (has_counts (after_kind f.stands f.counted)) (is_there (after_kind f.stands f.counted))) rest))
    (rest_same f.method f.instruction f.variables f.pending f.stands f.counted rest)
    ∙ ap (view (effects_of es (effect_part exit f ws))) (frame_same f.method f.instruction f.variables f.pending f.stands f.counted rest)

-- what is kept of a turn, part by part
abbrev kept_of : TaskId → ℕ → StoredExit → FrameHead → List ℤ → List StoredEffect → FoldedView
kept_of task number exit f ws es = record { task = task.0; number = number; exit = exit_of exit ws; effects = effects_of es (effect_part exit f ws); after = frame_if_of f (skip_exit exit ws) }

pub kept_same : (task : TaskId) (number : ℕ) (exit : StoredExit) (f f' : FrameHead) (ws ws' : List ℤ) (es es' : List StoredEffect) → f ≡ f' → ws ≡ ws' → es ≡ es'
    → kept_of task number exit f ws es ≡ kept_of task number exit f' ws' es'
kept_same task number exit f f' ws ws' es es' ef ew ee =
    ap (λ (x : FrameHead). kept_of task number exit x ws es) ef ∙ ap (λ (x : List ℤ). kept_of task number exit f' x es) ew ∙ ap (kept_of task number exit f' ws') ee
