-- A turn of a checkpoint leaves a job, and what is the next of a list.
use Rattle.swift_certificate.proofs.Prelude.{◌≡◌, ℕ, ◌+◌, ◌<◌, List, [], ◌∷◌, length, refl, sym, subst, ap, ◌∙◌, Option, Some, None, Result, Ok, Err, IfOk, IfSome, slice_get, slice_index_or, slice_get-get_or, TaskId, FrameView, effect_views, exit_view, EffectView, ExitView, RecordView, CheckpointView, FoldedView, HasFirst, HasFrames, IfRunning, callers_of, LeavesFrame, left_as, NextTurn, FoldedTurn, ExecutorProgress, Folds, GoesOn, TakesFolded, folded_turn}

takes_from : (ready : NextTurn) (done : FoldedTurn) (frame : FrameView) (fs : List FrameView) (effects : List EffectView) (exit : ExitView) (after : Option FrameView)
    → ready.body.task.frames ≡ fs → HasFrames fs → HasFirst fs (λ p. frame ≡ left_as p effects after)
    → done.ready.body.task ≡ record { frames = frame ∷ callers_of fs; outer = ready.body.task.outer }
    → done.ready.number ≡ ready.number → done.ready.resume ≡ ready.resume → done.ready.body.script ≡ ready.body.script
    → effect_views done.effects.items ≡ effects → exit_view done.exit ≡ exit → TakesFolded ready effects exit after done
takes_from ready done frame [] effects exit after was has top is number resume script effects_are exit_is = absurd has
takes_from ready done frame (p ∷ callers) effects exit after was has top is number resume script effects_are exit_is = record {
  effects_are = effects_are;
  exit_is = exit_is;
  frame = p;
  goes_on = record {
    number = number;
    resume = resume;
    script = script;
    callers = callers;
    was = was;
    is = is ∙ ap (λ (f : FrameView). record { frames = f ∷ callers; outer = ready.body.task.outer }) top;
  };
}

-- a job after a turn that was not played
pub takes : (ready : NextTurn) (done : FoldedTurn) (frame : FrameView) (effects : List EffectView) (exit : ExitView) (after : Option FrameView)
    → HasFrames ready.body.task.frames → HasFirst ready.body.task.frames (λ p. frame ≡ left_as p effects after)
    → done.ready.body.task ≡ record { frames = frame ∷ callers_of ready.body.task.frames; outer = ready.body.task.outer }
    → done.ready.number ≡ ready.number → done.ready.resume ≡ ready.resume → done.ready.body.script ≡ ready.body.script
    → effect_views done.effects.items ≡ effects → exit_view done.exit ≡ exit → TakesFolded ready effects exit after done
takes ready done frame effects exit after has top is number resume script effects_are exit_is =
    takes_from ready done frame ready.body.task.frames effects exit after refl has top is number resume script effects_are exit_is

goes_on_as : (ready : NextTurn) (effects : List EffectView) (exit : ExitView) (after : Option FrameView) (done : FoldedTurn) (t : TakesFolded ready effects exit after done) → GoesOn ready done.ready t.frame (effect_views done.effects.items) after
goes_on_as ready effects exit after done t = subst (λ (es : List EffectView). GoesOn ready done.ready t.frame es after) (sym t.effects_are) t.goes_on

-- a turn of the checkpoint, of the frame that runs
pub folds : (checkpoint : CheckpointView) (old new : ExecutorProgress) (task : TaskId) (ready : NextTurn) (p : FrameView) (effects : List EffectView) (exit : ExitView) (after : Option FrameView) (done : FoldedTurn)
    → TakesFolded ready effects exit after done → IfRunning ready.body.task.frames (λ q. q ≡ p) → LeavesFrame p effects exit after
    → slice_get checkpoint.folded old.folded ≡ Some (folded_turn task ready effects exit after)
    → new.played ≡ old.played → new.folded ≡ old.folded + 1 → Folds checkpoint old new task ready done
folds checkpoint old new task ready p effects exit after done t runs leaves there played folded = record {
  frame = t.frame;
  after = after;
  there = there ∙ ap (λ (es : List EffectView). Some (folded_turn task ready es exit after)) (sym t.effects_are)
      ∙ ap (λ (e : ExitView). Some (folded_turn task ready (effect_views done.effects.items) e after)) (sym t.exit_is);
  goes_on = goes_on_as ready effects exit after done t;
  leaves =
      let top : t.frame ≡ p = subst (λ (fs : List FrameView). IfRunning fs (λ q. q ≡ p)) t.goes_on.was runs in
      let of_frame : LeavesFrame t.frame effects exit after = subst (λ (q : FrameView). LeavesFrame q effects exit after) (sym top) leaves in
      let of_effects : LeavesFrame t.frame (effect_views done.effects.items) exit after = subst (λ (es : List EffectView). LeavesFrame t.frame es exit after) (sym t.effects_are) of_frame in
      subst (λ (e : ExitView). LeavesFrame t.frame (effect_views done.effects.items) e after) (sym t.exit_is) of_effects;
  played = played;
  folded = folded;
}

-- an answer of which that holds, if there is one
pub map_answer : {A E : Type 0} (r : Result (Option A) E) (P Q : A → Type 0) → ((x : A) → P x → Q x) → IfOk r (λ o. IfSome o P) → IfOk r (λ o. IfSome o Q)
map_answer (Ok (Some x)) P Q f is = f x is
map_answer (Ok None) P Q f is = tt
map_answer (Err e) P Q f is = tt

pub found_folded : (fs : List FoldedView) (n : ℕ) (x : FoldedView) → n < length fs → ((d : FoldedView) → x ≡ slice_index_or fs n d) → slice_get fs n ≡ Some x
found_folded fs n x lt is = slice_get-get_or fs n x lt ∙ ap (λ (y : FoldedView). Some y) (sym (is x))

pub found_record : (rs : List RecordView) (n : ℕ) (x : RecordView) → n < length rs → ((d : RecordView) → slice_index_or rs n d ≡ x) → slice_get rs n ≡ Some x
found_record rs n x lt is = slice_get-get_or rs n x lt ∙ ap (λ (y : RecordView). Some y) (is x)

pub same_turn : (x : FoldedView) (task : TaskId) (number : ℕ) → x.task ≡ task.0 → x.number ≡ number → x ≡ record { task = task.0; number = number; exit = x.exit; effects = x.effects; after = x.after }
same_turn x task number task_is number_is =
    ap (λ (t : ℕ). record { task = t; number = x.number; exit = x.exit; effects = x.effects; after = x.after }) task_is
    ∙ ap (λ (n : ℕ). record { task = task.0; number = n; exit = x.exit; effects = x.effects; after = x.after }) number_is
