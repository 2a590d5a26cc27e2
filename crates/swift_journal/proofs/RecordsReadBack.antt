-- What is written of a turn reads back.
use Rattle.swift_journal.proofs.Prelude.{◌≡◌, ℕ, ℤ, Option, List, [], ◌++◌, length, drop, ap, ◌∙◌, sym, append_assoc, append-nil, drop_at, Resume, FrameView, EffectView, ExitView, effects_of, skip_effects, resume_of, skip_resume, exit_of, skip_exit, frame_of, skip_frame, frame_if_of, skip_frame_if, exit_part, frame_part, outer_part, effect_part, record_of, TurnSpan, RecordView, ReadsBack, bindings_of, skip_bindings, StoredEffect, TurnHead}

-- the words of a turn, written one part after another
pub begun : (w0 w1 w2 w3 r f o : List ℤ) → w0 ≡ [] → w1 ≡ w0 ++ r → w2 ≡ w1 ++ f → w3 ≡ w2 ++ o → w3 ≡ (r ++ f) ++ o
begun w0 w1 w2 w3 r f o e0 e1 e2 e3 = e3 ∙ ap (λ s. s ++ o) (e2 ∙ ap (λ s. s ++ f) (e1 ∙ ap (λ s. s ++ r) e0))

pub chained : (w3 w4 w5 w6 r f o e a x : List ℤ) → w3 ≡ (r ++ f) ++ o → w4 ≡ w3 ++ e → w5 ≡ w4 ++ a → w6 ≡ w5 ++ x → w6 ≡ ((((r ++ f) ++ o) ++ e) ++ a) ++ x
chained w3 w4 w5 w6 r f o e a x e3 e4 e5 e6 = e6 ∙ ap (λ s. s ++ x) (e5 ∙ ap (λ s. s ++ a) (e4 ∙ ap (λ s. s ++ e) e3))

-- a turn by its head, and by what its words say
abbrev pub record_by : TurnHead → FrameView → List (ℕ × ℤ) → Resume → ExitView → List EffectView → Option FrameView → RecordView
record_by h frame outer resume exit effects after = record {
  task = h.task.0;
  number = h.number;
  worker = h.worker;
  frame = frame;
  outer = outer;
  resume = resume;
  env = record { priority = h.priority; cancelled = h.cancelled; room = h.room };
  exit = exit;
  effects = effects;
  after = after;
}

pub record_same : (h : TurnHead) (es : List StoredEffect) (ws : List ℤ) (frame : FrameView) (outer : List (ℕ × ℤ)) (resume : Resume) (exit : ExitView) (effects : List EffectView) (after : Option FrameView)
    → frame_of h.frame (frame_part h ws) ≡ frame → bindings_of h.outer (outer_part h ws) ≡ outer → resume_of h.resume ws ≡ resume → exit_of h.exit (exit_part h ws) ≡ exit
    → effects_of es (effect_part h.exit h.after (exit_part h ws)) ≡ effects → frame_if_of h.after (skip_exit h.exit (exit_part h ws)) ≡ after
    → record_of h ws es ≡ record_by h frame outer resume exit effects after
record_same h es ws frame outer resume exit effects after ef eo er ee ex ea =
    let r = record_of h ws es in
    ap (λ (x : FrameView). record_by h x r.outer r.resume r.exit r.effects r.after) ef
    ∙ ap (λ (x : List (ℕ × ℤ)). record_by h frame x r.resume r.exit r.effects r.after) eo
    ∙ ap (λ (x : Resume). record_by h frame outer x r.exit r.effects r.after) er
    ∙ ap (λ (x : ExitView). record_by h frame outer resume x r.effects r.after) ee
    ∙ ap (λ (x : List EffectView). record_by h frame outer resume exit x r.after) ex
    ∙ ap (λ (x : Option FrameView). record_by h frame outer resume exit effects x) ea

regroup : (r f o e a x : List ℤ) → ((((r ++ f) ++ o) ++ e) ++ a) ++ x ≡ r ++ (f ++ (o ++ (e ++ (a ++ x))))
regroup r f o e a x = simp append_assoc

regroup_end : (p e a x : List ℤ) → ((p ++ e) ++ a) ++ x ≡ p ++ (e ++ (a ++ x))
regroup_end p e a x = simp append_assoc

pub record_reads : (h : TurnHead) (es : List StoredEffect) (frame : FrameView) (outer : List (ℕ × ℤ)) (resume : Resume) (exit : ExitView) (effects : List EffectView) (after : Option FrameView)
    (r f o e a x ws : List ℤ) → ws ≡ ((((r ++ f) ++ o) ++ e) ++ a) ++ x
    → h.ended ≡ length ((r ++ f) ++ o)
    → ReadsBack Resume (resume_of h.resume) (skip_resume h.resume) r resume
    → ReadsBack ExitView (exit_of h.exit) (skip_exit h.exit) e exit
    → ReadsBack FrameView (frame_of h.frame) (skip_frame h.frame) f frame
    → ReadsBack (List (ℕ × ℤ)) (bindings_of h.outer) (skip_bindings h.outer) o outer
    → ReadsBack (Option FrameView) (frame_if_of h.after) (skip_frame_if h.after) a after
    → ReadsBack (List EffectView) (effects_of es) (skip_effects es) x effects
    → record_of h ws es ≡ record_by h frame outer resume exit effects after
record_reads h es frame outer resume exit effects after r f o e a x ws is ended kr ke kf ko ka kx =
    let cut : ws ≡ r ++ (f ++ (o ++ (e ++ (a ++ x)))) = is ∙ regroup r f o e a x in
    let p1 = ap (skip_resume h.resume) cut ∙ kr.leaves (f ++ (o ++ (e ++ (a ++ x)))) in
    let p2 = ap (skip_frame h.frame) p1 ∙ kf.leaves (o ++ (e ++ (a ++ x))) in
    let p3 : exit_part h ws ≡ e ++ (a ++ x) = ap (drop h.ended) (is ∙ regroup_end ((r ++ f) ++ o) e a x) ∙ drop_at ((r ++ f) ++ o) (e ++ (a ++ x)) h.ended (sym ended) in
    let p4 = ap (skip_exit h.exit) p3 ∙ ke.leaves (a ++ x) in
    let p5 = ap (skip_frame_if h.after) p4 ∙ ka.leaves x in
    record_same h es ws frame outer resume exit effects after
    (ap (frame_of h.frame) p1 ∙ kf.reads (o ++ (e ++ (a ++ x))))
    (ap (bindings_of h.outer) p2 ∙ ko.reads (e ++ (a ++ x)))
    (ap (resume_of h.resume) cut ∙ kr.reads (f ++ (o ++ (e ++ (a ++ x)))))
    (ap (exit_of h.exit) p3 ∙ ke.reads (a ++ x))
    (ap (effects_of es) p5 ∙ ap (effects_of es) (sym (append-nil x)) ∙ kx.reads [])
    (ap (frame_if_of h.after) p4 ∙ ka.reads x)

-- where a turn stands, number by number
pub span_same : (s : TurnSpan) (start size first_effect effects : ℕ) → s.start ≡ start → s.size ≡ size → s.first_effect ≡ first_effect → s.effects ≡ effects
    → s ≡ record { start = start; size = size; first_effect = first_effect; effects = effects }
span_same s start size first_effect effects e1 e2 e3 e4 =
    ap (λ (n : ℕ). record s { start = n }) e1
    ∙ ap (λ (n : ℕ). record s { start = start; size = n }) e2
    ∙ ap (λ (n : ℕ). record s { start = start; size = size; first_effect = n }) e3
    ∙ ap (λ (n : ℕ). record s { start = start; size = size; first_effect = first_effect; effects = n }) e4
