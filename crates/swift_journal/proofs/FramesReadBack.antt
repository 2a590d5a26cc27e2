-- What is written of a frame reads back.
use Rattle.swift_journal.proofs.Prelude.{◌≡◌, ℕ, ℤ, pos, ◌+◌, Option, List, ◌++◌, length, map, reverse, take, drop, sym, ap, ◌∙◌, append_assoc, drop_at, take_at, length-map, Fault, pair_of, pairs_of, Binding, FrameView, frame_view, pending_of, pending_kind, pending_words, skip_pending, skip_handles, skip_own, skip_groups, skip_frame, skip_counts, counts_of, counts_words, frame_counts, frame_from, frame_of, frame_words, list_words, ReadsBack, numbers_of, pair_words, pairs_from, AreNarrow, StoredFault, FrameHead}
use Rattle.swift_interpreter.specs.declared.frame.Frame.{Frame}
use Rattle.swift_journal.specs.declared.stored.FrameCounts.{FrameCounts}
use Rattle.swift_journal.proofs.EndsReadBack.{pending_reads_back}
use Rattle.swift_journal.proofs.Pairs.{own_reversed, pairs_back, length-pair_words}

-- a reading by what was read before it
reads_back_then : {X Y : Type 0} (r1 : List ℤ → X) (b1 : List ℤ → List ℤ) (w1 : List ℤ) (x : X) (r2 : X → List ℤ → Y) (b2 : X → List ℤ → List ℤ) (w2 : List ℤ) (y : Y)
    → ReadsBack X r1 b1 w1 x → ReadsBack Y (r2 x) (b2 x) w2 y → ReadsBack Y (λ ws. r2 (r1 ws) (b1 ws)) (λ ws. b2 (r1 ws) (b1 ws)) (w1 ++ w2) y
reads_back_then {X} {Y} r1 b1 w1 x r2 b2 w2 y k1 k2 = record {
  reads = λ rest. ap (λ (s : List ℤ). r2 (r1 s) (b1 s)) (append_assoc w1 w2 rest) ∙ ap (λ (v : X). r2 v (b1 (w1 ++ (w2 ++ rest)))) (k1.reads (w2 ++ rest))
      ∙ ap (r2 x) (k1.leaves (w2 ++ rest)) ∙ k2.reads rest;
  leaves = λ rest. ap (λ (s : List ℤ). b2 (r1 s) (b1 s)) (append_assoc w1 w2 rest) ∙ ap (λ (v : X). b2 v (b1 (w1 ++ (w2 ++ rest)))) (k1.reads (w2 ++ rest))
      ∙ ap (b2 x) (k1.leaves (w2 ++ rest)) ∙ k2.leaves rest;
}

numbers_read_back : (vs : List ℤ) (n : ℕ) → n ≡ length vs → ReadsBack (List ℤ) (take n) (drop n) vs vs
numbers_read_back vs n e = record { reads = λ rest. take_at vs rest n (sym e); leaves = λ rest. drop_at vs rest n (sym e) }

-- a frame by its head and its lists
abbrev pub frame_by : FrameHead → List ℤ → FrameCounts → List ℕ → List (ℕ × ℤ) → List ℕ → Option Fault → FrameView
frame_by h vs c hs own gs p = record {
  method = h.method.0;
  instruction = h.instruction;
  variables = vs;
  handles = hs;
  own = own;
  groups = gs;
  pending = p;
  made = c.made;
  opened = c.opened;
}

pub frame_same : (h : FrameHead) (vs : List ℤ) (c : FrameCounts) (ws : List ℤ) (hs : List ℕ) (own : List Binding) (gs : List ℕ) (p : Option Fault)
    → hs ≡ numbers_of (take c.handles ws) → map pair_of own ≡ pairs_from c.own (skip_handles c ws)
    → gs ≡ numbers_of (take c.groups (skip_own c ws)) → p ≡ pending_of h.pending (skip_groups c ws)
    → frame_by h vs c hs (pairs_of own) (reverse gs) p ≡ frame_from h vs c ws
frame_same h vs c ws hs own gs p a o g q =
    ap (λ (x : List ℕ). frame_by h vs c x (pairs_of own) (reverse gs) p) a
    ∙ ap (λ (x : List (ℕ × ℤ)). frame_by h vs c (numbers_of (take c.handles ws)) x (reverse gs) p) (own_reversed own _ o)
    ∙ ap (λ (x : List ℕ). frame_by h vs c (numbers_of (take c.handles ws)) (reverse (pairs_from c.own (skip_handles c ws))) (reverse x) p) g
    ∙ ap (λ (x : Option Fault). record (frame_from h vs c ws) { pending = x }) q

-- where each list of a frame begins
record Cut (f : Frame) (rest : List ℤ) : Type 0 where
  own : skip_handles (frame_counts f) ((list_words f ++ pending_words f.pending) ++ rest) ≡ pair_words (map pair_of f.own.items) ++ (map pos f.groups.items ++ (pending_words f.pending ++ rest))
  groups : skip_own (frame_counts f) ((list_words f ++ pending_words f.pending) ++ rest) ≡ map pos f.groups.items ++ (pending_words f.pending ++ rest)
  pending : skip_groups (frame_counts f) ((list_words f ++ pending_words f.pending) ++ rest) ≡ pending_words f.pending ++ rest

whole : (f : Frame) (rest : List ℤ)
    → (list_words f ++ pending_words f.pending) ++ rest ≡ map pos f.handles.items ++ (pair_words (map pair_of f.own.items) ++ (map pos f.groups.items ++ (pending_words f.pending ++ rest)))
whole f rest = simp append_assoc

cut : (f : Frame) (rest : List ℤ) → Cut f rest
cut f rest =
    let c = frame_counts f in
    let e2 = ap (drop c.handles) (whole f rest) ∙ drop_at (map pos f.handles.items) _ c.handles (length-map f.handles.items pos) in
    let size = length-pair_words (map pair_of f.own.items) ∙ ap (λ (n : ℕ). n + n) (length-map f.own.items pair_of) in
    let e3 = ap (drop (c.own + c.own)) e2 ∙ drop_at (pair_words (map pair_of f.own.items)) _ (c.own + c.own) size in
    let e4 = ap (drop c.groups) e3 ∙ drop_at (map pos f.groups.items) _ c.groups (length-map f.groups.items pos) in
    record { own = e2; groups = e3; pending = e4 }

lists_read_back : (f : Frame) (h : FrameHead) → h.method ≡ f.method → h.instruction ≡ f.instruction → h.pending ≡ pending_kind f.pending
    → numbers_of (map pos f.handles.items) ≡ f.handles.items → AreNarrow (map pair_of f.own.items) → numbers_of (map pos f.groups.items) ≡ f.groups.items
    → ReadsBack FrameView (frame_from h f.variables.items (frame_counts f)) (λ ws. skip_pending h.pending (skip_groups (frame_counts f) ws)) (list_words f ++ pending_words f.pending) (frame_view f)
lists_read_back f h em el ek handles_fit own_fit groups_fit =
    let c = frame_counts f in
    let pend : (rest : List ℤ) → pending_of h.pending (pending_words f.pending ++ rest) ≡ f.pending =
    λ rest. ap (λ (k : StoredFault). pending_of k (pending_words f.pending ++ rest)) ek ∙ (pending_reads_back f.pending).reads rest in
    record {
      reads = λ rest. let at = cut f rest in let ws = (list_words f ++ pending_words f.pending) ++ rest in
          sym (frame_same h f.variables.items c ws f.handles.items f.own.items f.groups.items f.pending
          (sym (ap (λ s. numbers_of (take c.handles s)) (whole f rest) ∙ ap numbers_of (take_at (map pos f.handles.items) _ c.handles (length-map f.handles.items pos)) ∙ handles_fit))
          (sym (ap (pairs_from c.own) at.own ∙ ap (λ (n : ℕ). pairs_from n (pair_words (map pair_of f.own.items) ++ (map pos f.groups.items ++ (pending_words f.pending ++ rest)))) (sym (length-map f.own.items pair_of))
          ∙ pairs_back (map pair_of f.own.items) _ ∙ own_fit))
          (sym (ap (λ s. numbers_of (take c.groups s)) at.groups ∙ ap numbers_of (take_at (map pos f.groups.items) _ c.groups (length-map f.groups.items pos)) ∙ groups_fit))
          (sym (ap (pending_of h.pending) at.pending ∙ pend rest)))
          ∙ ap (λ m. record (frame_view f) { method = m.0; instruction = h.instruction }) em ∙ ap (λ (l : ℕ). record (frame_view f) { instruction = l }) el;
      leaves = λ rest. ap (skip_pending h.pending) (cut f rest).pending
          ∙ ap (λ (k : StoredFault). skip_pending k (pending_words f.pending ++ rest)) ek ∙ (pending_reads_back f.pending).leaves rest;
    }

pub frame_reads_back : (f : Frame) (h : FrameHead) → h.method ≡ f.method → h.instruction ≡ f.instruction → h.variables ≡ length f.variables.items → h.pending ≡ pending_kind f.pending
    → ReadsBack FrameCounts (counts_of h.counted) (skip_counts h.counted) (counts_words h.counted (frame_counts f)) (frame_counts f)
    → numbers_of (map pos f.handles.items) ≡ f.handles.items → AreNarrow (map pair_of f.own.items) → numbers_of (map pos f.groups.items) ≡ f.groups.items
    → ReadsBack FrameView (frame_of h) (skip_frame h) (frame_words h.counted f) (frame_view f)
frame_reads_back f h em el ev ek counts handles_fit own_fit groups_fit =
    reads_back_then (take h.variables) (drop h.variables) f.variables.items f.variables.items
    (λ vs ws. frame_from h vs (counts_of h.counted ws) (skip_counts h.counted ws))
    (λ vs ws. skip_pending h.pending (skip_groups (counts_of h.counted ws) (skip_counts h.counted ws)))
    (counts_words h.counted (frame_counts f) ++ (list_words f ++ pending_words f.pending)) (frame_view f)
    (numbers_read_back f.variables.items h.variables ev)
    (reads_back_then (counts_of h.counted) (skip_counts h.counted) (counts_words h.counted (frame_counts f)) (frame_counts f)
    (λ c ws. frame_from h f.variables.items c ws) (λ c ws. skip_pending h.pending (skip_groups c ws))
    (list_words f ++ pending_words f.pending) (frame_view f)
    counts (lists_read_back f h em el ek handles_fit own_fit groups_fit))
