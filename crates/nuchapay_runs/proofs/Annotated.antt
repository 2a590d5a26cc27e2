-- A report with what is said of each turn is the report, with lines of notes in it.
use Rattle.nuchapay_runs.proofs.Prelude.{◌≡◌, ℕ, ◌+◌, ℤ, List, [], ◌∷◌, ◌++◌, length, refl, sym, ap, ap₂, subst, ◌∙◌, append_assoc, append-nil, codes, false, true, slice_get, Ending, Origin, ScriptView, actor_count, CheckpointRoomView, RecordView, fields_after, executor_text, executors_text, folded_count, folded_text, heading_text, line_of, report_text, tasks_text, turn_text, turns_text, Report, broken_lines, fields_before, first_lines, front_of, noted_executor, noted_executors, noted_text, noted_turn, noted_turns, notes_text, IsAnnotated, NotedPart, change_lines, note_line, note_lines, with_notes, without_notes, ValuesView, turn_values}
use Rattle.swift_report.specs.Text.{fields_text}

without_append : (ps qs : List NotedPart) → without_notes (ps ++ qs) ≡ without_notes ps ++ without_notes qs
without_append [] qs = refl
without_append (p ∷ ps) qs = ap (λ (xs : List ℕ). p.part ++ xs) (without_append ps qs) ∙ sym (append_assoc p.part (without_notes ps) (without_notes qs))

with_append : (ps qs : List NotedPart) → with_notes (ps ++ qs) ≡ with_notes ps ++ with_notes qs
with_append [] qs = refl
with_append (p ∷ ps) qs = ap (λ (xs : List ℕ). (p.part ++ note_lines p.notes) ++ xs) (with_append ps qs) ∙ sym (append_assoc (p.part ++ note_lines p.notes) (with_notes ps) (with_notes qs))

lines_append : (xs ys : List (List ℕ)) → note_lines (xs ++ ys) ≡ note_lines xs ++ note_lines ys
lines_append [] ys = refl
lines_append (x ∷ xs) ys = ap (λ (zs : List ℕ). note_line x ++ zs) (lines_append xs ys) ∙ sym (append_assoc (note_line x) (note_lines xs) (note_lines ys))

-- one text with notes after another
joined : (a b c d : List ℕ) → IsAnnotated a b → IsAnnotated c d → IsAnnotated (a ++ c) (b ++ d)
joined a b c d first second =
    let ps = first.0 in
    let qs = second.0 in
    (ps ++ qs, without_append ps qs ∙ ap₂ (λ (xs ys : List ℕ). xs ++ ys) first.1 second.1, with_append ps qs ∙ ap₂ (λ (xs ys : List ℕ). xs ++ ys) first.2 second.2)

-- a text with lines of notes after it
noted : (a : List ℕ) (lines : List (List ℕ)) → IsAnnotated a (a ++ note_lines lines)
noted a lines = (record { part = a; notes = lines } ∷ [], append-nil a, append-nil (a ++ note_lines lines))

-- a text as it is
plain : (a : List ℕ) → IsAnnotated a a
plain a = (record { part = a; notes = [] } ∷ [], append-nil a, append-nil (a ++ []) ∙ append-nil a)

-- what is said of a turn, as lines of notes
notes_are_lines : (p : ScriptView) (e : ℕ) (before : List (List ℤ)) (v : ValuesView)
    → note_lines (change_lines p e (front_of v.outcome) v.changes ++ broken_lines p e v.changes before v.outcome) ≡ notes_text p e before v
notes_are_lines p e before v = lines_append (change_lines p e (front_of v.outcome) v.changes) (broken_lines p e v.changes before v.outcome)

turn_is_noted : (p : ScriptView) (es : List (Origin × Ending)) (e k : ℕ) (before : List (List ℤ)) (r : RecordView) → IsAnnotated (turn_text p k (line_of r)) (noted_turn p es e k before r)
turn_is_noted p es e k before r =
    let v = turn_values p before r in
    let line = turn_text p k (line_of r) in
    let first = first_lines p es r.task r.number in
    let lines = change_lines p e (front_of v.outcome) v.changes ++ broken_lines p e v.changes before v.outcome in
    let said : line ++ note_lines (first ++ lines) ≡ noted_turn p es e k before r =
    ap (λ (x : List ℕ). line ++ x) (lines_append first lines ∙ ap (λ (x : List ℕ). note_lines first ++ x) (notes_are_lines p e before v))
    ∙ sym (append_assoc line (note_lines first) (notes_text p e before v)) in
    subst (λ (text : List ℕ). IsAnnotated line text) said (noted line (first ++ lines))

turns_are_noted : (p : ScriptView) (es : List (Origin × Ending)) (e k : ℕ) (before : List (List ℤ)) (rs : List RecordView) → IsAnnotated (turns_text p k rs) (noted_turns p es e k before rs)
turns_are_noted p es e k before [] = ([], refl, refl)
turns_are_noted p es e k before (r ∷ rs) =
    joined (turn_text p k (line_of r)) (noted_turn p es e k before r) (turns_text p (k + 1) rs) (noted_turns p es e (k + 1) (fields_after p before r) rs)
    (turn_is_noted p es e k before r)
    (turns_are_noted p es e (k + 1) (fields_after p before r) rs)

executor_is_noted : (p : ScriptView) (es : List (Origin × Ending)) (e folded : ℕ) (before : List (List ℤ)) (j : List RecordView)
    → IsAnnotated (executor_text p e folded j) (noted_executor p es e folded before j)
executor_is_noted p es e folded before j =
    let front = heading_text p e (folded + length j) ++ folded_text folded in
    joined front front (turns_text p folded j) (noted_turns p es e folded before j) (plain front) (turns_are_noted p es e folded before j)

executors_are_noted : (p : ScriptView) (es : List (Origin × Ending)) (cs : List CheckpointRoomView) (k : ℕ) (js : List (List RecordView))
    → IsAnnotated (executors_text p cs k js) (noted_executors p es cs k js)
executors_are_noted p es cs k [] = ([], refl, refl)
executors_are_noted p es cs k (j ∷ js) =
    let c = slice_get cs k in
    joined (executor_text p k (folded_count c) j) (noted_executor p es k (folded_count c) (fields_before c) j) (executors_text p cs (k + 1) js) (noted_executors p es cs (k + 1) js)
    (executor_is_noted p es k (folded_count c) (fields_before c) j)
    (executors_are_noted p es cs (k + 1) js)

-- a first part, apart from four others
apart : (j t ts f fs : List ℕ) → (((j ++ t) ++ ts) ++ f) ++ fs ≡ j ++ (((t ++ ts) ++ f) ++ fs)
apart j t ts f fs =
    ap (λ (x : List ℕ). (x ++ f) ++ fs) (append_assoc j t ts)
    ∙ ap (λ (x : List ℕ). x ++ fs) (append_assoc j (t ++ ts) f)
    ∙ append_assoc j ((t ++ ts) ++ f) fs

-- the text with notes is the report with notes in it
pub noted_is_annotated : (p : ScriptView) (r : Report) → IsAnnotated (report_text p r false) (noted_text p r)
noted_is_annotated p r =
    let cs = r.checkpoints.items in
    let js = r.journals.items in
    let front = codes "journals\n" in
    let es = r.endings.items in
    let rest = report_text p r true in
    let is = apart (front ++ executors_text p cs 0 js) (codes "tasks\n") (tasks_text p 0 r.endings.items) (codes "fields\n") (fields_text p r.fields.items 0 (actor_count p)) in
    subst (λ (text : List ℕ). IsAnnotated text (noted_text p r)) (sym is)
    (joined (front ++ executors_text p cs 0 js) (front ++ noted_executors p es cs 0 js) rest rest
    (joined front front (executors_text p cs 0 js) (noted_executors p es cs 0 js) (plain front) (executors_are_noted p es cs 0 js)) (plain rest))
