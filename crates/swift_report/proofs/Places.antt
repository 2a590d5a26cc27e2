-- The lines of a journal's turns, one more at a time.
use Rattle.std.proofs.Common.{◌≡◌, ℕ, ◌+◌, ◌<◌, List, [], ◌∷◌, ◌++◌, length, drop, get_or, sym, ap, ◌∙◌, arith, append_assoc}
use Rattle.std.proofs.lemmas.List.{drop_more}
use Rattle.swift_script.specs.Scripts.{ScriptView}
use Rattle.swift_journal.specs.Records.{RecordView}
use Rattle.swift_report.specs.declared.line.Line.{Line}
use Rattle.swift_report.specs.Text.{line_of, turn_text, turns_text}

-- an element of a list that has one
pub first_of : {X : Type 0} (xs : List X) (k : ℕ) → k < length xs → X
first_of [] k lt = absurd (omega (arith, lt))
first_of (x ∷ xs) k lt = x

turns_from : (p : ScriptView) (first place : ℕ) (j : List RecordView) (at : Line) → place < length j → ((d : RecordView) → at ≡ line_of (get_or j place d))
    → turns_text p (first + place) (drop place j) ≡ turn_text p (first + place) at ++ turns_text p (first + (place + 1)) (drop (place + 1) j)
turns_from p first place j at lt is =
    let d = first_of j place lt in
    let next : first + place + 1 ≡ first + (place + 1) = omega arith in
    ap (turns_text p (first + place)) (drop_more j place d lt)
    ∙ ap (λ (x : Line). turn_text p (first + place) x ++ turns_text p (first + place + 1) (drop (place + 1) j)) (sym (is d))
    ∙ ap (λ (n : ℕ). turn_text p (first + place) at ++ turns_text p n (drop (place + 1) j)) next

-- a step of the loop that writes them
pub turns_more : (p : ScriptView) (first place at : ℕ) (j : List RecordView) (line : Line) (old new whole : List ℕ) → place < length j → at ≡ first + place → ((d : RecordView) → line ≡ line_of (get_or j place d))
    → new ≡ old ++ turn_text p at line → old ++ turns_text p (first + place) (drop place j) ≡ whole → new ++ turns_text p (first + (place + 1)) (drop (place + 1) j) ≡ whole
turns_more p first place at j line old new whole lt place_is is written before =
    let rest = turns_text p (first + (place + 1)) (drop (place + 1) j) in
    ap (λ (x : List ℕ). x ++ rest) (written ∙ ap (λ (n : ℕ). old ++ turn_text p n line) place_is)
    ∙ append_assoc old (turn_text p (first + place) line) rest
    ∙ ap (λ (x : List ℕ). old ++ x) (sym (turns_from p first place j line lt is))
    ∙ before
