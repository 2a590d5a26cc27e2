-- The lines of a journal's turns, one more at a time.
use Rattle.swift_report.proofs.Prelude.{◌≡◌, ℕ, ◌+◌, ◌<◌, List, [], ◌∷◌, ◌++◌, length, drop, get_or, sym, ap, ◌∙◌, arith, append_assoc, drop_more, ScriptView, RecordView, line_of, listed_json, turns_json}
use Rattle.swift_report.specs.declared.line.Line.{Line}
use Rattle.swift_report.proofs.Places.{first_of}

turns_from : (p : ScriptView) (first place : ℕ) (j : List RecordView) (at : Line) → place < length j → ((d : RecordView) → at ≡ line_of (get_or j place d))
    → turns_json p first (first + place) (drop place j) ≡ listed_json p first (first + place) at ++ turns_json p first (first + (place + 1)) (drop (place + 1) j)
turns_from p first place j at lt is =
    let d = first_of j place lt in
    let next : first + place + 1 ≡ first + (place + 1) = omega arith in
    ap (turns_json p first (first + place)) (drop_more j place d lt)
    ∙ ap (λ (x : Line). listed_json p first (first + place) x ++ turns_json p first (first + place + 1) (drop (place + 1) j)) (sym (is d))
    ∙ ap (λ (n : ℕ). listed_json p first (first + place) at ++ turns_json p first n (drop (place + 1) j)) next

-- a step of the loop that writes them
pub turns_more : (p : ScriptView) (first place at : ℕ) (j : List RecordView) (line : Line) (old new whole : List ℕ) → place < length j → at ≡ first + place → ((d : RecordView) → line ≡ line_of (get_or j place d))
    → new ≡ old ++ listed_json p first at line → old ++ turns_json p first (first + place) (drop place j) ≡ whole → new ++ turns_json p first (first + (place + 1)) (drop (place + 1) j) ≡ whole
turns_more p first place at j line old new whole lt place_is is written before =
    let rest = turns_json p first (first + (place + 1)) (drop (place + 1) j) in
    ap (λ (x : List ℕ). x ++ rest) (written ∙ ap (λ (n : ℕ). old ++ listed_json p first n line) place_is)
    ∙ append_assoc old (listed_json p first (first + place) line) rest
    ∙ ap (λ (x : List ℕ). old ++ x) (sym (turns_from p first place j line lt is))
    ∙ before
