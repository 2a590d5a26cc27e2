-- Texts that grow piece by piece.
use Rattle.run_page.proofs.Prelude.{◌≡◌, ℕ, List, ◌++◌, ap, ◌∙◌, append_assoc, Result, Ok, Err, OnOk, AppendsTold, ExplainedTurn}

-- after a text stands one more piece
pub onto : (x0 x1 x2 text piece : List ℕ) → x1 ≡ x0 ++ text → x2 ≡ x1 ++ piece → x2 ≡ x0 ++ (text ++ piece)
onto x0 x1 x2 text piece before e = e ∙ ap (λ (xs : List ℕ). xs ++ piece) before ∙ append_assoc x0 text piece

-- what is told of turns stands between two pieces
pub between : {A E : Type 0} (result : Result A E) (IsSo : List ExplainedTurn → Type 0) (text : List ExplainedTurn → List ℕ) (x0 x1 x2 x3 front end : List ℕ) →
    x1 ≡ x0 ++ front → AppendsTold IsSo text x1 x2 → OnOk result (x3 ≡ x2 ++ end) → OnOk result (AppendsTold IsSo (λ told. (front ++ text told) ++ end) x0 x3)
between (Ok u) IsSo text x0 x1 x2 x3 front end h1 h2 h3 =
    let turns = h2.0 in
    (turns, h2.1, onto x0 x2 x3 (front ++ text turns) end (onto x0 x1 x2 front (text turns) h1 h2.2) h3)
between (Err u) IsSo text x0 x1 x2 x3 front end h1 h2 h3 = tt

-- the last piece, where it is appended or memory ran out
pub onto_last : {A E : Type 0} (result : Result A E) (x0 x1 x2 text piece : List ℕ) →
    x1 ≡ x0 ++ text → OnOk result (x2 ≡ x1 ++ piece) → OnOk result (x2 ≡ x0 ++ (text ++ piece))
onto_last (Ok u) x0 x1 x2 text piece before e = onto x0 x1 x2 text piece before e
onto_last (Err u) x0 x1 x2 text piece before e = tt
