-- Names of tasks, one after the other.
use Rattle.std.proofs.Common.{◌≡◌, ℕ, ◌+◌, ◌-◌, ◌<◌, ◌≤◌, List, ◌++◌, append_assoc, append-nil, sym, ap, ◌∙◌}
use Rattle.swift_types.specs.declared.outcome.Ending.{Ending}
use Rattle.swift_events.specs.declared.life.Origin.{Origin}
use Rattle.swift_script.specs.Scripts.{ScriptView}
use Rattle.explorer_differences.specs.Names.{called_text, called_texts}
use Rattle.explorer_differences.proofs.Passing.{none_more, one_more}

-- one task more is named
pub called_more : (p : ScriptView) (es : List (Origin × Ending)) (k n t : ℕ) (old new all : List ℕ) → k < n → t ≡ k
    → new ≡ old ++ called_text p es t → old ++ called_texts p es k (n - k) ≡ all → new ++ called_texts p es (k + 1) (n - (k + 1)) ≡ all
called_more p es k n t old new all lt number is upto =
    let rest = called_texts p es (k + 1) (n - (k + 1)) in
    ap (λ (xs : List ℕ). xs ++ rest) (is ∙ ap (λ (m : ℕ). old ++ called_text p es m) number)
    ∙ append_assoc old (called_text p es k) rest
    ∙ ap (λ (m : ℕ). old ++ called_texts p es k m) (one_more k n lt)
    ∙ upto

-- all were
pub called_all : (p : ScriptView) (es : List (Origin × Ending)) (k n : ℕ) (old all : List ℕ) → n ≤ k → old ++ called_texts p es k (n - k) ≡ all → old ≡ all
called_all p es k n old all le is = sym (append-nil old) ∙ ap (λ (m : ℕ). old ++ called_texts p es k m) (none_more k n le) ∙ is
