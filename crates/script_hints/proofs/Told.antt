-- What is said, by the calls that made it.
use Rattle.std.proofs.Common.{◌≡◌, ℕ, List, [], ◌∷◌, Bor, map, get_or, refl, sym, subst, zero, suc}
use Rattle.std.specs.Prelude.{Result, Ok, Err, IfOk}
use Rattle.std.specs.declared.vec.Vec.{Vec}
use Rattle.std.specs.declared.alloc.Global.{Global}
use Rattle.script_context.specs.declared.blamed.Blamed.{Blamed}
use Rattle.script_hints.specs.Helps.{HelpsUnexpected, IsFilled, mistake}
use Rattle.script_hints.specs.Mistakes.{IsKnown, StandsAround}
use Rattle.script_hints.specs.declared.hint.Hint.{Hint}

-- a text that is these bytes says what they say
pub text_says : {E : Type 0} (P : List ℕ → Type 0) (text : List ℕ) (r : Result (Vec ℕ Global) E) → P text → IfOk r (λ t. t.items ≡ text) → IfOk r (λ t. P t.items)
text_says P text (Ok t) says is = subst P (sym is) says
text_says P text (Err e) says is = tt

-- a hint says what the call says that made its help
pub hint_says : {E F : Type 0} (P : List ℕ → Type 0) (r : Result Hint E) (help : Result (Vec ℕ Global) F) → IfOk help (λ t. P t.items) → IfOk r (λ h. help ≡ Ok h.help) → IfOk r (λ h. P h.help.items)
hint_says P (Ok h) help says of = subst (λ (x : Result (Vec ℕ Global) _). IfOk x (λ t. P t.items)) of says
hint_says P (Err e) help says of = tt

-- a hint says what the bytes say that are its help
pub hint_is : {E F : Type 0} (P : List ℕ → Type 0) (text : List ℕ) (r : Result Hint E) (help : Result (Vec ℕ Global) F) → P text → IfOk help (λ t. t.items ≡ text) → IfOk r (λ h. help ≡ Ok h.help) → IfOk r (λ h. P h.help.items)
hint_is P text r help says is of = hint_says P r help (text_says P text help says is) of

-- a hint whose help is known says what that says
pub help_says : {E : Type 0} (P : List ℕ → Type 0) (text : List ℕ) (r : Result Hint E) → P text → IfOk r (λ h. h.help.items ≡ text) → IfOk r (λ h. P h.help.items)
help_says P text (Ok h) says is = subst P (sym is) says
help_says P text (Err e) says is = tt

-- a word that is read is that of the words
pub word_is : (words : List (Bor (List ℕ))) (n : ℕ) (none : Bor (List ℕ)) → none.now ≡ [] → (get_or words n none).now ≡ get_or (map (λ (x : Bor (List ℕ)). x.now) words) n []
word_is [] n none is = is
word_is (w ∷ ws) zero none is = refl
word_is (w ∷ ws) (suc n) none is = word_is ws n none is

-- words of a mistake whose tokens stand around the place help there
pub filled_says : {E : Type 0} (b : Blamed) (words : List (List ℕ)) (help : List ℕ) (r : Result (Vec ℕ Global) E) → IsKnown words → StandsAround b words → help ≡ get_or words 8 [] → IfOk r (λ t. IsFilled b help t.items) → IfOk r (λ t. HelpsUnexpected b t.items)
filled_says b words help (Ok t) known stands is filled = mistake words t.items known stands (subst (λ (x : List ℕ). IsFilled b x t.items) is filled)
filled_says b words help (Err e) known stands is filled = tt
