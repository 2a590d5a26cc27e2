-- Texts that grow piece by piece.
use Rattle.swift_report.proofs.Prelude.{◌≡◌, ℕ, List, ◌++◌, ap, sym, ◌∙◌, append_assoc, Result, Ok, Err, OnOk}

-- after a text stands one more piece
pub onto : (x0 x1 x2 text piece : List ℕ) → x1 ≡ x0 ++ text → x2 ≡ x1 ++ piece → x2 ≡ x0 ++ (text ++ piece)
onto x0 x1 x2 text piece before e = e ∙ ap (λ (xs : List ℕ). xs ++ piece) before ∙ append_assoc x0 text piece

-- what is appended is an equal text
pub said : {A E : Type 0} (r : Result A E) (x0 x a text : List ℕ) → a ≡ text → OnOk r (x ≡ x0 ++ a) → OnOk r (x ≡ x0 ++ text)
said (Ok u) x0 x a text is h = h ∙ ap (λ (xs : List ℕ). x0 ++ xs) is
said (Err u) x0 x a text is h = tt

-- after a text stands a number with its label
pub labelled_after : {A E : Type 0} (r : Result A E) (x0 x1 x2 a label n : List ℕ) → x1 ≡ x0 ++ a → OnOk r (x2 ≡ x1 ++ (label ++ n)) → OnOk r (x2 ≡ x0 ++ ((a ++ label) ++ n))
labelled_after (Ok u) x0 x1 x2 a label n h1 h2 = onto x0 x1 x2 a (label ++ n) h1 h2 ∙ ap (λ (xs : List ℕ). x0 ++ xs) (sym (append_assoc a label n))
labelled_after (Err u) x0 x1 x2 a label n h1 h2 = tt

-- pieces, one after the other
pub two_joined : {A E : Type 0} (r : Result A E) (x0 x1 x2 a b : List ℕ) → x1 ≡ x0 ++ a → OnOk r (x2 ≡ x1 ++ b) → OnOk r (x2 ≡ x0 ++ (a ++ b))
two_joined (Ok u) x0 x1 x2 a b h1 h2 = onto x0 x1 x2 a b h1 h2
two_joined (Err u) x0 x1 x2 a b h1 h2 = tt

pub three_joined : {A E : Type 0} (r : Result A E) (x0 x1 x2 x3 a b c : List ℕ) →
    x1 ≡ x0 ++ a → x2 ≡ x1 ++ b → OnOk r (x3 ≡ x2 ++ c) → OnOk r (x3 ≡ x0 ++ ((a ++ b) ++ c))
three_joined r x0 x1 x2 x3 a b c h1 h2 h3 = two_joined r x0 x2 x3 (a ++ b) c (onto x0 x1 x2 a b h1 h2) h3

pub four_joined : {A E : Type 0} (r : Result A E) (x0 x1 x2 x3 x4 a b c d : List ℕ) →
    x1 ≡ x0 ++ a → x2 ≡ x1 ++ b → x3 ≡ x2 ++ c → OnOk r (x4 ≡ x3 ++ d) → OnOk r (x4 ≡ x0 ++ (((a ++ b) ++ c) ++ d))
four_joined r x0 x1 x2 x3 x4 a b c d h1 h2 h3 h4 = three_joined r x0 x2 x3 x4 (a ++ b) c d (onto x0 x1 x2 a b h1 h2) h3 h4

pub five_joined : {A E : Type 0} (r : Result A E) (x0 x1 x2 x3 x4 x5 a b c d e : List ℕ) →
    x1 ≡ x0 ++ a → x2 ≡ x1 ++ b → x3 ≡ x2 ++ c → x4 ≡ x3 ++ d → OnOk r (x5 ≡ x4 ++ e) → OnOk r (x5 ≡ x0 ++ ((((a ++ b) ++ c) ++ d) ++ e))
five_joined r x0 x1 x2 x3 x4 x5 a b c d e h1 h2 h3 h4 h5 = four_joined r x0 x2 x3 x4 x5 (a ++ b) c d e (onto x0 x1 x2 a b h1 h2) h3 h4 h5

pub six_joined : {A E : Type 0} (r : Result A E) (x0 x1 x2 x3 x4 x5 x6 a b c d e f : List ℕ) →
    x1 ≡ x0 ++ a → x2 ≡ x1 ++ b → x3 ≡ x2 ++ c → x4 ≡ x3 ++ d → x5 ≡ x4 ++ e → OnOk r (x6 ≡ x5 ++ f) →
    OnOk r (x6 ≡ x0 ++ (((((a ++ b) ++ c) ++ d) ++ e) ++ f))
six_joined r x0 x1 x2 x3 x4 x5 x6 a b c d e f h1 h2 h3 h4 h5 h6 = five_joined r x0 x2 x3 x4 x5 x6 (a ++ b) c d e f (onto x0 x1 x2 a b h1 h2) h3 h4 h5 h6

pub seven_joined : {A E : Type 0} (r : Result A E) (x0 x1 x2 x3 x4 x5 x6 x7 a b c d e f g : List ℕ) →
    x1 ≡ x0 ++ a → x2 ≡ x1 ++ b → x3 ≡ x2 ++ c → x4 ≡ x3 ++ d → x5 ≡ x4 ++ e → x6 ≡ x5 ++ f → OnOk r (x7 ≡ x6 ++ g) →
    OnOk r (x7 ≡ x0 ++ ((((((a ++ b) ++ c) ++ d) ++ e) ++ f) ++ g))
seven_joined r x0 x1 x2 x3 x4 x5 x6 x7 a b c d e f g h1 h2 h3 h4 h5 h6 h7 = six_joined r x0 x2 x3 x4 x5 x6 x7 (a ++ b) c d e f g (onto x0 x1 x2 a b h1 h2) h3 h4 h5 h6 h7
