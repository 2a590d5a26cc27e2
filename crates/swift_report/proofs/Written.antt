-- One more write, after what is written.
use Rattle.std.proofs.Common.{◌≡◌, ℕ, ◌+◌, ◌-◌, ◌≤◌, List, ◌++◌, None, Some, length, take, drop, sym, ap, subst, ◌∙◌, append_assoc, arith, length-drop}
use Rattle.std.specs.Prelude.{Option}
use Rattle.std.proofs.Math.Seq.{take-add}
use Rattle.std.proofs.lemmas.List.{take_rest}
use Rattle.std.specs.Io.KnownBytes.{Appends}

appends_twice : (a b c : Option (List ℕ)) (bs cs : List ℕ) → Appends a b bs → Appends b c cs → Appends a c (bs ++ cs)
appends_twice None b c bs cs p q = tt
appends_twice (Some x) None c bs cs p q = absurd p
appends_twice (Some x) (Some y) None bs cs p q = absurd q
appends_twice (Some x) (Some y) (Some z) bs cs p q = q ∙ ap (λ (l : List ℕ). l ++ cs) p ∙ append_assoc x bs cs

-- the rest of the text from i on, as a write is given it
abbrev pub rest_from : ℕ → List ℕ → List ℕ
rest_from i text = take (length text - i) (drop i text)

pub written_more : (a b c : Option (List ℕ)) (text : List ℕ) (i n : ℕ) → Appends a b (take i text) → Appends b c (take n (rest_from i text)) → Appends a c (take (i + n) text)
written_more a b c text i n p q =
    subst (Appends a c) (ap (λ (xs : List ℕ). take i text ++ take n xs) (take_rest text i) ∙ sym (take-add i n text)) (appends_twice a b c (take i text) (take n (rest_from i text)) p q)

pub still_within : (text : List ℕ) (i n : ℕ) → i ≤ length text → n ≤ length (rest_from i text) → i + n ≤ length text
still_within text i n within le =
    let rest : length (rest_from i text) ≡ length (drop i text) = ap length (take_rest text i) in
    let left : length (drop i text) ≡ length text - i = length-drop i text in
    omega (arith, rest, left, le, within)
