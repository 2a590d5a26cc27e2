-- What is written in parts.
use Rattle.std.proofs.Common.{◌≡◌, ◌∙◌, ◌++◌, ◌≤◌, ℕ, List, [], ◌∷◌, ap, append_assoc, arith, drop, get_or, length, subst}
use Rattle.std.specs.Prelude.{IsFalse}
use Rattle.swift_translation.specs.PlaceTexts.{place_line, place_lines}
use Rattle.swift_translation.specs.WritingInside.{GoesOn}
use Rattle.swift_translation.specs.declared.places.MethodPlace.{MethodPlace}
use Rattle.swift_translation.specs.declared.writer.Writer.{Writer}

pub both : (a b c : Writer) (x y : List ℕ) → GoesOn a b x → GoesOn b c y → GoesOn a c (x ++ y)
both a b c x y f g = λ none.
    let second : IsFalse b.is_partial × (c.text.items ≡ b.text.items ++ y) = g none in
    let first : IsFalse a.is_partial × (b.text.items ≡ a.text.items ++ x) = f second.0 in
    (first.0, second.1 ∙ ap (λ bytes. bytes ++ y) first.1 ∙ append_assoc a.text.items x y)

pub three : (a b c d : Writer) (x y z : List ℕ) → GoesOn a b x → GoesOn b c y → GoesOn c d z → GoesOn a d ((x ++ y) ++ z)
three a b c d x y z f g h = both a c d (x ++ y) z (both a b c x y f g) h

pub four : (a b c d e : Writer) (w x y z : List ℕ) → GoesOn a b w → GoesOn b c x → GoesOn c d y → GoesOn d e z → GoesOn a e (((w ++ x) ++ y) ++ z)
four a b c d e w x y z f g h i = both a d e ((w ++ x) ++ y) z (three a b c d w x y f g h) i

pub five : (a b c d e f : Writer) (v w x y z : List ℕ) → GoesOn a b v → GoesOn b c w → GoesOn c d x → GoesOn d e y → GoesOn e f z → GoesOn a f ((((v ++ w) ++ x) ++ y) ++ z)
five a b c d e f v w x y z g h i j k =
    both a e f (((v ++ w) ++ x) ++ y) z (four a b c d e v w x y g h i j) k

-- the first line of a table, and the others
pub each_line : (a b c : Writer) (file : List ℕ) (ps : List MethodPlace) (p : MethodPlace) → 1 ≤ length ps → p ≡ get_or ps 0 p → GoesOn a b (place_line file p) → GoesOn b c (place_lines file (drop 1 ps)) → GoesOn a c (place_lines file ps)
each_line a b c file [] p h e f g = absurd (omega (arith, h))
each_line a b c file (q ∷ ps) p h e f g =
    both a b c (place_line file q) (place_lines file ps) (subst (λ (x : MethodPlace). GoesOn a b (place_line file x)) e f) g
