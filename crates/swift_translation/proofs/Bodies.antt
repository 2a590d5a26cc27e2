-- The turns of a body.
use Rattle.std.proofs.Common.{◌≡◌, ◌∙◌, ◌+◌, ◌-◌, ◌≤◌, ◌++◌, ℕ, zero, suc, List, Option, Some, None, ap, arith, refl, rules, subst, sym}
use Rattle.std.specs.Prelude.{IsFalse}
use Rattle.swift_translation.proofs.Writes.{both}
use Rattle.swift_translation.specs.Bodies.{Course, Progress, course, course_by, run_text, starting, turn_frame, turn_progress, turn_text, turned}
use Rattle.swift_translation.specs.WritingInside.{GoesOn}
use Rattle.swift_translation.specs.declared.frame.Frame.{Frame}
use Rattle.swift_translation.specs.declared.source.Source.{Source}
use Rattle.swift_translation.specs.declared.writer.Writer.{Writer}

one_more : (n : ℕ) → n + 1 ≡ suc n
one_more n = omega arith

-- before the first turn
pub course_none : (s : Source) (c : Course) → course s c 0 ≡ c
unfolding course
course_none s c = refl

-- one more turn
pub course_more : (s : Source) (c : Course) (n : ℕ) (p : Progress) (f : Frame) → p ≡ (course s c n).progress → Some f ≡ (course s c n).next → course s c (n + 1) ≡ turned s p f (course s c n).text
unfolding course
course_more s c n p f h e =
    subst (λ (q : Progress). course s c (n + 1) ≡ turned s q f (course s c n).text) (sym h)
    (ap (course s c) (one_more n) ∙ ap (course_by s (course s c n)) (sym e))

-- a body that has ended goes no further
stays : (s : Source) (c : Course) (n k m : ℕ) → m ≡ k + n → (course s c n).next ≡ None → course s c m ≡ course s c n
unfolding course
stays s c n zero m h e = let same : m ≡ n = omega arith in ap (course s c) same
stays s c n (suc k) zero h e = absurd (omega arith)
stays s c n (suc k) (suc m) h e =
    let before : course s c m ≡ course s c n = stays s c n k m (omega arith) e in
    subst (λ (x : Course). course_by s x x.next ≡ course s c n) (sym before) (ap (course_by s (course s c n)) e)

-- what is written once a body has ended
pub all_written : (s : Source) (p : Progress) (f : Frame) (n k most : ℕ) → most ≡ k + n → (course s (starting p f) n).next ≡ None → run_text s p f most ≡ (course s (starting p f) n).text
unfolding run_text
all_written s p f n k most h e = ap (λ (c : Course). c.text) (stays s (starting p f) n k most h e)

-- How far a body has come: its methods and blocks, and the method that is written next.
pub record IsAt (c : Course) (out : Writer) (p : Progress) (next : Option Frame) : Type 0 where
  pub progress : IsFalse out.is_partial → p ≡ c.progress
  pub next_one : IsFalse out.is_partial → next ≡ c.next

-- before the first turn nothing is written
pub starts : (a : Writer) (s : Source) (p : Progress) (f : Frame) → GoesOn a a (course s (starting p f) 0).text
unfolding course
starts a s p f = λ none. (none, search rules)

-- where a body is then
pub is_at_start : (a : Writer) (s : Source) (p : Progress) (f : Frame) → IsAt (course s (starting p f) 0) a p (Some f)
unfolding course
is_at_start a s p f = record { progress = λ none. refl; next_one = λ none. refl }

-- a turn goes on with what is written
pub goes_on : (a b c : Writer) (s t : Source) (k : Course) (n : ℕ) (p : Progress) (f : Frame) (next : Option Frame) → t ≡ s → next ≡ Some f → GoesOn a b (course s k n).text → IsAt (course s k n) b p next → GoesOn b c (turn_text t p f) → GoesOn a c (course s k (n + 1)).text
goes_on a b c s t k n p f next same is g at h = λ none.
    let before : IsFalse b.is_partial = (h none).0 in
    subst (λ (x : Course). IsFalse a.is_partial × (c.text.items ≡ a.text.items ++ x.text)) (sym (course_more s k n p f (at.progress before) (sym is ∙ at.next_one before)))
    (both a b c (course s k n).text (turn_text s p f) g (subst (λ (x : Source). GoesOn b c (turn_text x p f)) same h) none)

-- where a body is after a turn
pub comes_to : (b c : Writer) (s t : Source) (k : Course) (n : ℕ) (p q : Progress) (f : Frame) (next then_next : Option Frame) → t ≡ s → next ≡ Some f → IsAt (course s k n) b p next → (IsFalse c.is_partial → IsFalse b.is_partial) → (IsFalse c.is_partial → q ≡ turn_progress t p f) → (IsFalse c.is_partial → then_next ≡ turn_frame t p f) → IsAt (course s k (n + 1)) c q then_next
comes_to b c s t k n p q f next then_next same is at back h e = record {
  progress = λ none. h none ∙ ap (λ (x : Source). turn_progress x p f) same ∙ ap (λ (x : Course). x.progress) (sym (course_more s k n p f (at.progress (back none)) (sym is ∙ at.next_one (back none))));
  next_one = λ none. e none ∙ ap (λ (x : Source). turn_frame x p f) same ∙ ap (λ (x : Course). x.next) (sym (course_more s k n p f (at.progress (back none)) (sym is ∙ at.next_one (back none))));
}

-- what is written of a body that has ended
pub is_all : (a b : Writer) (s : Source) (p : Progress) (f : Frame) (n most : ℕ) (q : Progress) (next : Option Frame) → n ≤ most → next ≡ None → GoesOn a b (course s (starting p f) n).text → IsAt (course s (starting p f) n) b q next → GoesOn a b (run_text s p f most)
is_all a b s p f n most q next h is g at = λ none.
    let enough : most ≡ (most - n) + n = omega arith in
    subst (λ (x : List ℕ). IsFalse a.is_partial × (b.text.items ≡ a.text.items ++ x)) (sym (all_written s p f n (most - n) most enough (sym (at.next_one none) ∙ is))) (g none)
