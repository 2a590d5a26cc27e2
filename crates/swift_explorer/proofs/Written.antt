-- What is written of a history that is followed.
use Rattle.swift_explorer.proofs.Prelude.{◌≡◌, ℕ, suc, ◌+◌, ◌<◌, ℤ, Bool, List, [], ◌∷◌, ◌++◌, length, map, reverse, get_or, take, take_more, sym, ◌∙◌, ap, arith, append_assoc, Option, None, Some, pos, map-append, reverse-append, slice_index_or, FrameView, WaitingTaskView, JobFacts, flag_numbers, frame_numbers, list_numbers, option_numbers, some_numbers, fields_numbers, ReadyView, job_left, job_numbers, jobs_held, ready_numbers, rest_numbers}
use Rattle.std.proofs.lemmas.List.{length-take-le}
use Rattle.swift_types.specs.declared.outcome.Resume.TheVariants.{Go}
use Rattle.swift_explorer.proofs.Steps.{some-append, two_writes}

-- the frame before those that were written is written
pub caller_step : (f : FrameView → FrameView) (ps : List FrameView) (i : ℕ) (d p : FrameView) (before after : List ℤ) → i < length ps → get_or ps i d ≡ p → after ≡ before ++ (pos 1 ∷ frame_numbers (f p))
    → after ++ some_numbers frame_numbers (map f (reverse (take i ps))) ≡ before ++ some_numbers frame_numbers (map f (reverse (take (i + 1) ps)))
caller_step f ps i d p before after low at written =
    let left = λ (l : List FrameView). some_numbers frame_numbers (map f (reverse l)) in
    let taken : take (i + 1) ps ≡ take i ps ++ p ∷ [] = take_more ps i d low ∙ ap (λ q. take i ps ++ q ∷ []) at in
    let turned : reverse (take (i + 1) ps) ≡ p ∷ reverse (take i ps) = ap reverse taken ∙ reverse-append (take i ps) (p ∷ []) in
    ap (λ (l : List ℤ). l ++ left (take i ps)) written
    ∙ append_assoc before (pos 1 ∷ frame_numbers (f p)) (left (take i ps))
    ∙ ap (λ (l : List FrameView). before ++ some_numbers frame_numbers (map f l)) (sym turned)

-- the jobs of some tasks that wait, and of one more
held_push : (t : ℕ) (hs : List (Option WaitingTaskView)) (h : Option WaitingTaskView) → jobs_held t (hs ++ h ∷ []) ≡ jobs_held t hs ++ jobs_held (t + length hs) (h ∷ [])
held_push t [] h = let none : t ≡ t + 0 = omega arith in ap (λ (n : ℕ). jobs_held n (h ∷ [])) none
held_push t (None ∷ hs) h =
    let on : t + 1 + length hs ≡ t + suc (length hs) = omega arith in
    held_push (t + 1) hs h ∙ ap (λ (n : ℕ). jobs_held (t + 1) hs ++ jobs_held n (h ∷ [])) on
held_push t (Some x ∷ hs) h =
    let on : t + 1 + length hs ≡ t + suc (length hs) = omega arith in
    ap (λ (js : List JobFacts). record { task = t; number = x.number; resume = Go; frames = x.frames } ∷ js) (held_push (t + 1) hs h ∙ ap (λ (n : ℕ). jobs_held (t + 1) hs ++ jobs_held n (h ∷ [])) on)

-- one more task is written, where it waits
pub waiting_step : (hs : List (Option WaitingTaskView)) (i : ℕ) (start k more : List ℤ) → i < length hs → k ≡ start ++ some_numbers job_numbers (map job_left (jobs_held 0 (take i hs)))
    → more ≡ k ++ some_numbers job_numbers (map job_left (jobs_held i (slice_index_or hs i None ∷ []))) → more ≡ start ++ some_numbers job_numbers (map job_left (jobs_held 0 (take (i + 1) hs)))
waiting_step hs i start k more low before written =
    let h = slice_index_or hs i None in
    let front = jobs_held 0 (take i hs) in
    let last = jobs_held i (h ∷ []) in
    let numbers = λ (js : List JobFacts). some_numbers job_numbers (map job_left js) in
    let taken = length-take-le i hs (omega (arith, low)) in
    let many : 0 + length (take i hs) ≡ i = omega (arith, taken) in
    let all : jobs_held 0 (take (i + 1) hs) ≡ front ++ last =
    ap (jobs_held 0) (take_more hs i None low) ∙ held_push 0 (take i hs) h ∙ ap (λ (n : ℕ). front ++ jobs_held n (h ∷ [])) many in
    written
    ∙ ap (λ (l : List ℤ). l ++ numbers last) before
    ∙ append_assoc start (numbers front) (numbers last)
    ∙ ap (λ (l : List ℤ). start ++ l) (sym (some-append job_numbers (map job_left front) (map job_left last)))
    ∙ ap (λ (js : List JobFacts). start ++ some_numbers job_numbers js) (sym (map-append job_left front last))
    ∙ ap (λ (js : List JobFacts). start ++ numbers js) (sym all)

-- all but the digest is written
pub rest_written : (w : List JobFacts) (u : List Bool) (f : List (List (List ℤ))) (g : List (Option ReadyView)) (k0 k1 k2 k3 k4 : List ℤ) → k0 ≡ [] → k1 ≡ k0 ++ list_numbers job_numbers w
    → k2 ≡ k1 ++ list_numbers flag_numbers u → k3 ≡ k2 ++ fields_numbers f → k4 ≡ k3 ++ list_numbers (option_numbers ready_numbers) g → k4 ≡ rest_numbers w u f g
rest_written w u f g k0 k1 k2 k3 k4 none jobs flags fields ready =
    let a = list_numbers job_numbers w in
    let b = list_numbers flag_numbers u in
    let c = fields_numbers f in
    let d = list_numbers (option_numbers ready_numbers) g in
    let one : k1 ≡ a = jobs ∙ ap (λ (l : List ℤ). l ++ a) none in
    let two : k2 ≡ a ++ b = flags ∙ ap (λ (l : List ℤ). l ++ b) one in
    let three : k3 ≡ a ++ (b ++ c) = two_writes a k2 k3 b c two fields in
    two_writes a k3 k4 (b ++ c) d three ready ∙ ap (λ (l : List ℤ). a ++ l) (append_assoc b c d)
