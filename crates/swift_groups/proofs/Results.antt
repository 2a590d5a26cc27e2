-- What a group answers to `next` and `close`, by its numbers and places.
use Rattle.swift_groups.proofs.Prelude.{◌≡◌, ℕ, suc, ◌+◌, ◌≤◌, ◌<◌, List, Option, None, Some, [], ◌∷◌, length, drop, get_or, refl, ap, sym, ◌∙◌, inl, inr, arith, add-one, cases_eq, drop_all, nil_from_length, get_or_read, slice_get_within, get_or_from_slice_get, slice_get, TaskId, Ending, Closing, Group, unfinished_of, next_of, next_among, handed_after, handed_on, close_of, close_among, stage_among, closed_on, ended_of, places_of, AreLinked, group_is, IsGroup}
use Rattle.swift_groups.specs.declared.answer.NextResult.TheVariants.{Result, Wait, Empty}
use Rattle.swift_groups.specs.declared.answer.Close.TheVariants.{Done, Wait as NotYet}
use Rattle.swift_groups.specs.declared.group.GroupStage.TheVariants.{Done as Ended}
use Rattle.swift_groups.specs.declared.group.ChildEnding.{ChildEnding as EndedChild}
use Rattle.swift_groups.proofs.Lists as lists
use Rattle.swift_groups.proofs.Lists.{drop_get}
use Rattle.swift_groups.proofs.Links.{length_places, ending_from, place_within, ended_same, ended_other}

-- no child is unfinished, or some child is
pub none_unfinished : (g : Group) (a : List TaskId) (e : List (TaskId × Ending)) (p : List ℕ) → IsGroup g a e p → g.unfinished ≡ 0 → unfinished_of a e ≡ []
none_unfinished g a e p is h = nil_from_length (unfinished_of a e) (sym is.unfinished ∙ h)

wait_among : (ts : List TaskId) → (length ts ≡ 0 → ⊥) → next_among [] ts ≡ Wait
wait_among [] h = absurd (h refl)
wait_among (t ∷ ts) h = refl

not_done_among : (ts : List TaskId) → (length ts ≡ 0 → ⊥) → close_among ts ≡ NotYet
not_done_among [] h = absurd (h refl)
not_done_among (t ∷ ts) h = refl

closing_among : (ts : List TaskId) → (length ts ≡ 0 → ⊥) → stage_among ts ≡ Closing
closing_among [] h = absurd (h refl)
closing_among (t ∷ ts) h = refl

-- `close`
pub close_done : (g : Group) (a : List TaskId) (e : List (TaskId × Ending)) (p : List ℕ) → IsGroup g a e p → g.unfinished ≡ 0 → close_of (group_is g a e) ≡ Done
close_done g a e p is h = ap close_among (none_unfinished g a e p is h)

pub closed_done : (g : Group) (a : List TaskId) (e : List (TaskId × Ending)) (p : List ℕ) → IsGroup g a e p → g.unfinished ≡ 0 → record (group_is g a e) { stage = Ended } ≡ closed_on (group_is g a e)
closed_done g a e p is h = ap (λ (ts : List TaskId). record (group_is g a e) { stage = stage_among ts }) (sym (none_unfinished g a e p is h))

pub close_wait : (g : Group) (a : List TaskId) (e : List (TaskId × Ending)) (p : List ℕ) → IsGroup g a e p → (g.unfinished ≡ 0 → ⊥) → close_of (group_is g a e) ≡ NotYet
close_wait g a e p is h = not_done_among (unfinished_of a e) (λ n. h (is.unfinished ∙ n))

pub closed_wait : (g : Group) (a : List TaskId) (e : List (TaskId × Ending)) (p : List ℕ) → IsGroup g a e p → (g.unfinished ≡ 0 → ⊥) → record (group_is g a e) { stage = Closing } ≡ closed_on (group_is g a e)
closed_wait g a e p is h = ap (λ s. record (group_is g a e) { stage = s }) (sym (closing_among (unfinished_of a e) (λ n. h (is.unfinished ∙ n))))

-- `next` with nothing to hand out
none_waiting : (g : Group) (a : List TaskId) (es : List EndedChild) (i : ℕ) → IsGroup g a (ended_of es i) (places_of es i) → g.first ≡ None → drop g.handed (ended_of es i) ≡ []
none_waiting g a es i is h =
    let past = lists.slice_get_past (places_of es i) g.handed (sym is.first ∙ h) in
    let len = length_places 0 es i in
    drop_all g.handed (ended_of es i) (omega (arith, past, len))

pub next_empty : (g : Group) (a : List TaskId) (es : List EndedChild) (i : ℕ) → IsGroup g a (ended_of es i) (places_of es i) → g.first ≡ None → g.unfinished ≡ 0 → next_of (group_is g a (ended_of es i)) ≡ Empty
next_empty g a es i is h n =
    ap (λ (w : List (TaskId × Ending)). next_among w (unfinished_of a (ended_of es i))) (none_waiting g a es i is h)
    ∙ ap (λ (ts : List TaskId). next_among [] ts) (none_unfinished g a (ended_of es i) (places_of es i) is n)

pub next_wait : (g : Group) (a : List TaskId) (es : List EndedChild) (i : ℕ) → IsGroup g a (ended_of es i) (places_of es i) → g.first ≡ None → (g.unfinished ≡ 0 → ⊥) → next_of (group_is g a (ended_of es i)) ≡ Wait
next_wait g a es i is h n =
    ap (λ (w : List (TaskId × Ending)). next_among w (unfinished_of a (ended_of es i))) (none_waiting g a es i is h)
    ∙ wait_among (unfinished_of a (ended_of es i)) (λ z. n (is.unfinished ∙ z))

pub handed_none : (g : Group) (a : List TaskId) (es : List EndedChild) (i : ℕ) → IsGroup g a (ended_of es i) (places_of es i) → g.first ≡ None → group_is g a (ended_of es i) ≡ handed_on (group_is g a (ended_of es i))
handed_none g a es i is h = ap (λ (w : List (TaskId × Ending)). record (group_is g a (ended_of es i)) { handed = handed_after w g.handed }) (sym (none_waiting g a es i is h))

-- `next` with a result
length_ended_le : (es : List EndedChild) (i : ℕ) → length (ended_of es i) ≤ length es
length_ended_le [] i = omega arith
length_ended_le (e ∷ es) i = let rest = length_ended_le es i in elim (cases_eq e.group i) [
  | inl s ↦ let n = ap length (ended_same e es i s) in omega (arith, n, rest)
  | inr o ↦ let n = ap length (ended_other e es i o) in omega (arith, n, rest)
]

pub first_within : (g : Group) (a : List TaskId) (es : List EndedChild) (i k : ℕ) → IsGroup g a (ended_of es i) (places_of es i) → g.first ≡ Some k → k < length es
first_within g a es i k is h = place_within es i g.handed k (sym is.first ∙ h)

pub handed_within : (g : Group) (a : List TaskId) (es : List EndedChild) (i k : ℕ) → IsGroup g a (ended_of es i) (places_of es i) → g.first ≡ Some k → g.handed < length es
handed_within g a es i k is h =
    let w = slice_get_within (places_of es i) g.handed k (sym is.first ∙ h) in
    let n = length_places 0 es i in let m = length_ended_le es i in omega (arith, w, n, m)

one_waiting : (g : Group) (a : List TaskId) (es : List EndedChild) (i k : ℕ) (e : EndedChild) → IsGroup g a (ended_of es i) (places_of es i) → g.first ≡ Some k → e ≡ get_or es k e
    → drop g.handed (ended_of es i) ≡ (e.task, e.ending) ∷ drop (suc g.handed) (ended_of es i)
one_waiting g a es i k e is h read =
    let at = ending_from 0 es i g.handed k (sym is.first ∙ h) in
    let p = at.is_place in
    let place : k ≡ at.place = omega (arith, p) in
    let same : e ≡ at.ending = read ∙ ap (λ (n : ℕ). get_or es n e) place ∙ get_or_from_slice_get es at.place at.ending e at.there in
    drop_get (ended_of es i) g.handed (e.task, e.ending) (at.listed ∙ ap (λ (x : EndedChild). Some (x.task, x.ending)) (sym same))

pub next_result : (g : Group) (a : List TaskId) (es : List EndedChild) (i k : ℕ) (e : EndedChild) → IsGroup g a (ended_of es i) (places_of es i) → g.first ≡ Some k → e ≡ get_or es k e
    → next_of (group_is g a (ended_of es i)) ≡ Result e.task e.ending
next_result g a es i k e is h read = ap (λ (w : List (TaskId × Ending)). next_among w (unfinished_of a (ended_of es i))) (one_waiting g a es i k e is h read)

pub handed_one : (g : Group) (a : List TaskId) (es : List EndedChild) (i k : ℕ) (e : EndedChild) → IsGroup g a (ended_of es i) (places_of es i) → g.first ≡ Some k → e ≡ get_or es k e
    → record (group_is g a (ended_of es i)) { handed = g.handed + 1 } ≡ handed_on (group_is g a (ended_of es i))
handed_one g a es i k e is h read = ap (λ (w : List (TaskId × Ending)). record (group_is g a (ended_of es i)) { handed = handed_after w g.handed }) (sym (one_waiting g a es i k e is h read))

pub group_handed : (g g' : Group) (a : List TaskId) (es : List EndedChild) (after : List (Option ℕ)) (i k : ℕ) → IsGroup g a (ended_of es i) (places_of es i) → AreLinked es after → g.first ≡ Some k
    → g'.unfinished ≡ g.unfinished → g'.handed ≡ g.handed + 1 → g'.first ≡ get_or after k g'.first → g'.last ≡ g.last → IsGroup g' a (ended_of es i) (places_of es i)
group_handed g g' a es after i k is linked h unfinished handed first last =
    let here : slice_get (places_of es i) g.handed ≡ Some k = sym is.first ∙ h in
    let within = place_within es i g.handed k here in let same = linked.same in
    let w = slice_get_within (places_of es i) g.handed k here in
    record {
      unfinished = unfinished ∙ is.unfinished;
      handed = omega (arith, w, handed);
      first = get_or_read after k g'.first (omega (arith, within, same)) first None ∙ linked.next i g.handed k here ∙ ap (λ (n : ℕ). slice_get (places_of es i) n) (sym (handed ∙ add-one g.handed));
      last = last ∙ is.last;
      known = is.known;
      once = is.once;
    }
