-- What the fields keep, after each kind of change.
use Rattle.swift_groups.proofs.Prelude.{◌≡◌, ℕ, ◌+◌, ◌-◌, ◌≤◌, ◌<◌, List, Option, None, Some, [], ◌∷◌, ◌++◌, length, set, Bool, true, false, cond, eqb, refl, ap, sym, subst, ◌∙◌, inl, inr, arith, cases_eq, eq-eqb, ne_eqb, true≢false, length-set, length_push, nil_from_length, same_Some, slice_get_within, get_or_from_slice_get, slice_get, sum_by, option_or, TaskId, Ending, Group, Child, ChildEnding, added_of, ended_of, places_of, mark_of, IsGroup, AreGroups}
use Rattle.std.proofs.lemmas.List.Sums.{sum_by-set, sum_by_push, get_or-le-sum_by}
use Rattle.swift_groups.proofs.Lists.{slice_get_old, slice_get_new, slice_get_push, slice_get_set, slice_get_set_other}
use Rattle.swift_groups.proofs.Lists as lists
use Rattle.swift_groups.proofs.Links.{ended_push_same, ended_push_other, places_push_same, places_push_other, length_places}
use Rattle.swift_groups.proofs.Children.{added_push_same, added_push_other, mark_none, mark_false, mark_added, mark_ended, length_unfinished_added, length_unfinished_ended, times_some, once_added, among_added, known_ended}

abbrev Marks : Type 0
Marks = ℕ → TaskId → Option Bool

abbrev open_children : List Group → ℕ
open_children gs = sum_by (λ (g : Group). g.unfinished) gs

-- the same groups, read from elsewhere
pub are_groups_same : (gs gs' : List Group) (cs cs' : List Child) (es es' : List ChildEnding) (mark mark' : Marks) → AreGroups gs cs es mark
    → gs' ≡ gs → cs' ≡ cs → es' ≡ es → ((i : ℕ) (t : TaskId) → mark' i t ≡ mark i t) → AreGroups gs' cs' es' mark'
are_groups_same gs gs' cs cs' es es' mark mark' k g c e m =
    let here : AreGroups gs cs es mark' = record { each = k.each; none_added = k.none_added; none_ended = k.none_ended; marks = λ i t. m i t ∙ k.marks i t; total = k.total } in
    subst (λ (s : List Group). AreGroups s cs' es' mark') (sym g)
    (subst (λ (s : List Child). AreGroups gs s es' mark') (sym c)
    (subst (λ (s : List ChildEnding). AreGroups gs cs s mark') (sym e) here))

-- one group was changed
are_groups_set : (gs : List Group) (cs cs' : List Child) (es es' : List ChildEnding) (mark mark' : Marks) (i : ℕ) (g g' : Group) → AreGroups gs cs es mark → slice_get gs i ≡ Some g
    → ((j : ℕ) → (j ≡ i → ⊥) → added_of cs' j ≡ added_of cs j) → ((j : ℕ) → (j ≡ i → ⊥) → ended_of es' j ≡ ended_of es j) → ((j : ℕ) → (j ≡ i → ⊥) → places_of es' j ≡ places_of es j)
    → IsGroup g' (added_of cs' i) (ended_of es' i) (places_of es' i) → ((j : ℕ) (t : TaskId) → mark' j t ≡ mark_of (added_of cs' j) (ended_of es' j) t)
    → length es' + (open_children gs + g'.unfinished) ≡ length cs' + g.unfinished → AreGroups (set gs i g') cs' es' mark'
are_groups_set gs cs cs' es es' mark mark' i g g' k at added ended places is marks total =
    let within = slice_get_within gs i g at in
    let len = length-set gs i g' in
    record {
      each = λ j x h. elim (cases_eq j i) [
        | inl s ↦
            let it : g' ≡ x = same_Some g' x (sym (slice_get_set gs i g' within) ∙ ap (λ (n : ℕ). slice_get (set gs i g') n) (sym s) ∙ h) in
            subst (λ (y : Group). IsGroup y (added_of cs' j) (ended_of es' j) (places_of es' j)) it
            (subst (λ (n : ℕ). IsGroup g' (added_of cs' n) (ended_of es' n) (places_of es' n)) (sym s) is)
        | inr o ↦
            let was = k.each j x (sym (slice_get_set_other gs i j g' o) ∙ h) in
            subst (λ (a : List TaskId). IsGroup x a (ended_of es' j) (places_of es' j)) (sym (added j o))
            (subst (λ (e : List (TaskId × Ending)). IsGroup x (added_of cs j) e (places_of es' j)) (sym (ended j o))
            (subst (λ (p : List ℕ). IsGroup x (added_of cs j) (ended_of es j) p) (sym (places j o)) was))
      ];
      none_added = λ j h. added j (λ (s : j ≡ i). absurd (omega (arith, s, h, len, within))) ∙ k.none_added j (omega (arith, h, len));
      none_ended = λ j h. ended j (λ (s : j ≡ i). absurd (omega (arith, s, h, len, within))) ∙ k.none_ended j (omega (arith, h, len));
      marks = marks;
      total =
          let sum = sum_by-set (λ (x : Group). x.unfinished) gs i g' g within in
          let read = ap (λ (x : Group). x.unfinished) (get_or_from_slice_get gs i g g at) in
          omega (arith, sum, read, total);
    }

-- one group was changed, with its children and endings as they were
pub are_groups_changed : (gs : List Group) (cs : List Child) (es : List ChildEnding) (mark : Marks) (i : ℕ) (g g' : Group) → AreGroups gs cs es mark → slice_get gs i ≡ Some g
    → IsGroup g' (added_of cs i) (ended_of es i) (places_of es i) → g'.unfinished ≡ g.unfinished → AreGroups (set gs i g') cs es mark
are_groups_changed gs cs es mark i g g' k at is same =
    let total = k.total in
    are_groups_set gs cs cs es es mark mark i g g' k at (λ j o. refl) (λ j o. refl) (λ j o. refl) is k.marks (omega (arith, total, same))

-- a group was opened
pub are_groups_opened : (gs : List Group) (cs : List Child) (es : List ChildEnding) (mark : Marks) (g : Group) → AreGroups gs cs es mark
    → g.unfinished ≡ 0 → g.handed ≡ 0 → g.first ≡ None → g.last ≡ None → AreGroups (gs ++ g ∷ []) cs es mark
are_groups_opened gs cs es mark g k unfinished handed first last =
    let len = length_push gs g in
    record {
      each = λ i x h. elim (slice_get_push gs g i x h) [
        | inl old ↦ k.each i x old
        | inr new ↦
            let n = new.0 in
            let no_child = k.none_added i (omega (arith, n)) in
            let no_ending = k.none_ended i (omega (arith, n)) in
            let no_place : places_of es i ≡ [] = nil_from_length (places_of es i) (length_places 0 es i ∙ ap length no_ending) in
            subst (λ (y : Group). IsGroup y (added_of cs i) (ended_of es i) (places_of es i)) new.1
            (subst (λ (a : List TaskId). IsGroup g a (ended_of es i) (places_of es i)) (sym no_child)
            (subst (λ (p : List ℕ). IsGroup g [] (ended_of es i) p) (sym no_place)
            (subst (λ (e : List (TaskId × Ending)). IsGroup g [] e []) (sym no_ending) (record { unfinished = unfinished; handed = omega (arith, handed); first = first; last = last; known = λ t h. absurd (true≢false (sym h)); once = λ t. omega arith }))))
      ];
      none_added = λ i h. k.none_added i (omega (arith, h, len));
      none_ended = λ i h. k.none_ended i (omega (arith, h, len));
      marks = k.marks;
      total = let sum = sum_by_push (λ (x : Group). x.unfinished) gs g in let total = k.total in omega (arith, sum, total, unfinished);
    }

-- a child was added
are_groups_with_child : (gs : List Group) (cs : List Child) (es : List ChildEnding) (mark mark' : Marks) (i : ℕ) (g g' : Group) (c : Child) → AreGroups gs cs es mark → slice_get gs i ≡ Some g
    → c.group ≡ i → mark i c.task ≡ None
    → ((j : ℕ) (t : TaskId) → mark' j t ≡ cond (eqb i j) (cond (eqb c.task.0 t.0) (Some false) (mark j t)) (mark j t))
    → g'.unfinished ≡ g.unfinished + 1 → g'.handed ≡ g.handed → g'.first ≡ g.first → g'.last ≡ g.last → AreGroups (set gs i g') (cs ++ c ∷ []) es mark'
are_groups_with_child gs cs es mark mark' i g g' c k at group fresh marks unfinished handed first last =
    let is = k.each i g at in
    let fresh' : mark_of (added_of cs i) (ended_of es i) c.task ≡ None = sym (k.marks i c.task) ∙ fresh in
    let new = mark_none (added_of cs i) (ended_of es i) c.task fresh' in
    let more : added_of (cs ++ c ∷ []) i ≡ added_of cs i ++ c.task ∷ [] = added_push_same cs c i group in
    let others : (j : ℕ) → (j ≡ i → ⊥) → added_of (cs ++ c ∷ []) j ≡ added_of cs j = λ j o. added_push_other cs c j (λ (q : c.group ≡ j). o (sym q ∙ group)) in
    are_groups_set gs cs (cs ++ c ∷ []) es es mark mark' i g g' k at others (λ j o. refl) (λ j o. refl)
    (subst (λ (a : List TaskId). IsGroup g' a (ended_of es i) (places_of es i)) (sym more)
    (record {
      unfinished = unfinished ∙ ap (λ (n : ℕ). n + 1) is.unfinished ∙ sym (length_unfinished_added (added_of cs i) (ended_of es i) c.task new.0);
      handed = let h = is.handed in omega (arith, h, handed);
      first = first ∙ is.first ∙ ap (λ (n : ℕ). slice_get (places_of es i) n) (sym handed);
      last = last ∙ is.last;
      known = λ t h. among_added (added_of cs i) c.task t (is.known t h);
      once = λ t. once_added (added_of cs i) c.task t new.1 (is.once t);
    }))
    (λ j t. elim (cases_eq i j) [
      | inl s ↦
          let test = eq-eqb i j s in
          marks j t ∙ ap (λ (b : Bool). cond b (cond (eqb c.task.0 t.0) (Some false) (mark j t)) (mark j t)) test
          ∙ subst (λ (n : ℕ). cond (eqb c.task.0 t.0) (Some false) (mark n t) ≡ mark_of (added_of (cs ++ c ∷ []) n) (ended_of es n) t) s
          (ap (λ (o : Option Bool). cond (eqb c.task.0 t.0) (Some false) o) (k.marks i t)
          ∙ sym (ap (λ (a : List TaskId). mark_of a (ended_of es i) t) more ∙ mark_added (added_of cs i) (ended_of es i) c.task t fresh'))
      | inr o ↦
          marks j t ∙ ap (λ (b : Bool). cond b (cond (eqb c.task.0 t.0) (Some false) (mark j t)) (mark j t)) (ne_eqb i j o)
          ∙ k.marks j t ∙ ap (λ (a : List TaskId). mark_of a (ended_of es j) t) (sym (others j (λ (q : j ≡ i). o (sym q))))
    ])
    (let total = k.total in let len = length_push cs c in omega (arith, total, len, unfinished))

-- the first that was not handed out, after one more ending
first_after : (ps : List ℕ) (n h h' : ℕ) (f f' : Option ℕ) → h ≤ length ps → f ≡ slice_get ps h → h' ≡ h → ((k : ℕ) → f ≡ Some k → f' ≡ Some k) → (f ≡ None → f' ≡ Some n)
    → f' ≡ slice_get (ps ++ n ∷ []) h'
first_after ps n h h' None f' within first same kept new =
    let past = lists.slice_get_past ps h (sym first) in
    let end : h' ≡ length ps = omega (arith, past, within, same) in
    new refl ∙ sym (ap (λ (m : ℕ). slice_get (ps ++ n ∷ []) m) end ∙ slice_get_new ps n)
first_after ps n h h' (Some k) f' within first same kept new =
    kept k refl ∙ sym (ap (λ (m : ℕ). slice_get (ps ++ n ∷ []) m) same ∙ slice_get_old ps (n ∷ []) h k (sym first))

-- there is room for the ending of an unfinished child
pub ending_fits : (gs : List Group) (cs : List Child) (es : List ChildEnding) (mark : Marks) (i : ℕ) (g : Group) (t : TaskId) (ending : Ending) → AreGroups gs cs es mark → slice_get gs i ≡ Some g → mark i t ≡ Some false
    → (0 < g.unfinished) × (length es < length cs)
ending_fits gs cs es mark i g t ending k at h =
    let is = k.each i g at in
    let known = mark_false (added_of cs i) (ended_of es i) t (sym (k.marks i t) ∙ h) in
    let some = times_some (added_of cs i) t known.1 in
    let less = length_unfinished_ended (added_of cs i) (ended_of es i) t ending known.0 in
    let number = is.unfinished in
    let sum = get_or-le-sum_by (λ (x : Group). x.unfinished) gs i g (slice_get_within gs i g at) in
    let read = ap (λ (x : Group). x.unfinished) (get_or_from_slice_get gs i g g at) in
    let total = k.total in
    (omega (arith, some, less, number), omega (arith, some, less, number, sum, read, total))

-- a child ended
are_groups_with_ending : (gs : List Group) (cs : List Child) (es : List ChildEnding) (mark mark' : Marks) (i n : ℕ) (g g' : Group) (e : ChildEnding) → AreGroups gs cs es mark → slice_get gs i ≡ Some g
    → e.group ≡ i → n ≡ length es → mark i e.task ≡ Some false
    → ((j : ℕ) (t : TaskId) → mark' j t ≡ cond (eqb i j) (cond (eqb e.task.0 t.0) (Some true) (mark j t)) (mark j t))
    → g'.unfinished ≡ g.unfinished - 1 → g'.handed ≡ g.handed → ((k : ℕ) → g.first ≡ Some k → g'.first ≡ Some k) → (g.first ≡ None → g'.first ≡ Some n) → g'.last ≡ Some n
    → AreGroups (set gs i g') cs (es ++ e ∷ []) mark'
are_groups_with_ending gs cs es mark mark' i n g g' e k at group place child marks unfinished handed first_kept first_new last =
    let is = k.each i g at in
    let mine : List ℕ = places_of es i in
    let known = mark_false (added_of cs i) (ended_of es i) e.task (sym (k.marks i e.task) ∙ child) in
    let some = times_some (added_of cs i) e.task known.1 in
    let once = is.once e.task in
    let less = length_unfinished_ended (added_of cs i) (ended_of es i) e.task e.ending known.0 in
    let number = is.unfinished in
    let more : ended_of (es ++ e ∷ []) i ≡ ended_of es i ++ (e.task, e.ending) ∷ [] = ended_push_same es e i group in
    let more_places : places_of (es ++ e ∷ []) i ≡ mine ++ n ∷ [] = places_push_same es e i group ∙ ap (λ (m : ℕ). mine ++ m ∷ []) (sym place) in
    let other_ended : (j : ℕ) → (j ≡ i → ⊥) → ended_of (es ++ e ∷ []) j ≡ ended_of es j = λ j o. ended_push_other es e j (λ (q : e.group ≡ j). o (sym q ∙ group)) in
    let other_places : (j : ℕ) → (j ≡ i → ⊥) → places_of (es ++ e ∷ []) j ≡ places_of es j = λ j o. places_push_other es e j (λ (q : e.group ≡ j). o (sym q ∙ group)) in
    let long = length_push mine n in
    are_groups_set gs cs cs es (es ++ e ∷ []) mark mark' i g g' k at (λ j o. refl) other_ended other_places
    (subst (λ (s : List (TaskId × Ending)). IsGroup g' (added_of cs i) s (places_of (es ++ e ∷ []) i)) (sym more)
    (subst (λ (p : List ℕ). IsGroup g' (added_of cs i) (ended_of es i ++ (e.task, e.ending) ∷ []) p) (sym more_places)
    (record {
      unfinished = omega (arith, unfinished, number, less, some, once);
      handed = let h = is.handed in omega (arith, h, handed, long);
      first = first_after mine n g.handed g'.handed g.first g'.first is.handed is.first handed first_kept first_new;
      last = last ∙ sym (ap (λ (m : ℕ). slice_get (mine ++ n ∷ []) m) (let d : length (mine ++ n ∷ []) - 1 ≡ length mine = omega (arith, long) in d) ∙ slice_get_new mine n);
      known = λ t h. known_ended (added_of cs i) (ended_of es i) e.task t e.ending is.known known.1 h;
      once = is.once;
    })))
    (λ j t. elim (cases_eq i j) [
      | inl s ↦
          let test = eq-eqb i j s in
          marks j t ∙ ap (λ (b : Bool). cond b (cond (eqb e.task.0 t.0) (Some true) (mark j t)) (mark j t)) test
          ∙ subst (λ (m : ℕ). cond (eqb e.task.0 t.0) (Some true) (mark m t) ≡ mark_of (added_of cs m) (ended_of (es ++ e ∷ []) m) t) s
          (ap (λ (o : Option Bool). cond (eqb e.task.0 t.0) (Some true) o) (k.marks i t)
          ∙ sym (ap (λ (x : List (TaskId × Ending)). mark_of (added_of cs i) x t) more ∙ mark_ended (added_of cs i) (ended_of es i) e.task t e.ending))
      | inr o ↦
          marks j t ∙ ap (λ (b : Bool). cond b (cond (eqb e.task.0 t.0) (Some true) (mark j t)) (mark j t)) (ne_eqb i j o)
          ∙ k.marks j t ∙ ap (λ (x : List (TaskId × Ending)). mark_of (added_of cs j) x t) (sym (other_ended j (λ (q : j ≡ i). o (sym q))))
    ])
    (let total = k.total in let len = length_push es e in let fits = ending_fits gs cs es mark i g e.task e.ending k at child in let positive = fits.0 in omega (arith, total, len, unfinished, positive))

-- no group has more unfinished children than there are children
pub unfinished_le : (gs : List Group) (cs : List Child) (es : List ChildEnding) (mark : Marks) (i : ℕ) (g : Group) → AreGroups gs cs es mark → slice_get gs i ≡ Some g → g.unfinished ≤ length cs
unfinished_le gs cs es mark i g k at =
    let sum = get_or-le-sum_by (λ (x : Group). x.unfinished) gs i g (slice_get_within gs i g at) in
    let read = ap (λ (x : Group). x.unfinished) (get_or_from_slice_get gs i g g at) in
    let total = k.total in omega (arith, sum, read, total)

pub are_groups_added : (gs : List Group) (cs cs' : List Child) (es : List ChildEnding) (mark mark' : Marks) (i : ℕ) (g g' : Group) (c : Child) → cs' ≡ cs ++ c ∷ [] → AreGroups gs cs es mark → slice_get gs i ≡ Some g
    → c.group ≡ i → mark i c.task ≡ None
    → ((j : ℕ) (t : TaskId) → mark' j t ≡ cond (eqb i j) (cond (eqb c.task.0 t.0) (Some false) (mark j t)) (mark j t))
    → g'.unfinished ≡ g.unfinished + 1 → g'.handed ≡ g.handed → g'.first ≡ g.first → g'.last ≡ g.last → AreGroups (set gs i g') cs' es mark'
are_groups_added gs cs cs' es mark mark' i g g' c shown k at group fresh marks unfinished handed first last =
    subst (λ (s : List Child). AreGroups (set gs i g') s es mark') (sym shown) (are_groups_with_child gs cs es mark mark' i g g' c k at group fresh marks unfinished handed first last)

pub are_groups_ended : (gs : List Group) (cs : List Child) (es es' : List ChildEnding) (mark mark' : Marks) (i n : ℕ) (g g' : Group) (e : ChildEnding) → es' ≡ es ++ e ∷ [] → AreGroups gs cs es mark → slice_get gs i ≡ Some g
    → e.group ≡ i → n ≡ length es → mark i e.task ≡ Some false
    → ((j : ℕ) (t : TaskId) → mark' j t ≡ cond (eqb i j) (cond (eqb e.task.0 t.0) (Some true) (mark j t)) (mark j t))
    → g'.unfinished ≡ g.unfinished - 1 → g'.handed ≡ g.handed → g'.first ≡ option_or g.first (Some n) → g'.last ≡ Some n
    → AreGroups (set gs i g') cs es' mark'
are_groups_ended gs cs es es' mark mark' i n g g' e shown k at group place child marks unfinished handed first last =
    subst (λ (s : List ChildEnding). AreGroups (set gs i g') cs s mark') (sym shown)
    (are_groups_with_ending gs cs es mark mark' i n g g' e k at group place child marks unfinished handed
    (λ b h. first ∙ ap (λ (o : Option ℕ). option_or o (Some n)) h) (λ h. first ∙ ap (λ (o : Option ℕ). option_or o (Some n)) h) last)
