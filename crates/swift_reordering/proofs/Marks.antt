-- From an instruction that has a mark each statement is so up to each end of the turn.
use Rattle.swift_reordering.proofs.Prelude.{◌≡◌, ◌⊎◌, ℕ, List, refl, sym, ◌∙◌, ap, Bool, true, false, inl, inr, Option, Some, None, ◌&&◌, ◌||◌, slice_get, false≢true, Code, Operation, Term, followed, NextAction, does, tests, first, first_by, first_if, FollowsCode, Act, Instruction, both, action_is, ends_turn, here, instruction_is, turn_all}
use Rattle.script_code.specs.Tree as code
use Rattle.script_code.specs.declared.instruction.Act.TheVariants as acts
use Rattle.swift_reordering.specs.Marks.{AreMarked, MarksTell, action_ends, followers_marked, is_marked, may_be_marked, turn_ends}

-- what follows a statement, and each side of a test; else this
abbrev rest_of : NextAction → Code → Code
rest_of (does d rest) c = rest
rest_of _ c = c

abbrev held_of : NextAction → Code → Code
held_of (tests t held failed) c = held
held_of _ c = c

abbrev failed_of : NextAction → Code → Code
failed_of (tests t held failed) c = failed
failed_of _ c = c

-- what an instruction does next, and the same wherever it goes on
record NextIs (op : Operation → Bool) (test : Term → Bool) (x y : NextAction) (at : ℕ → Code) (next other : ℕ) : Type 0 where
  own : action_is op test x ≡ action_is op test y
  stops : action_ends x ≡ action_ends y
  marks : (n o : Bool) → followers_marked x n o ≡ followers_marked y n o
  rest : rest_of x (at next) ≡ at next
  held : held_of x (at next) ≡ at next
  failed : failed_of x (at other) ≡ at other

next_is : (op : Operation → Bool) (test : Term → Bool) (at : ℕ → Code) (act : Act) (next other : ℕ) → NextIs op test (first_by at act next other) (first_by (λ k. code.end) act next other) at next other
next_is op test at acts.End next other = record { own = refl; stops = refl; marks = λ n o. refl; rest = refl; held = refl; failed = refl }
next_is op test at _ next other = record { own = refl; stops = refl; marks = λ n o. refl; rest = refl; held = refl; failed = refl }

or_else : (x y : Bool) → (x || y) ≡ true → (x ≡ true) ⊎ (y ≡ true)
or_else true y is = inl refl
or_else false y is = inr is

either : (x y : Bool) → x ≡ true → (x || y) ≡ true
either true y is = refl
either false y is = absurd (false≢true is)

second : (x y : Bool) → y ≡ true → (x || y) ≡ true
second true y is = refl
second false y is = is

all_of : (x y : Bool) → x ≡ true → y ≡ true → (x && y) ≡ true
all_of true y one two = two
all_of false y one two = absurd (false≢true one)

followed_end : (c : Code) → followed c code.end ≡ c
followed_end code.end = refl
followed_end (code.act d rest) = ap (code.act d) (followed_end rest)
followed_end (code.choice t a b rest) = ap (code.choice t a b) (followed_end rest)
followed_end (code.loop t a rest) = ap (code.loop t a) (followed_end rest)

module _ (op : Operation → Bool) (test : Term → Bool) (lines : List Instruction) (body : Code) (at : ℕ → Code) (follows : FollowsCode lines body at) (marks : List Bool) (marked : AreMarked op test marks lines) where
  abbrev IsMarked : ℕ → Type 0
  IsMarked k = is_marked marks k ≡ true

  -- some instruction that has a mark stands for this code
  abbrev Stands : Code → Type 0
  Stands c = (j : ℕ) × IsMarked j × (at j ≡ c)

  abbrev AfterDoes : Operation → Code → Type 0
  AfterDoes d rest = (op d ≡ true) × ((ends_turn d ≡ true) ⊎ Stands rest)

  abbrev AfterTests : Term → Code → Code → Type 0
  AfterTests t held failed = (test t ≡ true) × Stands held × Stands failed

  line_does : (o : Option Instruction) (d : Operation) (rest : Code) → ((line : Instruction) → o ≡ Some line → may_be_marked op test marks line ≡ true) → first_if at o ≡ does d rest → AfterDoes d rest
  line_does None d rest right is = absurd (cc is)
  line_does (Some line) d rest right is =
      let n = next_is op test at line.act line.next line.other in
      let parts = both (instruction_is op test line) _ (right line refl) in
      let own : op d ≡ true = ap (action_is op test) (sym is) ∙ n.own ∙ parts.0 in (
        own,
        elim (or_else (turn_ends line) (followers_marked (here line) (is_marked marks line.next) (is_marked marks line.other)) parts.1) [
          | inl stops ↦ inl (ap action_ends (sym is) ∙ n.stops ∙ stops)
          | inr more ↦ inr (
            line.next,
            ap (λ (x : NextAction). followers_marked x (is_marked marks line.next) (is_marked marks line.other)) (sym is) ∙ n.marks (is_marked marks line.next) (is_marked marks line.other) ∙ more,
            sym n.rest ∙ ap (λ (x : NextAction). rest_of x (at line.next)) is,
          )
        ],
      )

  line_tests : (o : Option Instruction) (t : Term) (held failed : Code) → ((line : Instruction) → o ≡ Some line → may_be_marked op test marks line ≡ true) → first_if at o ≡ tests t held failed → AfterTests t held failed
  line_tests None t held failed right is = absurd (cc is)
  line_tests (Some line) t held failed right is =
      let n = next_is op test at line.act line.next line.other in
      let parts = both (instruction_is op test line) _ (right line refl) in
      let own : test t ≡ true = ap (action_is op test) (sym is) ∙ n.own ∙ parts.0 in
      let more : (is_marked marks line.next && is_marked marks line.other) ≡ true = elim (or_else (turn_ends line) (followers_marked (here line) (is_marked marks line.next) (is_marked marks line.other)) parts.1) [
        | inl stops ↦ absurd (false≢true (ap action_ends (sym is) ∙ n.stops ∙ stops))
        | inr more ↦ ap (λ (x : NextAction). followers_marked x (is_marked marks line.next) (is_marked marks line.other)) (sym is) ∙ n.marks (is_marked marks line.next) (is_marked marks line.other) ∙ more
      ] in
      let two = both (is_marked marks line.next) _ more in
      (own, (line.next, two.0, sym n.held ∙ ap (λ (x : NextAction). held_of x (at line.next)) is), (line.other, two.1, sym n.failed ∙ ap (λ (x : NextAction). failed_of x (at line.other)) is))

  at_does : (k : ℕ) (d : Operation) (rest : Code) → IsMarked k → at k ≡ code.act d rest → AfterDoes d rest
  at_does k d rest mark is = line_does (slice_get lines k) d rest (λ line there. marked k line there mark) (sym (follows.each k) ∙ ap first is)

  at_choice : (k : ℕ) (t : Term) (a b rest : Code) → IsMarked k → at k ≡ code.choice t a b rest → AfterTests t (followed a rest) (followed b rest)
  at_choice k t a b rest mark is = line_tests (slice_get lines k) t (followed a rest) (followed b rest) (λ line there. marked k line there mark) (sym (follows.each k) ∙ ap first is)

  at_loop : (k : ℕ) (t : Term) (a rest : Code) → IsMarked k → at k ≡ code.loop t a rest → AfterTests t (followed a (code.loop t a rest)) rest
  at_loop k t a rest mark is = line_tests (slice_get lines k) t (followed a (code.loop t a rest)) rest (λ line there. marked k line there mark) (sym (follows.each k) ∙ ap first is)

  -- statements, where it holds of what follows them if an instruction that has a mark stands for it
  all_by : (a tail : Code) (b : Bool) → (Stands tail → b ≡ true) → Stands (followed a tail) → turn_all op test a b ≡ true
  all_by code.end tail b last there = last there
  all_by (code.act d rest) tail b last there =
      let n = at_does there.0 d (followed rest tail) there.1 there.2 in
      all_of (op d) _ n.0 (elim n.1 [
        | inl stops ↦ either (ends_turn d) (turn_all op test rest b) stops
        | inr more ↦ second (ends_turn d) (turn_all op test rest b) (all_by rest tail b last more)
      ])
  all_by (code.choice t x y rest) tail b last there =
      let n = at_choice there.0 t x y (followed rest tail) there.1 there.2 in
      let after : Stands (followed rest tail) → turn_all op test rest b ≡ true = λ more. all_by rest tail b last more in
      all_of (test t) _ n.0 (all_of (turn_all op test x (turn_all op test rest b)) _ (all_by x (followed rest tail) (turn_all op test rest b) after n.1) (all_by y (followed rest tail) (turn_all op test rest b) after n.2))
  all_by (code.loop t x rest) tail b last there =
      let n = at_loop there.0 t x (followed rest tail) there.1 there.2 in
      all_of (test t) _ n.0 (all_of (turn_all op test x true) _ (all_by x (code.loop t x (followed rest tail)) true (λ more. refl) n.1) (all_by rest tail b last n.2))

  pub mark_tells : (k : ℕ) → is_marked marks k ≡ true → turn_all op test (at k) true ≡ true
  mark_tells k mark = all_by (at k) code.end true (λ more. refl) (k, mark, sym (followed_end (at k)))

pub marks_tell : MarksTell
marks_tell op test instructions body at marks follows marked k mark = mark_tells op test instructions body at follows marks marked k mark
