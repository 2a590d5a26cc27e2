-- Each statement of a method is so where each of its instructions is.
use Rattle.swift_reordering.proofs.Prelude.{◌≡◌, ℕ, zero, suc, List, [], ◌∷◌, refl, sym, ◌∙◌, ap, Bool, true, false, Option, Some, None, All, Contains, ◌&&◌, slice_get, false≢true, same_Some, none-some, All-contains, Term, Operation, Code, followed, does, tests, first, first_by, first_if, FollowsCode, Act, Instruction, code_all, action_is, instruction_is, operation_spares, term_spares, InstructionsSpare}
use Rattle.script_code.specs.Tree as code
use Rattle.script_code.specs.declared.instruction.Act.TheVariants as acts
use Rattle.swift_reordering.proofs.Priorities.{cons_here, cons_more}

module _ (op : Operation → Bool) (test : Term → Bool) where
  -- what an instruction does is so or not, whatever its followers stand for
  same_action : (at other : ℕ → Code) (a : Act) (next last : ℕ) → action_is op test (first_by at a next last) ≡ action_is op test (first_by other a next last)
  same_action at other acts.End next last = refl
  same_action at other _ next last = refl

-- where it does something, that goes on at a number
goes_on_at : (at : ℕ → Code) (a : Act) (next last : ℕ) (d : Operation) (rest : Code) → does d rest ≡ first_by at a next last → (k : ℕ) × (at k ≡ rest)
goes_on_at at acts.End next last d rest is = absurd (cc is)
goes_on_at at (acts.Test e) next last d rest is = absurd (cc is)
goes_on_at at a next last d rest is = (next, cc is)

goes_on_if : (at : ℕ → Code) (o : Option Instruction) (d : Operation) (rest : Code) → does d rest ≡ first_if at o → (k : ℕ) × (at k ≡ rest)
goes_on_if at None d rest is = absurd (cc is)
goes_on_if at (Some line) d rest is = goes_on_at at line.act line.next line.other d rest is

-- where it tests, it goes on at two
tests_at : (at : ℕ → Code) (a : Act) (next last : ℕ) (t : Term) (held failed : Code) → tests t held failed ≡ first_by at a next last → ((k : ℕ) × (at k ≡ held)) × ((k : ℕ) × (at k ≡ failed))
tests_at at (acts.Test e) next last t held failed is = ((next, cc is), (last, cc is))
tests_at at a next last t held failed is = absurd (cc is)

tests_if : (at : ℕ → Code) (o : Option Instruction) (t : Term) (held failed : Code) → tests t held failed ≡ first_if at o → ((k : ℕ) × (at k ≡ held)) × ((k : ℕ) × (at k ≡ failed))
tests_if at None t held failed is = absurd (cc is)
tests_if at (Some line) t held failed is = tests_at at line.act line.next line.other t held failed is

contains_at : {A : Type 0} (xs : List A) (k : ℕ) (x : A) → slice_get xs k ≡ Some x → Contains xs x
contains_at [] k x is = absurd (none-some x is)
contains_at (y ∷ ys) zero x is = cons_here y ys x (same_Some y x is)
contains_at (y ∷ ys) (suc k) x is = cons_more y ys x (contains_at ys k x is)

all_true : (a b : Bool) → a ≡ true → b ≡ true → (a && b) ≡ true
all_true true b one two = two
all_true false b one two = absurd (false≢true one)

module _ (op : Operation → Bool) (test : Term → Bool) (instructions : List Instruction) (body : Code) (at : ℕ → Code) (follows : FollowsCode instructions body at) (all : All (λ line. instruction_is op test line ≡ true) instructions) where
  line_if : (o : Option Instruction) (k : ℕ) → slice_get instructions k ≡ o → action_is op test (first_if at o) ≡ true
  line_if None k is = refl
  line_if (Some line) k is = same_action op test at (λ n. code.end) line.act line.next line.other ∙ All-contains (λ x. instruction_is op test x ≡ true) instructions line all (contains_at instructions k line is)

  line_is : (k : ℕ) → action_is op test (first (at k)) ≡ true
  line_is k = ap (action_is op test) (follows.each k) ∙ line_if (slice_get instructions k) k refl

  -- what statements begin with, and where they go on

  after_act : (d : Operation) (rest : Code) (k : ℕ) → at k ≡ code.act d rest → (op d ≡ true) × ((n : ℕ) × (at n ≡ rest))
  after_act d rest k is = (
    ap (λ (c : Code). action_is op test (first c)) (sym is) ∙ line_is k,
    goes_on_if at (slice_get instructions k) d rest (ap first (sym is) ∙ follows.each k),
  )

  after_test : (c : Code) (t : Term) (held failed : Code) (k : ℕ) → at k ≡ c → first c ≡ tests t held failed → (test t ≡ true) × ((n : ℕ) × (at n ≡ held)) × ((n : ℕ) × (at n ≡ failed))
  after_test c t held failed k is begins =
      let both = tests_if at (slice_get instructions k) t held failed (sym begins ∙ ap first (sym is) ∙ follows.each k) in
      (ap (action_is op test) (sym begins) ∙ ap (λ (x : Code). action_is op test (first x)) (sym is) ∙ line_is k, both.0, both.1)

  -- what follows statements stands somewhere
  end_at : (c after : Code) (k : ℕ) → at k ≡ followed c after → (n : ℕ) × (at n ≡ after)
  end_at code.end after k is = (k, is)
  end_at (code.act d rest) after k is = (let a = after_act d (followed rest after) k is in end_at rest after a.1.0 a.1.1)
  end_at (code.choice t x y rest) after k is =
      let a = after_test (followed (code.choice t x y rest) after) t (followed x (followed rest after)) (followed y (followed rest after)) k is refl in
      let b = end_at x (followed rest after) a.1.0 a.1.1 in
      end_at rest after b.0 b.1
  end_at (code.loop t x rest) after k is =
      let a = after_test (followed (code.loop t x rest) after) t (followed x (followed (code.loop t x rest) after)) (followed rest after) k is refl in
      end_at rest after a.2.0 a.2.1

  part_is : (c after : Code) (k : ℕ) → at k ≡ followed c after → code_all op test c ≡ true
  part_is code.end after k is = refl
  part_is (code.act d rest) after k is = (let a = after_act d (followed rest after) k is in all_true _ _ a.0 (part_is rest after a.1.0 a.1.1))
  part_is (code.choice t x y rest) after k is =
      let a = after_test (followed (code.choice t x y rest) after) t (followed x (followed rest after)) (followed y (followed rest after)) k is refl in
      let b = end_at x (followed rest after) a.1.0 a.1.1 in
      all_true _ _ a.0 (all_true _ _ (part_is x (followed rest after) a.1.0 a.1.1) (all_true _ _ (part_is y (followed rest after) a.2.0 a.2.1) (part_is rest after b.0 b.1)))
  part_is (code.loop t x rest) after k is =
      let a = after_test (followed (code.loop t x rest) after) t (followed x (followed (code.loop t x rest) after)) (followed rest after) k is refl in
      all_true _ _ a.0 (all_true _ _ (part_is x (followed (code.loop t x rest) after) a.1.0 a.1.1) (part_is rest after a.2.0 a.2.1))

  ends_so : (c : Code) → followed c code.end ≡ c
  ends_so code.end = refl
  ends_so (code.act d rest) = ap (code.act d) (ends_so rest)
  ends_so (code.choice t x y rest) = ap (code.choice t x y) (ends_so rest)
  ends_so (code.loop t x rest) = ap (code.loop t x) (ends_so rest)

  body_is : code_all op test body ≡ true
  body_is = part_is body code.end 0 (follows.start ∙ sym (ends_so body))

pub instructions_spare : InstructionsSpare
instructions_spare t instructions body at follows all = body_is (operation_spares t) term_spares instructions body at follows all
