-- The operations of a method's instructions are those of its code.
use Rattle.script_compiler.proofs.Prelude.{◌≡◌, ℕ, zero, suc, inl, inr, Option, Some, None, List, [], ◌∷◌, ◌++◌, refl, sym, ap, ◌∙◌, subst, arith, slice_get, unwrap_or, none-some, same_Some, Term, Operation, Code, followed, end, act, choice, loop, Instruction, ends, does, tests, first, first_by, first_if, FollowsCode, entry, stands_for, code_written, exchanged, operations_in, operation_of}
use Rattle.std.proofs.lemmas.Bool.Decides.{nat_tests}
use Rattle.script_code.specs.declared.instruction.Act.{Act}
use Rattle.script_code.specs.declared.instruction.Act.TheVariants as acts
use Rattle.script_code.specs.Layout.{code_at}
use Rattle.script_compiler.proofs.Membership.{Has, has_left, has_right, has_cases}

same_act : (d e : Operation) (a b : Code) → act d a ≡ act e b → d ≡ e
same_act d e a b h = cc

same_operation : (d e : Operation) (a b : Code) → does d a ≡ does e b → d ≡ e
same_operation d e a b h = cc

no_end : (d : Operation) (c : Code) → end ≡ act d c → ⊥
no_end d c h = cc

no_choice : (t : Term) (a b r : Code) (d : Operation) (c : Code) → choice t a b r ≡ act d c → ⊥
no_choice t a b r d c h = cc

no_loop : (t : Term) (a r : Code) (d : Operation) (c : Code) → loop t a r ≡ act d c → ⊥
no_loop t a r d c h = cc

not_ends : (d : Operation) (c : Code) → ends ≡ does d c → ⊥
not_ends d c h = cc

not_tests : (t : Term) (a b : Code) (d : Operation) (c : Code) → tests t a b ≡ does d c → ⊥
not_tests t a b d c h = cc

-- an operation with which a part of the code begins stands in the code
stands_in : (body after c : Code) (d : Operation) → Has (stands_for body after) (act d c) → Has (operations_in body) d
stands_in end after c d h = absurd h
stands_in (act e rest) after c d h = elim (has_cases (stands_for rest after) (act e (followed rest after) ∷ []) (act d c) h) [
  | inl g ↦ inr (stands_in rest after c d g)
  | inr g ↦ elim g [ inl s ↦ inl (same_act e d _ c s) | inr n ↦ absurd n ]
]
stands_in (choice t a b rest) after c d h =
    let more = followed rest after in
    elim (has_cases (stands_for rest after) (stands_for b more ++ (stands_for a more ++ choice t a b more ∷ [])) (act d c) h) [
      | inl g ↦ has_right (operations_in a) (operations_in b ++ operations_in rest) d (has_right (operations_in b) (operations_in rest) d (stands_in rest after c d g))
      | inr g ↦ elim (has_cases (stands_for b more) (stands_for a more ++ choice t a b more ∷ []) (act d c) g) [
        | inl i ↦ has_right (operations_in a) (operations_in b ++ operations_in rest) d (has_left (operations_in b) (operations_in rest) d (stands_in b more c d i))
        | inr i ↦ elim (has_cases (stands_for a more) (choice t a b more ∷ []) (act d c) i) [
          | inl j ↦ has_left (operations_in a) (operations_in b ++ operations_in rest) d (stands_in a more c d j)
          | inr j ↦ elim j [ inl s ↦ absurd (no_choice t a b more d c s) | inr n ↦ absurd n ]
        ]
      ]
    ]
stands_in (loop t a rest) after c d h =
    let here = loop t a (followed rest after) in
    elim (has_cases (stands_for rest after) (here ∷ stands_for a here) (act d c) h) [
      | inl g ↦ has_right (operations_in a) (operations_in rest) d (stands_in rest after c d g)
      | inr g ↦ elim g [ inl s ↦ absurd (no_loop t a (followed rest after) d c s) | inr n ↦ has_left (operations_in a) (operations_in rest) d (stands_in a here c d n) ]
    ]

-- with each operation of the code a part of it begins
stands_all : (body after : Code) (d : Operation) → Has (operations_in body) d → (c : Code) × Has (stands_for body after) (act d c)
stands_all end after d h = absurd h
stands_all (act e rest) after d (inl s) = (followed rest after, has_right (stands_for rest after) (act e (followed rest after) ∷ []) (act d (followed rest after)) (inl (ap (λ x. act x (followed rest after)) s)))
stands_all (act e rest) after d (inr h) = let r = stands_all rest after d h in (r.0, has_left (stands_for rest after) (act e (followed rest after) ∷ []) (act d r.0) r.1)
stands_all (choice t a b rest) after d h =
    let more = followed rest after in
    let last = choice t a b more ∷ [] in
    elim (has_cases (operations_in a) (operations_in b ++ operations_in rest) d h) [
      | inl g ↦ let r = stands_all a more d g in (r.0, has_right (stands_for rest after) (stands_for b more ++ (stands_for a more ++ last)) (act d r.0) (has_right (stands_for b more) (stands_for a more ++ last) (act d r.0) (has_left (stands_for a more) last (act d r.0) r.1)))
      | inr g ↦ elim (has_cases (operations_in b) (operations_in rest) d g) [
        | inl i ↦ let r = stands_all b more d i in (r.0, has_right (stands_for rest after) (stands_for b more ++ (stands_for a more ++ last)) (act d r.0) (has_left (stands_for b more) (stands_for a more ++ last) (act d r.0) r.1))
        | inr i ↦ let r = stands_all rest after d i in (r.0, has_left (stands_for rest after) (stands_for b more ++ (stands_for a more ++ last)) (act d r.0) r.1)
      ]
    ]
stands_all (loop t a rest) after d h =
    let here = loop t a (followed rest after) in
    elim (has_cases (operations_in a) (operations_in rest) d h) [
      | inl g ↦ let r = stands_all a here d g in (r.0, has_right (stands_for rest after) (here ∷ stands_for a here) (act d r.0) (inr r.1))
      | inr g ↦ let r = stands_all rest after d g in (r.0, has_left (stands_for rest after) (here ∷ stands_for a here) (act d r.0) r.1)
    ]

read_has : (cs : List Code) (j : ℕ) (d : Operation) (c : Code) → unwrap_or (slice_get cs j) end ≡ act d c → Has cs (act d c)
read_has [] j d c e = absurd (no_end d c e)
read_has (x ∷ cs) zero d c e = inl e
read_has (x ∷ cs) (suc j) d c e = inr (read_has cs j d c e)

has_read : (cs : List Code) (x : Code) → Has cs x → (j : ℕ) × (unwrap_or (slice_get cs j) end ≡ x)
has_read [] x h = absurd h
has_read (y ∷ cs) x (inl e) = (0, e)
has_read (y ∷ cs) x (inr h) = let r = has_read cs x h in (suc r.0, r.1)

exchanged_back : (first k : ℕ) → exchanged first (exchanged first k) ≡ k
exchanged_back first k = grind (arith, nat_tests)

-- the code that an instruction stands for
at_stands : (body : Code) (k : ℕ) (d : Operation) (c : Code) → code_at body k ≡ act d c → Has (operations_in body) d
unfolding code_at
at_stands body k d c e = elim (read_has (end ∷ stands_for body end) (exchanged (entry body 1 0) k) d c e) [
  | inl s ↦ absurd (no_end d c s)
  | inr h ↦ stands_in body end c d h
]

stands_at : (body : Code) (d : Operation) → Has (operations_in body) d → (k : ℕ) × (c : Code) × (code_at body k ≡ act d c)
unfolding code_at
stands_at body d h =
    let s = stands_all body end d h in
    let first' = entry body 1 0 in
    let r = has_read (end ∷ stands_for body end) (act d s.0) (inr s.1) in
    (exchanged first' r.0, s.0, ap (code_written body) (exchanged_back first' r.0) ∙ r.1)

begins_act : (x : Code) (d : Operation) (c : Code) → first x ≡ does d c → (r : Code) × (x ≡ act d r)
begins_act end d c e = absurd (not_ends d c e)
begins_act (act f rest) d c e = (rest, ap (λ g. act g rest) (same_operation f d rest c e))
begins_act (choice t a b rest) d c e = absurd (not_tests t _ _ d c e)
begins_act (loop t a rest) d c e = absurd (not_tests t _ _ d c e)

act_begins : (x : Code) (d : Operation) (c : Code) → x ≡ act d c → first x ≡ does d c
act_begins x d c e = ap first e

does_operation : (at : ℕ → Code) (a : Act) (n o : ℕ) (d : Operation) → operation_of a ≡ Some d → first_by at a n o ≡ does d (at n)
does_operation at acts.End n o d h = absurd (none-some d h)
does_operation at (acts.Test w) n o d h = absurd (none-some d h)
does_operation at (acts.SetVariable w x) n o d h = ap (λ e. does e (at n)) (same_Some _ d h)
does_operation at (acts.SetField w x) n o d h = ap (λ e. does e (at n)) (same_Some _ d h)
does_operation at (acts.Return w) n o d h = ap (λ e. does e (at n)) (same_Some _ d h)
does_operation at (acts.Throw w) n o d h = ap (λ e. does e (at n)) (same_Some _ d h)
does_operation at acts.Check n o d h = ap (λ e. does e (at n)) (same_Some _ d h)
does_operation at acts.Yield n o d h = ap (λ e. does e (at n)) (same_Some _ d h)
does_operation at (acts.Wait w) n o d h = ap (λ e. does e (at n)) (same_Some _ d h)
does_operation at (acts.Receive w x) n o d h = ap (λ e. does e (at n)) (same_Some _ d h)
does_operation at (acts.Spawn w x y) n o d h = ap (λ e. does e (at n)) (same_Some _ d h)
does_operation at (acts.Detach w x y) n o d h = ap (λ e. does e (at n)) (same_Some _ d h)
does_operation at (acts.Add w x y z) n o d h = ap (λ e. does e (at n)) (same_Some _ d h)
does_operation at (acts.Cancel w) n o d h = ap (λ e. does e (at n)) (same_Some _ d h)
does_operation at (acts.Open w) n o d h = ap (λ e. does e (at n)) (same_Some _ d h)
does_operation at acts.Close n o d h = ap (λ e. does e (at n)) (same_Some _ d h)
does_operation at (acts.Bind w x) n o d h = ap (λ e. does e (at n)) (same_Some _ d h)
does_operation at acts.Unbind n o d h = ap (λ e. does e (at n)) (same_Some _ d h)
does_operation at acts.Assume n o d h = ap (λ e. does e (at n)) (same_Some _ d h)
does_operation at acts.Isolated n o d h = ap (λ e. does e (at n)) (same_Some _ d h)

operation_done : (at : ℕ → Code) (a : Act) (n o : ℕ) (d : Operation) (c : Code) → first_by at a n o ≡ does d c → operation_of a ≡ Some d
operation_done at acts.End n o d c h = cc
operation_done at (acts.Test w) n o d c h = cc
operation_done at (acts.SetVariable w x) n o d c h = ap Some (same_operation _ d _ c h)
operation_done at (acts.SetField w x) n o d c h = ap Some (same_operation _ d _ c h)
operation_done at (acts.Return w) n o d c h = ap Some (same_operation _ d _ c h)
operation_done at (acts.Throw w) n o d c h = ap Some (same_operation _ d _ c h)
operation_done at acts.Check n o d c h = ap Some (same_operation _ d _ c h)
operation_done at acts.Yield n o d c h = ap Some (same_operation _ d _ c h)
operation_done at (acts.Wait w) n o d c h = ap Some (same_operation _ d _ c h)
operation_done at (acts.Receive w x) n o d c h = ap Some (same_operation _ d _ c h)
operation_done at (acts.Spawn w x y) n o d c h = ap Some (same_operation _ d _ c h)
operation_done at (acts.Detach w x y) n o d c h = ap Some (same_operation _ d _ c h)
operation_done at (acts.Add w x y z) n o d c h = ap Some (same_operation _ d _ c h)
operation_done at (acts.Cancel w) n o d c h = ap Some (same_operation _ d _ c h)
operation_done at (acts.Open w) n o d c h = ap Some (same_operation _ d _ c h)
operation_done at acts.Close n o d c h = ap Some (same_operation _ d _ c h)
operation_done at (acts.Bind w x) n o d c h = ap Some (same_operation _ d _ c h)
operation_done at acts.Unbind n o d c h = ap Some (same_operation _ d _ c h)
operation_done at acts.Assume n o d c h = ap Some (same_operation _ d _ c h)
operation_done at acts.Isolated n o d c h = ap Some (same_operation _ d _ c h)

-- the operations of instructions
abbrev pub operation_list : Option Operation → List Operation
operation_list None = []
operation_list (Some d) = d ∷ []

abbrev pub operations_along : List Instruction → List Operation
operations_along [] = []
operations_along (x ∷ others) = operation_list (operation_of x.act) ++ operations_along others

listed : (o : Option Operation) (d : Operation) → Has (operation_list o) d → o ≡ Some d
listed None d h = absurd h
listed (Some e) d (inl s) = ap Some s
listed (Some e) d (inr n) = absurd n

listing : (o : Option Operation) (d : Operation) → o ≡ Some d → Has (operation_list o) d
listing o d e = subst (λ (p : Option Operation). Has (operation_list p) d) (sym e) (inl refl)

-- the instruction of an operation
pub record Does (lines : List Instruction) (d : Operation) : Type 0 where
  pub number : ℕ
  pub line : Instruction
  pub there : slice_get lines number ≡ Some line
  pub does_it : operation_of line.act ≡ Some d

line_of : (lines : List Instruction) (d : Operation) → Has (operations_along lines) d → Does lines d
line_of [] d h = absurd h
line_of (x ∷ others) d h = elim (has_cases (operation_list (operation_of x.act)) (operations_along others) d h) [
  | inl g ↦ record { number = 0; line = x; there = refl; does_it = listed (operation_of x.act) d g }
  | inr g ↦ let r = line_of others d g in record { number = suc r.number; line = r.line; there = r.there; does_it = r.does_it }
]

along_of : (lines : List Instruction) (k : ℕ) (x : Instruction) (d : Operation) → slice_get lines k ≡ Some x → operation_of x.act ≡ Some d → Has (operations_along lines) d
along_of [] k x d h e = absurd (none-some x h)
along_of (y ∷ others) zero x d h e =
    has_left (operation_list (operation_of y.act)) (operations_along others) d (listing (operation_of y.act) d (ap (λ (z : Instruction). operation_of z.act) (same_Some y x h) ∙ e))
along_of (y ∷ others) (suc k) x d h e = has_right (operation_list (operation_of y.act)) (operations_along others) d (along_of others k x d h e)

-- an instruction that does something is there
there_if : (at : ℕ → Code) (o : Option Instruction) (d : Operation) (c : Code) → first_if at o ≡ does d c → (x : Instruction) × (o ≡ Some x) × (operation_of x.act ≡ Some d)
there_if at None d c e = absurd (not_ends d c e)
there_if at (Some x) d c e = (x, refl, operation_done at x.act x.next x.other d c e)

-- the operations of the instructions are those of the code
pub along_in : (lines : List Instruction) (body : Code) → FollowsCode lines body (code_at body) → (d : Operation) → Has (operations_along lines) d → Has (operations_in body) d
along_in lines body f d h =
    let at = code_at body in
    let l = line_of lines d h in
    let begins : first (at l.number) ≡ does d (at l.line.next) =
    f.each l.number ∙ ap (first_if at) l.there ∙ does_operation at l.line.act l.line.next l.line.other d l.does_it in
    let r = begins_act (at l.number) d (at l.line.next) begins in
    at_stands body l.number d r.0 r.1

pub in_along : (lines : List Instruction) (body : Code) → FollowsCode lines body (code_at body) → (d : Operation) → Has (operations_in body) d → Has (operations_along lines) d
in_along lines body f d h =
    let at = code_at body in
    let s = stands_at body d h in
    let begins : first_if at (slice_get lines s.0) ≡ does d s.1 = sym (f.each s.0) ∙ act_begins (at s.0) d s.1 s.2 in
    let t = there_if at (slice_get lines s.0) d s.1 begins in
    along_of lines s.0 t.0 d t.1 t.2
