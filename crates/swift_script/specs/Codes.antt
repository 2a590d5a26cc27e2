-- Script trees can be told apart, as the values of a type must be: expressions and blocks are stored in postfix form. No
-- public clause names these words.
use Rattle.std.specs.Prelude.{◌≡◌, ◌⊎◌, ℕ, ℤ, Bool, true, false, List, [], ◌∷◌, refl}
use Rattle.std.proofs.Common.{◌∙◌, inl, inr, ap}
use Rattle.std.specs.Coded.{Coded, code_by, coded_ℕ, coded_ℤ, coded_bool, coded_list, coded⊎}
use Rattle.swift_types.specs.declared.operator.Operator.{Operator}
use Rattle.swift_types.specs.contracts.operator.Operator as operator
use Rattle.script_grammar.specs.Tree.{ExprTree, Number, Named, Local, OwnPriority, IsCancelled, Negated, Inverted, Both, ActionTree, Check, HeadTree, StmtTree, Do, Headed, IfElse, BlockTree, nothing, first_then}

-- A step makes an expression of those before it: a number, a name, a task local, what is known of the task, a prefix, or an
-- operator.
abbrev pub Step : Type 0
Step = ℤ ⊎ (List ℕ ⊎ (List ℕ ⊎ (Bool ⊎ (Bool ⊎ Operator))))

-- the steps of an expression, in front of others
abbrev pub steps : ExprTree → List Step → List Step
steps (Number n) after = inl n ∷ after
steps (Named n) after = inr (inl n) ∷ after
steps (Local n) after = inr (inr (inl n)) ∷ after
steps OwnPriority after = inr (inr (inr (inl true))) ∷ after
steps IsCancelled after = inr (inr (inr (inl false))) ∷ after
steps (Negated a) after = steps a (inr (inr (inr (inr (inl true)))) ∷ after)
steps (Inverted a) after = steps a (inr (inr (inr (inr (inl false)))) ∷ after)
steps (Both o a b) after = steps a (steps b (inr (inr (inr (inr (inr o)))) ∷ after))

-- the first expression with a minus before it, or with a `!` where the flag is false; no expression where there is none
abbrev pub with_prefix : Bool → List ExprTree → List ExprTree
with_prefix b [] = []
with_prefix true (a ∷ es) = Negated a ∷ es
with_prefix false (a ∷ es) = Inverted a ∷ es

-- an operator between the second expression and the first; no expression where there are not two
abbrev pub with_operator : Operator → List ExprTree → List ExprTree
with_operator o [] = []
with_operator o (b ∷ []) = []
with_operator o (b ∷ a ∷ es) = Both o a b ∷ es

-- what a step makes, in front of the other expressions
abbrev pub stepped : Step → List ExprTree → List ExprTree
stepped (inl n) es = Number n ∷ es
stepped (inr (inl n)) es = Named n ∷ es
stepped (inr (inr (inl n))) es = Local n ∷ es
stepped (inr (inr (inr (inl true)))) es = OwnPriority ∷ es
stepped (inr (inr (inr (inl false)))) es = IsCancelled ∷ es
stepped (inr (inr (inr (inr (inl p))))) es = with_prefix p es
stepped (inr (inr (inr (inr (inr o))))) es = with_operator o es

-- what steps make, in order, from the expressions `es`
abbrev pub all_stepped : List Step → List ExprTree → List ExprTree
all_stepped [] es = es
all_stepped (m ∷ ms) es = all_stepped ms (stepped m es)

-- the first expression, or the task's own priority where there is none
abbrev pub first_expression : List ExprTree → ExprTree
first_expression [] = OwnPriority
first_expression (e ∷ es) = e

-- the steps of an expression make it, in front of the other expressions
pub steps_make : (e : ExprTree) (after : List Step) (es : List ExprTree) → all_stepped (steps e after) es ≡ all_stepped after (e ∷ es)
steps_make (Number n) after es = refl
steps_make (Named n) after es = refl
steps_make (Local n) after es = refl
steps_make OwnPriority after es = refl
steps_make IsCancelled after es = refl
steps_make (Negated a) after es = steps_make a (inr (inr (inr (inr (inl true)))) ∷ after) es
steps_make (Inverted a) after es = steps_make a (inr (inr (inr (inr (inl false)))) ∷ after) es
steps_make (Both o a b) after es = steps_make a (steps b (inr (inr (inr (inr (inr o)))) ∷ after)) es ∙ steps_make b (inr (inr (inr (inr (inr o)))) ∷ after) (a ∷ es)

-- an expression is stored as its steps
abbrev pub expression_code : Coded ExprTree
expression_code =
    code_by (List Step) (coded_list (coded⊎ coded_ℤ (coded⊎ (coded_list coded_ℕ) (coded⊎ (coded_list coded_ℕ) (coded⊎ coded_bool (coded⊎ coded_bool operator.the_row.coded)))))) (λ e. steps e [])
    (λ ms. first_expression (all_stepped ms [])) (λ e. ap first_expression (steps_make e [] []))

-- A step makes a block of those before it: one without statements, a statement in front of a block, or a statement as a
-- block of its own: an action, a head before a block, or a test before two.
abbrev pub BlockStep : Type 0
BlockStep = Bool ⊎ (ActionTree ⊎ (HeadTree ⊎ ExprTree))

abbrev mutual
  -- the steps of a statement, in front of others
  pub statement_steps : StmtTree → List BlockStep → List BlockStep
  statement_steps (Do a) after = inr (inl a) ∷ after
  statement_steps (Headed h b) after = block_steps b (inr (inr (inl h)) ∷ after)
  statement_steps (IfElse t a b) after = block_steps a (block_steps b (inr (inr (inr t)) ∷ after))

  -- the steps of a block, in front of others
  pub block_steps : BlockTree → List BlockStep → List BlockStep
  block_steps nothing after = inl true ∷ after
  block_steps (first_then s b) after = statement_steps s (block_steps b (inl false ∷ after))

-- the block of one statement
abbrev pub alone : StmtTree → BlockTree
alone s = first_then s nothing

-- the first statement of a block, in front of another block
abbrev pub in_front : BlockTree → BlockTree → BlockTree
in_front nothing b = b
in_front (first_then s rest) b = first_then s b

-- the statement of the second block in front of the first block; no block where there are not two
abbrev pub with_front : List BlockTree → List BlockTree
with_front [] = []
with_front (b ∷ []) = []
with_front (b ∷ a ∷ bs) = in_front a b ∷ bs

-- a head before the first block, as a block of its own; no block where there is none
abbrev pub with_head : HeadTree → List BlockTree → List BlockTree
with_head h [] = []
with_head h (b ∷ bs) = alone (Headed h b) ∷ bs

-- a test before the second block and the first, as a block of its own; no block where there are not two
abbrev pub with_test : ExprTree → List BlockTree → List BlockTree
with_test t [] = []
with_test t (b ∷ []) = []
with_test t (b ∷ a ∷ bs) = alone (IfElse t a b) ∷ bs

-- what a step makes, in front of the other blocks
abbrev pub block_stepped : BlockStep → List BlockTree → List BlockTree
block_stepped (inl true) bs = nothing ∷ bs
block_stepped (inl false) bs = with_front bs
block_stepped (inr (inl a)) bs = alone (Do a) ∷ bs
block_stepped (inr (inr (inl h))) bs = with_head h bs
block_stepped (inr (inr (inr t))) bs = with_test t bs

-- what steps make, in order, from the blocks `bs`
abbrev pub all_block_stepped : List BlockStep → List BlockTree → List BlockTree
all_block_stepped [] bs = bs
all_block_stepped (m ∷ ms) bs = all_block_stepped ms (block_stepped m bs)

-- the first block, or one without statements where there is none
abbrev pub first_block : List BlockTree → BlockTree
first_block [] = nothing
first_block (b ∷ bs) = b

mutual
  -- the steps of a statement make the block of it alone, in front of the other blocks
  pub statement_steps_make : (s : StmtTree) (after : List BlockStep) (bs : List BlockTree) → all_block_stepped (statement_steps s after) bs ≡ all_block_stepped after (alone s ∷ bs)
  statement_steps_make (Do a) after bs = refl
  statement_steps_make (Headed h b) after bs = block_steps_make b (inr (inr (inl h)) ∷ after) bs
  statement_steps_make (IfElse t a b) after bs = block_steps_make a (block_steps b (inr (inr (inr t)) ∷ after)) bs ∙ block_steps_make b (inr (inr (inr t)) ∷ after) (a ∷ bs)

  -- the steps of a block make it, in front of the other blocks
  pub block_steps_make : (b : BlockTree) (after : List BlockStep) (bs : List BlockTree) → all_block_stepped (block_steps b after) bs ≡ all_block_stepped after (b ∷ bs)
  block_steps_make nothing after bs = refl
  block_steps_make (first_then s b) after bs = statement_steps_make s (block_steps b (inl false ∷ after)) bs ∙ block_steps_make b (inl false ∷ after) (alone s ∷ bs)

-- a block is stored as its steps, where `a` and `h` say how actions and heads are
abbrev pub block_code : Coded ActionTree → Coded HeadTree → Coded BlockTree
block_code a h =
    code_by (List BlockStep) (coded_list (coded⊎ coded_bool (coded⊎ a (coded⊎ h expression_code)))) (λ b. block_steps b []) (λ ms. first_block (all_block_stepped ms []))
    (λ b. ap first_block (block_steps_make b [] []))

-- the first statement of a block, or `check` where there is none
abbrev pub statement_in : BlockTree → StmtTree
statement_in nothing = Do Check
statement_in (first_then s b) = s

-- a statement is stored as the block of it alone
abbrev pub statement_code : Coded BlockTree → Coded StmtTree
statement_code b = code_by BlockTree b alone statement_in (λ s. refl)
