-- Statements and blocks that are spelled are read.
use Rattle.script_parser.proofs.Prelude.{◌≡◌, ℕ, zero, suc, ◌<◌, Bool, true, false, List, [], ◌∷◌, ◌++◌, length, None, Ok, refl, sym, ap, subst, ◌∙◌, append_assoc, length-append, arith, TokenView, Key, Sign, Every, Region, ExprTree, ActionTree, HeadTree, If, StmtTree, Do, Headed, IfElse, block_tree, IsExpression, spawned, detached, SpellsAction, defines, defines_task, assigns, awaits, makes, adds, cancels, returns, throws, checks, yields, SpellsHead, tests, repeats, binds, groups, assumes, SpellsStmt, SpellsBlock, SpellsStmts, does, holds, chooses, braces, none, more, ◌>>=◌, action_at, ReadBlock, region_in, many_at}
use Rattle.script_tokens.specs.declared.keyword.Keyword.TheVariants as key
use Rattle.script_tokens.specs.declared.mark.Mark.TheVariants as mark
use Rattle.script_parser.specs.Model.Parts.{name_at, sign_at, brace_at}
use Rattle.script_parser.specs.Model.Expressions.{operator_at}
use Rattle.script_parser.specs.Model.Actions.{may_begin}
use Rattle.script_parser.specs.Model.Statements.{head_part_at, head_at, choice_at, headed_at, stmt_at, block_at}
use Rattle.script_parser.proofs.Complete.{Stops, expr_again}
use Rattle.script_parser.proofs.Items.{items_next, items_end}
use Rattle.script_parser.proofs.Tokens.{brace_now}
use Rattle.script_parser.proofs.ActionsComplete.{begun_now, action_again}

-- what a block begins with
abbrev BeginsBlock : List TokenView → Type 0
BeginsBlock ts = (us : List TokenView) × (ts ≡ Sign mark.OpenBrace ∷ us)

block_begins : {limit o : ℕ} {r : Region} {ts : List TokenView} {ss : List StmtTree} → SpellsBlock limit r o ts ss → BeginsBlock ts
block_begins (braces {ts} d) = (ts ++ Sign mark.CloseBrace ∷ [], refl)

stops_brace : (rest : List TokenView) → Stops 5 (Sign mark.OpenBrace ∷ rest)
unfolding operator_at
stops_brace rest j le = refl

stops_block : (ts rest : List TokenView) → BeginsBlock ts → Stops 5 (ts ++ rest)
stops_block ts rest b = subst (λ (w : List TokenView). Stops 5 (w ++ rest)) (sym b.1) (stops_brace (b.0 ++ rest))

-- nothing else begins as an `else` does
abbrev pub is_else : List TokenView → Bool
is_else (Key key.Else ∷ ts) = true
is_else _ = false

-- no statement is empty, and none begins with a closing brace or an `else`
record BeginsStmt (ts : List TokenView) : Type 0 where
  some : 0 < length ts
  no_brace : (rest : List TokenView) → brace_at (ts ++ rest) ≡ None
  no_else : (rest : List TokenView) → is_else (ts ++ rest) ≡ false

action_begins : {limit : ℕ} {r : Region} {ts : List TokenView} {a : ActionTree} → SpellsAction limit r ts a → BeginsStmt ts
unfolding brace_at
action_begins (defines n d) = record { some = omega arith; no_brace = λ rest. refl; no_else = λ rest. refl }
action_begins (defines_task n may d) = record { some = omega arith; no_brace = λ rest. refl; no_else = λ rest. refl }
action_begins (assigns n d) = record { some = omega arith; no_brace = λ rest. refl; no_else = λ rest. refl }
action_begins (awaits may d) = record { some = omega arith; no_brace = λ rest. refl; no_else = λ rest. refl }
action_begins (makes may (spawned d g)) = record { some = omega arith; no_brace = λ rest. refl; no_else = λ rest. refl }
action_begins (makes may (detached d g)) = record { some = omega arith; no_brace = λ rest. refl; no_else = λ rest. refl }
action_begins (adds may d) = record { some = omega arith; no_brace = λ rest. refl; no_else = λ rest. refl }
action_begins (cancels n may) = record { some = omega arith; no_brace = λ rest. refl; no_else = λ rest. refl }
action_begins (returns may d) = record { some = omega arith; no_brace = λ rest. refl; no_else = λ rest. refl }
action_begins (throws d) = record { some = omega arith; no_brace = λ rest. refl; no_else = λ rest. refl }
action_begins checks = record { some = omega arith; no_brace = λ rest. refl; no_else = λ rest. refl }
action_begins (yields may) = record { some = omega arith; no_brace = λ rest. refl; no_else = λ rest. refl }

head_begins : {limit : ℕ} {r inner : Region} {ts : List TokenView} {h : HeadTree} (us : List TokenView) → SpellsHead limit r ts h inner → BeginsStmt (ts ++ us)
unfolding brace_at
head_begins us (tests d) = record { some = omega arith; no_brace = λ rest. refl; no_else = λ rest. refl }
head_begins us (repeats d) = record { some = omega arith; no_brace = λ rest. refl; no_else = λ rest. refl }
head_begins us (binds n may d) = record { some = omega arith; no_brace = λ rest. refl; no_else = λ rest. refl }
head_begins us (groups n may) = record { some = omega arith; no_brace = λ rest. refl; no_else = λ rest. refl }
head_begins us (assumes n) = record { some = omega arith; no_brace = λ rest. refl; no_else = λ rest. refl }

stmt_begins : {limit o : ℕ} {r : Region} {ts : List TokenView} {s : StmtTree} → SpellsStmt limit r o ts s → BeginsStmt ts
unfolding brace_at
stmt_begins (does d) = action_begins d
stmt_begins (holds {us} d b) = head_begins us d
stmt_begins (chooses d b c) = record { some = omega arith; no_brace = λ rest. refl; no_else = λ rest. refl }

module _ (limit : ℕ) (r : Region) (block : Region → ReadBlock) where
  -- a statement that does not begin as one with a block does
  action_goes : {ts : List TokenView} {a : ActionTree} (rest : List TokenView) → SpellsAction limit r ts a → stmt_at limit r block (ts ++ rest) ≡ (action_at limit r (ts ++ rest) >>= λ a. Ok (Do a.0, a.1))
  unfolding stmt_at
  action_goes rest (defines n d) = refl
  action_goes rest (defines_task n may d) = refl
  action_goes rest (assigns n d) = refl
  action_goes rest (awaits may d) = refl
  action_goes rest (makes may (spawned d g)) = refl
  action_goes rest (makes may (detached d g)) = refl
  action_goes rest (adds may d) = refl
  action_goes rest (cancels n may) = refl
  action_goes rest (returns may d) = refl
  action_goes rest (throws d) = refl
  action_goes rest checks = refl
  action_goes rest (yields may) = refl

  does_again : (ts : List TokenView) (a : ActionTree) (rest : List TokenView) → SpellsAction limit r ts a → stmt_at limit r block (ts ++ rest) ≡ Ok (Do a, rest)
  does_again ts a rest d = action_goes rest d ∙ rw (action_again limit r ts a rest d) refl

  head_is : {inner : Region} {ts : List TokenView} {h : HeadTree} → SpellsHead limit r ts h inner → region_in h r ≡ inner
  head_is (tests d) = refl
  head_is (repeats d) = refl
  head_is (binds n may d) = refl
  head_is (groups n may) = refl
  head_is (assumes n) = refl

  choice_stays : (t : ExprTree) (held : List StmtTree) (ts : List TokenView) → is_else ts ≡ false → choice_at (block r) t held ts ≡ Ok (Headed (If t) (block_tree held), ts)
  unfolding choice_at
  choice_stays t held (Key key.Else ∷ ts) e = absurd cc
  choice_stays t held ts e = refl

  choice_goes : (t : ExprTree) (held : List StmtTree) (ts : List TokenView) (ss : List StmtTree) (rest : List TokenView) → block r ts ≡ Ok (ss, rest) → choice_at (block r) t held (Key key.Else ∷ ts) ≡ Ok (IfElse t (block_tree held) (block_tree ss), rest)
  unfolding choice_at
  choice_goes t held ts ss rest e = rw e refl

  if_again : (ts us rest : List TokenView) (t : ExprTree) (ss : List StmtTree) → IsExpression Every limit limit ts t → BeginsBlock us → block r (us ++ rest) ≡ Ok (ss, rest) → stmt_at limit r block (Key key.If ∷ (ts ++ (us ++ rest))) ≡ choice_at (block r) t ss rest
  unfolding stmt_at
  if_again ts us rest t ss d b read = rw (expr_again Every limit limit ts t (us ++ rest) d (stops_block us rest b), read) refl

  opened_again : (ts us : List TokenView) (h : HeadTree) → may_begin r ts ≡ true → head_part_at limit ts ≡ Ok (h, us) → head_at limit r ts ≡ Ok (h, us)
  unfolding head_at
  opened_again ts us h may read = rw (begun_now r ts may, read) refl

  headed_again : (inner : Region) (ts us : List TokenView) (h : HeadTree) (ss : List StmtTree) (rest : List TokenView) → region_in h r ≡ inner → head_at limit r ts ≡ Ok (h, us) → block inner us ≡ Ok (ss, rest) → headed_at limit r block ts ≡ Ok (Headed h (block_tree ss), rest)
  unfolding headed_at
  headed_again inner ts us h ss rest is head body = rw (head, is, body) refl

  -- a head and its block
  head_again : (inner : Region) (ts us : List TokenView) (h : HeadTree) (ss : List StmtTree) (rest : List TokenView) → SpellsHead limit r ts h inner → BeginsBlock us → block inner (us ++ rest) ≡ Ok (ss, rest) → is_else rest ≡ false → stmt_at limit r block (ts ++ (us ++ rest)) ≡ Ok (Headed h (block_tree ss), rest)
  unfolding stmt_at head_part_at name_at sign_at may_begin
  head_again inner ts us h ss rest (tests {ts = vs} {t} d) b read free = if_again vs us rest t ss d b read ∙ choice_stays t ss rest free
  head_again inner ts us h ss rest (repeats {ts = vs} {t} d) b read free =
      headed_again inner (Key key.While ∷ (vs ++ (us ++ rest))) (us ++ rest) h ss rest (head_is (repeats d))
      (opened_again (Key key.While ∷ (vs ++ (us ++ rest))) (us ++ rest) h refl (rw (expr_again Every limit limit vs t (us ++ rest) d (stops_block us rest b)) refl)) read
  head_again inner ts us h ss rest (binds n {ts = vs} {t} may d) b read free =
      headed_again inner (ts ++ (us ++ rest)) (us ++ rest) h ss rest (head_is (binds n may d))
      (opened_again (ts ++ (us ++ rest)) (us ++ rest) h may (rw (expr_again Every limit limit vs t (us ++ rest) d (stops_block us rest b)) refl)) read
  head_again inner ts us h ss rest (groups n may) b read free = headed_again inner (ts ++ (us ++ rest)) (us ++ rest) h ss rest refl (opened_again (ts ++ (us ++ rest)) (us ++ rest) h may refl) read
  head_again inner ts us h ss rest (assumes n) b read free = headed_again inner (ts ++ (us ++ rest)) (us ++ rest) h ss rest refl (opened_again (ts ++ (us ++ rest)) (us ++ rest) h refl refl) read

module _ (limit : ℕ) where
  mutual
    unfolding block_at sign_at

    stmt_again : {r : Region} {o : ℕ} {ts : List TokenView} {s : StmtTree} (rest : List TokenView) → SpellsStmt limit r o ts s → is_else rest ≡ false → stmt_at limit r (block_at limit o) (ts ++ rest) ≡ Ok (s, rest)
    stmt_again rest (does {r} {o} {ts} {a} d) free = does_again limit r (block_at limit o) ts a rest d
    stmt_again rest (holds {r} {inner} {o} {ts} {us} {h} {ss} d b) free =
        ap (stmt_at limit r (block_at limit o)) (append_assoc ts us rest)
        ∙ head_again limit r (block_at limit o) inner ts us h ss rest d (block_begins b) (block_again rest b) free
    stmt_again rest (chooses {r} {o} {ts} {us} {vs} {t} {ss} {rs} d b c) free =
        let tail = Key key.Else ∷ (vs ++ rest) in
        let inner : (us ++ Key key.Else ∷ vs) ++ rest ≡ us ++ tail = append_assoc us (Key key.Else ∷ vs) rest in
        let regrouped : (ts ++ (us ++ Key key.Else ∷ vs)) ++ rest ≡ ts ++ (us ++ tail) = append_assoc ts (us ++ Key key.Else ∷ vs) rest ∙ ap (λ (w : List TokenView). ts ++ w) inner in
        ap (λ (w : List TokenView). stmt_at limit r (block_at limit o) (Key key.If ∷ w)) regrouped
        ∙ if_again limit r (block_at limit o) ts us tail t ss d (block_begins b) (block_again tail b)
        ∙ choice_goes limit r (block_at limit o) t ss (vs ++ rest) rs rest (block_again rest c)

    block_again : {r : Region} {o : ℕ} {ts : List TokenView} {ss : List StmtTree} (rest : List TokenView) → SpellsBlock limit r o ts ss → block_at limit o r (ts ++ rest) ≡ Ok (ss, rest)
    block_again rest (braces {r} {o} {ts} {ss} d) =
        let regrouped : (ts ++ Sign mark.CloseBrace ∷ []) ++ rest ≡ ts ++ (Sign mark.CloseBrace ∷ rest) = append_assoc ts (Sign mark.CloseBrace ∷ []) rest in
        rw regrouped (many_again (length (ts ++ (Sign mark.CloseBrace ∷ rest))) rest d (omega (arith, length-append ts (Sign mark.CloseBrace ∷ rest))))

    many_again : {r : Region} {o : ℕ} {ts : List TokenView} {ss : List StmtTree} (n : ℕ) (rest : List TokenView) → SpellsStmts limit r o ts ss → length ts < n → many_at limit r (block_at limit o) n (ts ++ (Sign mark.CloseBrace ∷ rest)) ≡ Ok (ss, rest)
    many_again zero rest d lt = absurd (omega arith)
    many_again (suc n) rest (none {r} {o}) lt = items_end brace_at (stmt_at limit r (block_at limit o)) n (Sign mark.CloseBrace ∷ rest) rest (brace_now rest)
    many_again (suc n) rest (more {r} {o} {ts} {us} {s} {ss} d ds) lt =
        let begins = stmt_begins d in
        ap (many_at limit r (block_at limit o) (suc n)) (append_assoc ts us (Sign mark.CloseBrace ∷ rest))
        ∙ items_next brace_at (stmt_at limit r (block_at limit o)) n (ts ++ (us ++ (Sign mark.CloseBrace ∷ rest))) s (us ++ (Sign mark.CloseBrace ∷ rest)) ss rest (begins.no_brace (us ++ (Sign mark.CloseBrace ∷ rest))) (stmt_again (us ++ (Sign mark.CloseBrace ∷ rest)) d (no_else_next rest ds)) (many_again n rest ds (omega (arith, length-append ts us, begins.some)))

    -- no `else` stands after a statement
    no_else_next : {r : Region} {o : ℕ} {ts : List TokenView} {ss : List StmtTree} (rest : List TokenView) → SpellsStmts limit r o ts ss → is_else (ts ++ (Sign mark.CloseBrace ∷ rest)) ≡ false
    no_else_next rest (none {r} {o}) = refl
    no_else_next rest (more {r} {o} {ts} {us} {s} {ss} d ds) =
        let begins = stmt_begins d in
        ap is_else (append_assoc ts us (Sign mark.CloseBrace ∷ rest)) ∙ begins.no_else (us ++ (Sign mark.CloseBrace ∷ rest))

  pub block_is_read : (r : Region) (o : ℕ) (ts : List TokenView) (ss : List StmtTree) (rest : List TokenView) → SpellsBlock limit r o ts ss → block_at limit o r (ts ++ rest) ≡ Ok (ss, rest)
  block_is_read r o ts ss rest d = block_again rest d
