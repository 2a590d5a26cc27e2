-- Statements and blocks that are read are spelled.
use Rattle.script_parser.proofs.Prelude.{◌≡◌, ℕ, zero, suc, ◌<◌, true, List, [], ◌∷◌, ◌++◌, length, Ok, sym, ap, ◌∙◌, append_assoc, TokenView, Name, Key, Sign, Every, Region, ExprTree, HeadTree, If, While, Bind, Group, Assume, StmtTree, Do, Headed, IfElse, block_tree, IsExpression, Each, no_more, one_more, SpellsAction, SpellsHead, tests, repeats, binds, groups, assumes, SpellsStmt, SpellsBlock, SpellsStmts, does, holds, chooses, braces, none, more, ◌>>=◌, sign_at, brace_at, expr_in, action_at, region_in}
use Rattle.script_tokens.specs.declared.keyword.Keyword.TheVariants as key
use Rattle.script_tokens.specs.declared.mark.Mark.TheVariants as mark
use Rattle.script_parser.specs.Model.Actions.{may_begin}
use Rattle.script_parser.specs.Model.Statements.{head_part_at, head_at, choice_at, headed_at, stmt_at, block_at}
use Rattle.script_parser.proofs.Steps.{step_ok, never_ok}
use Rattle.script_parser.proofs.Tokens.{sign_is, name_is, brace_is}
use Rattle.script_parser.proofs.Items.{Taken, taken_as, joined, closed_by, taken_with, taken_after, taken_name, items_take}
use Rattle.script_parser.proofs.ActionsSound.{begun_is, expression_takes, action_takes}

each_stmt : {limit o : ℕ} {r : Region} {ts : List TokenView} {ss : List StmtTree} → Each (SpellsStmt limit r o) ts ss → SpellsStmts limit r o ts ss
each_stmt no_more = none
each_stmt (one_more d ds) = more d (each_stmt ds)

module _ (limit : ℕ) (positive : 0 < limit) where
  -- a head, with the region that its block is
  abbrev IsHead : Region → List TokenView → HeadTree → Type 0
  IsHead r ts h = SpellsHead limit r ts h (region_in h r)

  head_part_takes : (r : Region) (ts : List TokenView) → may_begin r ts ≡ true → (x : HeadTree × List TokenView) → head_part_at limit ts ≡ Ok x → Taken (IsHead r) ts x
  unfolding head_part_at may_begin
  head_part_takes r [] may x e = absurd cc
  head_part_takes r (Key key.While ∷ ts) may x e = taken_after (IsExpression Every limit limit) (IsHead r) While (expr_in Every limit limit) (Key key.While) ts x (λ us t d. repeats d) (expression_takes limit positive Every limit ts) e
  head_part_takes r (Key key.Bind ∷ ts) may x e =
      let n = step_ok e in
      let a = step_ok n.2 in
      let v = step_ok a.2 in
      let t = expression_takes limit positive Every limit a.0 v.0 v.1 in
      let e1 = name_is ts n.0 n.1 in
      let e2 = sign_is mark.Assign n.0.1 a.0 a.1 in
      taken_as (IsHead r) (Key key.Bind ∷ ts) (Key key.Bind ∷ Name n.0.0 ∷ Sign mark.Assign ∷ t.front) v.0.1 (Bind n.0.0 v.0.0) x
      (ap (λ (w : List TokenView). Key key.Bind ∷ w) (e1 ∙ ap (λ (w : List TokenView). Name n.0.0 ∷ w) (e2 ∙ ap (λ (w : List TokenView). Sign mark.Assign ∷ w) t.parts))) (binds n.0.0 may t.is) v.2
  head_part_takes r (Key key.Group ∷ ts) may x e = taken_name (IsHead r) Group (Key key.Group) ts x (λ n. groups n may) e
  head_part_takes r (Key key.Assume ∷ ts) may x e = taken_name (IsHead r) Assume (Key key.Assume) ts x (λ n. assumes n) e
  head_part_takes r (_ ∷ ts) may x e = absurd cc

  head_takes : (r : Region) (ts : List TokenView) (x : HeadTree × List TokenView) → head_at limit r ts ≡ Ok x → Taken (IsHead r) ts x
  unfolding head_at
  head_takes r ts x e =
      let b = step_ok e in
      let begun = begun_is r ts b.0 b.1 in
      let t = head_part_takes r b.0 begun.0 x b.2 in
      record { front = t.front; parts = begun.1 ∙ t.parts; is = t.is }

  -- that blocks are spelled
  abbrev TakesBlocks : ℕ → Type 0
  TakesBlocks o = (r : Region) (ts : List TokenView) (x : List StmtTree × List TokenView) → block_at limit o r ts ≡ Ok x → Taken (SpellsBlock limit r o) ts x

  choice_takes : (o : ℕ) (r : Region) → TakesBlocks o → (all tf bf : List TokenView) (t : ExprTree) (held : List StmtTree) (ts : List TokenView) (x : StmtTree × List TokenView)
      → all ≡ Key key.If ∷ (tf ++ (bf ++ ts)) → IsExpression Every limit limit tf t → SpellsBlock limit r o bf held → choice_at (block_at limit o r) t held ts ≡ Ok x → Taken (SpellsStmt limit r o) all x
  unfolding choice_at
  choice_takes o r block all tf bf t held (Key key.Else ∷ ts) x parts test body e =
      let b = step_ok e in
      let failed = block r ts b.0 b.1 in
      let inner : bf ++ (Key key.Else ∷ ts) ≡ (bf ++ Key key.Else ∷ failed.front) ++ b.0.1 = ap (λ (w : List TokenView). bf ++ (Key key.Else ∷ w)) failed.parts ∙ sym (append_assoc bf (Key key.Else ∷ failed.front) b.0.1) in
      let outer : tf ++ (bf ++ (Key key.Else ∷ ts)) ≡ (tf ++ (bf ++ Key key.Else ∷ failed.front)) ++ b.0.1 = ap (λ (w : List TokenView). tf ++ w) inner ∙ sym (append_assoc tf (bf ++ Key key.Else ∷ failed.front) b.0.1) in
      taken_as (SpellsStmt limit r o) all (Key key.If ∷ (tf ++ (bf ++ Key key.Else ∷ failed.front))) b.0.1 (IfElse t (block_tree held) (block_tree b.0.0)) x
      (parts ∙ ap (λ (w : List TokenView). Key key.If ∷ w) outer) (chooses test body failed.is) b.2
  choice_takes o r block all tf bf t held ts x parts test body e =
      taken_as (SpellsStmt limit r o) all (Key key.If ∷ (tf ++ bf)) ts (Headed (If t) (block_tree held)) x
      (parts ∙ ap (λ (w : List TokenView). Key key.If ∷ w) (sym (append_assoc tf bf ts))) (holds (tests test) body) e

  headed_takes : (o : ℕ) (r : Region) → TakesBlocks o → (ts : List TokenView) (x : StmtTree × List TokenView) → headed_at limit r (block_at limit o) ts ≡ Ok x → Taken (SpellsStmt limit r o) ts x
  unfolding headed_at
  headed_takes o r block ts x e =
      let h = step_ok e in
      let b = step_ok h.2 in
      let head = head_takes r ts h.0 h.1 in
      let body = block (region_in h.0.0 r) h.0.1 b.0 b.1 in
      taken_as (SpellsStmt limit r o) ts (head.front ++ body.front) b.0.1 (Headed h.0.0 (block_tree b.0.0)) x (joined ts head.front h.0.1 body.front b.0.1 head.parts body.parts) (holds head.is body.is) b.2

  action_stmt : (o : ℕ) (r : Region) (ts : List TokenView) (x : StmtTree × List TokenView) → (action_at limit r ts >>= λ a. Ok (Do a.0, a.1)) ≡ Ok x → Taken (SpellsStmt limit r o) ts x
  action_stmt o r ts x e = taken_with (SpellsAction limit r) (SpellsStmt limit r o) Do (action_at limit r) ts x (λ us a d. does d) (action_takes limit positive r ts) e

  stmt_takes : (o : ℕ) (r : Region) → TakesBlocks o → (ts : List TokenView) (x : StmtTree × List TokenView) → stmt_at limit r (block_at limit o) ts ≡ Ok x → Taken (SpellsStmt limit r o) ts x
  unfolding stmt_at
  stmt_takes o r block (Key key.If ∷ ts) x e =
      let v = step_ok e in
      let b = step_ok v.2 in
      let test = expression_takes limit positive Every limit ts v.0 v.1 in
      let body = block r v.0.1 b.0 b.1 in
      choice_takes o r block (Key key.If ∷ ts) test.front body.front v.0.0 b.0.0 b.0.1 x
      (ap (λ (w : List TokenView). Key key.If ∷ w) (test.parts ∙ ap (λ (w : List TokenView). test.front ++ w) body.parts)) test.is body.is b.2
  stmt_takes o r block (Key key.While ∷ ts) x e = headed_takes o r block (Key key.While ∷ ts) x e
  stmt_takes o r block (Key key.Bind ∷ ts) x e = headed_takes o r block (Key key.Bind ∷ ts) x e
  stmt_takes o r block (Key key.Group ∷ ts) x e = headed_takes o r block (Key key.Group ∷ ts) x e
  stmt_takes o r block (Key key.Assume ∷ ts) x e = headed_takes o r block (Key key.Assume ∷ ts) x e
  stmt_takes o r block ts x e = action_stmt o r ts x e

  pub block_takes : (o : ℕ) (r : Region) (ts : List TokenView) (x : List StmtTree × List TokenView) → block_at limit o r ts ≡ Ok x → Taken (SpellsBlock limit r o) ts x
  unfolding block_at
  block_takes zero r ts x e = absurd (never_ok (sign_at mark.OpenBrace ts) _ x e)
  block_takes (suc o) r ts x e =
      let inside = step_ok e in
      let many = items_take brace_at (stmt_at limit r (block_at limit o)) (SpellsStmt limit r o) (stmt_takes o r (block_takes o)) (length inside.0) inside.0 x inside.2 in
      let last = many.parts ∙ closed_by (Sign mark.CloseBrace) many.front many.next x.1 (brace_is many.next x.1 many.stopped) in
      record { front = Sign mark.OpenBrace ∷ (many.front ++ Sign mark.CloseBrace ∷ []); parts = sign_is mark.OpenBrace ts inside.0 inside.1 ∙ ap (λ (w : List TokenView). Sign mark.OpenBrace ∷ w) last; is = braces (each_stmt many.each) }
