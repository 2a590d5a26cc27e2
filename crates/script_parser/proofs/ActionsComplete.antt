-- Statements without a block that are spelled are read.
use Rattle.script_parser.proofs.Prelude.{◌≡◌, ℕ, ◌-◌, Bool, true, false, List, [], ◌∷◌, ◌++◌, Option, Some, None, Ok, refl, ap, ◌∙◌, append_assoc, Priority, Keyword, TokenView, Name, Key, Sign, Every, Region, ExprTree, CallTree, AwaitedTree, Called, WaitTree, ValueTree, Computed, Waited, MakeTree, AddTree, ActionTree, Let, LetTask, Makes, IsExpression, Listed, IsCall, IsAwaited, a_call, a_task, a_next, IsElse, without_else, with_else, IsWait, priority_of, IsPriorityGiven, not_given, given, IsMake, spawned, detached, IsUnless, always, unless, IsAdd, may_act, IsValue, computed, awaited, SpellsAction, defines, defines_task, assigns, awaits, makes, adds, cancels, returns, throws, checks, yields, ◌>>=◌, list_at, expr_in}
use Rattle.script_tokens.specs.declared.keyword.Keyword.TheVariants as key
use Rattle.script_tokens.specs.declared.mark.Mark.TheVariants as mark
use Rattle.script_parser.specs.Model.Parts.{name_at, sign_at, close_at}
use Rattle.script_parser.specs.Model.Expressions.{operator_at}
use Rattle.script_parser.specs.Model.Actions.{call_at, awaited_at, else_at, wait_at, level_named_at, given_at, make_at, unless_at, child_at, add_at, may_begin, begun_at, value_at, variable_at, let_at, assign_at, part_at, action_at}
use Rattle.script_parser.proofs.Steps.{allowed_now}
use Rattle.script_parser.proofs.Complete.{Stops, expr_again, Begins, with_number, with_name, with_parenthesis, with_minus, with_bang, with_at, with_priority, with_cancelled, expression_begins}
use Rattle.script_parser.proofs.Lists.{Separates, before_comma, before_close, list_again}

pub stops_semicolon : (rest : List TokenView) → Stops 5 (Sign mark.Semicolon ∷ rest)
unfolding operator_at
stops_semicolon rest j le = refl

stops_separated : (rest : List TokenView) → Separates rest → Stops 5 rest
unfolding operator_at
stops_separated rest (before_comma us) = λ j le. refl
stops_separated rest (before_close us) = λ j le. refl

stays_before : {ts : List TokenView} → Begins ts → close_at ts ≡ None
unfolding close_at
stays_before (with_number v us) = refl
stays_before (with_name n us) = refl
stays_before (with_parenthesis us) = refl
stays_before (with_minus us) = refl
stays_before (with_bang us) = refl
stays_before (with_at us) = refl
stays_before (with_priority us) = refl
stays_before (with_cancelled us) = refl

-- an expression may begin in each region
expression_may : (r : Region) {ts : List TokenView} → Begins ts → may_begin r ts ≡ true
unfolding may_begin
expression_may r (with_number v us) = refl
expression_may r (with_name n us) = refl
expression_may r (with_parenthesis us) = refl
expression_may r (with_minus us) = refl
expression_may r (with_bang us) = refl
expression_may r (with_at us) = refl
expression_may r (with_priority us) = refl
expression_may r (with_cancelled us) = refl

-- an expression does not begin as an awaited value does
not_awaited : (limit : ℕ) {ts : List TokenView} → Begins ts → value_at limit ts ≡ (expr_in Every limit limit ts >>= λ e. Ok (Computed e.0, e.1))
unfolding value_at
not_awaited limit (with_number v us) = refl
not_awaited limit (with_name n us) = refl
not_awaited limit (with_parenthesis us) = refl
not_awaited limit (with_minus us) = refl
not_awaited limit (with_bang us) = refl
not_awaited limit (with_at us) = refl
not_awaited limit (with_priority us) = refl
not_awaited limit (with_cancelled us) = refl

-- an expression does not begin as a task does
not_made : (limit : ℕ) (n : List ℕ) {ts : List TokenView} → Begins ts → variable_at limit n ts ≡ (value_at limit ts >>= λ v. Ok (Let n v.0, v.1))
unfolding variable_at
not_made limit n (with_number v us) = refl
not_made limit n (with_name m us) = refl
not_made limit n (with_parenthesis us) = refl
not_made limit n (with_minus us) = refl
not_made limit n (with_bang us) = refl
not_made limit n (with_at us) = refl
not_made limit n (with_priority us) = refl
not_made limit n (with_cancelled us) = refl

pub begun_now : (r : Region) (ts : List TokenView) → may_begin r ts ≡ true → begun_at r ts ≡ Ok ts
unfolding begun_at
begun_now r ts may = allowed_now (may_begin r ts) ts may

named_again : (k : Keyword) (p : Priority) (rest : List TokenView) → priority_of k ≡ Some p → given_at (Key key.At ∷ Key k ∷ rest) ≡ Ok (Some p, rest)
unfolding given_at level_named_at
named_again k p rest e = rw e refl

pub given_again : (us : List TokenView) (p : Option Priority) (rest : List TokenView) → IsPriorityGiven us p → given_at (us ++ (Sign mark.Semicolon ∷ rest)) ≡ Ok (p, Sign mark.Semicolon ∷ rest)
unfolding given_at
given_again us p rest not_given = refl
given_again us p rest (given k q e) = named_again k q (Sign mark.Semicolon ∷ rest) e

args_again : (limit o : ℕ) {ts : List TokenView} {es : List ExprTree} (rest : List TokenView) → Listed (IsExpression Every limit o) ts es → list_at (expr_in Every limit o) (ts ++ (Sign mark.Close ∷ rest)) ≡ Ok (es, rest)
args_again limit o rest d =
    list_again (expr_in Every limit o) (IsExpression Every limit o)
    (λ us x r is s. expr_again Every limit o us x r is (stops_separated r s))
    (λ us x r is. stays_before (expression_begins Every limit o us r x is))
    rest d

call_again : (limit : ℕ) (us rest : List TokenView) (c : CallTree) → IsCall limit us c → call_at limit (us ++ rest) ≡ Ok (c, rest)
unfolding call_at name_at sign_at
call_again limit us rest c d =
    let regrouped : (d.args ++ Sign mark.Close ∷ []) ++ rest ≡ d.args ++ (Sign mark.Close ∷ rest) = append_assoc d.args (Sign mark.Close ∷ []) rest in
    ap (λ (w : List TokenView). call_at limit (w ++ rest)) d.all
    ∙ rw (regrouped, args_again limit (limit - 1) rest d.has_args) refl

-- a call does not begin as the other things do that are waited for, and not with an `unless`
call_awaited : (limit : ℕ) (us rest : List TokenView) (c : CallTree) → IsCall limit us c → awaited_at limit (us ++ rest) ≡ (call_at limit (us ++ rest) >>= λ c. Ok (Called c.0, c.1))
unfolding awaited_at
call_awaited limit us rest c d = rw d.all refl

no_unless : (limit : ℕ) (us rest : List TokenView) (c : CallTree) → IsCall limit us c → unless_at (us ++ rest) ≡ (false, us ++ rest)
unfolding unless_at
no_unless limit us rest c d = rw d.all refl

awaited_again : (limit : ℕ) (us rest : List TokenView) (a : AwaitedTree) → IsAwaited limit us a → awaited_at limit (us ++ rest) ≡ Ok (a, rest)
unfolding awaited_at name_at
awaited_again limit us rest a (a_call {ts} {c} d) = call_awaited limit ts rest c d ∙ rw (call_again limit ts rest c d) refl
awaited_again limit us rest a (a_task n) = refl
awaited_again limit us rest a (a_next n) = refl

else_again : (limit : ℕ) (us rest : List TokenView) (o : Option ExprTree) → IsElse limit us o → else_at limit (us ++ (Sign mark.Semicolon ∷ rest)) ≡ Ok (o, Sign mark.Semicolon ∷ rest)
unfolding else_at
else_again limit us rest o without_else = refl
else_again limit us rest o (with_else {ts} {t} d) = rw (expr_again Every limit limit ts t (Sign mark.Semicolon ∷ rest) d (stops_semicolon rest)) refl

wait_again : (limit : ℕ) (us rest : List TokenView) (w : WaitTree) → IsWait limit us w → wait_at limit (us ++ (Sign mark.Semicolon ∷ rest)) ≡ Ok (w, Sign mark.Semicolon ∷ rest)
unfolding wait_at
wait_again limit us rest w d =
    ap (λ (v : List TokenView). wait_at limit (v ++ (Sign mark.Semicolon ∷ rest))) d.all
    ∙ ap (wait_at limit) (append_assoc d.for d.other (Sign mark.Semicolon ∷ rest))
    ∙ rw (awaited_again limit d.for (d.other ++ (Sign mark.Semicolon ∷ rest)) w.for d.has_for, else_again limit d.other rest w.other d.has_other) refl

make_again : (limit : ℕ) (us rest : List TokenView) (m : MakeTree) → IsMake limit us m → make_at limit (us ++ (Sign mark.Semicolon ∷ rest)) ≡ Ok (m, Sign mark.Semicolon ∷ rest)
unfolding make_at
make_again limit us rest m (spawned {ts} {us = vs} {c} {p} d g) =
    rw (append_assoc ts vs (Sign mark.Semicolon ∷ rest), call_again limit ts (vs ++ (Sign mark.Semicolon ∷ rest)) c d, given_again vs p rest g) refl
make_again limit us rest m (detached {ts} {us = vs} {c} {p} d g) =
    rw (append_assoc ts vs (Sign mark.Semicolon ∷ rest), call_again limit ts (vs ++ (Sign mark.Semicolon ∷ rest)) c d, given_again vs p rest g) refl

unless_again : (limit : ℕ) (us ts rest : List TokenView) (b : Bool) (c : CallTree) → IsUnless us b → IsCall limit ts c → unless_at (us ++ (ts ++ rest)) ≡ (b, ts ++ rest)
unfolding unless_at
unless_again limit us ts rest b c always d = no_unless limit ts rest c d
unless_again limit us ts rest b c unless d = refl

add_again : (limit : ℕ) (us rest : List TokenView) (a : AddTree) → IsAdd limit us a → add_at limit (us ++ (Sign mark.Semicolon ∷ rest)) ≡ Ok (a, Sign mark.Semicolon ∷ rest)
unfolding add_at child_at name_at
add_again limit us rest a d =
    let tail = d.priority ++ (Sign mark.Semicolon ∷ rest) in
    let inner : (d.call ++ d.priority) ++ (Sign mark.Semicolon ∷ rest) ≡ d.call ++ tail = append_assoc d.call d.priority (Sign mark.Semicolon ∷ rest) in
    let regrouped : (d.unless ++ (d.call ++ d.priority)) ++ (Sign mark.Semicolon ∷ rest) ≡ d.unless ++ (d.call ++ tail) = append_assoc d.unless (d.call ++ d.priority) (Sign mark.Semicolon ∷ rest) ∙ ap (λ (w : List TokenView). d.unless ++ w) inner in
    ap (λ (w : List TokenView). add_at limit (w ++ (Sign mark.Semicolon ∷ rest))) d.all
    ∙ rw (regrouped, unless_again limit d.unless d.call tail a.unless a.call d.has_unless d.has_call, call_again limit d.call tail a.call d.has_call, given_again d.priority a.priority rest d.has_priority) refl

waited_again : (limit : ℕ) (ts rest : List TokenView) (w : WaitTree) → wait_at limit ts ≡ Ok (w, rest) → value_at limit (Key key.Await ∷ ts) ≡ Ok (Waited w, rest)
unfolding value_at
waited_again limit ts rest w e = rw e refl

value_again : (limit : ℕ) (r : Region) (us rest : List TokenView) (v : ValueTree) → IsValue limit r us v → value_at limit (us ++ (Sign mark.Semicolon ∷ rest)) ≡ Ok (v, Sign mark.Semicolon ∷ rest)
value_again limit r us rest v (computed {ts} {t} d) =
    not_awaited limit (expression_begins Every limit limit ts (Sign mark.Semicolon ∷ rest) t d)
    ∙ rw (expr_again Every limit limit ts t (Sign mark.Semicolon ∷ rest) d (stops_semicolon rest)) refl
value_again limit r us rest v (awaited {ts} {w} may d) = waited_again limit (ts ++ (Sign mark.Semicolon ∷ rest)) (Sign mark.Semicolon ∷ rest) w (wait_again limit ts rest w d)

value_may : (limit : ℕ) (r : Region) (us rest : List TokenView) (v : ValueTree) → IsValue limit r us v → may_begin r (us ++ rest) ≡ true
unfolding may_begin
value_may limit r us rest v (computed {ts} {t} d) = expression_may r (expression_begins Every limit limit ts rest t d)
value_may limit r us rest v (awaited {ts} {w} may d) = may

make_may : (limit : ℕ) (r : Region) (us rest : List TokenView) (m : MakeTree) → may_act r ≡ true → IsMake limit us m → may_begin r (us ++ rest) ≡ true
unfolding may_begin
make_may limit r us rest m may (spawned d g) = may
make_may limit r us rest m may (detached d g) = may

value_named : (limit : ℕ) (r : Region) (n : List ℕ) (us rest : List TokenView) (v : ValueTree) → IsValue limit r us v → variable_at limit n (us ++ rest) ≡ (value_at limit (us ++ rest) >>= λ v. Ok (Let n v.0, v.1))
unfolding variable_at
value_named limit r n us rest v (computed {ts} {t} d) = not_made limit n (expression_begins Every limit limit ts rest t d)
value_named limit r n us rest v (awaited {ts} {w} may d) = refl

make_named : (limit : ℕ) (n : List ℕ) (us rest : List TokenView) (m : MakeTree) → IsMake limit us m → variable_at limit n (us ++ rest) ≡ (make_at limit (us ++ rest) >>= λ m. Ok (LetTask n m.0, m.1))
unfolding variable_at
make_named limit n us rest m (spawned d g) = refl
make_named limit n us rest m (detached d g) = refl

make_part : (limit : ℕ) (r : Region) (us rest : List TokenView) (m : MakeTree) → IsMake limit us m → part_at limit r (us ++ rest) ≡ (make_at limit (us ++ rest) >>= λ m. Ok (Makes m.0, m.1))
unfolding part_at
make_part limit r us rest m (spawned d g) = refl
make_part limit r us rest m (detached d g) = refl

-- a statement up to its semicolon
record Part (limit : ℕ) (r : Region) (ts : List TokenView) (a : ActionTree) : Type 0 where
  part : List TokenView
  all : ts ≡ part ++ Sign mark.Semicolon ∷ []
  may : (rest : List TokenView) → may_begin r (part ++ rest) ≡ true
  reads : (rest : List TokenView) → part_at limit r (part ++ (Sign mark.Semicolon ∷ rest)) ≡ Ok (a, Sign mark.Semicolon ∷ rest)

module _ (limit : ℕ) (r : Region) where
  part_of : {ts : List TokenView} {a : ActionTree} → SpellsAction limit r ts a → Part limit r ts a
  unfolding part_at let_at assign_at name_at sign_at may_begin
  part_of (defines n {ts} {v} d) = record {
    part = Key key.Let ∷ Name n ∷ Sign mark.Assign ∷ ts;
    all = refl;
    may = λ rest. refl;
    reads = λ rest. rw (begun_now r (ts ++ (Sign mark.Semicolon ∷ rest)) (value_may limit r ts (Sign mark.Semicolon ∷ rest) v d), value_named limit r n ts (Sign mark.Semicolon ∷ rest) v d, value_again limit r ts rest v d) refl;
  }
  part_of (defines_task n {ts} {m} may d) = record {
    part = Key key.Let ∷ Name n ∷ Sign mark.Assign ∷ ts;
    all = refl;
    may = λ rest. refl;
    reads = λ rest. rw (begun_now r (ts ++ (Sign mark.Semicolon ∷ rest)) (make_may limit r ts (Sign mark.Semicolon ∷ rest) m may d), make_named limit n ts (Sign mark.Semicolon ∷ rest) m d, make_again limit ts rest m d) refl;
  }
  part_of (assigns n {ts} {v} d) = record {
    part = Name n ∷ Sign mark.Assign ∷ ts;
    all = refl;
    may = λ rest. refl;
    reads = λ rest. rw (begun_now r (ts ++ (Sign mark.Semicolon ∷ rest)) (value_may limit r ts (Sign mark.Semicolon ∷ rest) v d), value_again limit r ts rest v d) refl;
  }
  part_of (awaits {ts} {w} may d) = record { part = Key key.Await ∷ ts; all = refl; may = λ rest. may; reads = λ rest. rw (wait_again limit ts rest w d) refl }
  part_of (makes {ts} {m} may d) = record {
    part = ts;
    all = refl;
    may = λ rest. make_may limit r ts rest m may d;
    reads = λ rest. make_part limit r ts (Sign mark.Semicolon ∷ rest) m d ∙ rw (make_again limit ts rest m d) refl;
  }
  part_of (adds {ts} {a} may d) = record { part = Key key.Add ∷ ts; all = refl; may = λ rest. may; reads = λ rest. rw (add_again limit ts rest a d) refl }
  part_of (cancels n may) = record { part = Key key.Cancel ∷ Name n ∷ []; all = refl; may = λ rest. may; reads = λ rest. refl }
  part_of (returns {ts} {t} may d) = record { part = Key key.Return ∷ ts; all = refl; may = λ rest. may; reads = λ rest. rw (expr_again Every limit limit ts t (Sign mark.Semicolon ∷ rest) d (stops_semicolon rest)) refl }
  part_of (throws {ts} {t} d) = record { part = Key key.Throw ∷ ts; all = refl; may = λ rest. refl; reads = λ rest. rw (expr_again Every limit limit ts t (Sign mark.Semicolon ∷ rest) d (stops_semicolon rest)) refl }
  part_of checks = record { part = Key key.Check ∷ []; all = refl; may = λ rest. refl; reads = λ rest. refl }
  part_of (yields may) = record { part = Key key.Yield ∷ []; all = refl; may = λ rest. may; reads = λ rest. refl }

  closed_again : (us rest : List TokenView) (a : ActionTree) → may_begin r us ≡ true → part_at limit r us ≡ Ok (a, Sign mark.Semicolon ∷ rest) → action_at limit r us ≡ Ok (a, rest)
  unfolding action_at sign_at
  closed_again us rest a may reads = rw (begun_now r us may, reads) refl

  pub action_again : (ts : List TokenView) (a : ActionTree) (rest : List TokenView) → SpellsAction limit r ts a → action_at limit r (ts ++ rest) ≡ Ok (a, rest)
  action_again ts a rest d =
      let p = part_of d in
      ap (λ (w : List TokenView). action_at limit r (w ++ rest)) p.all
      ∙ ap (action_at limit r) (append_assoc p.part (Sign mark.Semicolon ∷ []) rest)
      ∙ closed_again (p.part ++ (Sign mark.Semicolon ∷ rest)) rest a (p.may (Sign mark.Semicolon ∷ rest)) (p.reads rest)
