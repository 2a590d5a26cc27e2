-- What the tokens of a script's expression spell.
use Rattle.plain_laws.proofs.Prelude.{AreTold, EndsExpr, Means, expr_told, told_plain, PlainToken, Spaced, left_of, enclosed, expr_tokens, is_made_of_parts, reads_plain, renamed, mark_of, precedence_of, ExprTree, Number, Named, Local, OwnPriority, IsCancelled, Negated, Inverted, Both, Sign, ◌≡◌, ◌≢◌, ◌≤◌, ◌-◌, ℕ, ℤ, suc, Bool, true, false, nat_lt, List, ◌∷◌, ◌++◌, codes, Option, Some, None, refl, sym, subst, ap, ◌∙◌, arith, false≢true, flat_map, slice_get, SwiftTree, Leaf, Joined, SpellsAtom, SpellsCalled, SpellsNamed, SpellsPrefixed, SpellsOperands, SpellsChoice, SpellsExpr, after, kind_at, literal_of, operator_in, opens_at, kind_in, is_open, opens_in, Token, TokenKind, Operator}
use Rattle.swift_syntax.specs.declared.sign.Sign.TheVariants as sign
use Rattle.swift_syntax.specs.declared.token.TokenKind.TheVariants as kind
use Rattle.swift_syntax.specs.declared.tree.ExprForm.{ExprForm}
use Rattle.swift_syntax.specs.declared.tree.ExprForm.TheVariants as form
use Rattle.swift_syntax.specs.declared.tree.Receiver.{Receiver}
use Rattle.swift_syntax.specs.declared.word.Word.TheVariants as word
use Rattle.swift_syntax.specs.Expressions as swift
use Rattle.plain_laws.specs.Readings as means
use Rattle.plain_laws.proofs.Forward.{Goes, stop, go, begun, stops, no_prefix}
use Rattle.plain_laws.proofs.Operators.{Fits, fits_5, sides, sign_of, level_of, read_as, taken_at, left_at, looser, no_dot, no_open}
use Rattle.plain_laws.proofs.Told.{IsNoKey, between, within, no_key, left_side, right_side}

-- What stands behind an expression is no operator that binds so tightly, and does not go on with a name.
record Follows (tokens : List Token) (least i : ℕ) : Type 0 where
  pub operator : operator_in least (kind_at tokens i) ≡ None
  pub dot : kind_at tokens i ≢ kind.Sign sign.Dot
  pub opens : opens_at tokens i ≡ false

-- Tokens up to a place were spelled by what means an expression.
record Spelled (text : List ℕ) (tokens : List Token) (e : ExprTree) (end to : ℕ) (tree : SwiftTree) : Type 0 where
  pub ends : to ≡ end
  pub means : Means text tokens tree e

-- Of operands up to a place, the first ones were spelled so, and the others follow.
record Stripped (text : List ℕ) (tokens : List Token) (e : ExprTree) (m end to : ℕ) (tree : SwiftTree) : Type 0 where
  pub left : SwiftTree
  pub means : Means text tokens left e
  pub goes : Goes tokens m end left to tree

-- whatever operands begin with these tokens begin with this expression
abbrev Strips : List ℕ → List Token → List PlainToken → ExprTree → ℕ → Type 0
Strips text tokens ts e least = (m i end mid to : ℕ) (left tree : SwiftTree) → m ≤ least → AreTold text tokens i (flat_map told_plain ts) end → Follows tokens (suc least) end → operator_in m (kind_at tokens to) ≡ None → SpellsPrefixed tokens i mid left → Goes tokens m mid left to tree → Stripped text tokens e m end to tree

from_atom : {text : List ℕ} {tokens : List Token} {e : ExprTree} {m end mid to : ℕ} {left tree : SwiftTree} → Spelled text tokens e end mid left → Goes tokens m mid left to tree → Stripped text tokens e m end to tree
from_atom {tokens = tokens} {m = m} {to = to} {left = left} {tree = tree} s g = record { left = left; means = s.means; goes = subst (λ x. Goes tokens m x left to tree) s.ends g }

some_of : {A : Type 0} {x y : A} → Some x ≡ Some y → x ≡ y
some_of e = cc

none_is_some : {A B : Type 0} {x : A} → None ≡ Some x → B
none_is_some e = absurd cc

-- what stands in a parenthesis
record Parenthesis (tokens : List Token) (i j : ℕ) (t : SwiftTree) : Type 0 where
  pub close : ℕ
  pub inner : SpellsExpr tokens (after i) close t
  pub closed : kind_at tokens close ≡ kind.Sign sign.Close
  pub ends : j ≡ after close

open_atom : {tokens : List Token} {i j : ℕ} {t : SwiftTree} → kind_at tokens i ≡ kind.Sign sign.Open → SpellsAtom tokens i j t → Parenthesis tokens i j t
open_atom h (swift.literal {f = f} e) = let x : None ≡ Some f = sym (ap literal_of h) ∙ e in none_is_some x
open_atom h (swift.name e d) = let x : kind.Sign sign.Open ≡ kind.Name = sym h ∙ e in absurd cc
open_atom h (swift.own_member e d n c) = let x : kind.Sign sign.Open ≡ kind.Key word.Own = sym h ∙ e in absurd cc
open_atom h (swift.case e n c) = let x : kind.Sign sign.Open ≡ kind.Sign sign.Dot = sym h ∙ e in absurd cc
open_atom h (swift.parenthesis {j = j} e d c) = record { close = j; inner = d; closed = c; ends = refl }

no_minus_atom : {B : Type 0} {tokens : List Token} {i j : ℕ} {t : SwiftTree} → kind_at tokens i ≡ kind.Sign sign.Minus → SpellsAtom tokens i j t → B
no_minus_atom h (swift.literal {f = f} e) = let x : None ≡ Some f = sym (ap literal_of h) ∙ e in none_is_some x
no_minus_atom h (swift.name e d) = let x : kind.Sign sign.Minus ≡ kind.Name = sym h ∙ e in absurd cc
no_minus_atom h (swift.own_member e d n c) = let x : kind.Sign sign.Minus ≡ kind.Key word.Own = sym h ∙ e in absurd cc
no_minus_atom h (swift.case e n c) = let x : kind.Sign sign.Minus ≡ kind.Sign sign.Dot = sym h ∙ e in absurd cc
no_minus_atom h (swift.parenthesis e d c) = let x : kind.Sign sign.Minus ≡ kind.Sign sign.Open = sym h ∙ e in absurd cc

no_bang_atom : {B : Type 0} {tokens : List Token} {i j : ℕ} {t : SwiftTree} → kind_at tokens i ≡ kind.Sign sign.Bang → SpellsAtom tokens i j t → B
no_bang_atom h (swift.literal {f = f} e) = let x : None ≡ Some f = sym (ap literal_of h) ∙ e in none_is_some x
no_bang_atom h (swift.name e d) = let x : kind.Sign sign.Bang ≡ kind.Name = sym h ∙ e in absurd cc
no_bang_atom h (swift.own_member e d n c) = let x : kind.Sign sign.Bang ≡ kind.Key word.Own = sym h ∙ e in absurd cc
no_bang_atom h (swift.case e n c) = let x : kind.Sign sign.Bang ≡ kind.Sign sign.Dot = sym h ∙ e in absurd cc
no_bang_atom h (swift.parenthesis e d c) = let x : kind.Sign sign.Bang ≡ kind.Sign sign.Open = sym h ∙ e in absurd cc

-- what stands behind a prefix
record Behind (tokens : List Token) (i j : ℕ) (made : SwiftTree → SwiftTree) (t : SwiftTree) : Type 0 where
  pub operand : SwiftTree
  pub atom : SpellsAtom tokens (after i) j operand
  pub is : t ≡ made operand

minus_prefix : {tokens : List Token} {i j : ℕ} {t : SwiftTree} → kind_at tokens i ≡ kind.Sign sign.Minus → SpellsPrefixed tokens i j t → Behind tokens i j (swift.Negated i) t
minus_prefix h (swift.negated {t = t} e d) = record { operand = t; atom = d; is = refl }
minus_prefix h (swift.inverted e d) = let x : kind.Sign sign.Minus ≡ kind.Sign sign.Bang = sym h ∙ e in absurd cc
minus_prefix h (swift.unprefixed d) = no_minus_atom h d

bang_prefix : {tokens : List Token} {i j : ℕ} {t : SwiftTree} → kind_at tokens i ≡ kind.Sign sign.Bang → SpellsPrefixed tokens i j t → Behind tokens i j (swift.Inverted i) t
bang_prefix h (swift.negated e d) = let x : kind.Sign sign.Bang ≡ kind.Sign sign.Minus = sym h ∙ e in absurd cc
bang_prefix h (swift.inverted {t = t} e d) = record { operand = t; atom = d; is = refl }
bang_prefix h (swift.unprefixed d) = no_bang_atom h d

number_atom : {text : List ℕ} {tokens : List Token} {i j : ℕ} {t : SwiftTree} (n : ℤ) → kind_at tokens i ≡ kind.Number n → SpellsAtom tokens i j t → Spelled text tokens (Number n) (after i) j t
number_atom {text} {tokens} {i} n h (swift.literal {f = f} e) =
    let x : f ≡ form.Number n = some_of (sym e ∙ ap literal_of h) in
    record { ends = refl; means = subst (λ y. Means text tokens (Leaf y i) (Number n)) (sym x) means.number }
number_atom n h (swift.name e d) = let x : kind.Number n ≡ kind.Name = sym h ∙ e in absurd cc
number_atom n h (swift.own_member e d m c) = let x : kind.Number n ≡ kind.Key word.Own = sym h ∙ e in absurd cc
number_atom n h (swift.case e m c) = let x : kind.Number n ≡ kind.Sign sign.Dot = sym h ∙ e in absurd cc
number_atom n h (swift.parenthesis e d c) = let x : kind.Number n ≡ kind.Sign sign.Open = sym h ∙ e in absurd cc

named_atom : {tokens : List Token} {i j : ℕ} {t : SwiftTree} → kind_at tokens i ≡ kind.Name → SpellsAtom tokens i j t → SpellsNamed tokens i j t
named_atom h (swift.literal {f = f} e) = let x : None ≡ Some f = sym (ap literal_of h) ∙ e in none_is_some x
named_atom h (swift.name e d) = d
named_atom h (swift.own_member e d n c) = let x : kind.Name ≡ kind.Key word.Own = sym h ∙ e in absurd cc
named_atom h (swift.case e n c) = let x : kind.Name ≡ kind.Sign sign.Dot = sym h ∙ e in absurd cc
named_atom h (swift.parenthesis e d c) = let x : kind.Name ≡ kind.Sign sign.Open = sym h ∙ e in absurd cc

uncalled : {tokens : List Token} {r : Receiver} {alone : ExprForm} {n i j : ℕ} {t : SwiftTree} → opens_at tokens i ≡ false → SpellsCalled tokens r alone n i j t → (j ≡ i) × (t ≡ Leaf alone n)
uncalled h (swift.uncalled e) = (refl, refl)
uncalled h (swift.call e d) = absurd (false≢true (sym h ∙ e))

name_alone : {text : List ℕ} {tokens : List Token} {i j : ℕ} {t : SwiftTree} (w : List ℕ) → means.bytes_at text tokens i ≡ w → kind_at tokens (after i) ≢ kind.Sign sign.Dot → opens_at tokens (after i) ≡ false → SpellsNamed tokens i j t → Spelled text tokens (Named w) (after i) j t
name_alone {text} {tokens} w b n o (swift.alone e c) =
    let u = uncalled o c in
    record { ends = u.0; means = subst (λ y. Means text tokens y (Named w)) (sym u.1) (means.name b) }
name_alone w b n o (swift.member e m c) = absurd (n e)

member_alone : {text : List ℕ} {tokens : List Token} {i j : ℕ} {t : SwiftTree} → means.bytes_at text tokens i ≡ codes "Task" → kind_at tokens (after i) ≡ kind.Sign sign.Dot → means.bytes_at text tokens (after (after i)) ≡ codes "isCancelled" → opens_at tokens (after (after (after i))) ≡ false → SpellsNamed tokens i j t → Spelled text tokens IsCancelled (after (after (after i))) j t
member_alone b h c o (swift.alone e d) = absurd (e h)
member_alone {text} {tokens} b h c o (swift.member e m d) =
    let u = uncalled o d in
    record { ends = u.0; means = subst (λ y. Means text tokens y IsCancelled) (sym u.1) (means.is_cancelled b c) }

name_prefix : {tokens : List Token} {i j : ℕ} {t : SwiftTree} → kind_at tokens i ≡ kind.Name → SpellsPrefixed tokens i j t → SpellsAtom tokens i j t
name_prefix h p = no_prefix (λ e. let x : kind.Name ≡ kind.Sign sign.Minus = sym h ∙ e in absurd cc) (λ e. let x : kind.Name ≡ kind.Sign sign.Bang = sym h ∙ e in absurd cc) p

number_prefix : {tokens : List Token} {i j : ℕ} {t : SwiftTree} (n : ℤ) → kind_at tokens i ≡ kind.Number n → SpellsPrefixed tokens i j t → SpellsAtom tokens i j t
number_prefix n h p = no_prefix (λ e. let x : kind.Number n ≡ kind.Sign sign.Minus = sym h ∙ e in absurd cc) (λ e. let x : kind.Number n ≡ kind.Sign sign.Bang = sym h ∙ e in absurd cc) p

open_prefix : {tokens : List Token} {i j : ℕ} {t : SwiftTree} → kind_at tokens i ≡ kind.Sign sign.Open → SpellsPrefixed tokens i j t → SpellsAtom tokens i j t
open_prefix h p = no_prefix (λ e. let x : kind.Sign sign.Open ≡ kind.Sign sign.Minus = sym h ∙ e in absurd cc) (λ e. let x : kind.Sign sign.Open ≡ kind.Sign sign.Bang = sym h ∙ e in absurd cc) p

-- operands from the first to the last one
operands_from : {text : List ℕ} {tokens : List Token} {e : ExprTree} {i end to : ℕ} {t : SwiftTree} (loosest least : ℕ) (ts : List PlainToken) → loosest ≤ least → Strips text tokens ts e least → AreTold text tokens i (flat_map told_plain ts) end → Follows tokens loosest end → SpellsOperands tokens loosest i to t → Spelled text tokens e end to t
operands_from {text} {tokens} {e} {i} {end} {to} {t} loosest least ts h strips told f (swift.all s n) =
    let b = begun s in
    let further : Follows tokens (suc least) end = record { operator = looser loosest (suc least) (kind_at tokens end) (omega (arith, h)) f.operator; dot = f.dot; opens = f.opens } in
    let p = strips loosest i end b.mid to b.left t h told further n b.prefixed b.goes in
    let u = stops f.operator p.goes in
    record { ends = u.0; means = subst (λ y. Means text tokens y e) (sym u.1) p.means }

choice_from : {text : List ℕ} {tokens : List Token} {e : ExprTree} {i end to : ℕ} {t : SwiftTree} (ts : List PlainToken) → Strips text tokens ts e 0 → AreTold text tokens i (flat_map told_plain ts) end → EndsExpr tokens end → SpellsChoice tokens i to t → Spelled text tokens e end to t
choice_from {tokens = tokens} {end = end} ts strips told f (swift.operands d n) = operands_from 0 0 ts (omega arith) strips told (record { operator = f.operator; dot = f.dot; opens = f.opens }) d
choice_from {tokens = tokens} ts strips told f (swift.choice d q b c g) =
    let o = operands_from 0 0 ts (omega arith) strips told (record { operator = f.operator; dot = f.dot; opens = f.opens }) d in
    absurd (f.question (subst (λ x. kind_at tokens x ≡ kind.Sign sign.Question) o.ends q))

expr_from : {text : List ℕ} {tokens : List Token} {e : ExprTree} {i end to : ℕ} {t : SwiftTree} (ts : List PlainToken) → Strips text tokens ts e 0 → IsNoKey (kind_at tokens i) → AreTold text tokens i (flat_map told_plain ts) end → EndsExpr tokens end → SpellsExpr tokens i to t → Spelled text tokens e end to t
expr_from ts strips k told f (swift.tried e d) = absurd (k word.Try e)
expr_from ts strips k told f (swift.tried_optional e q d) = absurd (k word.Try e)
expr_from ts strips k told f (swift.awaited e d) = absurd (k word.Await e)
expr_from ts strips k told f (swift.uncovered d) = choice_from ts strips told f d

pub not_open : (o : Option Token) (k : TokenKind) → kind_in o ≡ k → is_open k ≡ false → opens_in o ≡ false
not_open None k e h = refl
not_open (Some t) k e h = rw (e, h) refl

-- where a token of such a kind stands, an expression before it ends
pub ends_at : {tokens : List Token} {i : ℕ} {k : TokenKind} → kind_at tokens i ≡ k → operator_in 0 k ≡ None → k ≢ kind.Sign sign.Dot → k ≢ kind.Sign sign.Question → is_open k ≡ false → EndsExpr tokens i
ends_at {tokens} {i} {k} e none no_dot no_question closed = record {
  operator = ap (operator_in 0) e ∙ none;
  dot = λ d. no_dot (sym e ∙ d);
  question = λ q. no_question (sym e ∙ q);
  opens = not_open (slice_get tokens i) k e closed;
}

close_ends : {tokens : List Token} {i : ℕ} → kind_at tokens i ≡ kind.Sign sign.Close → EndsExpr tokens i
close_ends h = ends_at h refl (λ d. absurd cc) (λ q. absurd cc) refl

in_parenthesis : {text : List ℕ} {tokens : List Token} {e : ExprTree} {i end to : ℕ} {t : SwiftTree} (ts : List PlainToken) → Strips text tokens ts e 0 → ((k : ℕ) → AreTold text tokens (after i) (flat_map told_plain ts) k → IsNoKey (kind_at tokens (after i))) → AreTold text tokens i (flat_map told_plain (enclosed true ts)) end → SpellsAtom tokens i to t → Spelled text tokens e end to t
in_parenthesis {text} {tokens} {e} {i} {end} {to} {t} ts strips keyless told d =
    let w = within text tokens i ts end told in
    let a = open_atom w.opened d in
    let x = expr_from ts strips (keyless w.close w.inner) w.inner (close_ends w.closed) a.inner in
    record { ends = a.ends ∙ (ap after x.ends ∙ w.ends); means = x.means }

at_end : {text : List ℕ} {tokens : List Token} {e : ExprTree} {x end to : ℕ} {t : SwiftTree} → x ≡ end → Spelled text tokens e x to t → Spelled text tokens e end to t
at_end q s = record { ends = s.ends ∙ q; means = s.means }

-- what stands behind a prefix is an atom, or an expression in a parenthesis
operand : {text : List ℕ} {tokens : List Token} {i end to least : ℕ} {t : SwiftTree} (f : List ℕ → List ℕ) (a : ExprTree) → reads_plain a ≡ true → Strips text tokens (expr_tokens f a 5) (renamed f a) 0 → AreTold text tokens i (flat_map told_plain (enclosed (is_made_of_parts a) (expr_tokens f a 5))) end → Follows tokens least end → SpellsAtom tokens i to t → Spelled text tokens (renamed f a) end to t
operand f (Number n) p strips told fl d = at_end told.1 (number_atom n told.0 d)
operand {tokens = tokens} {i = i} f (Named w) p strips told fl d = at_end told.1 (name_alone (f w) told.0.1 (subst (λ x. kind_at tokens x ≢ kind.Sign sign.Dot) (sym told.1) fl.dot) (subst (λ x. opens_at tokens x ≡ false) (sym told.1) fl.opens) (named_atom told.0.0 d))
operand f (Local w) p strips told fl d = absurd (false≢true p)
operand f OwnPriority p strips told fl d = absurd (false≢true p)
operand {tokens = tokens} f IsCancelled p strips told fl d = at_end told.1.1.1 (member_alone told.0.1 told.1.0 told.1.1.0.1 (subst (λ x. opens_at tokens x ≡ false) (sym told.1.1.1) fl.opens) (named_atom told.0.0 d))
operand {text} {tokens} {i} f (Negated a) p strips told fl d = in_parenthesis (expr_tokens f (Negated a) 5) strips (λ k h. no_key text tokens f (Negated a) 5 (after i) k p h) told d
operand {text} {tokens} {i} f (Inverted a) p strips told fl d = in_parenthesis (expr_tokens f (Inverted a) 5) strips (λ k h. no_key text tokens f (Inverted a) 5 (after i) k p h) told d
operand {text} {tokens} {i} f (Both o a b) p strips told fl d = in_parenthesis (expr_tokens f (Both o a b) 5) strips (λ k h. no_key text tokens f (Both o a b) 5 (after i) k p h) told d

-- an operator is taken, with what is right of it
record Stepped (tokens : List Token) (o : Operator) (m at : ℕ) (left : SwiftTree) (to : ℕ) (tree : SwiftTree) : Type 0 where
  pub behind : ℕ
  pub right : SwiftTree
  pub operands : SpellsOperands tokens (suc (level_of o)) (after at) behind right
  pub goes : Goes tokens m behind (Joined (Some o) at left right) to tree

stepped : {tokens : List Token} {m at to : ℕ} {left tree : SwiftTree} (o : Operator) → kind_at tokens at ≡ kind.Sign (sign_of o) → m ≤ level_of o → operator_in m (kind_at tokens to) ≡ None → Goes tokens m at left to tree → Stepped tokens o m at left to tree
stepped {m = m} o h hm n stop = let x : None ≡ Some (read_as o) = sym n ∙ (ap (operator_in m) h ∙ taken_at o m hm) in none_is_some x
stepped {tokens} {m} {at} {to} {left} {tree} o h hm n (go {j = j} {b = b} found e d g) =
    let q : read_as o ≡ found = some_of (sym (ap (operator_in m) h ∙ taken_at o m hm) ∙ e) in
    record {
      behind = j;
      right = b;
      operands = subst (λ x. SpellsOperands tokens (suc x.level) (after at) j b) (sym q) d;
      goes = subst (λ x. Goes tokens m j (Joined x.operator at left b) to tree) (sym q) g;
    }

sign_follows : {tokens : List Token} {i : ℕ} (o : Operator) (least : ℕ) → level_of o ≤ least → kind_at tokens i ≡ kind.Sign (sign_of o) → Follows tokens (suc least) i
sign_follows {tokens} {i} o least h e =
    record {
      operator = ap (operator_in (suc least)) e ∙ left_at o (suc least) (omega (arith, h));
      dot = λ d. no_dot o (sym e ∙ d);
      opens = not_open (slice_get tokens i) (kind.Sign (sign_of o)) e (no_open o);
    }

both_strips : {text : List ℕ} {tokens : List Token} {a b : ExprTree} (ls rs : List PlainToken) (o : Operator) (least : ℕ) → least ≤ level_of o → Strips text tokens ls a (sides o).left → Strips text tokens rs b (sides o).right → Strips text tokens (ls ++ Spaced (Sign (mark_of o)) ∷ rs) (Both o a b) least
both_strips {text} {tokens} {a} {b} ls rs o least ho sa sb m i end mid to left tree hm told fl none p g =
    let w = between text tokens i ls rs o end told in
    let lt = (sides o).left_tight in
    let rt = (sides o).right_tight in
    let x = sa m i w.mid mid to left tree (omega (arith, hm, ho, lt)) w.left (sign_follows o (sides o).left lt w.operator) none p g in
    let s = stepped o w.operator (omega (arith, hm, ho)) none x.goes in
    let further : Follows tokens (suc (level_of o)) end = record { operator = looser (suc least) (suc (level_of o)) (kind_at tokens end) (omega (arith, ho)) fl.operator; dot = fl.dot; opens = fl.opens } in
    let y = operands_from (suc (level_of o)) (sides o).right rs rt sb w.right further s.operands in
    record {
      left = Joined (Some o) w.mid x.left s.right;
      means = means.both o x.means y.means;
      goes = subst (λ z. Goes tokens m z (Joined (Some o) w.mid x.left s.right) to tree) y.ends s.goes;
    }

framed_strips : {text : List ℕ} {tokens : List Token} {e : ExprTree} (v : Bool) (ts : List PlainToken) (least : ℕ) → ((i k : ℕ) → AreTold text tokens i (flat_map told_plain ts) k → IsNoKey (kind_at tokens i)) → Strips text tokens ts e 0 → (v ≡ false → Strips text tokens ts e least) → Strips text tokens (enclosed v ts) e least
framed_strips {text} {tokens} true ts least keyless inner bare m i end mid to left tree hm told fl none p g = from_atom (in_parenthesis ts inner (λ k h. keyless (after i) k h) told (open_prefix (within text tokens i ts end told).opened p)) g
framed_strips false ts least keyless inner bare m i end mid to left tree hm told fl none p g = bare refl m i end mid to left tree hm told fl none p g

-- Whatever begins with the tokens of an expression begins with that expression.
strips : {text : List ℕ} {tokens : List Token} (f : List ℕ → List ℕ) (e : ExprTree) (k least : ℕ) → Fits k least → reads_plain e ≡ true → Strips text tokens (expr_tokens f e k) (renamed f e) least
strips f (Number n) k least ft pl m i end mid to left tree hm told fl none p g = from_atom (at_end told.1 (number_atom n told.0 (number_prefix n told.0 p))) g
strips {tokens = tokens} f (Named w) k least ft pl m i end mid to left tree hm told fl none p g = from_atom (at_end told.1 (name_alone (f w) told.0.1 (subst (λ x. kind_at tokens x ≢ kind.Sign sign.Dot) (sym told.1) fl.dot) (subst (λ x. opens_at tokens x ≡ false) (sym told.1) fl.opens) (named_atom told.0.0 (name_prefix told.0.0 p)))) g
strips f (Local w) k least ft pl m i end mid to left tree hm told fl none p g = absurd (false≢true pl)
strips f OwnPriority k least ft pl m i end mid to left tree hm told fl none p g = absurd (false≢true pl)
strips {tokens = tokens} f IsCancelled k least ft pl m i end mid to left tree hm told fl none p g = from_atom (at_end told.1.1.1 (member_alone told.0.1 told.1.0 told.1.1.0.1 (subst (λ x. opens_at tokens x ≡ false) (sym told.1.1.1) fl.opens) (named_atom told.0.0 (name_prefix told.0.0 p)))) g
strips {text} {tokens} f (Negated a) k least ft pl m i end mid to left tree hm told fl none p g =
    let b = minus_prefix told.0 p in
    let o = operand f a pl (strips f a 5 0 fits_5 pl) told.1 fl b.atom in
    from_atom (record { ends = o.ends; means = subst (λ y. Means text tokens y (Negated (renamed f a))) (sym b.is) (means.negated o.means) }) g
strips {text} {tokens} f (Inverted a) k least ft pl m i end mid to left tree hm told fl none p g =
    let b = bang_prefix told.0 p in
    let o = operand f a pl (strips f a 5 0 fits_5 pl) told.1 fl b.atom in
    from_atom (record { ends = o.ends; means = subst (λ y. Means text tokens y (Inverted (renamed f a))) (sym b.is) (means.inverted o.means) }) g
strips {text} {tokens} f (Both o a b) k least ft pl m i end mid to left tree hm told fl none p g =
    let pa : reads_plain a ≡ true = left_side (reads_plain a) (reads_plain b) pl in
    let pb : reads_plain b ≡ true = right_side (reads_plain a) (reads_plain b) pl in
    let ls = expr_tokens f a (left_of o) in
    let rs = expr_tokens f b (precedence_of o - 1) in
    let sa = strips {text = text} {tokens = tokens} f a (left_of o) (sides o).left (sides o).left_fits pa in
    let sb = strips {text = text} {tokens = tokens} f b (precedence_of o - 1) (sides o).right (sides o).right_fits pb in
    framed_strips {text = text} {tokens = tokens} (nat_lt k (precedence_of o)) (ls ++ Spaced (Sign (mark_of o)) ∷ rs) least (λ j l h. no_key text tokens f a (left_of o) j (between text tokens j ls rs o l h).mid pa (between text tokens j ls rs o l h).left) (both_strips ls rs o 0 (omega arith) sa sb) (λ v. both_strips ls rs o least (ft o v) sa sb) m i end mid to left tree hm told fl none p g

-- The tokens of an expression spell it, and nothing else.
pub reads : (text : List ℕ) (tokens : List Token) (f : List ℕ → List ℕ) (e : ExprTree) (i end to : ℕ) (tree : SwiftTree) → reads_plain e ≡ true → AreTold text tokens i (expr_told f e 5) end → EndsExpr tokens end → SpellsExpr tokens i to tree → (to ≡ end) × Means text tokens tree (renamed f e)
reads text tokens f e i end to tree p told ends d =
    let s = expr_from (expr_tokens f e 5) (strips f e 5 0 fits_5 p) (no_key text tokens f e 5 i end p told) told ends d in
    (s.ends, s.means)
