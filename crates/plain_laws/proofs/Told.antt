-- Tokens that are told, in parts.
use Rattle.plain_laws.proofs.Prelude.{Told, Of, AreTold, expr_told, told_plain, told_mark, PlainToken, Bare, Spaced, left_of, enclosed, expr_tokens, reads_plain, mark_of, precedence_of, ExprTree, Number, Named, Local, OwnPriority, IsCancelled, Negated, Inverted, Both, Sign, ◌≡◌, ◌≢◌, ◌&&◌, ◌-◌, ℕ, Bool, true, false, nat_lt, List, [], ◌∷◌, ◌++◌, refl, sym, subst, ◌∙◌, false≢true, flat_map-append, flat_map, after, kind_at, Token, TokenKind, Operator}
use Rattle.script_tokens.specs.declared.mark.Mark.TheVariants as mark
use Rattle.swift_syntax.specs.declared.sign.Sign.TheVariants as sign
use Rattle.swift_syntax.specs.declared.token.TokenKind.TheVariants as kind
use Rattle.swift_syntax.specs.declared.word.Word.{Word}
use Rattle.plain_laws.proofs.Operators.{sign_of, is_told}

record Parted (text : List ℕ) (tokens : List Token) (i : ℕ) (xs ys : List Told) (j : ℕ) : Type 0 where
  pub mid : ℕ
  pub front : AreTold text tokens i xs mid
  pub back : AreTold text tokens mid ys j

parted : (text : List ℕ) (tokens : List Token) (i : ℕ) (xs ys : List Told) (j : ℕ) → AreTold text tokens i (xs ++ ys) j → Parted text tokens i xs ys j
parted text tokens i [] ys j d = record { mid = i; front = refl; back = d }
parted text tokens i (x ∷ xs) ys j d =
    let p = parted text tokens (after i) xs ys j d.1 in
    record { mid = p.mid; front = (d.0, p.front); back = p.back }

-- an operator between two operands
pub record Between (text : List ℕ) (tokens : List Token) (i : ℕ) (xs ys : List PlainToken) (o : Operator) (j : ℕ) : Type 0 where
  pub mid : ℕ
  pub left : AreTold text tokens i (flat_map told_plain xs) mid
  pub operator : kind_at tokens mid ≡ kind.Sign (sign_of o)
  pub right : AreTold text tokens (after mid) (flat_map told_plain ys) j

pub between : (text : List ℕ) (tokens : List Token) (i : ℕ) (xs ys : List PlainToken) (o : Operator) (j : ℕ) → AreTold text tokens i (flat_map told_plain (xs ++ Spaced (Sign (mark_of o)) ∷ ys)) j → Between text tokens i xs ys o j
between text tokens i xs ys o j d =
    let all : AreTold text tokens i (flat_map told_plain xs ++ (told_mark (mark_of o) ++ flat_map told_plain ys)) j = subst (λ ts. AreTold text tokens i ts j) (flat_map-append told_plain xs (Spaced (Sign (mark_of o)) ∷ ys)) d in
    let p = parted text tokens i (flat_map told_plain xs) (told_mark (mark_of o) ++ flat_map told_plain ys) j all in
    let back : AreTold text tokens p.mid (Of (kind.Sign (sign_of o)) ∷ flat_map told_plain ys) j = subst (λ ts. AreTold text tokens p.mid (ts ++ flat_map told_plain ys) j) (is_told o) p.back in
    record { mid = p.mid; left = p.front; operator = back.0; right = back.1 }

-- what stands in a parenthesis
pub record Within (text : List ℕ) (tokens : List Token) (i : ℕ) (xs : List PlainToken) (j : ℕ) : Type 0 where
  pub close : ℕ
  pub opened : kind_at tokens i ≡ kind.Sign sign.Open
  pub inner : AreTold text tokens (after i) (flat_map told_plain xs) close
  pub closed : kind_at tokens close ≡ kind.Sign sign.Close
  pub ends : after close ≡ j

pub within : (text : List ℕ) (tokens : List Token) (i : ℕ) (xs : List PlainToken) (j : ℕ) → AreTold text tokens i (flat_map told_plain (enclosed true xs)) j → Within text tokens i xs j
within text tokens i xs j d =
    let all : AreTold text tokens (after i) (flat_map told_plain xs ++ Of (kind.Sign sign.Close) ∷ []) j = subst (λ ts. AreTold text tokens (after i) ts j) (flat_map-append told_plain xs (Bare (Sign mark.Close) ∷ [])) d.1 in
    let p = parted text tokens (after i) (flat_map told_plain xs) (Of (kind.Sign sign.Close) ∷ []) j all in
    record { close = p.mid; opened = d.0; inner = p.front; closed = p.back.0; ends = p.back.1 }

pub left_side : (a b : Bool) → (a && b) ≡ true → a ≡ true
left_side true b e = refl
left_side false b e = e

pub right_side : (a b : Bool) → (a && b) ≡ true → b ≡ true
right_side true b e = e
right_side false b e = absurd (false≢true e)

-- A token is no keyword.
abbrev pub IsNoKey : TokenKind → Type 0
IsNoKey k = (w : Word) → k ≢ kind.Key w

name_no_key : {k : TokenKind} → k ≡ kind.Name → IsNoKey k
name_no_key e w h = let x : kind.Name ≡ kind.Key w = sym e ∙ h in absurd cc

sign_no_key : {k : TokenKind} (s : _) → k ≡ kind.Sign s → IsNoKey k
sign_no_key s e w h = let x : kind.Sign s ≡ kind.Key w = sym e ∙ h in absurd cc

number_no_key : {k : TokenKind} (n : _) → k ≡ kind.Number n → IsNoKey k
number_no_key n e w h = let x : kind.Number n ≡ kind.Key w = sym e ∙ h in absurd cc

framed_no_key : (text : List ℕ) (tokens : List Token) (i : ℕ) (xs : List PlainToken) (b : Bool) (j : ℕ) → ((k : ℕ) → AreTold text tokens i (flat_map told_plain xs) k → IsNoKey (kind_at tokens i)) → AreTold text tokens i (flat_map told_plain (enclosed b xs)) j → IsNoKey (kind_at tokens i)
framed_no_key text tokens i xs true j inner d = sign_no_key sign.Open (within text tokens i xs j d).opened
framed_no_key text tokens i xs false j inner d = inner j d

-- an expression begins with no keyword
pub no_key : (text : List ℕ) (tokens : List Token) (f : List ℕ → List ℕ) (e : ExprTree) (k i j : ℕ) → reads_plain e ≡ true → AreTold text tokens i (expr_told f e k) j → IsNoKey (kind_at tokens i)
no_key text tokens f (Number n) k i j p d = number_no_key n d.0
no_key text tokens f (Named w) k i j p d = name_no_key d.0.0
no_key text tokens f (Local w) k i j p d = absurd (false≢true p)
no_key text tokens f OwnPriority k i j p d = absurd (false≢true p)
no_key text tokens f IsCancelled k i j p d = name_no_key d.0.0
no_key text tokens f (Negated a) k i j p d = sign_no_key sign.Minus d.0
no_key text tokens f (Inverted a) k i j p d = sign_no_key sign.Bang d.0
no_key text tokens f (Both o a b) k i j p d =
    let ls = expr_tokens f a (left_of o) in
    let rs = expr_tokens f b (precedence_of o - 1) in
    framed_no_key text tokens i (ls ++ Spaced (Sign (mark_of o)) ∷ rs) (nat_lt k (precedence_of o)) j (λ m h. no_key text tokens f a (left_of o) i (between text tokens i ls rs o m h).mid (left_side (reads_plain a) (reads_plain b) p) (between text tokens i ls rs o m h).left) d
