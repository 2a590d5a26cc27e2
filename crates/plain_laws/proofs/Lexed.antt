-- The bytes of an expression consist of its tokens.
use Rattle.plain_laws.proofs.Prelude.{Told, Of, AreTold, Lexed, Rest, expr_told, told_plain, IsName, IsWritable, begins_name, goes_on, PlainToken, Bare, Spaced, left_of, enclosed, expr_tokens, expr_bytes, is_made_of_parts, reads_plain, said, mark_of, precedence_of, ExprTree, Number, Named, Local, OwnPriority, IsCancelled, Negated, Inverted, Both, Num, Name, Key, Sign, mark_spelling, ◌≡◌, ℕ, pos, negsuc, ◌<◌, ◌-◌, ◌^◌, ◌&&◌, ◌||◌, ◌==◌, Bool, true, false, nat_lt, List, [], ◌∷◌, ◌++◌, length, codes, refl, sym, ap, subst, ◌∙◌, arith, nat_tests, decimal_nonempty, digits_decimal, flat_map-append, append_assoc, decimal, flat_map, list_all, is_digit, is_letter, is_name_byte, after, Token, Operator}
use Rattle.swift_types.specs.declared.operator.Operator.TheVariants as op
use Rattle.script_tokens.specs.declared.keyword.Keyword.TheVariants as key
use Rattle.script_tokens.specs.declared.mark.Mark.TheVariants as mark
use Rattle.swift_syntax.specs.Fronts.{a_token, front_of, front_at, sign_at, slashed_at}
use Rattle.swift_syntax.specs.declared.sign.Sign.TheVariants as sign
use Rattle.swift_syntax.specs.declared.token.TokenKind.TheVariants as kind
use Rattle.plain_laws.proofs.Fronts.{begins_operand, bang_front, close_front, minus_front, name_front, number_front, numerals, open_front, operator_front, space_front}
use Rattle.plain_laws.proofs.Operators.{is_told, sign_of}
use Rattle.plain_laws.proofs.Steps.{step, step_space}

-- A token is told from what is behind it.
data Clear : PlainToken → List ℕ → Type 0 where
  an_operator : (o : Operator) {bs : List ℕ} → Clear (Spaced (Sign (mark_of o))) bs
  a_number : {n : ℕ} {bs : List ℕ} → n < 2 ^ 63 → goes_on bs ≡ false → Clear (Bare (Num (pos n))) bs
  a_name : {w bs : List ℕ} → IsName w → goes_on bs ≡ false → Clear (Bare (Name w)) bs
  a_cancelled : {bs : List ℕ} → goes_on bs ≡ false → Clear (Bare (Key key.Cancelled)) bs
  opens : {bs : List ℕ} → Clear (Bare (Sign mark.Open)) bs
  closes : {bs : List ℕ} → Clear (Bare (Sign mark.Close)) bs
  a_minus : {bs : List ℕ} → begins_operand bs ≡ true → Clear (Bare (Sign mark.Minus)) bs
  a_bang : {bs : List ℕ} → begins_operand bs ≡ true → Clear (Bare (Sign mark.Bang)) bs

data AllClear : List PlainToken → List ℕ → Type 0 where
  no_more : {bs : List ℕ} → AllClear [] bs
  one_more : {t : PlainToken} {ts : List PlainToken} {bs : List ℕ} → Clear t (flat_map said ts ++ bs) → AllClear ts bs → AllClear (t ∷ ts) bs

join_told : (text : List ℕ) (tokens : List Token) (i j k : ℕ) (xs ys : List Told) → AreTold text tokens i xs j → AreTold text tokens j ys k → AreTold text tokens i (xs ++ ys) k
join_told text tokens i j k [] ys d e = subst (λ x. AreTold text tokens x ys k) (sym d) e
join_told text tokens i j k (x ∷ xs) ys d e = (d.0, join_told text tokens (after i) j k xs ys d.1 e)

-- the first byte of an operator, and the other
record Spelt (o : Operator) : Type 0 where
  pub first : ℕ
  pub others : List ℕ
  pub is : mark_spelling (mark_of o) ≡ first ∷ others

spelt : (o : Operator) → Spelt o
spelt op.Or = record { first = 124; others = 124 ∷ []; is = refl }
spelt op.And = record { first = 38; others = 38 ∷ []; is = refl }
spelt op.Equal = record { first = 61; others = 61 ∷ []; is = refl }
spelt op.Unequal = record { first = 33; others = 61 ∷ []; is = refl }
spelt op.Less = record { first = 60; others = []; is = refl }
spelt op.AtMost = record { first = 60; others = 61 ∷ []; is = refl }
spelt op.Greater = record { first = 62; others = []; is = refl }
spelt op.AtLeast = record { first = 62; others = 61 ∷ []; is = refl }
spelt op.Plus = record { first = 43; others = []; is = refl }
spelt op.Minus = record { first = 45; others = []; is = refl }
spelt op.Times = record { first = 42; others = []; is = refl }

operator_lexed : {text : List ℕ} {tokens : List Token} {i : ℕ} (o : Operator) (bs : List ℕ) → length tokens < 2 ^ 64 → Rest text tokens i (said (Spaced (Sign (mark_of o))) ++ bs) → Lexed text tokens i (told_plain (Spaced (Sign (mark_of o)))) bs
operator_lexed {text} {tokens} {i} o bs long r =
    let s = spelt o in
    let all : said (Spaced (Sign (mark_of o))) ++ bs ≡ 32 ∷ (s.first ∷ (s.others ++ 32 ∷ bs)) = ap (λ w. 32 ∷ ((w ++ 32 ∷ []) ++ bs)) s.is ∙ ap (λ x. 32 ∷ x) (append_assoc (s.first ∷ s.others) (32 ∷ []) bs) in
    let r1 = step_space (s.first ∷ (s.others ++ 32 ∷ bs)) (space_front (s.first ∷ (s.others ++ 32 ∷ bs))) (subst (λ x. Rest text tokens i x) all r) in
    let front : front_of (s.first ∷ (s.others ++ 32 ∷ bs)) ≡ (a_token (kind.Sign (sign_of o)), 32 ∷ bs) = ap (λ w. front_of (w ++ 32 ∷ bs)) (sym s.is) ∙ operator_front o bs in
    let t = step s.first s.others (32 ∷ bs) (kind.Sign (sign_of o)) long front r1 in
    let told : AreTold text tokens i (Of (kind.Sign (sign_of o)) ∷ []) (after i) = (t.kind, refl) in
    record { end = after i; told = subst (λ ts. AreTold text tokens i ts (after i)) (sym (is_told o)) told; next = step_space bs (space_front bs) t.next }

number_lexed : {text : List ℕ} {tokens : List Token} {i : ℕ} (ds : List ℕ) (n : ℕ) (bs : List ℕ) → decimal n ≡ ds → length tokens < 2 ^ 64 → n < 2 ^ 63 → goes_on bs ≡ false → Rest text tokens i (ds ++ bs) → Lexed text tokens i (told_plain (Bare (Num (pos n)))) bs
number_lexed [] n bs e long h g r =
    let some : 0 < length (decimal n) = decimal_nonempty n (omega (arith, h)) in
    let none : length (decimal n) ≡ 0 = ap length e in
    absurd (omega (arith, some, none))
number_lexed {i = i} (d ∷ ds) n bs e long h g r =
    let front : front_of (d ∷ (ds ++ bs)) ≡ (a_token (kind.Number (pos n)), bs) = ap (λ w. front_of (w ++ bs)) (sym e) ∙ number_front n bs h g in
    let t = step d ds bs (kind.Number (pos n)) long front r in
    record { end = after i; told = (t.kind, refl); next = t.next }

pub name_lexed : {text : List ℕ} {tokens : List Token} {i : ℕ} (w bs : List ℕ) → length tokens < 2 ^ 64 → IsName w → goes_on bs ≡ false → Rest text tokens i (w ++ bs) → Lexed text tokens i (told_plain (Bare (Name w))) bs
name_lexed [] bs long h g r = cc (h.begins)
name_lexed {i = i} (b ∷ w) bs long h g r =
    let t = step b w bs kind.Name long (name_front (b ∷ w) bs h g) r in
    record { end = after i; told = ((t.kind, t.bytes), refl); next = t.next }

task_is : IsName (codes "Task")
task_is = record { begins = refl; bytes = refl; no_keyword = refl }

cancelled_is : IsName (codes "isCancelled")
cancelled_is = record { begins = refl; bytes = refl; no_keyword = refl }

dot_front : (bs : List ℕ) → front_of (46 ∷ (codes "isCancelled" ++ bs)) ≡ (a_token (kind.Sign sign.Dot), codes "isCancelled" ++ bs)
unfolding front_at slashed_at sign_at
dot_front bs = refl

cancelled_lexed : {text : List ℕ} {tokens : List Token} {i : ℕ} (bs : List ℕ) → length tokens < 2 ^ 64 → goes_on bs ≡ false → Rest text tokens i (codes "Task.isCancelled" ++ bs) → Lexed text tokens i (told_plain (Bare (Key key.Cancelled))) bs
cancelled_lexed {i = i} bs long g r =
    let t = step 84 (codes "ask") (codes ".isCancelled" ++ bs) kind.Name long (name_front (codes "Task") (codes ".isCancelled" ++ bs) task_is refl) r in
    let d = step 46 [] (codes "isCancelled" ++ bs) (kind.Sign sign.Dot) long (dot_front bs) t.next in
    let c = step 105 (codes "sCancelled") bs kind.Name long (name_front (codes "isCancelled") bs cancelled_is g) d.next in
    record { end = after (after (after i)); told = ((t.kind, t.bytes), (d.kind, ((c.kind, c.bytes), refl))); next = c.next }

one_lexed : {text : List ℕ} {tokens : List Token} {i : ℕ} {t : PlainToken} {bs : List ℕ} → length tokens < 2 ^ 64 → Clear t bs → Rest text tokens i (said t ++ bs) → Lexed text tokens i (told_plain t) bs
one_lexed {bs = bs} long (an_operator o) r = operator_lexed o bs long r
one_lexed {bs = bs} long (a_number {n = n} h g) r = number_lexed (decimal n) n bs refl long h g r
one_lexed {bs = bs} long (a_name {w = w} h g) r = name_lexed w bs long h g r
one_lexed {bs = bs} long (a_cancelled g) r = cancelled_lexed bs long g r
one_lexed {i = i} {bs = bs} long opens r = let t = step 40 [] bs (kind.Sign sign.Open) long (open_front bs) r in record { end = after i; told = (t.kind, refl); next = t.next }
one_lexed {i = i} {bs = bs} long closes r = let t = step 41 [] bs (kind.Sign sign.Close) long (close_front bs) r in record { end = after i; told = (t.kind, refl); next = t.next }
one_lexed {i = i} {bs = bs} long (a_minus h) r = let t = step 45 [] bs (kind.Sign sign.Minus) long (minus_front bs h) r in record { end = after i; told = (t.kind, refl); next = t.next }
one_lexed {i = i} {bs = bs} long (a_bang h) r = let t = step 33 [] bs (kind.Sign sign.Bang) long (bang_front bs h) r in record { end = after i; told = (t.kind, refl); next = t.next }

all_lexed : {text : List ℕ} {tokens : List Token} {ts : List PlainToken} {bs : List ℕ} → length tokens < 2 ^ 64 → AllClear ts bs → (i : ℕ) → Rest text tokens i (flat_map said ts ++ bs) → Lexed text tokens i (flat_map told_plain ts) bs
all_lexed long no_more i r = record { end = i; told = refl; next = r }
all_lexed {text} {tokens} {bs = bs} long (one_more {t = t} {ts = ts} c d) i r =
    let l = one_lexed long c (subst (λ x. Rest text tokens i x) (append_assoc (said t) (flat_map said ts) bs) r) in
    let m = all_lexed long d l.end l.next in
    record { end = m.end; told = join_told text tokens i l.end m.end (told_plain t) (flat_map told_plain ts) l.told m.told; next = m.next }

joined_clear : {xs ys : List PlainToken} {bs vs : List ℕ} → vs ≡ flat_map said ys ++ bs → AllClear xs vs → AllClear ys bs → AllClear (xs ++ ys) bs
joined_clear q no_more e = e
joined_clear {ys = ys} {bs = bs} q (one_more {t = t} {ts = ts} c d) e =
    let same : flat_map said ts ++ _ ≡ flat_map said (ts ++ ys) ++ bs = ap (λ x. flat_map said ts ++ x) q ∙ (sym (append_assoc (flat_map said ts) (flat_map said ys) bs) ∙ ap (λ x. x ++ bs) (sym (flat_map-append said ts ys))) in
    one_more (subst (λ x. Clear t x) same c) (joined_clear q d e)

join_clear : {xs ys : List PlainToken} {bs : List ℕ} → AllClear xs (flat_map said ys ++ bs) → AllClear ys bs → AllClear (xs ++ ys) bs
join_clear d e = joined_clear refl d e

framed_clear : (v : Bool) (ts : List PlainToken) (bs : List ℕ) → ((us : List ℕ) → goes_on us ≡ false → AllClear ts us) → goes_on bs ≡ false → AllClear (enclosed v ts) bs
framed_clear true ts bs inner g = one_more opens (join_clear (inner (flat_map said (Bare (Sign mark.Close) ∷ []) ++ bs) refl) (one_more closes no_more))
framed_clear false ts bs inner g = inner bs g

operand_byte : (b : ℕ) → is_letter b ≡ true → (is_name_byte b || b == 40) ≡ true
operand_byte b h = rw h refl

digit_byte : (b : ℕ) → is_digit b ≡ true → (is_name_byte b || b == 40) ≡ true
digit_byte b h = grind (arith, nat_tests)

left_true : (a b : Bool) → (a && b) ≡ true → a ≡ true
left_true true b e = refl
left_true false b e = e

digits_begin : (ds bs : List ℕ) → 0 < length ds → list_all is_digit ds ≡ true → begins_operand (ds ++ bs) ≡ true
digits_begin [] bs some all = absurd (omega (arith, some))
digits_begin (d ∷ ds) bs some all = digit_byte d (left_true (is_digit d) (list_all is_digit ds) all)

name_begins : (w bs : List ℕ) → begins_name w ≡ true → begins_operand (w ++ bs) ≡ true
name_begins [] bs h = cc h
name_begins (b ∷ w) bs h = operand_byte b h

operand_begins : (f : List ℕ → List ℕ) (a : ExprTree) (bs : List ℕ) → IsWritable f a → begins_operand (flat_map said (enclosed (is_made_of_parts a) (expr_tokens f a 5)) ++ bs) ≡ true
operand_begins f (Number (pos n)) bs w =
    let long : n < 2 ^ 64 = omega (arith, w) in
    subst (λ x. begins_operand x ≡ true) (sym (append_assoc (decimal n) [] bs)) (digits_begin (decimal n) bs (decimal_nonempty n long) (digits_decimal numerals n long))
operand_begins f (Number (negsuc n)) bs w = absurd w
operand_begins f (Named x) bs w = subst (λ y. begins_operand y ≡ true) (sym (append_assoc (f x) [] bs)) (name_begins (f x) bs w.begins)
operand_begins f (Local x) bs w = absurd w
operand_begins f OwnPriority bs w = absurd w
operand_begins f IsCancelled bs w = refl
operand_begins f (Negated a) bs w = refl
operand_begins f (Inverted a) bs w = refl
operand_begins f (Both o a b) bs w = refl

-- The tokens of an expression are told from one another, and from what is behind them.
expr_clear : (f : List ℕ → List ℕ) (e : ExprTree) (k : ℕ) (bs : List ℕ) → IsWritable f e → goes_on bs ≡ false → AllClear (expr_tokens f e k) bs
expr_clear f (Number (pos n)) k bs w g = one_more (a_number w g) no_more
expr_clear f (Number (negsuc n)) k bs w g = absurd w
expr_clear f (Named x) k bs w g = one_more (a_name w g) no_more
expr_clear f (Local x) k bs w g = absurd w
expr_clear f OwnPriority k bs w g = absurd w
expr_clear f IsCancelled k bs w g = one_more (a_cancelled g) no_more
expr_clear f (Negated a) k bs w g = one_more (a_minus (operand_begins f a bs w)) (framed_clear (is_made_of_parts a) (expr_tokens f a 5) bs (λ us h. expr_clear f a 5 us w h) g)
expr_clear f (Inverted a) k bs w g = one_more (a_bang (operand_begins f a bs w)) (framed_clear (is_made_of_parts a) (expr_tokens f a 5) bs (λ us h. expr_clear f a 5 us w h) g)
expr_clear f (Both o a b) k bs w g =
    let rs = expr_tokens f b (precedence_of o - 1) in
    framed_clear (nat_lt k (precedence_of o)) (expr_tokens f a (left_of o) ++ Spaced (Sign (mark_of o)) ∷ rs) bs (λ us h. join_clear (expr_clear f a (left_of o) (flat_map said (Spaced (Sign (mark_of o)) ∷ rs) ++ us) w.0 refl) (one_more (an_operator o) (expr_clear f b (precedence_of o - 1) us w.1 h))) g

-- Where the bytes of an expression stand, its tokens do.
pub expr_lexed : {text : List ℕ} {tokens : List Token} {i : ℕ} (f : List ℕ → List ℕ) (e : ExprTree) (k : ℕ) (bs : List ℕ) → length tokens < 2 ^ 64 → IsWritable f e → goes_on bs ≡ false → Rest text tokens i (expr_bytes f e k ++ bs) → Lexed text tokens i (expr_told f e k) bs
expr_lexed {i = i} f e k bs long w g r = all_lexed long (expr_clear f e k bs w g) i r

true_both : (a b : Bool) → a ≡ true → b ≡ true → (a && b) ≡ true
true_both a b p q = rw (p, q) refl

pub writable_plain : (f : List ℕ → List ℕ) (e : ExprTree) → IsWritable f e → reads_plain e ≡ true
writable_plain f (Local x) w = absurd w
writable_plain f OwnPriority w = absurd w
writable_plain f (Negated a) w = writable_plain f a w
writable_plain f (Inverted a) w = writable_plain f a w
writable_plain f (Both o a b) w = true_both (reads_plain a) (reads_plain b) (writable_plain f a w.0) (writable_plain f b w.1)
writable_plain f _ w = refl
