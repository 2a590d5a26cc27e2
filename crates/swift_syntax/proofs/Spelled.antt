-- What functions on expressions read, from what they call.
use Rattle.std.proofs.Common.{◌≡◌, ◌≢◌, ◌≤◌, ℕ, suc, nat_lt, arith, Bool, true, false, List, Option, Some, None, refl, sym, ap, subst, ◌∙◌}
use Rattle.swift_syntax.specs.declared.expression.BinaryOperator.{BinaryOperator}
use Rattle.swift_syntax.specs.declared.reader.Reader.{Reader}
use Rattle.swift_syntax.specs.declared.sign.Sign.{Sign}
use Rattle.swift_syntax.specs.declared.sign.Sign.TheVariants as sign
use Rattle.swift_syntax.specs.declared.token.Token.{Token}
use Rattle.swift_syntax.specs.declared.token.TokenKind.{TokenKind}
use Rattle.swift_syntax.specs.declared.token.TokenKind.TheVariants as kind
use Rattle.swift_syntax.specs.declared.tree.ExprForm.{ExprForm}
use Rattle.swift_syntax.specs.declared.tree.ExprForm.TheVariants as form
use Rattle.swift_syntax.specs.declared.tree.Receiver.{Receiver}
use Rattle.swift_syntax.specs.declared.tree.Receiver.TheVariants as receiver
use Rattle.swift_syntax.specs.declared.word.Word.TheVariants as word
use Rattle.swift_syntax.specs.Expressions.{Called, Reads, ReadsArguments, SpellsArguments, SpellsAtom, Table, table_of, SpellsCalled, SpellsNamed, SpellsPrefixed, SpellsSome, SpellsOperands, SpellsChoice, SpellsExpr, SwiftTree, Leaf, Joined, Negated, Inverted, Chosen, Awaited, Tried, TriedOptional, StandsAt, after, binary_of, both_form, if_tight, kind_at, literal_of, opens_at, operator_in}
use Rattle.swift_syntax.specs.Expressions as swift
use Rattle.swift_syntax.specs.ReadersInside.{Grows, IsPut, taken, takes_if, tried_form}
use Rattle.swift_syntax.proofs.Grown.{grown, grows_on, put_there, stand_more, stands_on, stands_put}
use Rattle.swift_syntax.proofs.Refused.{grows_taken}

-- what was read is still read where more was
pub moved : (F : List Token → ℕ → ℕ → SwiftTree → Type 0) (r s : Reader) {i j p : ℕ} → Grows r s → Reads (F r.tokens.now) (table_of r.tree.value) i j p → Reads (F s.tokens.now) (table_of s.tree.value) i j p
moved F r s {i} {j} {p} g d = record { tree = d.tree; spelled = subst (λ ts. F ts.now i j d.tree) (sym g.tokens) d.spelled; stands = stands_on g d.stands }

-- the same by another relation, where what is spelled by the one is by the other
pub likewise : {P Q : ℕ → ℕ → SwiftTree → Type 0} {x : Table} {i j k l p : ℕ} → ((t : SwiftTree) → P i j t → Q k l t) → Reads P x i j p → Reads Q x k l p
likewise f d = record { tree = d.tree; spelled = f d.tree d.spelled; stands = d.stands }

-- the kinds of tokens stay
kind_on : {r s : Reader} (i : ℕ) {k : TokenKind} → Grows r s → kind_at r.tokens.now i ≡ k → kind_at s.tokens.now i ≡ k
kind_on i g e = ap (λ ts. kind_at ts.now i) g.tokens ∙ e

at_next : (r s : Reader) → s ≡ taken r → s.at ≡ after r.at
at_next r s e = ap (λ x. x.at) e

kind_next : (r s : Reader) {k : TokenKind} → s ≡ taken r → kind_at s.tokens.now s.at ≡ k → kind_at r.tokens.now (after r.at) ≡ k
kind_next r s {k = k} e h = subst (λ x. kind_at x.tokens.now x.at ≡ k) e h

grows_next : {r s : Reader} → s ≡ taken r → Grows r s
grows_next e = grows_taken e

pub literal_read : (r s : Reader) {p : ℕ} (f : ExprForm) → literal_of (kind_at r.tokens.now r.at) ≡ Some f → IsPut (taken r) s f r.at p → Grows r s → Reads (SpellsAtom s.tokens.now) (table_of s.tree.value) r.at s.at p
literal_read r s f e put g =
    let there : literal_of (kind_at s.tokens.now r.at) ≡ Some f = ap (λ ts. literal_of (kind_at ts.now r.at)) g.tokens ∙ e in
    record { tree = Leaf f r.at; spelled = subst (λ j. SpellsAtom s.tokens.now r.at j (Leaf f r.at)) (sym put.at) (swift.literal there); stands = swift.leaf (put_there put) }

pub own_read : (r0 r1 r2 r3 r4 : Reader) {member p : ℕ} → kind_at r0.tokens.now r0.at ≡ kind.Key word.Own → r1 ≡ taken r0 → (kind_at r1.tokens.now r1.at ≡ kind.Sign sign.Dot) × (r2 ≡ taken r1) → (kind_at r2.tokens.now r2.at ≡ kind.Name) × (member ≡ r2.at) × (r3 ≡ taken r2) → Grows r3 r4 → Reads (SpellsCalled r4.tokens.now receiver.Own form.OwnMember member) (table_of r4.tree.value) r3.at r4.at p → Reads (SpellsAtom r4.tokens.now) (table_of r4.tree.value) r0.at r4.at p
own_read r0 r1 r2 r3 r4 {member} {p} k e s m g d =
    let e2 : r2 ≡ taken (taken r0) = subst (λ x. r2 ≡ taken x) e s.1 in
    let e3 : r3 ≡ taken (taken (taken r0)) = subst (λ x. r3 ≡ taken x) e2 m.2 in
    let g04 : Grows r0 r4 = grows_on (grows_next e) (grows_on (grows_next s.1) (grows_on (grows_next m.2) g)) in
    let k1 : kind_at r0.tokens.now (after r0.at) ≡ kind.Sign sign.Dot = kind_next r0 r1 e s.0 in
    let k2 : kind_at r0.tokens.now (after (after r0.at)) ≡ kind.Name = subst (λ x. kind_at x.tokens.now x.at ≡ kind.Name) e2 m.0 in
    let q : member ≡ after (after r0.at) = m.1 ∙ ap (λ x. x.at) e2 in
    likewise (λ t c. swift.own_member (kind_on r0.at g04 k) (kind_on (after r0.at) g04 k1) (kind_on (after (after r0.at)) g04 k2) (subst (λ n. SpellsCalled r4.tokens.now receiver.Own form.OwnMember n (after (after (after r0.at))) r4.at t) q (subst (λ x. SpellsCalled r4.tokens.now receiver.Own form.OwnMember member x.at r4.at t) e3 c))) d

pub case_read : (r0 r1 r2 r3 : Reader) {name p : ℕ} → kind_at r0.tokens.now r0.at ≡ kind.Sign sign.Dot → r1 ≡ taken r0 → (kind_at r1.tokens.now r1.at ≡ kind.Name) × (name ≡ r1.at) × (r2 ≡ taken r1) → Grows r2 r3 → Reads (SpellsCalled r3.tokens.now receiver.Nobody form.Case name) (table_of r3.tree.value) r2.at r3.at p → Reads (SpellsAtom r3.tokens.now) (table_of r3.tree.value) r0.at r3.at p
case_read r0 r1 r2 r3 {name} {p} k e m g d =
    let e2 : r2 ≡ taken (taken r0) = subst (λ x. r2 ≡ taken x) e m.2 in
    let g03 : Grows r0 r3 = grows_on (grows_next e) (grows_on (grows_next m.2) g) in
    let k1 : kind_at r0.tokens.now (after r0.at) ≡ kind.Name = kind_next r0 r1 e m.0 in
    let q : name ≡ after r0.at = m.1 ∙ at_next r0 r1 e in
    likewise (λ t c. swift.case (kind_on r0.at g03 k) (kind_on (after r0.at) g03 k1) (subst (λ n. SpellsCalled r3.tokens.now receiver.Nobody form.Case n (after (after r0.at)) r3.at t) q (subst (λ x. SpellsCalled r3.tokens.now receiver.Nobody form.Case name x.at r3.at t) e2 c))) d

pub parenthesis_read : (r0 r1 r2 r3 : Reader) {p : ℕ} → kind_at r0.tokens.now r0.at ≡ kind.Sign sign.Open → r1 ≡ taken r0 → Grows r1 r2 → Reads (SpellsExpr r2.tokens.now) (table_of r2.tree.value) r1.at r2.at p → (kind_at r2.tokens.now r2.at ≡ kind.Sign sign.Close) × (r3 ≡ taken r2) → Reads (SpellsAtom r3.tokens.now) (table_of r3.tree.value) r0.at r3.at p
parenthesis_read r0 r1 r2 r3 {p} k e g d c =
    let g23 = grows_next c.1 in
    let g03 : Grows r0 r3 = grows_on (grows_next e) (grows_on g g23) in
    let d3 = moved SpellsExpr r2 r3 g23 d in
    likewise (λ t x. subst (λ j. SpellsAtom r3.tokens.now r0.at j t) (sym (at_next r2 r3 c.1)) (swift.parenthesis (kind_on r0.at g03 k) (subst (λ i. SpellsExpr r3.tokens.now i r2.at t) (at_next r0 r1 e) x) (kind_on r2.at g23 c.0))) d3

pub name_read : (r s : Reader) {p : ℕ} → kind_at r.tokens.now r.at ≡ kind.Name → Grows r s → Reads (SpellsNamed s.tokens.now) (table_of s.tree.value) r.at s.at p → Reads (SpellsAtom s.tokens.now) (table_of s.tree.value) r.at s.at p
name_read r s k g d = likewise (λ t x. swift.name (kind_on r.at g k) x) d

pub alone_read : (r s : Reader) {of : Receiver} {alone : ExprForm} {name p : ℕ} → opens_at r.tokens.now r.at ≡ false → Grows r s → IsPut r s alone name p → Reads (SpellsCalled s.tokens.now of alone name) (table_of s.tree.value) r.at s.at p
alone_read r s {of} {alone} {name} o g put =
    let there : opens_at s.tokens.now r.at ≡ false = ap (λ ts. opens_at ts.now r.at) g.tokens ∙ o in
    record { tree = Leaf alone name; spelled = subst (λ j. SpellsCalled s.tokens.now of alone name r.at j (Leaf alone name)) (sym put.at) (swift.uncalled there); stands = swift.leaf (put_there put) }

pub call_read : (r0 r1 r2 r3 : Reader) {of : Receiver} {alone : ExprForm} {name first p : ℕ} → opens_at r0.tokens.now r0.at ≡ true → r1 ≡ taken r0 → Grows r1 r2 → ReadsArguments r2.tokens.now (table_of r2.tree.value) r1.at r2.at first → IsPut r2 r3 (form.Call of first) name p → Grows r2 r3 → Reads (SpellsCalled r3.tokens.now of alone name) (table_of r3.tree.value) r0.at r3.at p
call_read r0 r1 r2 r3 {of} {alone} {name} {first} o e g d put h =
    let g03 : Grows r0 r3 = grows_on (grows_next e) (grows_on g h) in
    let there : opens_at r3.tokens.now r0.at ≡ true = ap (λ ts. opens_at ts.now r0.at) g03.tokens ∙ o in
    let spelled : SpellsArguments r3.tokens.now (after r0.at) r3.at d.arguments = subst (λ i. SpellsArguments r3.tokens.now i r3.at d.arguments) (at_next r0 r1 e) (subst (λ j. SpellsArguments r3.tokens.now r1.at j d.arguments) (sym put.at) (subst (λ ts. SpellsArguments ts.now r1.at r2.at d.arguments) (sym h.tokens) d.spelled)) in
    record { tree = Called of name d.arguments; spelled = swift.call there spelled; stands = swift.called (put_there put) (stand_more (grown h) d.stand) }

pub member_read : (r0 r1 r2 r3 r4 : Reader) {first member p : ℕ} → first ≡ r0.at → r1 ≡ taken r0 → kind_at r1.tokens.now r1.at ≡ kind.Sign sign.Dot → r2 ≡ taken r1 → (kind_at r2.tokens.now r2.at ≡ kind.Name) × (member ≡ r2.at) × (r3 ≡ taken r2) → Grows r3 r4 → Reads (SpellsCalled r4.tokens.now (receiver.Named first) (form.Member first) member) (table_of r4.tree.value) r3.at r4.at p → Reads (SpellsNamed r4.tokens.now) (table_of r4.tree.value) r0.at r4.at p
member_read r0 r1 r2 r3 r4 {first} {member} {p} f e k s m g d =
    let e2 : r2 ≡ taken (taken r0) = subst (λ x. r2 ≡ taken x) e s in
    let e3 : r3 ≡ taken (taken (taken r0)) = subst (λ x. r3 ≡ taken x) e2 m.2 in
    let g04 : Grows r0 r4 = grows_on (grows_next e) (grows_on (grows_next s) (grows_on (grows_next m.2) g)) in
    let k1 : kind_at r0.tokens.now (after r0.at) ≡ kind.Sign sign.Dot = kind_next r0 r1 e k in
    let k2 : kind_at r0.tokens.now (after (after r0.at)) ≡ kind.Name = subst (λ x. kind_at x.tokens.now x.at ≡ kind.Name) e2 m.0 in
    let q : member ≡ after (after r0.at) = m.1 ∙ ap (λ x. x.at) e2 in
    likewise (λ t c. swift.member (kind_on (after r0.at) g04 k1) (kind_on (after (after r0.at)) g04 k2) (subst (λ n. SpellsCalled r4.tokens.now (receiver.Named n) (form.Member n) (after (after r0.at)) (after (after (after r0.at))) r4.at t) f (subst (λ n. SpellsCalled r4.tokens.now (receiver.Named first) (form.Member first) n (after (after (after r0.at))) r4.at t) q (subst (λ x. SpellsCalled r4.tokens.now (receiver.Named first) (form.Member first) member x.at r4.at t) e3 c)))) d

pub lone_read : (r0 r1 r2 r3 : Reader) {first p : ℕ} → first ≡ r0.at → r1 ≡ taken r0 → kind_at r1.tokens.now r1.at ≢ kind.Sign sign.Dot → r2 ≡ r1 → Grows r2 r3 → Reads (SpellsCalled r3.tokens.now receiver.Nobody form.Name first) (table_of r3.tree.value) r2.at r3.at p → Reads (SpellsNamed r3.tokens.now) (table_of r3.tree.value) r0.at r3.at p
lone_read r0 r1 r2 r3 {first} {p} f e k s g d =
    let e2 : r2 ≡ taken r0 = s ∙ e in
    let g03 : Grows r0 r3 = grows_on (grows_next e2) g in
    let k1 : kind_at r3.tokens.now (after r0.at) ≢ kind.Sign sign.Dot = λ h. k (subst (λ x. kind_at x.tokens.now x.at ≡ kind.Sign sign.Dot) (sym e) (ap (λ ts. kind_at ts.now (after r0.at)) (sym g03.tokens) ∙ h)) in
    likewise (λ t c. swift.alone k1 (subst (λ n. SpellsCalled r3.tokens.now receiver.Nobody form.Name n (after r0.at) r3.at t) f (subst (λ x. SpellsCalled r3.tokens.now receiver.Nobody form.Name first x.at r3.at t) e2 c))) d

-- an expression with one part is put
one_part : (r s : Reader) {f : ExprForm} {t p i : ℕ} {b : SwiftTree} (F : List Token → ℕ → ℕ → SwiftTree → Type 0) → IsPut r s f t p → Grows r s → F r.tokens.now i r.at b → StandsAt (table_of s.tree.value) p b → Reads (F s.tokens.now) (table_of s.tree.value) i s.at p
one_part r s {i = i} {b = b} F put g d st = record { tree = b; spelled = subst (λ ts. F ts.now i s.at b) (sym g.tokens) (subst (λ j. F r.tokens.now i j b) (sym put.at) d); stands = st }

pub negated_read : (r0 r1 r2 r3 r4 : Reader) {place operand p : ℕ} → kind_at r0.tokens.now r0.at ≡ kind.Sign sign.Minus → place ≡ r0.at → r1 ≡ taken r0 → Grows r1 r2 → Reads (SpellsAtom r2.tokens.now) (table_of r2.tree.value) r1.at r2.at operand → r3 ≡ r2 → IsPut r3 r4 (form.Negate operand) place p → Grows r3 r4 → Reads (SpellsPrefixed r4.tokens.now) (table_of r4.tree.value) r0.at r4.at p
negated_read r0 r1 r2 r3 r4 {place} {operand} {p} k pl e g d s put h =
    let put2 : IsPut r2 r4 (form.Negate operand) r0.at p = subst (λ x. IsPut r2 r4 (form.Negate operand) x p) pl (subst (λ x. IsPut x r4 (form.Negate operand) place p) s put) in
    let h2 : Grows r2 r4 = subst (λ x. Grows x r4) s h in
    let x : SpellsAtom r2.tokens.now (after r0.at) r2.at d.tree = subst (λ i. SpellsAtom r2.tokens.now i r2.at d.tree) (at_next r0 r1 e) d.spelled in
    one_part r2 r4 SpellsPrefixed put2 h2 (swift.negated (kind_on r0.at (grows_on (grows_next e) g) k) x) (swift.negated (put_there put2) (stands_put put2 d.stands))

pub inverted_read : (r0 r1 r2 r3 : Reader) {place operand p : ℕ} → kind_at r0.tokens.now r0.at ≡ kind.Sign sign.Bang → place ≡ r0.at → r1 ≡ taken r0 → Grows r1 r2 → Reads (SpellsAtom r2.tokens.now) (table_of r2.tree.value) r1.at r2.at operand → IsPut r2 r3 (form.Not operand) place p → Grows r2 r3 → Reads (SpellsPrefixed r3.tokens.now) (table_of r3.tree.value) r0.at r3.at p
inverted_read r0 r1 r2 r3 {place} {operand} {p} k pl e g d put h =
    let put2 : IsPut r2 r3 (form.Not operand) r0.at p = subst (λ x. IsPut r2 r3 (form.Not operand) x p) pl put in
    let x : SpellsAtom r2.tokens.now (after r0.at) r2.at d.tree = subst (λ i. SpellsAtom r2.tokens.now i r2.at d.tree) (at_next r0 r1 e) d.spelled in
    one_part r2 r3 SpellsPrefixed put2 h (swift.inverted (kind_on r0.at (grows_on (grows_next e) g) k) x) (swift.inverted (put_there put2) (stands_put put2 d.stands))

pub unprefixed_read : (r s : Reader) {p : ℕ} → Reads (SpellsAtom s.tokens.now) (table_of s.tree.value) r.at s.at p → Reads (SpellsPrefixed s.tokens.now) (table_of s.tree.value) r.at s.at p
unprefixed_read r s d = likewise (λ t x. swift.unprefixed x) d

pub awaited_read : (r0 r1 r2 r3 : Reader) {place inner p : ℕ} → kind_at r0.tokens.now r0.at ≡ kind.Key word.Await → place ≡ r0.at → r1 ≡ taken r0 → Grows r1 r2 → Reads (SpellsExpr r2.tokens.now) (table_of r2.tree.value) r1.at r2.at inner → IsPut r2 r3 (form.Await inner) place p → Grows r2 r3 → Reads (SpellsExpr r3.tokens.now) (table_of r3.tree.value) r0.at r3.at p
awaited_read r0 r1 r2 r3 {place} {inner} {p} k pl e g d put h =
    let put2 : IsPut r2 r3 (form.Await inner) r0.at p = subst (λ x. IsPut r2 r3 (form.Await inner) x p) pl put in
    let x : SpellsExpr r2.tokens.now (after r0.at) r2.at d.tree = subst (λ i. SpellsExpr r2.tokens.now i r2.at d.tree) (at_next r0 r1 e) d.spelled in
    one_part r2 r3 SpellsExpr put2 h (swift.awaited (kind_on r0.at (grows_on (grows_next e) g) k) x) (swift.awaited (put_there put2) (stands_put put2 d.stands))

pub tried_read : (r0 r1 r2 r3 r4 : Reader) {place inner p : ℕ} (optional : Bool) → kind_at r0.tokens.now r0.at ≡ kind.Key word.Try → place ≡ r0.at → r1 ≡ taken r0 → r2 ≡ takes_if optional r1 → (optional ≡ true → kind_at r1.tokens.now r1.at ≡ kind.Sign sign.Question) → Grows r2 r3 → Reads (SpellsExpr r3.tokens.now) (table_of r3.tree.value) r2.at r3.at inner → IsPut r3 r4 (tried_form optional inner) place p → Grows r3 r4 → Reads (SpellsExpr r4.tokens.now) (table_of r4.tree.value) r0.at r4.at p
tried_read r0 r1 r2 r3 r4 {place} {inner} {p} true k pl e o f g d put h =
    let e2 : r2 ≡ taken (taken r0) = subst (λ x. r2 ≡ taken x) e o in
    let put2 : IsPut r3 r4 (form.TryOptional inner) r0.at p = subst (λ x. IsPut r3 r4 (form.TryOptional inner) x p) pl put in
    let g03 : Grows r0 r3 = grows_on (grows_next e) (grows_on (grows_next o) g) in
    let x : SpellsExpr r3.tokens.now (after (after r0.at)) r3.at d.tree = subst (λ y. SpellsExpr r3.tokens.now y.at r3.at d.tree) e2 d.spelled in
    one_part r3 r4 SpellsExpr put2 h (swift.tried_optional (kind_on r0.at g03 k) (kind_on (after r0.at) g03 (kind_next r0 r1 e (f refl))) x) (swift.tried_optional (put_there put2) (stands_put put2 d.stands))
tried_read r0 r1 r2 r3 r4 {place} {inner} {p} false k pl e o f g d put h =
    let e2 : r2 ≡ taken r0 = o ∙ e in
    let put2 : IsPut r3 r4 (form.Try inner) r0.at p = subst (λ x. IsPut r3 r4 (form.Try inner) x p) pl put in
    let g03 : Grows r0 r3 = grows_on (grows_next e2) g in
    let x : SpellsExpr r3.tokens.now (after r0.at) r3.at d.tree = subst (λ y. SpellsExpr r3.tokens.now y.at r3.at d.tree) e2 d.spelled in
    one_part r3 r4 SpellsExpr put2 h (swift.tried (kind_on r0.at g03 k) x) (swift.tried (put_there put2) (stands_put put2 d.stands))

pub tried_grows : (r0 r1 r2 r3 r4 : Reader) (optional : Bool) → r1 ≡ taken r0 → r2 ≡ takes_if optional r1 → Grows r2 r3 → Grows r3 r4 → Grows r0 r4
tried_grows r0 r1 r2 r3 r4 true e o g h = grows_on (grows_next e) (grows_on (grows_next o) (grows_on g h))
tried_grows r0 r1 r2 r3 r4 false e o g h = grows_on (grows_next (o ∙ e)) (grows_on g h)

pub operands_alone_read : (r s : Reader) {p : ℕ} → kind_at s.tokens.now s.at ≢ kind.Sign sign.Question → Reads (SpellsOperands s.tokens.now 0) (table_of s.tree.value) r.at s.at p → Reads (SpellsChoice s.tokens.now) (table_of s.tree.value) r.at s.at p
operands_alone_read r s k d = likewise (λ t x. swift.operands x k) d

pub choice_read : (r0 r1 r2 r3 r4 r5 r6 : Reader) {place test held failed p : ℕ} → Reads (SpellsOperands r1.tokens.now 0) (table_of r1.tree.value) r0.at r1.at test → place ≡ r1.at → (kind_at r1.tokens.now r1.at ≡ kind.Sign sign.Question) × (r2 ≡ taken r1) → Grows r2 r3 → Reads (SpellsChoice r3.tokens.now) (table_of r3.tree.value) r2.at r3.at held → (kind_at r3.tokens.now r3.at ≡ kind.Sign sign.Colon) × (r4 ≡ taken r3) → Grows r4 r5 → Reads (SpellsChoice r5.tokens.now) (table_of r5.tree.value) r4.at r5.at failed → IsPut r5 r6 (form.Choice test held failed) place p → Grows r5 r6 → Reads (SpellsChoice r6.tokens.now) (table_of r6.tree.value) r0.at r6.at p
choice_read r0 r1 r2 r3 r4 r5 r6 {place} {test} {held} {failed} {p} a pl q g b c h f put k =
    let put2 : IsPut r5 r6 (form.Choice test held failed) r1.at p = subst (λ x. IsPut r5 r6 (form.Choice test held failed) x p) pl put in
    let g35 : Grows r3 r5 = grows_on (grows_next c.1) h in
    let g15 : Grows r1 r5 = grows_on (grows_next q.1) (grows_on g g35) in
    let a5 = moved (λ ts. SpellsOperands ts 0) r1 r5 g15 a in
    let b5 = moved SpellsChoice r3 r5 g35 b in
    let xb : SpellsChoice r5.tokens.now (after r1.at) r3.at b5.tree = subst (λ i. SpellsChoice r5.tokens.now i r3.at b5.tree) (at_next r1 r2 q.1) b5.spelled in
    let xf : SpellsChoice r5.tokens.now (after r3.at) r5.at f.tree = subst (λ i. SpellsChoice r5.tokens.now i r5.at f.tree) (at_next r3 r4 c.1) f.spelled in
    one_part r5 r6 SpellsChoice put2 k (swift.choice a5.spelled (kind_on r1.at g15 q.0) xb (kind_on r3.at g35 c.0) xf) (swift.chosen (put_there put2) (stands_put put2 a5.stands) (stands_put put2 b5.stands) (stands_put put2 f.stands))

pub uncovered_read : (r s : Reader) {p : ℕ} → Reads (SpellsChoice s.tokens.now) (table_of s.tree.value) r.at s.at p → Reads (SpellsExpr s.tokens.now) (table_of s.tree.value) r.at s.at p
uncovered_read r s d = likewise (λ t x. swift.uncovered x) d

pub first_read : (r s : Reader) {p : ℕ} (loosest : ℕ) → Reads (SpellsPrefixed s.tokens.now) (table_of s.tree.value) r.at s.at p → Reads (SpellsSome s.tokens.now loosest) (table_of s.tree.value) r.at s.at p
first_read r s loosest d = likewise (λ t x. swift.first x) d

pub all_read : (r s : Reader) {loosest p : ℕ} → operator_in loosest (kind_at s.tokens.now s.at) ≡ None → Reads (SpellsSome s.tokens.now loosest) (table_of s.tree.value) r.at s.at p → Reads (SpellsOperands s.tokens.now loosest) (table_of s.tree.value) r.at s.at p
all_read r s n d = likewise (λ t x. swift.all x n) d

pub next_read : (r0 r1 r2 r3 r4 r5 : Reader) {loosest place left right p level : ℕ} (found : BinaryOperator) → Reads (SpellsSome r1.tokens.now loosest) (table_of r1.tree.value) r0.at r1.at left → operator_in loosest (kind_at r1.tokens.now r1.at) ≡ Some found → place ≡ r1.at → r2 ≡ taken r1 → Grows r2 r3 → level ≡ suc found.level → Reads (SpellsOperands r3.tokens.now level) (table_of r3.tree.value) r2.at r3.at right → IsPut r3 r4 (both_form found.operator left right) place p → Grows r3 r4 → r5 ≡ r4 → Reads (SpellsSome r5.tokens.now loosest) (table_of r5.tree.value) r0.at r5.at p
next_read r0 r1 r2 r3 r4 r5 {loosest} {place} {left} {right} {p} {level} found a o pl e g l b put h s =
    let put2 : IsPut r3 r4 (both_form found.operator left right) r1.at p = subst (λ x. IsPut r3 r4 (both_form found.operator left right) x p) pl put in
    let g13 : Grows r1 r3 = grows_on (grows_next e) g in
    let a3 = moved (λ ts. SpellsSome ts loosest) r1 r3 g13 a in
    let o3 : operator_in loosest (kind_at r3.tokens.now r1.at) ≡ Some found = ap (λ ts. operator_in loosest (kind_at ts.now r1.at)) g13.tokens ∙ o in
    let xb : SpellsOperands r3.tokens.now (suc found.level) (after r1.at) r3.at b.tree = subst (λ n. SpellsOperands r3.tokens.now n (after r1.at) r3.at b.tree) l (subst (λ i. SpellsOperands r3.tokens.now level i r3.at b.tree) (at_next r1 r2 e) b.spelled) in
    let d = one_part r3 r4 (λ ts. SpellsSome ts loosest) put2 h (swift.next found a3.spelled o3 xb) (swift.joined {o = found.operator} (put_there put2) (stands_put put2 a3.stands) (stands_put put2 b.stands)) in
    subst (λ x. Reads (SpellsSome x.tokens.now loosest) (table_of x.tree.value) r0.at x.at p) (sym s) d

level_in : Option BinaryOperator → ℕ
level_in None = 0
level_in (Some b) = b.level

low_sign : (s : Sign) → level_in (binary_of s) ≤ 5
unfolding level_in
low_sign sign.Or = omega arith
low_sign _ = omega arith

low_tight : (v : Bool) (x : ℕ) (b : BinaryOperator) → nat_lt b.level x ≡ v → b.level ≤ 5 → level_in (if_tight x (Some b)) ≤ 5
unfolding level_in
low_tight true x b e h = rw e (omega arith)
low_tight false x b e h = rw e h

low_if : (x : ℕ) (b : Option BinaryOperator) → level_in b ≤ 5 → level_in (if_tight x b) ≤ 5
unfolding level_in
low_if x None h = omega arith
low_if x (Some b) h = low_tight (nat_lt b.level x) x b refl h

low_operator : (x : ℕ) (k : TokenKind) → level_in (operator_in x k) ≤ 5
unfolding level_in
low_operator x (kind.Sign s) = low_if x (binary_of s) (low_sign s)
low_operator x _ = omega arith

-- no operator binds more tightly than `*`
pub low_level : (x : ℕ) (k : TokenKind) (b : BinaryOperator) → operator_in x k ≡ Some b → b.level ≤ 5
unfolding level_in
low_level x k b e =
    let same : level_in (operator_in x k) ≡ b.level = ap level_in e in
    rw (sym same) (low_operator x k)
