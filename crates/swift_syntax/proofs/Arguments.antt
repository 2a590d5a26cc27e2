-- What arguments that are put one by one are as a whole.
use Rattle.std.proofs.Common.{◌≡◌, ℕ, Bool, true, false, List, [], ◌∷◌, ◌++◌, Some, refl, sym, ap, subst, ◌∙◌}
use Rattle.swift_syntax.specs.declared.reader.Reader.{Reader}
use Rattle.swift_syntax.specs.declared.sign.Sign.TheVariants as sign
use Rattle.swift_syntax.specs.declared.token.Token.{Token}
use Rattle.swift_syntax.specs.declared.token.TokenKind.TheVariants as kind
use Rattle.swift_syntax.specs.declared.tree.Argument.{Argument}
use Rattle.swift_syntax.specs.Expressions.{NoArgument, OneArgument, Reads, ReadsArguments, SpellsArgument, SpellsArguments, SpellsExpr, SpellsSomeArguments, StandFrom, StandsAt, SwiftArguments, SwiftTree, Table, after, first_argument, has_label, kind_at, labelled, next_argument, no_argument, no_arguments, one_argument, some_arguments, table_of, unlabelled, with_argument}
use Rattle.swift_syntax.specs.Statements.{NamesFrom, name_from, no_name}
use Rattle.swift_syntax.specs.ReadersInside.{AreFrom, AreGiven, Grows, IsArgumentPut, IsBehind, ReadsArgument, ReadsGiven, given_none, given_one, none_from, one_from, reads_none, reads_some, taken}
use Rattle.swift_syntax.proofs.Grown.{argument_behind, argument_put_behind, argument_there, grown, stands_more}

-- what stands in a table stands there still where more is put behind it
from_more : {x y : Table} {p : ℕ} {given : List Argument} → IsBehind x y → AreFrom x.arguments p given → AreFrom y.arguments p given
from_more b none_from = none_from
from_more b (one_from {p = p} n e rest) = one_from n (argument_behind p b e) (from_more b rest)

-- arguments stand from a place on where their rows do, and their values
pub stand_from : {x y : Table} {p : ℕ} {given : List Argument} {gs : SwiftArguments} → IsBehind x y → AreFrom y.arguments p given → AreGiven x given gs → StandFrom y p gs
stand_from b none_from given_none = no_argument
stand_from b (one_from n e rest) (given_one d h) = one_argument n e (stands_more b d) (stand_from b rest h)

pub none_are : {xs given : List Argument} → given ≡ [] → AreFrom xs 0 given
none_are {xs} e = subst (λ l. AreFrom xs 0 l) (sym e) none_from

-- one argument more is put before those that stand
pub one_are : (r s : Reader) {given rest : List Argument} (made : Argument) {next p : ℕ} → given ≡ made ∷ rest → IsArgumentPut r s (record made { next = next }) p → AreFrom r.tree.value.arguments.items next rest → AreFrom s.tree.value.arguments.items p given
one_are r s made {next} {p} e put others = subst (λ l. AreFrom s.tree.value.arguments.items p l) (sym e) (one_from put.there (argument_there put) (from_more (argument_put_behind put) others))

-- the row of a name in a closure's list
abbrev pub row_of : ℕ → Argument
row_of n = record { label = n; value = 0; next = 0 }

-- the rows of names
pub name_rows : List ℕ → List Argument
name_rows [] = []
name_rows (n ∷ ns) = row_of n ∷ name_rows ns

pub rows_none : name_rows [] ≡ []
unfolding name_rows
rows_none = refl

rows_and : (ns : List ℕ) (n : ℕ) → name_rows (ns ++ n ∷ []) ≡ name_rows ns ++ row_of n ∷ []
unfolding name_rows
rows_and [] n = refl
rows_and (m ∷ ns) n = ap (λ l. row_of m ∷ l) (rows_and ns n)

-- one name more
pub more_rows : {xs items : List Argument} (ns : List ℕ) {n m : ℕ} → items ≡ xs ++ row_of n ∷ [] → xs ≡ name_rows ns → n ≡ m → items ≡ name_rows (ns ++ m ∷ [])
more_rows ns {n} {m} e before same = e ∙ (ap (λ l. l ++ row_of n ∷ []) before ∙ (ap (λ k. name_rows ns ++ row_of k ∷ []) same ∙ sym (rows_and ns m)))

-- names stand from a place on where their rows do
named : {x : Table} {p : ℕ} {rows : List Argument} (ns : List ℕ) → rows ≡ name_rows ns → AreFrom x.arguments p rows → NamesFrom x p ns
unfolding name_rows
named [] e none_from = no_name
named [] e (one_from n g rest) = absurd cc
named (m ∷ ns) e none_from = absurd cc
named {x} (m ∷ ns) e (one_from {p = p} {next = next} {made = made} {rest = more} n g rest) =
    let same : made ≡ record { label = m; value = 0; next = 0 } = cc in
    let others : more ≡ name_rows ns = cc in
    name_from n (g ∙ ap (λ (a : Argument). Some (record a { next = next })) same) (named ns others rest)

pub names_stand : (x : Table) (p : ℕ) (ns : List ℕ) → AreFrom x.arguments p (name_rows ns) → NamesFrom x p ns
names_stand x p ns h = named ns refl h

-- an argument is read by its label and its value
pub argument_read : (r0 r1 r2 : Reader) (label value : ℕ) → (has_label r0.tokens.now r0.at ≡ true → (label ≡ r0.at) × (r1 ≡ taken (taken r0))) → (has_label r0.tokens.now r0.at ≡ false → (label ≡ 0) × (r1 ≡ r0)) → Grows r0 r1 → Grows r1 r2 → Reads (SpellsExpr r2.tokens.now) (table_of r2.tree.value) r1.at r2.at value → ReadsArgument r2.tokens.now (table_of r2.tree.value) r0.at r2.at (record { label = label; value = value; next = 0 })
argument_read r0 r1 r2 label value there none g h d = go (has_label r0.tokens.now r0.at) refl
  where
    same : r2.tokens ≡ r0.tokens
    same = h.tokens ∙ g.tokens

    go : (b : Bool) → has_label r0.tokens.now r0.at ≡ b → ReadsArgument r2.tokens.now (table_of r2.tree.value) r0.at r2.at (record { label = label; value = value; next = 0 })
    go true e =
        let x = there e in
        let from : r1.at ≡ after (after r0.at) = ap (λ r. r.at) x.1 in
        let spelled = subst (λ i. SpellsExpr r2.tokens.now i r2.at d.tree) from d.spelled in
        record { value = d.tree; spelled = subst (λ l. SpellsArgument r2.tokens.now r0.at r2.at l d.tree) (sym x.0) (labelled (ap (λ ts. has_label ts.now r0.at) same ∙ e) spelled); stands = d.stands }
    go false e =
        let x = none e in
        let spelled = subst (λ i. SpellsExpr r2.tokens.now i r2.at d.tree) (ap (λ r. r.at) x.1) d.spelled in
        record { value = d.tree; spelled = subst (λ l. SpellsArgument r2.tokens.now r0.at r2.at l d.tree) (sym x.0) (unlabelled (ap (λ ts. has_label ts.now r0.at) same ∙ e) spelled); stands = d.stands }

-- what was given is given still where more is read
pub given_more : {x y : Table} {given : List Argument} {gs : SwiftArguments} → IsBehind x y → AreGiven x given gs → AreGiven y given gs
given_more b given_none = given_none
given_more b (given_one d h) = given_one (stands_more b d) (given_more b h)

given_and : {x : Table} {given : List Argument} {gs : SwiftArguments} {v : SwiftTree} (made : Argument) → StandsAt x made.value v → AreGiven x given gs → AreGiven x (given ++ made ∷ []) (with_argument gs made.label v)
unfolding with_argument
given_and made d given_none = given_one d given_none
given_and made d (given_one e h) = given_one e (given_and made d h)

-- Arguments with commas between them, and what stands for them.
pub record ReadsSome (tokens : List Token) (x : Table) (from to : ℕ) (given : List Argument) : Type 0 where
  pub arguments : SwiftArguments
  pub spelled : SpellsSomeArguments tokens from to arguments
  pub are : AreGiven x given arguments

-- one argument more
pub some_read : (r s : Reader) {i : ℕ} {given : List Argument} {made : Argument} → Grows r s → ReadsGiven r.tokens.now (table_of r.tree.value) i r.at given → ReadsArgument s.tokens.now (table_of s.tree.value) r.at s.at made → ReadsSome s.tokens.now (table_of s.tree.value) i s.at (given ++ made ∷ [])
some_read r s {i} {given} {made} g before d = go (subst (λ ts. ReadsGiven ts.now (table_of r.tree.value) i r.at given) (sym g.tokens) before) d
  where
    go : {given : List Argument} {m : ℕ} → ReadsGiven s.tokens.now (table_of r.tree.value) i m given → ReadsArgument s.tokens.now (table_of s.tree.value) m s.at made → ReadsSome s.tokens.now (table_of s.tree.value) i s.at (given ++ made ∷ [])
    go (reads_none e) d = record { arguments = OneArgument made.label d.value NoArgument; spelled = subst (λ k. SpellsSomeArguments s.tokens.now k s.at (OneArgument made.label d.value NoArgument)) (sym e) (first_argument d.spelled); are = given_one d.stands given_none }
    go (reads_some {gs = gs} sp k are) d = record { arguments = with_argument gs made.label d.value; spelled = next_argument sp k d.spelled; are = given_and made d.stands (given_more (grown g) are) }

-- a comma behind them
pub given_read : (r s : Reader) {i : ℕ} {given : List Argument} → ReadsSome r.tokens.now (table_of r.tree.value) i r.at given → kind_at r.tokens.now r.at ≡ kind.Sign sign.Comma → s ≡ taken r → ReadsGiven s.tokens.now (table_of s.tree.value) i s.at given
given_read r s {i} {given} d k e = subst (λ x. ReadsGiven x.tokens.now (table_of x.tree.value) i x.at given) (sym e) (reads_some d.spelled k d.are)

-- the parenthesis that closes them
pub closed_read : (r s t : Reader) {i first : ℕ} {given : List Argument} → ReadsSome r.tokens.now (table_of r.tree.value) i r.at given → kind_at r.tokens.now r.at ≡ kind.Sign sign.Close → s ≡ taken r → Grows s t → t.at ≡ s.at → AreFrom t.tree.value.arguments.items first given → ReadsArguments t.tokens.now (table_of t.tree.value) i t.at first
closed_read r s t {i} {first} {given} d k e g at put =
    let same : t.tokens ≡ r.tokens = g.tokens ∙ ap (λ x. x.tokens) e in
    let ends : t.at ≡ after r.at = at ∙ ap (λ x. x.at) e in
    let spelled : SpellsArguments r.tokens.now i (after r.at) d.arguments = some_arguments d.spelled k in
    record {
      arguments = d.arguments;
      spelled = subst (λ j. SpellsArguments t.tokens.now i j d.arguments) (sym ends) (subst (λ ts. SpellsArguments ts.now i (after r.at) d.arguments) (sym same) spelled);
      stand = stand_from (grown g) put (subst (λ x. AreGiven (table_of x.tree.value) given d.arguments) (sym e) d.are);
    }

-- no arguments
pub none_read : (r s : Reader) → kind_at r.tokens.now r.at ≡ kind.Sign sign.Close → s ≡ taken r → ReadsArguments s.tokens.now (table_of s.tree.value) r.at s.at 0
none_read r s k e = subst (λ x. ReadsArguments x.tokens.now (table_of x.tree.value) r.at x.at 0) (sym e) (record { arguments = NoArgument; spelled = no_arguments k; stand = no_argument })
