-- What an init gives the fields of its actor.
use Rattle.std.proofs.Common.{◌≡◌, ℕ, zero, suc, ◌<◌, true, false, List, [], ◌∷◌, ◌++◌, Some, length, get_or, refl, sym, ap, subst, ◌∙◌, arith}
use Rattle.std.proofs.lemmas.List.{length-append}
use Rattle.std.proofs.lemmas.List.Quantifiers.{position-Some}
use Rattle.std.proofs.lemmas.Option.{slice_get-get_or}
use Rattle.std.specs.List.{position, slice_get}
use Rattle.std.specs.Prelude.{if◌then◌else◌, slice_set}
use Rattle.swift_syntax.specs.declared.reader.Reader.{Reader}
use Rattle.swift_syntax.specs.declared.sign.Sign.TheVariants as sign
use Rattle.swift_syntax.specs.declared.tree.FieldDecl.{FieldDecl}
use Rattle.swift_syntax.specs.declared.tree.ParamDecl.{ParamDecl}
use Rattle.swift_syntax.specs.declared.tree.Tree.{Tree}
use Rattle.swift_syntax.specs.declared.word.Word.TheVariants as word
use Rattle.swift_syntax.specs.Declarations.{IsPlain, ReadsSuch, Rows, SpellsGiving, SpellsMember, SpellsOwn, SpellsParams, changed_at, gives_blank, gives_no_more, gives_one, given_to, is_named, member_init, rows_of, with_init}
use Rattle.swift_syntax.specs.DeclaringInside.{GivesAll, GivesOne, Puts, given_at, given_in, one_given, with_given}
use Rattle.swift_syntax.specs.ReadersInside.{lexed_of}
use Rattle.swift_syntax.specs.Statements.{Lexed, Row, Separates, Source, a_key, a_name, a_sign}
use Rattle.swift_syntax.proofs.Bodies.{giving_stays}
use Rattle.swift_syntax.proofs.Declarations.{such_stays}
use Rattle.swift_syntax.proofs.Statements.{IsMore, Stays, lexed_stays, row_stays}

-- the same, where what is read hangs on the text and the tokens
pub puts_lexed : {r s : Reader} {P Q : Source → Type 0} → ((a : Source) → a.lexed ≡ lexed_of s → P a → Q a) → Puts r s P → Puts r s Q
puts_lexed f d = record { continues = d.continues; adds = λ n b. let x = d.adds n b in record { more = x.more; stmts = x.stmts; holds = λ xs l. f _ refl (x.holds xs l) } }

-- a field that is changed in its table
pub given_rows : (t u : Tree) (p value : ℕ) (f : FieldDecl) → slice_get t.fields.items p ≡ Some f → t ≡ u → record (rows_of t) { fields = slice_set t.fields.items p (record f { given = value }) } ≡ record (rows_of u) { fields = given_at p value u.fields.items }
given_rows t u p value f found same =
    ap (λ o. record (rows_of t) { fields = given_in p value t.fields.items o }) (sym found)
    ∙ ap (λ (v : Tree). record (rows_of v) { fields = given_at p value v.fields.items }) same

-- the first field that passes
first_given : (l : Lexed) (actor name value : ℕ) (fs : List FieldDecl) (p : ℕ) (d : FieldDecl) → p < length fs → is_named l actor name (get_or fs p d) ≡ true → ((k : ℕ) → k < p → is_named l actor name (get_or fs k d) ≡ false) → slice_set fs p (record (get_or fs p d) { given = value }) ≡ given_to l actor name value fs
unfolding given_to
first_given l actor name value [] p d within is none = absurd (omega (arith, within))
first_given l actor name value (f ∷ fs) zero d within is none = sym (ap (λ b. if b then record f { given = value } ∷ fs else f ∷ given_to l actor name value fs) is)
first_given l actor name value (f ∷ fs) (suc p) d within is none =
    let other : is_named l actor name f ≡ false = none 0 (omega arith) in
    let rest = first_given l actor name value fs p d (omega (arith, within)) is (λ k lt. none (suc k) (omega (arith, lt))) in
    ap (λ gs. f ∷ gs) rest ∙ sym (ap (λ b. if b then record f { given = value } ∷ fs else f ∷ given_to l actor name value fs) other)

-- where the first field with a name is found, the one there is given its value
pub given_first : (l : Lexed) (actor name value : ℕ) (fs : List FieldDecl) (p : ℕ) → position (is_named l actor name) fs ≡ Some p → given_at p value fs ≡ given_to l actor name value fs
given_first l actor name value [] p e = absurd cc
given_first l actor name value (f ∷ fs) p e =
    let found = position-Some (is_named l actor name) (f ∷ fs) p f e in
    ap (given_in p value (f ∷ fs)) (slice_get-get_or (f ∷ fs) p f found.0) ∙ first_given l actor name value (f ∷ fs) p f found.0 found.1 found.2

pub given_stays : (i j actor name value : ℕ) (r t : Rows) → Stays (λ a. (i ≡ j) × (t ≡ with_given a.lexed actor name value r))
given_stays i j actor name value r t = lexed_stays (λ l. (i ≡ j) × (t ≡ with_given l actor name value r))

-- an assignment whose parts are known
pub one_of : (s : Source) {actor i j k m n p q value : ℕ} {r u t : Rows} → p ≡ j → m ≡ n → u ≡ r → t ≡ with_given s.lexed actor p value u → SpellsOwn s.lexed i j → Row s.lexed (a_name ∷ a_sign sign.Assign ∷ []) j k → ReadsSuch IsPlain s k m value → Separates s.lexed n q → GivesOne s actor i q r t
one_of s {m = m} {q = q} name_is at_is u_is t_is own row reads sep = rw t_is (rw u_is (rw name_is (one_given own row reads (subst (λ x. Separates s.lexed x q) (sym at_is) sep))))

one_there : (a b : Source) {actor i j : ℕ} {r t : Rows} → IsMore a b → GivesOne a actor i j r t → GivesOne b actor i j r t
one_there a b {actor} m (one_given {i = i} {j = j} {k = k} {m = n} {n = o} {p = p} {r = r} own row reads sep) =
    subst (λ l. GivesOne b actor i o r (with_given l actor j p r)) m.lexed (one_given (lexed_stays (λ l. SpellsOwn l i j) a b m own) (row_stays _ _ _ a b m row) (such_stays IsPlain k n p a b m reads) (lexed_stays (λ l. Separates l n o) a b m sep))

pub one_stays : (actor i j : ℕ) (r t : Rows) → Stays (λ a. GivesOne a actor i j r t)
one_stays actor i j r t a b m d = one_there a b m d

pub all_stay : (actor i j : ℕ) (r t : Rows) → Stays (λ a. GivesAll a actor i j r t)
all_stay actor i j r t a b m d = record { fields = d.fields; spelled = giving_stays a b m d.spelled; rows = d.rows }

-- no more is given
pub given_end : (s : Source) {actor i j : ℕ} (r : Rows) → Row s.lexed (a_sign sign.CloseBrace ∷ []) i j → GivesAll s actor i j r r
given_end s r row = record { fields = r.fields; spelled = gives_no_more row; rows = refl }

-- a `;` is passed over
pub given_blank : (s : Source) {actor i j k : ℕ} {r t : Rows} → Row s.lexed (a_sign sign.Semicolon ∷ []) i j → GivesAll s actor j k r t → GivesAll s actor i k r t
given_blank s row d = record { fields = d.fields; spelled = gives_blank row d.spelled; rows = d.rows }

-- one more assignment before others
pub given_more : (s : Source) {actor i j k : ℕ} {r t u : Rows} → GivesOne s actor i j r t → GivesAll s actor j k t u → GivesAll s actor i k r u
given_more s (one_given own row reads sep) d = record { fields = d.fields; spelled = gives_one own row reads sep d.spelled; rows = d.rows }

-- an init whose parts are known
pub init_of : (s : Source) {actor i j k m n first end : ℕ} {r t u v w x : Rows} {ps : List ParamDecl} (gives : GivesAll s actor m n v w) → t ≡ r → u ≡ record t { params = t.params ++ ps } → v ≡ u → x ≡ record w { actors = changed_at (with_init first end) actor w.actors } → first ≡ length t.params → end ≡ length u.params → Row s.lexed (a_key word.Init ∷ a_sign sign.Open ∷ []) i j → SpellsParams s.lexed j k ps → Row s.lexed (a_sign sign.OpenBrace ∷ []) k m → SpellsMember s actor i n r x
init_of s {actor} {m = m} {n = n} {r = r} {ps = ps} gives t_is u_is v_is x_is first_is end_is row params brace =
    let giving : SpellsGiving s actor m n r.fields gives.fields = subst (λ (y : Rows). SpellsGiving s actor m n y.fields gives.fields) (v_is ∙ u_is ∙ ap (λ (y : Rows). record y { params = y.params ++ ps }) t_is) gives.spelled in
    rw x_is (rw gives.rows (rw v_is (rw end_is (rw u_is (rw first_is (rw t_is (rw (length-append r.params ps) (member_init row params brace giving))))))))
