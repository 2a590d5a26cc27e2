-- What is read of an actor piece by piece is read as a whole.
use Rattle.std.proofs.Common.{◌≡◌, ℕ, [], ◌∷◌, length, sym, subst}
use Rattle.swift_syntax.specs.Declarations.{Rows, SetsVariable, SpellsAccess, SpellsActor, SpellsMember, SpellsMembers, SpellsMethod, an_actor, member_field, member_invariant, member_method, named_actor}
use Rattle.swift_syntax.specs.DeclaringInside.{PutsField, with_actor, with_invariant}
use Rattle.std.specs.Prelude.{IsNone}
use Rattle.swift_syntax.specs.Expressions.{after, kind_at}
use Rattle.swift_syntax.specs.ReadersInside.{Grows, lexed_of}
use Rattle.swift_syntax.specs.declared.reader.Reader.{Reader}
use Rattle.swift_syntax.specs.Statements.{IsExpr, Row, Source, a_key, a_name, a_sign}
use Rattle.swift_syntax.specs.declared.sign.Sign.TheVariants as sign
use Rattle.swift_syntax.specs.declared.token.TokenKind.TheVariants as kind
use Rattle.swift_syntax.specs.declared.tree.Access.{Access}
use Rattle.swift_syntax.specs.declared.word.Word.TheVariants as word
use Rattle.swift_syntax.proofs.Grown.{extends_of}
use Rattle.swift_syntax.proofs.Steps.{Took, lexed_on, no_row, row_on, took_same}

-- an actor whose parts are known
pub actor_of : (s : Source) {i j k m name actor : ℕ} {r t u : Rows} → Row s.lexed (a_key word.Actor ∷ a_name ∷ []) i j → name ≡ after i → u ≡ with_actor (named_actor name) r → actor ≡ length r.actors → Row s.lexed (a_sign sign.OpenBrace ∷ []) j k → SpellsMembers s actor k m u t → SpellsActor s i m r t
actor_of s {i} {k = k} {m = m} {actor = actor} {r = r} {t = t} {u = u} head name_is u_is actor_is opened d =
    let named : SpellsMembers s actor k m (with_actor (named_actor (after i)) r) t = subst (λ x. SpellsMembers s actor k m (with_actor (named_actor x) r) t) name_is (subst (λ x. SpellsMembers s actor k m x t) u_is d) in
    an_actor (row_on s.lexed head opened) (subst (λ x. SpellsMembers s x k m (with_actor (named_actor (after i)) r) t) actor_is named)

-- an invariant that is put
pub invariant_of : (s : Source) {i j k m actor test : ℕ} {r t : Rows} → (kind_at s.lexed.tokens i ≡ kind.Invariant) × (after i ≡ j) → IsExpr s j k test → k ≡ m → t ≡ with_invariant actor test r → SpellsMember s actor i m r t
invariant_of s {i} {j} {k} {m} {actor} {test} {r} {t} is value at t_is =
    let whole : SpellsMember s actor i k r (with_invariant actor test r) = member_invariant is.0 (subst (λ x. IsExpr s x k test) (sym is.1) value) in
    subst (λ x. SpellsMember s actor i m r x) (sym t_is) (subst (λ x. SpellsMember s actor i x r (with_invariant actor test r)) at whole)

-- what is wanted behind the words that say who may use a member
pub took_settable : (r s : Reader) (i : ℕ) → (IsNone s.refused → s ≡ r) → (IsNone s.refused → SetsVariable (lexed_of r) i r.at) → Grows r s → Took r s (λ a. Row a.lexed [] r.at s.at × SetsVariable a.lexed i r.at)
took_settable r s i same set g =
    let row = took_same r s same g in
    record { grows = g; holds = λ n xs. (row.holds n xs, subst (λ l. SetsVariable l i r.at) (sym (lexed_on r s (extends_of g))) (set n)) }

-- a field behind what says who may use it
pub field_behind : (s : Source) {i j k m actor : ℕ} {access : Access} {r t : Rows} → SpellsAccess s.lexed i j access → Row s.lexed [] j k × SetsVariable s.lexed i j → PutsField s actor access k m r t → SpellsMember s actor i m r t
field_behind s {i} {j} {k} {m} {actor} {access} {r} {t} who none d =
    let same : j ≡ k = no_row s.lexed none.0 in
    subst (λ x. SpellsMember s actor i m r x) (sym d.rows) (member_field (subst (λ x. SpellsAccess s.lexed i x access) same who) (subst (λ x. SetsVariable s.lexed i x) same none.1) d.spelled)

-- a method behind what says who may use it
pub method_behind : (s : Source) {i j k m actor : ℕ} {access : Access} {r t : Rows} → SpellsAccess s.lexed i j access → Row s.lexed [] j k × SetsVariable s.lexed i j → SpellsMethod s actor access k m r t → SpellsMember s actor i m r t
method_behind s {i} {j} {k} {m} {actor} {access} {r} {t} who none d =
    let same : j ≡ k = no_row s.lexed none.0 in
    member_method (subst (λ x. SpellsAccess s.lexed i x access) same who) (subst (λ x. SetsVariable s.lexed i x) same none.1) d
