-- What is known where a script is finished, or refused for a root that waits.
use Rattle.swift_script.proofs.Prelude.{◌≡◌, ◌≤◌, ℕ, length, Option, Some, None, List, map, refl, sym, ap, subst, ◌∙◌, IfSome, IfNone, BYTES, TokenView, piece, Tokens, Span, unique, IsScript, view_executor, view_local, view_actor, view_root, Actor, NESTING, printed, ScriptView, script_in, plan_in, IsCompiled, IsAccepted, first_false, RootWaits, NoRootWaits, IsFirstWaiting, NoneEarlier, span_at, is_invariant, is_root, place_of, invariants_before, BlamesInvariant, BlamesRoot, pieces_of, AreKept, IsNamed, HasNamesInOrder, ScriptInvariant, tree_of, tree_in}
use Rattle.script_tokens.specs.declared.token.Token.{Token}
use Rattle.script_grammar.specs.declared.declaration.Executor.{Executor}
use Rattle.script_grammar.specs.declared.declaration.Local.{Local}
use Rattle.script_grammar.specs.declared.declaration.Root.{Root}
use Rattle.script_compiler.specs.declared.compiled.Compiled.{Compiled}
use Rattle.script_compiler.proofs.Small.{methods_are_few}
use Rattle.swift_script.specs.Scripts.{parts_of}
use Rattle.swift_script.specs.declared.split.Declarations.{Declarations}
use Rattle.swift_script.proofs.Short.{within_limit}
use Rattle.swift_script.proofs.TreeAgain.{tree_again}

pub none_waits : (s : ScriptView) (o : Option ℕ) → o ≡ None → IfNone o (NoRootWaits s) → NoRootWaits s
none_waits s None is h = h
none_waits s (Some k) is h = absurd cc

pub some_at : (P : ℕ → Type 0) (o : Option ℕ) (k : ℕ) → o ≡ Some k → IfSome o P → P k
some_at P o k is h = subst (λ (x : Option ℕ). IfSome x P) is h

-- an invariant that is false at the start blames its keyword
pub invariant_blames : (text : List ℕ) (d : Declarations) (kept : Tokens) (lent : List Token) (spans : List Span) (actors : List Actor) (actor before place : ℕ) (span : Option Span) → IsNamed text (tree_of d) kept → first_false (tree_of d) ≡ Some actor
    → lent ≡ kept.tokens.items → spans ≡ kept.spans.items → actors ≡ d.actors.items → before ≡ invariants_before actor (map view_actor actors) → place ≡ place_of is_invariant before (map piece lent) → span ≡ Some (span_at text spans place) → BlamesInvariant text span
invariant_blames text d kept lent spans actors actor before place span n broken same same' same'' counted at is =
    let here : before ≡ invariants_before actor (script_in n.decls).actors = counted ∙ ap (λ (xs : List Actor). invariants_before actor (map view_actor xs)) same'' ∙ ap (λ (t : ScriptView). invariants_before actor t.actors) n.is in
    let there : place ≡ place_of is_invariant before (pieces_of kept) = at ∙ ap (λ (ts : List Token). place_of is_invariant before (map piece ts)) same in
    record {
      pieces = pieces_of kept;
      spans = kept.spans.items;
      are = n.spelled.are_kept.are;
      decls = n.decls;
      spelled = n.spelled.spelled;
      actor = actor;
      first = ap first_false (sym n.is) ∙ broken;
      at = is ∙ ap (λ (ss : List Span). Some (span_at text ss place)) same' ∙ ap (λ (p : ℕ). Some (span_at text kept.spans.items p)) there ∙ ap (λ (k : ℕ). Some (span_at text kept.spans.items (place_of is_invariant k (pieces_of kept)))) here;
    }

-- a root that waits blames its keyword
pub root_blames : (text : List ℕ) (s : ScriptView) (kept : Tokens) (lent : List Token) (spans : List Span) (root place : ℕ) (span : Option Span) → IsNamed text s kept → IsFirstWaiting s root
    → lent ≡ kept.tokens.items → spans ≡ kept.spans.items → place ≡ place_of is_root root (map piece lent) → span ≡ Some (span_at text spans place) → BlamesRoot text span
root_blames text s kept lent spans root place span n w same same' at is =
    let there : place ≡ place_of is_root root (pieces_of kept) = at ∙ ap (λ (ts : List Token). place_of is_root root (map piece ts)) same in
    record {
      pieces = pieces_of kept;
      spans = kept.spans.items;
      are = n.spelled.are_kept.are;
      decls = n.decls;
      spelled = n.spelled.spelled;
      root = root;
      waits = subst (λ (t : ScriptView). RootWaits t root) n.is w.waits;
      first = subst (λ (t : ScriptView). NoneEarlier t root) n.is w.first;
      at = is ∙ ap (λ (ss : List Span). Some (span_at text ss place)) same' ∙ ap (λ (p : ℕ). Some (span_at text kept.spans.items p)) there;
    }

-- the tokens of a text are the ones that spell it, whenever they are found
pub named_again : (text : List ℕ) (s : ScriptView) (kept : Tokens) → HasNamesInOrder text s → AreKept text kept → IsNamed text s kept
named_again text s kept n k =
    let same : n.spelled.pieces ≡ pieces_of kept = unique (pieces_of kept) n.spelled.lexed k.are.lexed in
    record {
      decls = n.decls;
      spelled = record { plain = n.plain; are_kept = k; spelled = subst (λ (ps : List TokenView). IsScript NESTING ps n.decls) same n.spelled.spelled };
      names = n.names;
      is = n.is;
    }

-- where nothing is refused, the text is accepted
pub accepted : (text : List ℕ) (s t : ScriptView) → t ≡ s → HasNamesInOrder text s → first_false s ≡ None → NoRootWaits s → IsAccepted text t
accepted text s t same n starts waits = record {
  plain = n.plain;
  decls = n.decls;
  spelled = n.spelled;
  is = same ∙ n.is;
  names = n.names;
  starts = ap first_false same ∙ starts;
  waits = subst NoRootWaits (sym same) waits;
}

-- what is lent of declarations is their tree
pub lent_tree : (d : Declarations) (es : List Executor) (ls : List Local) (acts : List Actor) (rs : List Root) → es ≡ d.executors.items → ls ≡ d.locals.items → acts ≡ d.actors.items → rs ≡ d.roots.items
    → record { executors = map view_executor es; locals = map view_local ls; actors = map view_actor acts; roots = map view_root rs } ≡ tree_of d
lent_tree d es ls acts rs e l a r = rw (e, l, a, r) refl

-- then its printed form and what it is compiled to can be kept, and the printed form tells its tree
pub can_be_kept : (text : List ℕ) (s : ScriptView) (bytes : List ℕ) (c : Compiled) → IsAccepted text s → bytes ≡ printed s → IsCompiled c (parts_of s) → ScriptInvariant (tree_in bytes) bytes c
can_be_kept text s bytes c a is compiled =
    subst (λ (t : ScriptView). ScriptInvariant t bytes c) (sym (tree_again s bytes (text, a) is)) (record { accepted = (text, a); has_printed = is; has_parts = compiled })

-- a script that a short text spells has few methods
pub few_methods : (text : List ℕ) (s : ScriptView) (m : Compiled) → HasNamesInOrder text s → IsCompiled m (parts_of s) → length m.methods.items ≤ BYTES
unfolding parts_of
few_methods text s m n is =
    methods_are_few m (plan_in (script_in n.decls)) n.decls (subst (λ (t : ScriptView). IsCompiled m (parts_of t)) n.is is) (within_limit NESTING text n.decls n.plain n.spelled)
