-- What each refusal says of a text.
use Rattle.std.specs.Prelude.{◌≡◌, ◌⊎◌, ◌<◌, ◌≤◌, ℕ, false, Some, None, List, length}
use Rattle.swift_types.specs.declared.limits.TheConstants.{BYTES}
use Rattle.script_tokens.specs.Bytes.{is_text}
use Rattle.script_grammar.specs.Tree.{DeclTree}
use Rattle.script_parser.specs.declared.limits.TheConstants.{NESTING}
use Rattle.script_names.specs.declared.error.NameErrorKind.{NameErrorKind}
use Rattle.script_names.specs.declared.error.NameErrorKind.TheVariants as names
use Rattle.script_names.specs.Rules.{names_error}
use Rattle.script_printing.specs.Script.{script_in}
use Rattle.swift_script.specs.declared.fault.ScriptFaultKind.{ScriptFaultKind}
use Rattle.swift_script.specs.declared.fault.ScriptFaultKind.TheVariants as kind
use Rattle.swift_script.specs.Accepted.{SpellsDecls, IsPlain, first_false, RootWaits}

-- A plain text spells nothing within the limits.
pub record SpellsNothing (text : List ℕ) : Type 0 where
  pub plain : IsPlain text
  pub none : (decls : List DeclTree) → SpellsDecls NESTING text decls → ⊥

-- What a plain text spells has an error of this kind as the first one of its names and counts, at the name that has `before`
-- names before it.
pub record HasError (text : List ℕ) (kind : NameErrorKind) : Type 0 where
  pub plain : IsPlain text
  pub decls : List DeclTree
  pub spelled : SpellsDecls NESTING text decls
  pub before : ℕ
  pub first : names_error decls ≡ Some (record { kind = kind; names_before = before })

-- What a plain text spells has names and counts in order, and an actor whose invariant does not hold at the start.
pub record StartsFalse (text : List ℕ) : Type 0 where
  pub plain : IsPlain text
  pub decls : List DeclTree
  pub spelled : SpellsDecls NESTING text decls
  pub names : names_error decls ≡ None
  pub actor : ℕ
  pub first : first_false (script_in decls) ≡ Some actor

-- What a plain text spells has names, counts and invariants in order, and a root that waits for itself or for a later one.
pub record HasWaitingRoot (text : List ℕ) : Type 0 where
  pub plain : IsPlain text
  pub decls : List DeclTree
  pub spelled : SpellsDecls NESTING text decls
  pub names : names_error decls ≡ None
  pub starts : first_false (script_in decls) ≡ None
  pub root : ℕ
  pub waits : RootWaits (script_in decls) root

-- The cause of a refusal, of which none that is looked for before it is met; out of memory says nothing of the text.
abbrev pub Refuses : ScriptFaultKind → List ℕ → Type 0
Refuses kind.NotText text = (length text ≤ BYTES) × (is_text text ≡ false)
Refuses kind.Unexpected text = SpellsNothing text
Refuses kind.OutOfRange text = SpellsNothing text
Refuses kind.NameTwice text = HasError text names.Twice
Refuses kind.UnknownName text = HasError text names.Unknown
Refuses kind.Arguments text = HasError text names.Arguments
Refuses kind.Confused text = HasError text names.Confused
Refuses kind.InvariantFalse text = StartsFalse text
Refuses kind.BoundInside text = HasError text names.BoundInside
Refuses kind.RootWaits text = HasWaitingRoot text
Refuses kind.LimitPassed text = (BYTES < length text) ⊎ (HasError text names.TooMany ⊎ HasError text names.TooGreat)
Refuses kind.EndsEarly text = SpellsNothing text
Refuses kind.TooDeep text = SpellsNothing text
Refuses kind.Memory text = Unit {0}
