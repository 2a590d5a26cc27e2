-- What a statement of a method stands in. (Own.)
use Rattle.std.specs.Prelude.{ℕ, Bool, List, map}
use Rattle.script_grammar.specs.Tree.{BlockTree, DeclTree, block_tree, text_of, view_decl, view_stmt}
use Rattle.plain_parts.specs.Names as names
use Rattle.swift_plain.specs.declared.place.Place.{Place}
use Rattle.swift_plain.specs.Signatures.{ThrowerTree, view_thrower}

-- The whole script, its methods that throw, the parameters and the body of the method, and the group around the statement: its name, which
-- is empty where there is none, and whether it throws.
pub record PlaceTree : Type 0 where
  pub decls : List DeclTree
  pub throwers : List ThrowerTree
  pub params : List (List ℕ)
  pub body : BlockTree
  pub group : List ℕ
  pub group_throws : Bool

-- what a statement of the code stands in
abbrev pub view_place : Place → PlaceTree
view_place p = record { decls = map view_decl p.decls.now; throwers = map view_thrower p.throwers.now; params = map text_of p.method.now.params.items; body = block_tree (map view_stmt p.method.now.body.items); group = p.group.now; group_throws = p.group_throws }

-- a name of a value as the file has it
abbrev pub value_name : PlaceTree → List ℕ → List ℕ
value_name p w = names.value_name p.decls w
