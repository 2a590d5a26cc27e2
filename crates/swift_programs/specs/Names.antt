-- How names of a script are spelled in Swift. (Own.)
use Rattle.std.specs.Prelude.{◌==◌, ◌&&◌, ℕ, Bool, true, false, not, List, [], ◌∷◌, ◌++◌, codes, nat_le, bytes_eq}
use Rattle.std.specs.List.{list_any}
use Rattle.script_grammar.specs.Tree.{ActorTree}
use Rattle.swift_programs.specs.declared.words.TheConstants.{VALUES, TYPES}

-- whether a name begins with a capital letter
abbrev pub begins_upper : List ℕ → Bool
begins_upper [] = false
begins_upper (b ∷ bs) = nat_le 65 b && nat_le b 90

-- whether a name begins with this letter and an underscore
abbrev pub begins_with : ℕ → List ℕ → Bool
begins_with l [] = false
begins_with l (a ∷ []) = false
begins_with l (a ∷ b ∷ bs) = (a == l) && (b == 95)

-- whether a name is one of the words of Swift, or one that each program uses for its values
abbrev pub is_value_word : List ℕ → Bool
is_value_word w = list_any (λ x. bytes_eq x.now w) VALUES

-- whether a name is one of the types that each program uses
abbrev pub is_type_word : List ℕ → Bool
is_type_word w = list_any (λ x. bytes_eq x.now w) TYPES

-- Whether a field, a parameter or a variable keeps its name: it begins with no capital letter, nor with `v_` or `m_`, and is no word.
abbrev pub is_plain_value : List ℕ → Bool
is_plain_value w = not (begins_upper w) && (not (begins_with 118 w) && (not (begins_with 109 w) && not (is_value_word w)))

-- Whether an actor keeps its name: it begins with a capital letter, not with `T_`, and is no type of the program.
abbrev pub is_plain_type : List ℕ → Bool
is_plain_type w = begins_upper w && (not (begins_with 84 w) && not (is_type_word w))

-- Whether an executor or a task local keeps its name: it does not begin with `v_`, and is no word and no type of the program.
abbrev pub is_plain_member : List ℕ → Bool
is_plain_member w = not (begins_with 118 w) && (not (is_value_word w) && not (is_type_word w))

-- a name, or the same after a prefix
abbrev pub spelled : Bool → List ℕ → List ℕ → List ℕ
spelled true prefix w = w
spelled false prefix w = prefix ++ w

-- an actor in Swift: its name, or the same after `T_` where it is not plain
abbrev pub type_name : List ℕ → List ℕ
type_name w = spelled (is_plain_type w) (codes "T_") w

-- a field, a parameter, a variable or a root in Swift: its name, or the same after `v_` where it is not plain
abbrev pub value_name : List ℕ → List ℕ
value_name w = spelled (is_plain_value w) (codes "v_") w

-- an executor or a task local in Swift: its name, or the same after `v_` where it is not plain
abbrev pub member_name : List ℕ → List ℕ
member_name w = spelled (is_plain_member w) (codes "v_") w

-- whether an actor has a field of this name
abbrev pub has_field : ActorTree → List ℕ → Bool
has_field a w = list_any (λ f. bytes_eq f.name w) a.fields

-- a method, whose name differs from those of the fields
abbrev pub method_name : ActorTree → List ℕ → List ℕ
method_name a w = spelled (is_plain_value w && not (has_field a w)) (codes "m_") w
