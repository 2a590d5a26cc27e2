-- How names of a script are spelled in a plain Swift file. (Own.)
use Rattle.std.specs.Prelude.{◌==◌, ◌&&◌, ◌||◌, ◌+◌, ◌-◌, ℕ, Bool, true, false, not, List, [], ◌∷◌, ◌++◌, codes, nat_le, bytes_eq}
use Rattle.std.specs.List.{list_any}
use Rattle.script_grammar.specs.Tree.{DeclTree, Executes, Binds, Acts, Roots, FieldTree}
use Rattle.plain_parts.specs.declared.names.TheConstants.{TYPES, WORDS}

-- whether a byte is a capital letter
abbrev pub is_upper : ℕ → Bool
is_upper b = nat_le 65 b && nat_le b 90

-- whether a byte is a small letter
abbrev pub is_lower : ℕ → Bool
is_lower b = nat_le 97 b && nat_le b 122

-- one of two numbers
abbrev pub pick : Bool → ℕ → ℕ → ℕ
pick true a b = a
pick false a b = b

-- a letter as a small one, and another byte as it is
abbrev pub lower : ℕ → ℕ
lower b = pick (is_upper b) (b + 32) b

-- a letter as a capital one, and another byte as it is
abbrev pub upper : ℕ → ℕ
upper b = pick (is_lower b) (b - 32) b

-- a name whose first letter is small
abbrev pub small : List ℕ → List ℕ
small [] = []
small (b ∷ bs) = lower b ∷ bs

-- whether a name begins with a capital letter
abbrev pub begins_upper : List ℕ → Bool
begins_upper [] = false
begins_upper (b ∷ bs) = is_upper b

-- whether a name begins as those that a file makes: with one of `g_`, `i_`, `m_` and `v_`
abbrev pub is_made : List ℕ → Bool
is_made [] = false
is_made (a ∷ []) = false
is_made (a ∷ b ∷ bs) = (b == 95) && ((a == 103) || ((a == 105) || ((a == 109) || (a == 118))))

-- whether Swift, or the language of the subset, means something by a name
abbrev pub is_word : List ℕ → Bool
is_word w = list_any (λ x. bytes_eq x.now w) WORDS

-- Whether a name can stand for a value: it begins with no capital letter, nor as a name that is made, and is no word.
abbrev pub is_plain : List ℕ → Bool
is_plain w = not (begins_upper w) && (not (is_made w) && not (is_word w))

-- whether a name is that of the instance of a declared actor
abbrev pub is_instance_of : List ℕ → DeclTree → Bool
is_instance_of w (Executes x) = false
is_instance_of w (Binds l) = false
is_instance_of w (Acts a) = bytes_eq (small a.name) (small w)
is_instance_of w (Roots r) = false

-- whether a name is that of an instance
abbrev pub is_instance : List DeclTree → List ℕ → Bool
is_instance ds w = list_any (is_instance_of w) ds

-- a name, or the same after a prefix
abbrev pub spelled : Bool → List ℕ → List ℕ → List ℕ
spelled true prefix w = w
spelled false prefix w = prefix ++ w

-- whether Swift, or the file, means a type by a name
abbrev pub is_type_word : List ℕ → Bool
is_type_word w = list_any (λ x. bytes_eq x.now w) TYPES

-- whether a name begins with `T_`
abbrev pub is_made_type : List ℕ → Bool
is_made_type [] = false
is_made_type (a ∷ []) = false
is_made_type (a ∷ b ∷ bs) = (b == 95) && (a == 84)

-- the type of an actor: its name with a capital first letter, or the same after `T_` where it has no such letter, or a type is meant by it
abbrev pub type_name : List ℕ → List ℕ
type_name [] = []
type_name (b ∷ bs) = spelled (is_upper (upper b) && (not (is_made_type (upper b ∷ bs)) && not (is_type_word (upper b ∷ bs)))) (codes "T_") (upper b ∷ bs)

-- the instance of an actor: its name with a small first letter, or the same after `i_` where it is made, or a word
abbrev pub instance_name : List ℕ → List ℕ
instance_name [] = []
instance_name (b ∷ bs) = spelled (not (is_made (lower b ∷ bs)) && not (is_word (lower b ∷ bs))) (codes "i_") (lower b ∷ bs)

-- a field, a parameter, a variable, a task, a group or a root: its name, or the same after `v_` where it is not plain, or an instance's
abbrev pub value_name : List DeclTree → List ℕ → List ℕ
value_name ds w = spelled (is_plain w && not (is_instance ds w)) (codes "v_") w

-- whether one of the fields has this name
abbrev pub is_field : List FieldTree → List ℕ → Bool
is_field fs w = list_any (λ f. bytes_eq f.name w) fs

-- whether a declaration is that of an actor with such a field
abbrev pub has_field : List ℕ → List ℕ → DeclTree → Bool
has_field a w (Executes x) = false
has_field a w (Binds l) = false
has_field a w (Acts r) = bytes_eq r.name a && is_field r.fields w
has_field a w (Roots r) = false

-- whether a name is that of a field of an actor
abbrev pub is_field_of : List DeclTree → List ℕ → List ℕ → Bool
is_field_of ds a w = list_any (has_field a w) ds

-- a method of an actor: its name, or the same after `m_` where it is not plain, or an instance's or that of a field of the actor
abbrev pub method_name : List DeclTree → List ℕ → List ℕ → List ℕ
method_name ds a w = spelled (is_plain w && (not (is_instance ds w) && not (is_field_of ds a w))) (codes "m_") w
