-- What is said to help, by what is at fault (our own).
use Rattle.std.specs.Prelude.{◌≡◌, ◌⊎◌, ◌==◌, ◌-◌, ℕ, Bool, Option, Some, IfSome, MatchOption, List, [], ◌∷◌, codes, decimal, slice_index_or, false, if◌then◌else◌}
use Rattle.std.specs.List.{concat}
use Rattle.script_tokens.specs.Spelling.{spelling}
use Rattle.script_tokens.specs.declared.keyword.Keyword.{Keyword}
use Rattle.script_tokens.specs.declared.keyword.Keyword.TheVariants.{Actor}
use Rattle.script_tokens.specs.declared.mark.Mark.TheVariants.{Minus}
use Rattle.script_context.specs.Declarations.{HasNoKey, IsDeclared, IsNamedAs, IsActorOf, called}
use Rattle.script_context.specs.Wants.{wanted_called}
use Rattle.script_context.specs.Words.{IsSignAt, name_at}
use Rattle.script_context.specs.declared.blamed.Blamed.{Blamed}
use Rattle.script_context.specs.declared.declared.Declared.{Declared}
use Rattle.script_context.specs.declared.declared.Declared.TheVariants as declared
use Rattle.script_context.specs.declared.wanted.Wanted.{Wanted}
use Rattle.script_hints.specs.Mistakes.{IsKnown, StandsAround}
use Rattle.script_hints.specs.Spelled.{filled}

-- bytes in back-quotes
abbrev pub quoted : List ℕ → List ℕ
quoted w = concat (codes "`" ∷ w ∷ codes "`" ∷ [])

-- a number of things: the word for one, with an `s` where it is not 1
abbrev pub counted : ℕ → List ℕ → List ℕ
counted n one = concat (decimal n ∷ codes " " ∷ one ∷ (if n == 1 then [] else codes "s") ∷ [])

-- The actor around a token, by the place of its name, or that there is none.
abbrev pub IsItsActor : Blamed → Option ℕ → Type 0
IsItsActor b actor = MatchOption actor (HasNoKey b.tokens.now b.place Actor) (IsActorOf b.tokens.now b.place)

-- A text is these words with the tokens that they name.
pub record IsFilled (b : Blamed) (words text : List ℕ) : Type 0 where
  pub actor : Option ℕ
  pub its : IsItsActor b actor
  pub is : text ≡ filled words false b actor

-- that a keyword is nearly so
abbrev pub keyword_text : Keyword → List ℕ
keyword_text k = concat (codes "a keyword is spelled nearly so: " ∷ quoted (spelling k) ∷ [])

-- What helps at a token that does not fit: nothing, the text of a mistake whose tokens stand around it, or a keyword.
pub data HelpsUnexpected (b : Blamed) : List ℕ → Type 0 where
  no_help : HelpsUnexpected b []
  mistake : (words : List (List ℕ)) (text : List ℕ) → IsKnown words → StandsAround b words → IsFilled b (slice_index_or words 8 []) text → HelpsUnexpected b text
  keyword : (k : Keyword) → HelpsUnexpected b (keyword_text k)

-- what is missing where so many braces are open
abbrev pub missing_text : ℕ → List ℕ
missing_text n = concat (codes "close what is open: " ∷ counted n (codes "brace") ∷ (if n == 1 then codes " is missing" else codes " are missing") ∷ [])

-- What helps where a text ends early: what to add, or that the rest is missing.
abbrev pub HelpsEnd : List ℕ → Type 0
HelpsEnd help = (help ≡ codes "add `;` at the end") ⊎ ((n : ℕ) × (help ≡ missing_text n)) ⊎ (help ≡ codes "write the rest")

-- What helps at a number that is too large.
abbrev pub HelpsHuge : Blamed → List ℕ → Type 0
HelpsHuge b help = (IsSignAt b.tokens.now (b.place - 1) Minus × (help ≡ codes "the least number that can be written is -9223372036854775807; one less is computed, by `- 1`")) ⊎ (help ≡ codes "the greatest number is 9223372036854775807")

-- what helps where a limit is passed, by what is declared at that place
abbrev pub limit_text : Option Declared → List ℕ
limit_text (Some declared.Executor) = codes "there are at most 64 executors: let several actors share one"
limit_text (Some declared.Actor) = codes "there are at most 64 actors: split the script"
limit_text (Some declared.Root) = codes "there are at most 1,024 roots: split the script"
limit_text other = codes "a worker has a number from 0 to 7"

-- What helps where a limit is passed.
pub record HelpsLimit (b : Blamed) (help : List ℕ) : Type 0 where
  pub declared : Option Declared
  pub is_declared : IfSome declared (IsDeclared b.tokens.now b.place)
  pub is : help ≡ limit_text declared

-- What helps at an invariant that is false at the start: which numbers its fields begin with.
pub data HelpsInvariant : List ℕ → Type 0 where
  never : HelpsInvariant (codes "it names no field, and is never true")
  starts : (fields : List ℕ) → HelpsInvariant (concat (codes "it is false, or overflows, with " ∷ fields ∷ codes ": choose other start values, or another invariant" ∷ []))

-- how many parameters a method has, and how many arguments it is given
abbrev pub arguments_text : List ℕ → ℕ → ℕ → List ℕ
arguments_text found has given = concat (quoted found ∷ codes " has " ∷ counted has (codes "parameter") ∷ codes ", and is given " ∷ counted given (codes "argument") ∷ [])

-- What helps at a method's name with another number of arguments: nothing, or both numbers, where a method has that name.
pub data HelpsArguments (b : Blamed) : List ℕ → Type 0 where
  no_counts : HelpsArguments b []
  counts : (at has given : ℕ) → IsNamedAs b.tokens.now at b.found.now declared.Method → HelpsArguments b (arguments_text b.found.now has given)

-- which root is waited for
abbrev pub later_text : List ℕ → List ℕ
later_text name = concat (codes "it waits for " ∷ quoted name ∷ codes ", by its method or one that it calls: declare that root first" ∷ [])

-- A root is declared at a place.
abbrev pub IsRoot : Blamed → ℕ → Type 0
IsRoot b at = IsDeclared b.tokens.now at declared.Root

-- What helps at a root that waits for itself or for a later one.
pub data HelpsRoot (b : Blamed) : List ℕ → Type 0 where
  no_root : HelpsRoot b []
  itself : HelpsRoot b (codes "it waits for itself, which never ends: wait for another root")
  later : (at : ℕ) (name : List ℕ) → IsNamedAs b.tokens.now at name declared.Root → HelpsRoot b (later_text name)

-- that a name is that of something else than is wanted
abbrev pub other_text : List ℕ → Declared → Wanted → List ℕ
other_text name d w = concat (quoted name ∷ codes " is " ∷ called d ∷ codes ", and here stands the name of " ∷ wanted_called w ∷ [])

-- what a task local is read by
abbrev pub local_text : List ℕ → List ℕ
local_text name = concat (quoted name ∷ codes " is a task local, which is read after `@`" ∷ [])

-- how the value of a root is waited for
abbrev pub root_text : List ℕ → List ℕ
root_text name = concat (quoted name ∷ codes " is a root, whose value is waited for: `let v = await task " ∷ name ∷ codes ";`" ∷ [])

-- that a variable stands later
abbrev pub late_text : List ℕ → List ℕ
late_text name = concat (quoted name ∷ codes " stands from the end of its `let` on" ∷ [])

-- why what is declared elsewhere can't be named here
abbrev pub apart_words : Declared → List ℕ
apart_words declared.Field = codes " is a field of another actor: let a method of that one return it"
apart_words declared.Method = codes " is a method of another actor"
apart_words declared.Parameter = codes " is a parameter of another method: pass it on"
apart_words d = codes " stands in its own block alone: declare it before the block that has both"

-- that a name is nearly so
abbrev pub near_text : Declared → List ℕ → List ℕ
near_text d name = concat (called d ∷ codes " is spelled nearly so: " ∷ quoted name ∷ [])

-- that nothing has a name
abbrev pub undeclared_text : List ℕ → Wanted → List ℕ
undeclared_text name w = concat (codes "nothing is called " ∷ quoted name ∷ codes ": here stands the name of " ∷ wanted_called w ∷ [])

-- What helps where a name stands for nothing: what it is in other languages, what has that name elsewhere, or a name that is nearly so.
pub data HelpsUnknown (b : Blamed) : List ℕ → Type 0 where
  truth : (b.found.now ≡ codes "true") ⊎ (b.found.now ≡ codes "false") → HelpsUnknown b (codes "`1` stands for true, and `0` for false")
  this : b.found.now ≡ codes "self" → HelpsUnknown b (codes "an actor is named by its own name")
  local : (at : ℕ) → IsNamedAs b.tokens.now at b.found.now declared.Local → HelpsUnknown b (local_text b.found.now)
  root : (at : ℕ) → IsNamedAs b.tokens.now at b.found.now declared.Root → HelpsUnknown b (root_text b.found.now)
  unwanted : (at : ℕ) (d : Declared) (w : Wanted) → IsNamedAs b.tokens.now at b.found.now d → HelpsUnknown b (other_text b.found.now d w)
  late : (at : ℕ) (d : Declared) → IsNamedAs b.tokens.now at b.found.now d → HelpsUnknown b (late_text b.found.now)
  apart : (at : ℕ) (d : Declared) → IsNamedAs b.tokens.now at b.found.now d → HelpsUnknown b (concat (quoted b.found.now ∷ apart_words d ∷ []))
  near : (at : ℕ) (d : Declared) (name : List ℕ) → IsNamedAs b.tokens.now at name d → HelpsUnknown b (near_text d name)
  undeclared : (w : Wanted) → HelpsUnknown b (undeclared_text b.found.now w)

-- that a name is taken
abbrev pub taken_text : List ℕ → Declared → List ℕ → List ℕ
taken_text name d words = concat (quoted name ∷ codes " is the name of " ∷ called d ∷ words ∷ name ∷ codes "2`" ∷ [])

-- A field has this name.
abbrev pub HasField : Blamed → List ℕ → Type 0
HasField b name = (field : ℕ) × IsNamedAs b.tokens.now field name declared.Field

-- The name at a place is that of a field.
abbrev pub IsShared : Blamed → ℕ → Type 0
IsShared b at = IfSome (name_at b.tokens.now at) (HasField b)

-- What helps where a name is taken: nothing, or what has it.
pub data HelpsTwice (b : Blamed) : List ℕ → Type 0 where
  not_taken : HelpsTwice b []
  taken : (at : ℕ) (d : Declared) → IsNamedAs b.tokens.now at b.found.now d → HelpsTwice b (taken_text b.found.now d (codes ": give this one another name, as `"))
  shared : (at : ℕ) (d : Declared) (name : List ℕ) → IsNamedAs b.tokens.now at name d → HasField b name → HelpsTwice b (taken_text name d (codes ", and of a field of this actor: give the first another name, as `"))

-- what gives the value of a task, or that of a group's next child
abbrev pub value_text : List ℕ → Declared → List ℕ → List ℕ
value_text name d word = concat (quoted name ∷ codes " is " ∷ called d ∷ codes ": what it gives is `let v = await " ∷ word ∷ name ∷ codes ";`" ∷ [])

-- What helps where a name stands for something else than is wanted: nothing, or what it is.
pub data HelpsConfused (b : Blamed) : List ℕ → Type 0 where
  not_meant : HelpsConfused b []
  task : (at : ℕ) → IsNamedAs b.tokens.now at b.found.now declared.Task → HelpsConfused b (value_text b.found.now declared.Task (codes "task "))
  group : (at : ℕ) → IsNamedAs b.tokens.now at b.found.now declared.Group → HelpsConfused b (value_text b.found.now declared.Group (codes "next "))
  meant : (at : ℕ) (d : Declared) (w : Wanted) → IsNamedAs b.tokens.now at b.found.now d → HelpsConfused b (other_text b.found.now d w)

-- what stands in front of the number of a byte, or of a character of so many bytes
abbrev pub stray_head : ℕ → List ℕ
stray_head width = if width == 1 then codes "this byte is " else concat (codes "these " ∷ decimal width ∷ codes " bytes are the character U+" ∷ [])

-- what stands behind that number, by whether it is of a comment
abbrev pub stray_end : Bool → List ℕ
stray_end in_comment = concat ((if in_comment then codes ", in a comment" else []) ∷ codes ": a script has only printable ASCII, tabs, LF and CR" ∷ (if in_comment then codes ", in comments too" else []) ∷ [])

-- what is said of a byte or a character by its number, and whether it stands in a comment
abbrev pub stray_text : Bool → ℕ → List ℕ → List ℕ
stray_text in_comment width digits = concat (stray_head width ∷ digits ∷ stray_end in_comment ∷ [])

-- What helps at a byte that no script has, by whether it stands in a comment, and how many bytes are to be replaced.
pub record HelpsStray (in_comment : Bool) (width : ℕ) (help : List ℕ) : Type 0 where
  pub digits : List ℕ
  pub is : help ≡ stray_text in_comment width digits
