-- From which lines of a Swift file the methods of its script are (our own).
use Rattle.std.specs.Prelude.{ℕ, ◌≡◌, ◌≤◌, ◌+◌, List, ◌++◌, codes, slice_range, take}
use Rattle.swift_syntax.specs.Places.{IsTokenOf}
use Rattle.swift_syntax.specs.declared.token.Token.{Token}
use Rattle.swift_translation.specs.Names.{closure_in, closure_in_function, closure_in_main, file_name}
use Rattle.swift_translation.specs.Lines.{feeds}
use Rattle.swift_translation.specs.declared.places.MethodPlace.{MethodPlace}

-- the number of the line on which a place of a text lies, from 1
abbrev pub line_of : List ℕ → ℕ → ℕ
line_of text place = feeds (take place text) + 1

-- the bytes of a token
abbrev pub bytes_of : List ℕ → Token → List ℕ
bytes_of text t = slice_range text t.from t.to

-- what a method of an actor is called, by the names of both in the file
abbrev pub method_name : List ℕ → List ℕ → List ℕ
method_name actor method = file_name actor ++ codes "." ++ file_name method

-- what a closure is called that stands in a method of an instance, on a line; and which one it is there
abbrev pub closure_name : List ℕ → List ℕ → ℕ → ℕ → List ℕ
closure_name instance method line which = codes "Task." ++ closure_in instance method line which

-- what a closure is called that stands in `main`
abbrev pub main_closure_name : ℕ → ℕ → List ℕ
main_closure_name line which = codes "Task." ++ closure_in_main line which

-- what a function outside of actors is called
abbrev pub function_name : List ℕ → List ℕ
function_name function = codes "Task." ++ file_name function

-- what a closure is called that stands in such a function
abbrev pub function_closure_name : List ℕ → ℕ → ℕ → List ℕ
function_closure_name function line which = codes "Task." ++ closure_in_function function line which

-- What a method of the script is: its name says which part of the file it is from, and on which line that begins.
pub data IsMethodOf (text : List ℕ) (p : MethodPlace) : Type 0 where
  -- a method of an instance, whose own name stands on that line
  of_instance : (i m : Token) → IsTokenOf text i → IsTokenOf text m → p.first ≡ line_of text m.from → p.name.items ≡ method_name (bytes_of text i) (bytes_of text m) → IsMethodOf text p
  -- a closure that begins there, in a method of an instance
  closure : (i m : Token) (which : ℕ) → IsTokenOf text i → IsTokenOf text m → p.name.items ≡ closure_name (bytes_of text i) (bytes_of text m) p.first which → IsMethodOf text p
  -- a closure that begins there, in `main`
  closure_of_main : (which : ℕ) → p.name.items ≡ main_closure_name p.first which → IsMethodOf text p
  -- a function outside of actors, whose own name stands on that line
  function : (f : Token) → IsTokenOf text f → p.first ≡ line_of text f.from → p.name.items ≡ function_name (bytes_of text f) → IsMethodOf text p
  -- a closure that begins there, in such a function
  closure_of_function : (f : Token) (which : ℕ) → IsTokenOf text f → p.name.items ≡ function_closure_name (bytes_of text f) p.first which → IsMethodOf text p
  -- `main` of a type, whose name stands on that line
  main : (t : Token) → IsTokenOf text t → p.first ≡ line_of text t.from → p.name.items ≡ method_name (bytes_of text t) (codes "main") → IsMethodOf text p

-- The lines are lines of the text, in order.
abbrev pub LiesIn : List ℕ → MethodPlace → Type 0
LiesIn text p = (1 ≤ p.first) × ((p.first ≤ p.last) × (p.last ≤ feeds text + 1))

-- A method of the script that a text becomes, and from which of its lines it is.
pub record IsPlaceIn (text : List ℕ) (p : MethodPlace) : Type 0 where
  pub lies : LiesIn text p
  pub method : IsMethodOf text p
