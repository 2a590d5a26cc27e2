-- Steps of reading, and the fault that ends them: the parser's own way.
use Rattle.std.specs.Prelude.{◌≡◌, Bool, true, false, List, length, Result, Ok, Err}
use Rattle.script_parser.specs.declared.fault.Kind.{Kind}
use Rattle.script_parser.specs.declared.fault.Kind.TheVariants.{Unexpected}
use Rattle.script_parser.specs.declared.fault.ParseFault.{ParseFault}
use Rattle.script_parser.specs.declared.fault.ReadError.{ReadError}
use Rattle.script_parser.specs.declared.fault.ReadError.TheVariants as errors
use Rattle.script_tokens.specs.Pieces.{TokenView}

-- the fault at the front of these tokens
abbrev pub at : Kind → List TokenView → ParseFault
at kind ts = record { kind = kind; tokens_left = length ts }

-- Reading gives a value and the tokens after it.
abbrev pub Reads : Type 0 → Type 0
Reads A = List TokenView → Result (A × List TokenView) ParseFault

-- What is read first, and then what f reads after it; the first fault ends it.
infixl 10 ◌>>=◌
abbrev pub ◌>>=◌ : {A B : Type 0} → Result A ParseFault → (A → Result B ParseFault) → Result B ParseFault
(Ok x) >>= f = f x
(Err e) >>= f = Err e

-- The fault that a function returned is the one that reading meets, unless memory ran out.
abbrev pub Fails : {Y : Type 0} → ReadError → Result Y ParseFault → Type 0
Fails errors.Memory read = Unit {0}
Fails (errors.Fault f) read = read ≡ Err f

-- What a function returned, seen by view, is what reading gives, unless memory ran out.
abbrev pub Gives : {X Y : Type 0} → (X → Y) → Result X ReadError → Result Y ParseFault → Type 0
Gives view (Ok x) read = read ≡ Ok (view x)
Gives view (Err e) read = Fails e read

-- the tokens, where what they begin with may stand
abbrev pub allowed_at : Bool → List TokenView → Result (List TokenView) ParseFault
allowed_at true ts = Ok ts
allowed_at false ts = Err (at Unexpected ts)
