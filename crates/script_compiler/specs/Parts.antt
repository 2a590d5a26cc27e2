-- What holds of each part of a method's code.
use Rattle.script_code.specs.Tree.{Term, Operation, Code, end, act, choice, loop}

-- Each statement that is done at once is so, and each test, also in the blocks of others.
abbrev pub EachPart : (Operation → Type 0) → (Term → Type 0) → Code → Type 0
EachPart Does Tests end = Unit {0}
EachPart Does Tests (act d rest) = Does d × EachPart Does Tests rest
EachPart Does Tests (choice t a b rest) = Tests t × EachPart Does Tests a × EachPart Does Tests b × EachPart Does Tests rest
EachPart Does Tests (loop t a rest) = Tests t × EachPart Does Tests a × EachPart Does Tests rest
