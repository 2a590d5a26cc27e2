-- The keywords.
use Rattle.std.specs.Prelude.{ℕ, List, length, Option, Some, None, ◌==◌, if◌then◌else◌}
use Rattle.std.specs.Str.{bytes_eq}
use Rattle.script_tokens.specs.declared.keyword.Keyword.{Keyword}
use Rattle.script_tokens.specs.declared.keyword.Keyword.TheVariants as key
use Rattle.script_tokens.specs.Spelling.{spelling}

-- the keywords of two bytes
abbrev pub keyword_of_two : List ℕ → Option Keyword
keyword_of_two w =
    if bytes_eq w (spelling key.At) then Some key.At
    else if bytes_eq w (spelling key.If) then Some key.If
    else if bytes_eq w (spelling key.On) then Some key.On
    else None

-- the keywords of three bytes
abbrev pub keyword_of_three : List ℕ → Option Keyword
keyword_of_three w =
    if bytes_eq w (spelling key.Add) then Some key.Add
    else if bytes_eq w (spelling key.Let) then Some key.Let
    else if bytes_eq w (spelling key.Low) then Some key.Low
    else if bytes_eq w (spelling key.Var) then Some key.Var
    else None

-- the keywords of four bytes
abbrev pub keyword_of_four : List ℕ → Option Keyword
keyword_of_four w =
    if bytes_eq w (spelling key.Bind) then Some key.Bind
    else if bytes_eq w (spelling key.Else) then Some key.Else
    else if bytes_eq w (spelling key.Fifo) then Some key.Fifo
    else if bytes_eq w (spelling key.Func) then Some key.Func
    else if bytes_eq w (spelling key.High) then Some key.High
    else if bytes_eq w (spelling key.Next) then Some key.Next
    else if bytes_eq w (spelling key.Root) then Some key.Root
    else if bytes_eq w (spelling key.Task) then Some key.Task
    else None

-- the keywords of five bytes
abbrev pub keyword_of_five : List ℕ → Option Keyword
keyword_of_five w =
    if bytes_eq w (spelling key.Actor) then Some key.Actor
    else if bytes_eq w (spelling key.Await) then Some key.Await
    else if bytes_eq w (spelling key.Check) then Some key.Check
    else if bytes_eq w (spelling key.Group) then Some key.Group
    else if bytes_eq w (spelling key.Local) then Some key.Local
    else if bytes_eq w (spelling key.Spawn) then Some key.Spawn
    else if bytes_eq w (spelling key.Throw) then Some key.Throw
    else if bytes_eq w (spelling key.While) then Some key.While
    else if bytes_eq w (spelling key.Yield) then Some key.Yield
    else None

-- the keywords of six bytes
abbrev pub keyword_of_six : List ℕ → Option Keyword
keyword_of_six w =
    if bytes_eq w (spelling key.Assume) then Some key.Assume
    else if bytes_eq w (spelling key.Cancel) then Some key.Cancel
    else if bytes_eq w (spelling key.Detach) then Some key.Detach
    else if bytes_eq w (spelling key.Medium) then Some key.Medium
    else if bytes_eq w (spelling key.Pinned) then Some key.Pinned
    else if bytes_eq w (spelling key.Return) then Some key.Return
    else if bytes_eq w (spelling key.Unless) then Some key.Unless
    else None

-- the keywords of eight bytes
abbrev pub keyword_of_eight : List ℕ → Option Keyword
keyword_of_eight w =
    if bytes_eq w (spelling key.Executor) then Some key.Executor
    else if bytes_eq w (spelling key.Priority) then Some key.Priority
    else None

-- the keywords of nine bytes
abbrev pub keyword_of_nine : List ℕ → Option Keyword
keyword_of_nine w =
    if bytes_eq w (spelling key.Cancelled) then Some key.Cancelled
    else if bytes_eq w (spelling key.Invariant) then Some key.Invariant
    else None

-- the keywords of ten bytes
abbrev pub keyword_of_ten : List ℕ → Option Keyword
keyword_of_ten w =
    if bytes_eq w (spelling key.Background) then Some key.Background
    else None

-- the keyword that a word is, if it is one
abbrev pub keyword_of : List ℕ → Option Keyword
keyword_of w =
    if length w == 2 then keyword_of_two w
    else if length w == 3 then keyword_of_three w
    else if length w == 4 then keyword_of_four w
    else if length w == 5 then keyword_of_five w
    else if length w == 6 then keyword_of_six w
    else if length w == 8 then keyword_of_eight w
    else if length w == 9 then keyword_of_nine w
    else if length w == 10 then keyword_of_ten w
    else None
