-- The cells of a picture (our own): a turn has one, and turns in a row that only give way have one together.
use Rattle.std.specs.Prelude.{◌≡◌, ◌⊎◌, ℕ, zero, suc, ◌+◌, ◌-◌, ◌≤◌, if◌then◌else◌, nat_lt, Bool, true, false, List, [], ◌∷◌, ◌++◌, All, take, drop}
use Rattle.run_pictures.specs.declared.picture.cells.Cell.{Cell}

-- a cell of so many turns, the first of which is that of this column
abbrev pub cell : ℕ → ℕ → Cell
cell at n = record { first = at; turns = n }

-- a cell for each of so many turns, from a column on
abbrev pub single_cells : ℕ → ℕ → List Cell
single_cells at zero = []
single_cells at (suc n) = cell at 1 ∷ single_cells (at + 1) n

-- The cells of so many turns in a row that only give way: one for each of up to three; of more, one for the first, and one for the others.
abbrev pub run_cells : ℕ → ℕ → List Cell
run_cells at n = if nat_lt n 4 then single_cells at n else cell at 1 ∷ cell (at + 1) (n - 1) ∷ []

-- The cells of turns from a column on: `run` that only give way, and then one for each of these flags, which say so of them.
abbrev pub cells_from : ℕ → ℕ → List Bool → List Cell
cells_from at run [] = run_cells at run
cells_from at run (true ∷ qs) = cells_from at (run + 1) qs
cells_from at run (false ∷ qs) = run_cells at run ++ cell (at + run) 1 ∷ cells_from (at + run + 1) 0 qs

-- The cells of turns, of which these flags say whether they only give way.
abbrev pub cells_of : List Bool → List Cell
cells_of quiet = cells_from 0 0 quiet

-- the cells have the turns from one column to another, each in one of them, in order
abbrev pub AreOf : ℕ → List Cell → ℕ → Type 0
AreOf from [] to = from ≡ to
AreOf from (c ∷ cs) to = (c.first ≡ from) × (1 ≤ c.turns) × AreOf (from + c.turns) cs to

-- a cell has one turn, or each of its turns only gives way
abbrev pub IsQuiet : List Bool → Cell → Type 0
IsQuiet quiet c = (c.turns ≡ 1) ⊎ All (λ q. q ≡ true) (take c.turns (drop c.first quiet))
