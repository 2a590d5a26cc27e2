-- Frames, bindings and fields as numbers (our own).
use Rattle.std.specs.Prelude.{ℕ, ℤ, List, reverse}
use Rattle.swift_interpreter.specs.Frames.{FrameView}
use Rattle.swift_explorer.specs.Numbers.{pair_numbers, option_numbers, list_numbers, value_numbers, number_numbers, wide_numbers, fault_numbers}

-- some values
abbrev pub values_numbers : List ℤ → List ℤ
values_numbers = list_numbers value_numbers

-- some numbers that are no values
abbrev pub ids_numbers : List ℕ → List ℤ
ids_numbers = list_numbers number_numbers

-- a binding: the task local, and its value
abbrev pub binding_numbers : ℕ × ℤ → List ℤ
binding_numbers = pair_numbers number_numbers value_numbers

-- the outermost first
abbrev pub bindings_numbers : List (ℕ × ℤ) → List ℤ
bindings_numbers ps = list_numbers binding_numbers (reverse ps)

-- the open groups of a frame, the outermost first
abbrev pub groups_numbers : List ℕ → List ℤ
groups_numbers gs = ids_numbers (reverse gs)

-- a frame: its method, its instruction, its variables, handles, bindings and groups, the fault that is pending, and how many tasks and groups it made
abbrev pub frame_numbers : FrameView → List ℤ
frame_numbers p =
    pair_numbers number_numbers (pair_numbers number_numbers (pair_numbers values_numbers (pair_numbers ids_numbers (pair_numbers bindings_numbers (pair_numbers groups_numbers
    (pair_numbers (option_numbers fault_numbers) (pair_numbers wide_numbers wide_numbers)))))))
    (p.method, (p.instruction, (p.variables, (p.handles, (p.own, (p.groups, (p.pending, (p.made, p.opened))))))))

-- the rows of fields of an executor
abbrev pub rows_numbers : List (List ℤ) → List ℤ
rows_numbers = list_numbers values_numbers

-- of the fields of all executors
abbrev pub fields_numbers : List (List (List ℤ)) → List ℤ
fields_numbers = list_numbers rows_numbers
