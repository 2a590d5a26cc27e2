-- Instructions as statements, and the heads of the blocks that some open. (Our own.)
use Rattle.std.specs.Prelude.{ℕ, ◌++◌, Bool, List, [], codes, if◌then◌else◌}
use Rattle.swift_expressions.specs.declared.code.Instruction.{Instruction}
use Rattle.swift_expressions.specs.declared.code.Instruction.TheVariants as instruction
use Rattle.swift_translation.specs.Names.{Done, spelled}
use Rattle.swift_translation.specs.Returns.{done_head}
use Rattle.swift_translation.specs.StatementTexts.{add_text, field_set_text, give_text, line_text, make_text, print_text, require_text, set_text, throw_text, waited_text, word_line, word_text}
use Rattle.swift_translation.specs.ValueTexts.{local_text, value_text, variable_text}
use Rattle.swift_translation.specs.declared.frame.Frame.{Frame}
use Rattle.swift_translation.specs.declared.source.Context.{Context}

-- a word, a value, and a brace
unfoldable pub test_text : Context → List ℕ → ℕ → List ℕ
test_text at word value = word_line at word ++ value_text at value ++ codes " {"

-- a value that is tested where the method has not returned
unfoldable pub guarded_text : Context → ℕ → List ℕ
guarded_text at value = (codes "(!" ++ spelled (Done at.serial) ++ codes " && ") ++ value_text at value ++ codes ")"

-- what is tested before each turn of a loop: also that the method has not returned, where something notes that
abbrev pub looped_text : Context → Bool → ℕ → List ℕ
looped_text at needs_done value = if needs_done then guarded_text at value else value_text at value

-- the head of a loop
unfoldable pub while_text : Context → Bool → ℕ → List ℕ
while_text at needs_done value = word_line at (codes "while ") ++ looped_text at needs_done value ++ codes " {"

-- the head of a group's block
unfoldable pub group_text : Context → ℕ → List ℕ
group_text at variable = word_line at (codes "group ") ++ variable_text at variable ++ codes " {"

-- what stands before the value of a task local that is bound
unfoldable pub bind_head : Context → ℕ → List ℕ
bind_head at local = word_line at (codes "bind ") ++ local_text at.source local ++ codes " = "

-- the head of a block that has a task local bound
unfoldable pub bind_text : Context → ℕ → ℕ → List ℕ
bind_text at local value = bind_head at local ++ value_text at value ++ codes " {"

-- the head of what is done unless the method has returned
abbrev pub rest_text : Context → Bool → List ℕ
rest_text at needs_done = if needs_done then line_text at.open_blocks ++ done_head at.serial else []

-- the head of the block that an instruction opens
abbrev pub head_text : Context → Bool → Instruction → List ℕ
head_text at needs_done (instruction.If value) = test_text at (codes "if ") value
head_text at needs_done (instruction.While value) = while_text at needs_done value
head_text at needs_done (instruction.Group variable) = group_text at variable
head_text at needs_done (instruction.Bind local value) = bind_text at local value
head_text at needs_done instruction.Rest = rest_text at needs_done
head_text at needs_done i = []

-- an instruction that sets something
abbrev pub setting_text : Context → Instruction → List ℕ
setting_text at (instruction.Let variable value) = set_text at (codes "let ") variable value
setting_text at (instruction.Set variable value) = set_text at [] variable value
setting_text at (instruction.SetField field value) = field_set_text at field value
setting_text at (instruction.Print place value) = print_text at place value
setting_text at (instruction.Require value line) = require_text at value line
setting_text at i = []

-- an instruction that waits, makes, adds or cancels a task, or ends a turn or the method that is written
abbrev pub task_text : Context → Frame → Instruction → List ℕ
task_text at frame (instruction.Wait target what otherwise) = waited_text at frame.at target what otherwise
task_text at frame (instruction.Make variable is_detached callee urgency) = make_text at variable is_detached callee urgency
task_text at frame (instruction.Add group is_only callee urgency) = add_text at group is_only callee urgency
task_text at frame (instruction.Cancel variable) = word_text at (codes "cancel ") variable
task_text at frame instruction.Check = word_line at (codes "check;")
task_text at frame instruction.Yield = word_line at (codes "yield;")
task_text at frame (instruction.Return value) = give_text at frame.result frame.needs_done value
task_text at frame (instruction.Throw value) = throw_text at value
task_text at frame i = []
