-- When an executor refuses (our own).
use Rattle.std.specs.Prelude.{◌≡◌, Option, Some, None}
use Rattle.swift_tasks.specs.declared.fault.BookFault.{BookFault}
use Rattle.swift_tasks.specs.declared.fault.BookFault.TheVariants as book
use Rattle.swift_executor.specs.declared.fault.ExecFault.{ExecFault}
use Rattle.swift_executor.specs.declared.fault.ExecFault.TheVariants.{Memory, Refused}

-- what an executor answers where the book has refused
abbrev pub fault_of : BookFault → ExecFault
fault_of book.Memory = Memory
fault_of book.Unknown = Refused book.Unknown
fault_of book.Completed = Refused book.Completed
fault_of book.Refused = Refused book.Refused

-- a refusal is the one that stands in the book, else out of memory
abbrev pub IsRefusal : Option BookFault → ExecFault → Type 0
IsRefusal (Some cause) fault = fault ≡ fault_of cause
IsRefusal None fault = fault ≡ Memory
