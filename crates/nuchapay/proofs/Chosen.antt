-- Runs by the schedule that was asked for.
use Rattle.nuchapay.proofs.Prelude.{◌≡◌, ◌∙◌, ℕ, List, ◌++◌, length, take, sym, subst, ap, Result, Ok, Err, IfOk, ScriptView, Move, IsChoice, IsCompleted, IsRunOrNone}
use Rattle.std.proofs.lemmas.List.{take_at}
use Rattle.swift_tool.specs.declared.fault.ToolFault.{ToolFault}
use Rattle.nuchapay_tool.specs.declared.requests.ScheduleChoice.{ScheduleChoice}
use Rattle.nuchapay.specs.declared.scheduled.ChosenRun.{ChosenRun}
use Rattle.nuchapay.specs.declared.scheduled.ChosenRun.TheVariants as chosen

-- a schedule that was asked for, and was led to its end
pub completed : (script : ScriptView) (choice : ScheduleChoice) (schedule : List Move) (r : ChosenRun) → IsChoice script choice schedule → IsCompleted script schedule r → IsRunOrNone script choice r
completed script choice schedule (chosen.Run run) is c = record { same = c.same; is = c.is; chosen = subst (IsChoice script choice) (sym c.first) is }
completed script choice schedule (chosen.None why) is c = c choice

pub completed_if : (script : ScriptView) (choice : ScheduleChoice) (schedule : List Move) (r : Result ChosenRun ToolFault) → IsChoice script choice schedule → IfOk r (IsCompleted script schedule) → IfOk r (IsRunOrNone script choice)
completed_if script choice schedule (Ok run) is c = completed script choice schedule run is c
completed_if script choice schedule (Err e) is c = tt

-- the first steps of a schedule that was led to its end
pub first_of : (schedule whole rest : List Move) (n : ℕ) → length schedule ≡ n → whole ≡ schedule ++ rest → take n whole ≡ schedule
first_of schedule whole rest n many begins = ap (take n) begins ∙ take_at schedule rest n many
