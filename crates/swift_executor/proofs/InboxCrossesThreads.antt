-- A script, a body and an inbox may be shared by threads or go to another. The check looks for this by itself, and gives up at an
-- enum with as many variants as `Act`, so each type is shown from its parts. Who starts a thread with one of these lists the
-- lemma that is meant beside `sendable`.
use denote.Param.Send.{IsSend, IsSync, sendable, enum_send, enum_sync, recorded_send, recorded_sync}
use denote.Enum.Declared as E
use Rattle.std.proofs.Crossing as Crossing
use Rattle.script_code.specs.contracts.instruction.Act as act
use Rattle.script_code.specs.contracts.instruction.Instruction as instruction
use Rattle.script_code.specs.contracts.instruction.CompiledAwait as awaited
use Rattle.script_code.specs.contracts.formula.CompiledCall as call
use Rattle.script_code.proofs.formula.Formula.TheLaws.TheKnot as FormulaKnot
use Rattle.script_compiler.specs.contracts.compiled.CompiledMethod as compiled_method
use Rattle.script_compiler.specs.contracts.compiled.CompiledActor as compiled_actor
use Rattle.script_compiler.specs.contracts.compiled.CompiledExecutor as compiled_executor
use Rattle.script_compiler.specs.contracts.compiled.Compiled as compiled
use Rattle.swift_script.specs.contracts.script.Script as script
use Rattle.swift_turn.specs.contracts.body.Body as body
use Rattle.swift_interpreter.proofs.turn_state.TurnState.TheSendSync as TurnState
use Rattle.swift_undo.proofs.undo.Undo.TheSendSync as Undo
use Rattle.swift_locals.proofs.bindings.Bindings.TheSendSync as Bindings
use Rattle.swift_turn.proofs.phase.Phase.TheSendSync as Phase
use Rattle.swift_turn.proofs.stack.Stack.TheSendSync as Stack
use Rattle.futures.proofs.task.source.Source.TheSendSync as Source
use Rattle.futures.proofs.task.waker.Waker.TheSendSync as Waker
use Rattle.atomic_table.proofs.shared.Seat.TheSendSync as Seat
use Rattle.atomic_table.proofs.badge.Badge.TheSendSync as Badge
use Rattle.crossbeam_queue.proofs.array_queue.Slotted.TheSendSync as Slotted
use Rattle.swift_shared_book.specs.contracts.ticketed.TicketedJob as ticketed
use Rattle.swift_executor.specs.contracts.inbox.Inbox as inbox
use Rattle.swift_executor.specs.contracts.inbox.pass.Pass as pass
use Rattle.swift_executor.specs.contracts.inbox.taker.Taker as taker
use Rattle.swift_executor.specs.contracts.inbox.site.ExecutorSite as site

-- what the code of a script is made of
ruleset known = (Crossing.crosses, FormulaKnot.crosses, sendable)

-- what is made of types that were shown before
ruleset plain = (Crossing.crosses, sendable)

-- They may go to another thread.

call_send : IsSend (call.the_field).row
call_send = search known depth 60 fits 20000

awaited_send : IsSend (awaited.the_field).row
awaited_send = search known depth 60 fits 20000

act_send : IsSend (act.the_field).row
act_send = enum_send (E.shape act.the_type) (
  search known depth 60 fits 20000,
  (
    search known depth 60 fits 20000,
    (
      search known depth 60 fits 20000,
      (
        search known depth 60 fits 20000,
        (
          search known depth 60 fits 20000,
          (
            search known depth 60 fits 20000,
            (
              search known depth 60 fits 20000,
              (
                search known depth 60 fits 20000,
                (
                  search (known, awaited_send) depth 60 fits 20000,
                  (
                    search known depth 60 fits 20000,
                    (
                      search (known, call_send) depth 60 fits 20000,
                      (
                        search (known, call_send) depth 60 fits 20000,
                        (
                          search (known, call_send) depth 60 fits 20000,
                          (
                            search known depth 60 fits 20000,
                            (
                              search known depth 60 fits 20000,
                              (
                                search known depth 60 fits 20000,
                                (
                                  search known depth 60 fits 20000,
                                  (
                                    search known depth 60 fits 20000,
                                    (
                                      search known depth 60 fits 20000,
                                      (
                                        search known depth 60 fits 20000,
                                        tt,
                                      ),
                                    ),
                                  ),
                                ),
                              ),
                            ),
                          ),
                        ),
                      ),
                    ),
                  ),
                ),
              ),
            ),
          ),
        ),
      ),
    ),
  ),
)

instruction_send : IsSend (instruction.the_field).row
instruction_send = search (plain, act_send) depth 60 fits 20000

instruction_row_send : IsSend instruction.the_row
instruction_row_send = recorded_send (instruction.the_field).row _ _ (instruction.the_type).to_one instruction_send

compiled_method_send : IsSend (compiled_method.the_field).row
compiled_method_send = search (plain, instruction_row_send) depth 60 fits 20000

compiled_method_row_send : IsSend compiled_method.the_row
compiled_method_row_send = recorded_send (compiled_method.the_field).row _ _ (compiled_method.the_type).to_one compiled_method_send

compiled_actor_send : IsSend (compiled_actor.the_field).row
compiled_actor_send = search known depth 60 fits 20000

compiled_actor_row_send : IsSend compiled_actor.the_row
compiled_actor_row_send = recorded_send (compiled_actor.the_field).row _ _ (compiled_actor.the_type).to_one compiled_actor_send

compiled_executor_send : IsSend (compiled_executor.the_field).row
compiled_executor_send = search known depth 60 fits 20000

compiled_executor_row_send : IsSend compiled_executor.the_row
compiled_executor_row_send = recorded_send (compiled_executor.the_field).row _ _ (compiled_executor.the_type).to_one compiled_executor_send

compiled_send : IsSend (compiled.the_field).row
compiled_send = search (plain, compiled_method_row_send, compiled_actor_row_send, compiled_executor_row_send) depth 60 fits 20000

pub script_send : IsSend script.the_row
script_send = search (plain, compiled_send) depth 60 fits 20000

-- They may be shared by threads.

call_sync : IsSync (call.the_field).row
call_sync = search known depth 60 fits 20000

awaited_sync : IsSync (awaited.the_field).row
awaited_sync = search known depth 60 fits 20000

act_sync : IsSync (act.the_field).row
act_sync = enum_sync (E.shape act.the_type) (
  search known depth 60 fits 20000,
  (
    search known depth 60 fits 20000,
    (
      search known depth 60 fits 20000,
      (
        search known depth 60 fits 20000,
        (
          search known depth 60 fits 20000,
          (
            search known depth 60 fits 20000,
            (
              search known depth 60 fits 20000,
              (
                search known depth 60 fits 20000,
                (
                  search (known, awaited_sync) depth 60 fits 20000,
                  (
                    search known depth 60 fits 20000,
                    (
                      search (known, call_sync) depth 60 fits 20000,
                      (
                        search (known, call_sync) depth 60 fits 20000,
                        (
                          search (known, call_sync) depth 60 fits 20000,
                          (
                            search known depth 60 fits 20000,
                            (
                              search known depth 60 fits 20000,
                              (
                                search known depth 60 fits 20000,
                                (
                                  search known depth 60 fits 20000,
                                  (
                                    search known depth 60 fits 20000,
                                    (
                                      search known depth 60 fits 20000,
                                      (
                                        search known depth 60 fits 20000,
                                        tt,
                                      ),
                                    ),
                                  ),
                                ),
                              ),
                            ),
                          ),
                        ),
                      ),
                    ),
                  ),
                ),
              ),
            ),
          ),
        ),
      ),
    ),
  ),
)

instruction_sync : IsSync (instruction.the_field).row
instruction_sync = search (plain, act_sync) depth 60 fits 20000

instruction_row_sync : IsSync instruction.the_row
instruction_row_sync = recorded_sync (instruction.the_field).row _ _ (instruction.the_type).to_one instruction_sync

compiled_method_sync : IsSync (compiled_method.the_field).row
compiled_method_sync = search (plain, instruction_row_sync) depth 60 fits 20000

compiled_method_row_sync : IsSync compiled_method.the_row
compiled_method_row_sync = recorded_sync (compiled_method.the_field).row _ _ (compiled_method.the_type).to_one compiled_method_sync

compiled_actor_sync : IsSync (compiled_actor.the_field).row
compiled_actor_sync = search known depth 60 fits 20000

compiled_actor_row_sync : IsSync compiled_actor.the_row
compiled_actor_row_sync = recorded_sync (compiled_actor.the_field).row _ _ (compiled_actor.the_type).to_one compiled_actor_sync

compiled_executor_sync : IsSync (compiled_executor.the_field).row
compiled_executor_sync = search known depth 60 fits 20000

compiled_executor_row_sync : IsSync compiled_executor.the_row
compiled_executor_row_sync = recorded_sync (compiled_executor.the_field).row _ _ (compiled_executor.the_type).to_one compiled_executor_sync

compiled_sync : IsSync (compiled.the_field).row
compiled_sync = search (plain, compiled_method_row_sync, compiled_actor_row_sync, compiled_executor_row_sync) depth 60 fits 20000

pub script_sync : IsSync script.the_row
script_sync = search (plain, compiled_sync) depth 60 fits 20000

-- A job's body may go to another thread, and so may what holds it.
pub body_send : IsSend body.the_row
body_send = search (plain, script_send, script_sync, TurnState.the_field_send, Undo.the_field_send, Bindings.the_send, Phase.the_field_send, Stack.the_send, Source.the_send, Waker.the_send) depth 60 fits 20000

pub site_sync : IsSync site.the_row
site_sync = search (plain, script_send, script_sync) depth 60 fits 20000

pub site_send : IsSend site.the_row
site_send = search (plain, script_send, script_sync) depth 60 fits 20000

-- a job with its ticket, which has no bytes
pub ticketed_send : IsSend ticketed.the_row
ticketed_send = search (plain, body_send, Badge.the_send) depth 60 fits 20000

pub pass_send : IsSend pass.the_row
pass_send = search (plain, ticketed_send, Seat.the_send) depth 60 fits 20000

pub taker_send : IsSend taker.the_row
taker_send = search (plain, ticketed_send, Seat.the_send) depth 60 fits 20000

pub inbox_sync : IsSync inbox.the_row
inbox_sync = search (plain, ticketed_send, site_sync, Slotted.the_field_sync) depth 60 fits 20000

pub inbox_send : IsSend inbox.the_row
inbox_send = search (plain, ticketed_send, site_send, Slotted.the_field_send) depth 60 fits 20000
