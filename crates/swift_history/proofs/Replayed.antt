-- Replays, one record after another.
use Rattle.std.proofs.Common.{◌≡◌, ℕ, ℤ, Some, List, [], ◌∷◌, ◌++◌, refl, sym, subst, Contains, IsTrue}
use Rattle.swift_journal.specs.Records.{RecordView}
use Rattle.swift_types.specs.declared.limits.TheConstants.{STEPS}
use Rattle.script_code.specs.Tree.{Term}
use Rattle.script_code.specs.Value.{holds}
use Rattle.swift_script.specs.Scripts.{ScriptView, actor_executor, executor_invariants, method_actor}
use Rattle.swift_undo.specs.Laws.{InvariantsAreKept}
use Rattle.swift_turn.specs.Body.{state_at}
use Rattle.swift_history.specs.Replay.{AreLawful, IsLawfulRecord, LawfulGrows, RunOn, fields_after, replay}

pub replay-append : (script : ScriptView) (fields : List (List ℤ)) (rs more : List RecordView) → replay script fields (rs ++ more) ≡ replay script (replay script fields rs) more
replay-append script fields [] more = refl
replay-append script fields (r ∷ rs) more = replay-append script (fields_after script fields r) rs more

pub lawful-push : (script : ScriptView) (fields : List (List ℤ)) (rs : List RecordView) (r : RecordView) → AreLawful script fields rs → IsLawfulRecord script (replay script fields rs) r → AreLawful script fields (rs ++ r ∷ [])
lawful-push script fields [] r lawful more = (more, tt)
lawful-push script fields (q ∷ rs) r lawful more = (lawful.0, lawful-push script (fields_after script fields q) rs r lawful.1 more)

pub lawful-append : (script : ScriptView) (fields : List (List ℤ)) (rs more : List RecordView) → AreLawful script fields rs → AreLawful script (replay script fields rs) more → AreLawful script fields (rs ++ more)
lawful-append script fields [] more lawful then = then
lawful-append script fields (q ∷ rs) more lawful then = (lawful.0, lawful-append script (fields_after script fields q) rs more lawful.1 then)

pub lawful_more : (script : ScriptView) (fields : List (List ℤ)) (rs : List RecordView) (r : RecordView) → LawfulGrows script fields rs r
lawful_more script fields rs r = record { lawful = lawful-push script fields rs r; replayed = replay-append script fields rs (r ∷ []) }

-- an invariant that holds before the turn of a record holds after it
turn_holds : InvariantsAreKept → (script : ScriptView) (e : ℕ) (fields : List (List ℤ)) (r : RecordView) (t : Term) → actor_executor script (method_actor script r.frame.method) ≡ e
    → Contains (executor_invariants script e) t → IsTrue (holds (Some t) fields) → IsTrue (holds (Some t) (fields_after script fields r))
turn_holds law script e fields r t on has is =
    let here : Contains (executor_invariants script (actor_executor script (method_actor script r.frame.method))) t = subst (λ (n : ℕ). Contains (executor_invariants script n) t) (sym on) has in
    law (record { outer = r.outer; env = r.env }) STEPS (executor_invariants script (actor_executor script (method_actor script r.frame.method))) (state_at script r.frame fields [] r.env.room) r.resume t here is

pub replay_holds : InvariantsAreKept → (script : ScriptView) (e : ℕ) (fields : List (List ℤ)) (rs : List RecordView) (t : Term) → RunOn script e rs
    → Contains (executor_invariants script e) t → IsTrue (holds (Some t) fields) → IsTrue (holds (Some t) (replay script fields rs))
replay_holds law script e fields [] t on has is = is
replay_holds law script e fields (r ∷ rs) t on has is = replay_holds law script e (fields_after script fields r) rs t on.1 has (turn_holds law script e fields r t on.0 has is)
