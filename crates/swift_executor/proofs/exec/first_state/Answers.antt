use Rattle.swift_executor.proofs.Prelude.{◌≡◌, ℕ, Some, [], true, refl, ap, sym, subst, rules, List, IsPermutation-refl, JobFacts, ScriptView, BookSeatView, HasTaken, site_of, GoesTogether, TakerView, IsOpened, orders_of, ExecStateView, new_executor, taken_of}
use Rattle.swift_executor.proofs.SeatKept.{new_knows}
use Rattle.swift_executor.proofs.exec.first_state.Goals as goal

-- what a new executor begins with goes together
together_new : (script : ScriptView) (executor room : ℕ) (t : TakerView) (seat : BookSeatView) → t.site ≡ Some (site_of seat.lock (new_executor script executor room)) → t.taken ≡ [] → IsOpened script executor seat
    → GoesTogether (taken_of (new_executor script executor room) t seat true)
together_new script executor room t seat site none opened =
    let s = new_executor script executor room in
    let first : HasTaken [] s = record { journalled = []; folded = []; all = IsPermutation-refl []; records = refl; past = refl } in
    record {
      is_of = (site, subst (λ (ts : List JobFacts). HasTaken ts s) (sym none) first, new_knows script executor room seat opened);
      order = λ is. ap orders_of opened.1;
    }

pub invariant_of-held : goal.invariant_of-held
invariant_of-held c =
    let i = c.args.site.now in
    let same : c.in_ok-state.state ≡ new_executor i.script i.executor c.args.room = search rules in
    let site : c.args.taker.site ≡ Some (site_of c.args.seat.lock (new_executor i.script i.executor c.args.room)) = search rules in
    subst (λ (s : ExecStateView). GoesTogether (taken_of s c.args.taker c.args.seat true)) (sym same) (together_new i.script i.executor c.args.room c.args.taker c.args.seat site c.requires.unused c.requires.seat)
