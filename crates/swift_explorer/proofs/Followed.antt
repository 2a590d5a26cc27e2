-- The steps of a history lead it on.
use Rattle.swift_explorer.proofs.Prelude.{◌≡◌, ℕ, ◌≤◌, ℤ, List, [], ◌∷◌, ◌++◌, Vec, false, length, sym, subst, ap, append-nil, append_assoc, ◌∙◌, Result, Ok, Err, IfOk, IfSome, None, Option, Some, slice_index_or, AllocError, Global, length-map, rows_of, ScriptView, executor_count, CheckpointView, Event, AllStand, Block, Stands, folded_in, records_of, IsOrderly, starts, allowed_push, filter_none, Follows, IsFollowed, IsRead, IsReadOf, LogDigest, Followed, Broken, Yes, SearchedHistory, IsHistory, WasDone, has_records, rows_at}
use Rattle.swift_laws.proofs.HistoriesGrow.{log_grows}

-- as many executors are told of
pub many_on : (x y : SearchedHistory) → length y.steps.fields.items ≡ length x.steps.fields.items → length (rows_at y) ≡ length (rows_at x)
many_on x y same =
    let seen = λ (rows : Vec (Vec ℤ Global) Global). rows_of rows.items in
    length-map y.steps.fields.items seen ∙ same ∙ sym (length-map x.steps.fields.items seen)

-- the last of some blocks stands after the others
stand_last : (script : ScriptView) (cps : List CheckpointView) (xs before : List Block) (b : Block) → AllStand script cps before (xs ++ b ∷ []) → Stands script cps (before ++ xs) b
stand_last script cps [] before b all = subst (λ (bs : List Block). Stands script cps bs b) (sym (append-nil before)) all.0
stand_last script cps (x ∷ xs) before b all = subst (λ (bs : List Block). Stands script cps bs b) (append_assoc before (x ∷ []) xs) (stand_last script cps xs (before ++ x ∷ []) b all.1)

-- what was read of the log stands first in it still
read_grown : (script : ScriptView) (blocks : List Block) (x y : SearchedHistory) (b : Block) → IsHistory script blocks x → IsFollowed script (starts script) (blocks ++ b ∷ []) y.steps → y.digest ≡ x.digest → IsReadOf y.digest y.steps.book.log
read_grown script blocks x y b h f digest =
    let grows = log_grows script (starts script) blocks (b ∷ []) (stand_last script (starts script) blocks [] b f.led.stand, tt) in
    let was = h.read in
    let log : y.steps.book.log ≡ x.steps.book.log ++ grows.0 = f.led.log_is ∙ grows.1 ∙ ap (λ (l : List Event). l ++ grows.0) (sym h.followed.led.log_is) in
    (was.0, was.1 ++ grows.0, log ∙ ap (λ (l : List Event). l ++ grows.0) was.2 ∙ append_assoc was.0 was.1 grows.0, subst (λ (r : LogDigest). IsRead r was.0) (sym digest) was.3)

-- one block more was followed
pub history_on : (script : ScriptView) (blocks : List Block) (x y : SearchedHistory) (b : Block) → IsHistory script blocks x → Follows x.steps y.steps b → IsOrderly script blocks b → ((e : ℕ) → folded_in e b ≡ None)
    → ((e : ℕ) → slice_index_or y.used.items e false ≡ has_records (records_of e (blocks ++ b ∷ []))) → length y.used.items ≤ executor_count script → y.digest ≡ x.digest → IsHistory script (blocks ++ b ∷ []) y
history_on script blocks x y b h follows orderly none used short digest = record {
  orderly = allowed_push (IsOrderly script) blocks b h.orderly orderly;
  none_folded = λ e. filter_none (folded_in e) blocks b (none e) ∙ h.none_folded e;
  many = many_on x y follows.many ∙ h.many;
  used = used;
  short = short;
  followed = follows.leads script (starts script) blocks h.followed;
  read = read_grown script blocks x y b h (follows.leads script (starts script) blocks h.followed) digest;
}

-- what holds where a step was done
pub if_done : (r : Result Followed AllocError) (P Q : Followed → Type 0) → ((f : Followed) → P f → Q f) → IfOk r (λ f. WasDone f → P f) → IfOk r (λ f. WasDone f → Q f)
if_done (Ok f) P Q leads was = λ done. leads f (was done)
if_done (Err e) P Q leads was = tt

-- what there is, where there is something
pub some_of : {A : Type 0} (o : Option A) (x : A) (P : A → Type 0) → o ≡ Some x → IfSome o P → P x
some_of o x P is holds = subst (λ (v : Option _). IfSome v P) is holds

abbrev IsYes : Followed → Type 0
IsYes Yes = Unit {0}
IsYes _ = ⊥

-- a step that was done without a word on invariants breaks none
pub yes_is : (f : Followed) → f ≡ Yes → f ≡ Broken → ⊥
yes_is f done broken = subst IsYes (sym done ∙ broken) tt
