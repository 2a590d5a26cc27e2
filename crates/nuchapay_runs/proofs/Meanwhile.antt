-- Turns between two places of a journal.
use Rattle.nuchapay_runs.proofs.Prelude.{◌≡◌, ℕ, ◌+◌, ◌<◌, List, ◌++◌, length, get_or, sym, ap, ap₂, ◌∙◌, flat_map, slice_range, Ending, Origin, ScriptView, RecordView, ValuesView, first_of, range_more, Says, blamed_text, kept_changes, meanwhile_text, Text}
use Rattle.nuchapay_runs.proofs.Joined.{UpTo, more}

-- the changes of one turn more
pub meanwhile_more : (p : ScriptView) (es : List (Origin × Ending)) (e actor waiting : ℕ) (j : List RecordView) (vs : List ValuesView) (i to task number : ℕ) (v : ValuesView) (old now next : Text) (all : List ℕ)
    → i < to → i < length j → i < length vs
    → ((d : RecordView) → task ≡ (get_or j i d).task) → ((d : RecordView) → number ≡ (get_or j i d).number) → v ≡ get_or vs i v
    → Says now next (flat_map (blamed_text p es e actor waiting task number) (kept_changes v))
    → UpTo old now (meanwhile_text p es e actor waiting (slice_range j i to) (slice_range vs i to)) all
    → UpTo old next (meanwhile_text p es e actor waiting (slice_range j (i + 1) to) (slice_range vs (i + 1) to)) all
meanwhile_more p es e actor waiting j vs i to task number v old now next all within lt below is_task is_number is_values says upto =
    let d = first_of j i lt in
    let x = get_or j i d in
    let rest = meanwhile_text p es e actor waiting (slice_range j (i + 1) to) (slice_range vs (i + 1) to) in
    more
    (
    ap₂ (λ (rs : List RecordView) (ws : List ValuesView). meanwhile_text p es e actor waiting rs ws) (range_more j i to d within lt) (range_more vs i to v within below)
    ∙ ap (λ (k : ℕ). flat_map (blamed_text p es e actor waiting k x.number) (kept_changes (get_or vs i v)) ++ rest) (sym (is_task d))
    ∙ ap (λ (k : ℕ). flat_map (blamed_text p es e actor waiting task k) (kept_changes (get_or vs i v)) ++ rest) (sym (is_number d))
    ∙ ap (λ (w : ValuesView). flat_map (blamed_text p es e actor waiting task number) (kept_changes w) ++ rest) (sym is_values)
    )
    upto
    says
