-- Which executors have run a turn.
use Rattle.swift_explorer.proofs.Prelude.{◌≡◌, ℕ, ◌<◌, ◌≤◌, List, [], ◌∷◌, ◌++◌, length, set, get_or-set_same, get_or-set_other, length-set, sym, subst, ap, ◌∙◌, refl, Bool, true, false, inl, inr, None, Some, if◌then◌else◌, slice_index_or, cases_eq, ScriptView, executor_count, RecordView, Block, ran, record_in, records_of, filter_none, filter_some, has_records, equal, unequal}

abbrev pub AreUsed : List Bool → List Block → Type 0
AreUsed used blocks = (e : ℕ) → slice_index_or used e false ≡ has_records (records_of e blocks)

pub used_same : (used : List Bool) (blocks : List Block) (b : Block) → ((e : ℕ) → record_in e b ≡ None) → AreUsed used blocks → AreUsed used (blocks ++ b ∷ [])
used_same used blocks b none are e = are e ∙ ap has_records (sym (filter_none (record_in e) blocks b (none e)))

has_last : (rs : List RecordView) (r : RecordView) → has_records (rs ++ r ∷ []) ≡ true
has_last [] r = refl
has_last (q ∷ rs) r = refl

pub used_set : (used : List Bool) (blocks : List Block) (k : ℕ) (r : RecordView) → k < length used → AreUsed used blocks → AreUsed (set used k true) (blocks ++ ran k r ∷ [])
used_set used blocks k r lt are e = elim (cases_eq e k) [
  | inl same ↦
      let own : record_in e (ran k r) ≡ Some r = ap (λ b. if b then Some r else None) (equal k e (sym same)) in
      ap (λ (n : ℕ). slice_index_or (set used k true) n false) same ∙ get_or-set_same used k true false lt
      ∙ sym (ap has_records (filter_some (record_in e) blocks (ran k r) r own) ∙ has_last (records_of e blocks) r)
  | inr ne ↦
      let none : record_in e (ran k r) ≡ None = ap (λ b. if b then Some r else None) (unequal k e (λ is. ne (sym is))) in
      get_or-set_other used k e true false ne ∙ are e ∙ ap has_records (sym (filter_none (record_in e) blocks (ran k r) none))
]

-- as many are told of after a turn as before it
pub used_short : (script : ScriptView) (us vs ws : List Bool) (k : ℕ) → length us ≤ executor_count script → vs ≡ set us k true → ws ≡ vs → length ws ≤ executor_count script
used_short script us vs ws k short one same = subst (λ (n : ℕ). n ≤ executor_count script) (sym (ap length same ∙ ap length one ∙ length-set us k true)) short
