-- An outcome or a broken turn is noted.
use Rattle.swift_explorer.proofs.Prelude.{◌≡◌, ◌⊎◌, ℕ, ℤ, true, false, List, [], ◌∷◌, ◌++◌, Vec, get_or, map, refl, sym, subst, ap, ◌∙◌, inl, inr, All, Err, IfSome, None, Ok, OnOk, Option, Result, is_some, Contains, list_any, bytes_eq, Global, false≢true, Contains-append_left, Contains-get_or, Contains-push, Contains-push_cases, rows_of, Origin, Ending, ScriptView, ReportView, Move, RunOutcome, Search, all_packed, fields_numbers, list_numbers, Differ, EachOnce, IsBrokenAfter, IsOutcomeOf, Tells, end_numbers, outcome_bytes, AreKeyed, HasGrown, IsNoted, IsSound}
use Rattle.std.proofs.lemmas.List.Quantifiers.{all_pairs_push}
use Rattle.swift_explorer.proofs.Alike.{outcome_read}
use Rattle.swift_explorer.proofs.KeySets.{among_there, there_among}

-- what one outcome tells of, another one of the same key does
pub known_tells : (os : List RunOutcome) (ends : List (List ℕ)) (key : List ℕ) (outcome : RunOutcome) → ((k : List ℕ) → Contains ends k → IsNoted os k) → key ≡ outcome_bytes outcome → list_any (bytes_eq key) ends ≡ true
    → (report : ReportView) → Tells outcome report → (o : RunOutcome) × Contains os o × Tells o report
known_tells os ends key outcome noted keyed is report tells =
    let one = noted key (among_there ends key is) in
    let same = outcome_read outcome one.0 (sym (one.2 ∙ keyed)) in
    (one.0, one.1, (tells.0 ∙ same.0, tells.1 ∙ same.1))

same_bytes : (o p : RunOutcome) → o.endings.items ≡ p.endings.items → map (λ rows. rows_of rows.items) o.fields.items ≡ map (λ rows. rows_of rows.items) p.fields.items → outcome_bytes o ≡ outcome_bytes p
same_bytes o p endings fields =
    ap (λ (es : List (Origin × Ending)). all_packed (list_numbers end_numbers es ++ fields_numbers (map (λ rows. rows_of rows.items) o.fields.items))) endings
    ∙ ap (λ (fs : List (List (List ℤ))). all_packed (list_numbers end_numbers p.endings.items ++ fields_numbers fs)) fields

not_among : (keys : List (List ℕ)) (key : List ℕ) → list_any (bytes_eq key) keys ≡ false → Contains keys key → ⊥
not_among keys key none has = false≢true (sym none ∙ there_among keys key has)

-- one outcome more, and its key

module _ (os ps : List RunOutcome) (outcome : RunOutcome) (more : ps ≡ os ++ outcome ∷ []) where
  pub stays : (o : RunOutcome) → Contains os o → Contains ps o
  stays o has = subst (λ (l : List RunOutcome). Contains l o) (sym more) (Contains-append_left os (outcome ∷ []) o has)

  pub is_there : Contains ps outcome
  is_there = subst (λ (l : List RunOutcome). Contains l outcome) (sym more) (Contains-push os outcome)

  pub new_noted : (ends keys : List (List ℕ)) (key : List ℕ) → ((k : List ℕ) → Contains ends k → IsNoted os k) → ((k : List ℕ) → Contains keys k → Contains ends k ⊎ (key ≡ k)) → key ≡ outcome_bytes outcome
      → (k : List ℕ) → Contains keys k → IsNoted ps k
  new_noted ends keys key noted keys_are keyed k has = elim (keys_are k has) [
    | inl old ↦ let one = noted k old in (one.0, stays one.0 one.1, one.2)
    | inr same ↦ (outcome, is_there, sym keyed ∙ same)
  ]

  pub new_keyed : (ends keys : List (List ℕ)) (key : List ℕ) → AreKeyed os ends → ((k : List ℕ) → Contains ends k ⊎ (key ≡ k) → Contains keys k) → key ≡ outcome_bytes outcome → AreKeyed ps keys
  new_keyed ends keys key keyed keys_are is o has = elim (Contains-push_cases os outcome o (subst (λ (l : List RunOutcome). Contains l o) more has)) [
    | inl old ↦ keys_are (outcome_bytes o) (inl (keyed o old))
    | inr same ↦ keys_are (outcome_bytes o) (inr (is ∙ ap outcome_bytes same))
  ]

  pub new_once : (ends : List (List ℕ)) (key : List ℕ) → AreKeyed os ends → list_any (bytes_eq key) ends ≡ false → key ≡ outcome_bytes outcome → EachOnce os → EachOnce ps
  new_once ends key keyed none is once = subst EachOnce (sym more) (all_pairs_push Differ os outcome once (λ k d lt endings fields.
      not_among ends key none (subst (Contains ends) (same_bytes (get_or os k d) outcome endings fields ∙ sym is) (keyed (get_or os k d) (Contains-get_or os k d lt)))))

-- a search of which only the outcomes have changed

pub sound_noted : (script : ScriptView) (x : Search) (os : Vec RunOutcome Global) (ends : List (List ℕ)) → IsSound script x → All (IsOutcomeOf script) os.items → ((k : List ℕ) → Contains ends k → IsNoted os.items k)
    → AreKeyed os.items ends → EachOnce os.items → IsSound script (record x { outcomes = os; ends = ends })
sound_noted script x os ends is outcomes noted keyed once =
    record { script_is = is.script_is; outcomes = outcomes; broken = is.broken; nodes = is.nodes; few = is.few; keys = is.keys; ends = noted; keyed = keyed; once = once; met = is.met; told = is.told; marked = is.marked; hold = is.hold; short = is.short; histories = is.histories }

-- one that has found a broken turn

pub sound_breaks : (script : ScriptView) (x : Search) (broken : Option (Vec Move Global)) → IsSound script x → IfSome broken (λ schedule. IsBrokenAfter script schedule.items) → IsSound script (record x { broken = broken })
sound_breaks script x broken is breaks = record { script_is = is.script_is; outcomes = is.outcomes; broken = breaks; nodes = is.nodes; few = is.few; keys = is.keys; ends = is.ends; keyed = is.keyed; once = is.once; met = is.met; told = is.told; marked = is.marked; hold = is.hold; short = is.short; histories = is.histories }

pub is_not_none : {A : Type 0} (o : Option A) → is_some o ≡ true → o ≡ None → ⊥
is_not_none o is none = false≢true (sym (ap is_some none) ∙ is)

pub grown_breaks : (x : Search) (broken : Option (Vec Move Global)) → is_some broken ≡ true → HasGrown x (record x { broken = broken })
grown_breaks x broken some = record { script = refl; limit = refl; paths = λ i path at. at; outcomes = λ o has. has; broken = λ none. absurd (is_not_none broken some none); complete = λ is. is }

-- the same of four facts
pub on_ok_four : {T E P Q R S U : Type 0} (r : Result T E) → (P → Q → R → S → U) → OnOk r P → OnOk r Q → OnOk r R → OnOk r S → OnOk r U
on_ok_four (Ok x) leads one two three four = leads one two three four
on_ok_four (Err e) leads one two three four = tt

-- where two facts hold if all went well, so does what follows from both
pub on_ok_both : {T E P Q R : Type 0} (r : Result T E) → (P → Q → R) → OnOk r P → OnOk r Q → OnOk r R
on_ok_both (Ok x) leads one two = leads one two
on_ok_both (Err e) leads one two = tt
