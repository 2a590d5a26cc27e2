-- Texts of what was found.
use Rattle.swift_explorer.proofs.Prelude.{◌≡◌, ℕ, ℤ, zero, suc, ◌+◌, Vec, List, [], ◌∷◌, ◌++◌, map, refl, sym, ap, ◌∙◌, ◌==◌, if◌then◌else◌, Option, Some, None, Result, Ok, Err, OnOk, codes, is_ok, slice_get, option_map, Global, slice_get-map, rows_of, Origin, Ending, ScriptView, actor_count, actor_executor, executor_actors}
use Rattle.swift_report.specs.Text.{fields_text, row_among, row_in, row_of, tasks_text, values_text}

-- a last piece, which is this one
pub last_piece : {A E : Type 0} (r : Result A E) (x old text piece : List ℕ) → text ≡ piece → x ≡ (if is_ok r then old ++ text else old) → OnOk r (x ≡ old ++ piece)
last_piece (Ok u) x old text piece is grown = grown ∙ ap (λ (t : List ℕ). old ++ t) is
last_piece (Err e) x old text piece is grown = tt

-- the fields of the actors of each executor, without addresses
abbrev pub views : List (Vec (Vec ℤ Global) Global) → List (List (List ℤ))
views fields = map (λ rows. rows_of rows.items) fields

-- those of an actor

abbrev values_among : List ℕ → List (List ℤ) → ℕ → List ℤ
values_among [] rows k = []
values_among (a ∷ actors) [] k = []
values_among (a ∷ actors) (row ∷ rows) k = if a == k then row else values_among actors rows k

abbrev values_in : Option (List (List ℤ)) → List ℕ → ℕ → List ℤ
values_in None actors k = []
values_in (Some rows) actors k = values_among actors rows k

among_is : (actors : List ℕ) (rows : List (Vec ℤ Global)) (k : ℕ) → row_among actors rows k ≡ values_among actors (rows_of rows) k
among_is [] rows k = refl
among_is (a ∷ actors) [] k = refl
among_is (a ∷ actors) (row ∷ rows) k = ap (λ (vs : List ℤ). if a == k then row.items else vs) (among_is actors rows k)

in_is : (o : Option (Vec (Vec ℤ Global) Global)) (actors : List ℕ) (k : ℕ) → row_in o actors k ≡ values_in (option_map (λ rows. rows_of rows.items) o) actors k
in_is None actors k = refl
in_is (Some rows) actors k = among_is actors rows.items k

row_is : (p : ScriptView) (fields : List (Vec (Vec ℤ Global) Global)) (k : ℕ) → row_of p fields k ≡ values_in (slice_get (views fields) (actor_executor p k)) (executor_actors p (actor_executor p k)) k
row_is p fields k =
    let e = actor_executor p k in
    in_is (slice_get fields e) (executor_actors p e) k ∙ ap (λ (o : Option (List (List ℤ))). values_in o (executor_actors p e) k) (sym (slice_get-map (λ rows. rows_of rows.items) fields e))

row_same : (p : ScriptView) (fields others : List (Vec (Vec ℤ Global) Global)) (k : ℕ) → views fields ≡ views others → row_of p fields k ≡ row_of p others k
row_same p fields others k same =
    row_is p fields k ∙ ap (λ (vs : List (List (List ℤ))). values_in (slice_get vs (actor_executor p k)) (executor_actors p (actor_executor p k)) k) same ∙ sym (row_is p others k)

fields_same : (p : ScriptView) (fields others : List (Vec (Vec ℤ Global) Global)) (k n : ℕ) → views fields ≡ views others → fields_text p fields k n ≡ fields_text p others k n
fields_same p fields others k zero same = refl
fields_same p fields others k (suc n) same =
    ap (λ (row : List ℤ). values_text p k 0 row ++ fields_text p fields (k + 1) n) (row_same p fields others k same)
    ∙ ap (λ (t : List ℕ). values_text p k 0 (row_of p others k) ++ t) (fields_same p fields others (k + 1) n same)

-- the lines of these tasks and fields are those of others that are the same
pub ended_same : (p : ScriptView) (endings others : List (Origin × Ending)) (fields rows : List (Vec (Vec ℤ Global) Global)) → endings ≡ others → views fields ≡ views rows
    → codes "tasks\n" ++ tasks_text p 0 endings ++ codes "fields\n" ++ fields_text p fields 0 (actor_count p) ≡ codes "tasks\n" ++ tasks_text p 0 others ++ codes "fields\n" ++ fields_text p rows 0 (actor_count p)
ended_same p endings others fields rows tasks same =
    ap (λ (es : List (Origin × Ending)). codes "tasks\n" ++ tasks_text p 0 es ++ codes "fields\n" ++ fields_text p fields 0 (actor_count p)) tasks
    ∙ ap (λ (t : List ℕ). codes "tasks\n" ++ tasks_text p 0 others ++ codes "fields\n" ++ t) (fields_same p fields rows 0 (actor_count p) same)
