-- The tasks and the fields of an outcome.
use Rattle.explorer_json.proofs.Prelude.{◌≡◌, ℕ, ℤ, zero, suc, ◌+◌, Vec, List, [], ◌∷◌, ◌++◌, map, refl, sym, ap, ◌∙◌, ◌==◌, if◌then◌else◌, Option, Some, None, codes, slice_get, Global, rows_of, actor_json, fields_json, tasks_json}
use Rattle.std.specs.Option.{option_map}
use Rattle.std.proofs.lemmas.Option.{slice_get-map}
use Rattle.swift_events.specs.declared.life.Origin.{Origin}
use Rattle.swift_types.specs.declared.outcome.Ending.{Ending}
use Rattle.swift_script.specs.Scripts.{ScriptView, actor_count, actor_executor, executor_actors}
use Rattle.swift_report.specs.Text.{row_among, row_in, row_of}

-- the fields of the actors of each executor, without addresses
abbrev pub views : List (Vec (Vec ℤ Global) Global) → List (List (List ℤ))
views fields = map (λ rows. rows_of rows.items) fields

abbrev values_among : List ℕ → List (List ℤ) → ℕ → List ℤ
values_among [] rows k = []
values_among (a ∷ actors) [] k = []
values_among (a ∷ actors) (row ∷ rows) k = if a == k then row else values_among actors rows k

abbrev values_in : Option (List (List ℤ)) → List ℕ → ℕ → List ℤ
values_in None actors k = []
values_in (Some rows) actors k = values_among actors rows k

among_is : (actors : List ℕ) (rows : List (Vec ℤ Global)) (k : ℕ) → row_among actors rows k ≡ values_among actors (rows_of rows) k
among_is [] rows k = refl
among_is (a ∷ actors) [] k = refl
among_is (a ∷ actors) (row ∷ rows) k = ap (λ (vs : List ℤ). if a == k then row.items else vs) (among_is actors rows k)

in_is : (o : Option (Vec (Vec ℤ Global) Global)) (actors : List ℕ) (k : ℕ) → row_in o actors k ≡ values_in (option_map (λ rows. rows_of rows.items) o) actors k
in_is None actors k = refl
in_is (Some rows) actors k = among_is actors rows.items k

row_is : (p : ScriptView) (fields : List (Vec (Vec ℤ Global) Global)) (k : ℕ) → row_of p fields k ≡ values_in (slice_get (views fields) (actor_executor p k)) (executor_actors p (actor_executor p k)) k
row_is p fields k =
    let e = actor_executor p k in
    in_is (slice_get fields e) (executor_actors p e) k ∙ ap (λ (o : Option (List (List ℤ))). values_in o (executor_actors p e) k) (sym (slice_get-map (λ rows. rows_of rows.items) fields e))

row_same : (p : ScriptView) (fields others : List (Vec (Vec ℤ Global) Global)) (k : ℕ) → views fields ≡ views others → row_of p fields k ≡ row_of p others k
row_same p fields others k same =
    row_is p fields k ∙ ap (λ (vs : List (List (List ℤ))). values_in (slice_get vs (actor_executor p k)) (executor_actors p (actor_executor p k)) k) same ∙ sym (row_is p others k)

fields_same : (p : ScriptView) (fields others : List (Vec (Vec ℤ Global) Global)) (k n : ℕ) → views fields ≡ views others → fields_json p fields k n ≡ fields_json p others k n
fields_same p fields others k zero same = refl
fields_same p fields others k (suc n) same =
    ap (λ (row : List ℤ). actor_json p k row ++ fields_json p fields (k + 1) n) (row_same p fields others k same)
    ∙ ap (λ (t : List ℕ). actor_json p k (row_of p others k) ++ t) (fields_same p fields others (k + 1) n same)

-- these tasks and fields are those of others that are the same
pub ended_same : (p : ScriptView) (endings others : List (Origin × Ending)) (fields rows : List (Vec (Vec ℤ Global) Global)) → endings ≡ others → views fields ≡ views rows
    → codes "{" ++ [] ++ codes "\"tasks\":[" ++ tasks_json p 0 endings ++ codes "],\n\"fields\":{" ++ fields_json p fields 0 (actor_count p) ++ codes "}}\n"
    ≡ codes "{\"tasks\":[" ++ tasks_json p 0 others ++ codes "],\n\"fields\":{" ++ fields_json p rows 0 (actor_count p) ++ codes "}}\n"
ended_same p endings others fields rows tasks same =
    ap (λ (es : List (Origin × Ending)). codes "{\"tasks\":[" ++ tasks_json p 0 es ++ codes "],\n\"fields\":{" ++ fields_json p fields 0 (actor_count p) ++ codes "}}\n") tasks
    ∙ ap (λ (t : List ℕ). codes "{\"tasks\":[" ++ tasks_json p 0 others ++ codes "],\n\"fields\":{" ++ t ++ codes "}}\n") (fields_same p fields rows 0 (actor_count p) same)
