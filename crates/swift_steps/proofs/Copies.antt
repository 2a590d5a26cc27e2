-- Copies of histories.
use Rattle.swift_steps.proofs.Prelude.{◌≡◌, ℕ, zero, suc, ℤ, List, [], ◌∷◌, Vec, length, refl, sym, subst, ap, ◌∙◌, Option, Some, None, slice_get, option_map, AllZip, range_with_len, arc_value, Global, length-map, rows_of, ScriptView, HasFrames, TaskView, BookView, NextTurn, OpenHistory, AreOf, IsReadyOf, IsSame, IsSameIf, given_at, given_view, IsCopyOf, rows_at}

pub same_at : (xs ys : List (Option NextTurn)) (t : ℕ) → AllZip IsSameIf xs ys → IsSameIf (given_at xs t) (given_at ys t)
same_at [] [] t same = tt
same_at [] (y ∷ ys) t same = absurd same
same_at (x ∷ xs) [] t same = absurd same
same_at (x ∷ xs) (y ∷ ys) zero same = same.0
same_at (x ∷ xs) (y ∷ ys) (suc t) same = same_at xs ys t same.1

view_same : (t : ℕ) (g h : NextTurn) → IsSame g h → given_view t g ≡ given_view t h
view_same t g h same = cc (same.number, same.resume, same.task)

pub views_same : (t : ℕ) (a b : Option NextTurn) → IsSameIf a b → option_map (given_view t) a ≡ option_map (given_view t) b
views_same t None None same = refl
views_same t None (Some h) same = absurd same
views_same t (Some g) None same = absurd same
views_same t (Some g) (Some h) same = ap Some (view_same t g h same)

ready_same : (script : ScriptView) (g h : NextTurn) → IsSame g h → IsReadyOf script g → IsReadyOf script h
ready_same script g h same of = record { script_is = same.script ∙ of.script_is; runs = subst (λ (v : TaskView). HasFrames v.frames) (sym same.task) of.runs }

of_if : (script : ScriptView) (a b : Option NextTurn) → IsSameIf a b → ((g : NextTurn) → a ≡ Some g → IsReadyOf script g) → (h : NextTurn) → b ≡ Some h → IsReadyOf script h
of_if script None None same of h at = cc
of_if script None (Some k) same of h at = absurd same
of_if script (Some g) None same of h at = absurd same
of_if script (Some g) (Some k) same of h at =
    let is : k ≡ h = cc in
    subst (IsReadyOf script) is (ready_same script g k same (of g refl))

of_same : (script : ScriptView) (xs ys : List (Option NextTurn)) → AllZip IsSameIf xs ys → AreOf script xs → AreOf script ys
of_same script xs ys same of t h at = of_if script (given_at xs t) (given_at ys t) (same_at xs ys t same) (of t) h at

-- where its parts are copies, a history is a copy
pub is_copy : (x y : OpenHistory) → arc_value y.script ≡ arc_value x.script → y.book ≡ x.book → AllZip IsSameIf x.tasks.items y.tasks.items → rows_at y ≡ rows_at x → y.roots ≡ x.roots → y.jobs.items ≡ []
    → IsCopyOf x y
is_copy x y own book same rows roots none =
    let many : length y.fields.items ≡ length x.fields.items = sym (length-map y.fields.items (λ (rs : Vec (Vec ℤ Global) Global). rows_of rs.items)) ∙ ap length rows ∙ length-map x.fields.items (λ (rs : Vec (Vec ℤ Global) Global). rows_of rs.items) in
    record {
      script_is = own;
      many = many;
      roots_are = roots;
      followed = λ script cps bs f. record {
        script_is = own ∙ f.script_is;
        book_is = ap (λ (b : BookView). b.script) book ∙ f.book_is;
        none = none;
        scripts = of_same script x.tasks.items y.tasks.items same f.scripts;
        led = record {
          stand = f.led.stand;
          log_is = ap (λ (b : BookView). b.log) book ∙ f.led.log_is;
          held_is = ap (λ (b : BookView). b.held) book ∙ f.led.held_is;
          given = λ t. f.led.given t ∙ views_same t (given_at x.tasks.items t) (given_at y.tasks.items t) (same_at x.tasks.items y.tasks.items t same);
          fields_are = λ e r at. f.led.fields_are e r (subst (λ (rs : List (List (List ℤ))). slice_get rs e ≡ Some r) rows at);
          roots_are = f.led.roots_are ∙ ap (range_with_len 0) (sym roots);
        };
      };
    }
