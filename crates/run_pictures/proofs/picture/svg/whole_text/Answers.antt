use Rattle.std.proofs.Common.{◌≡◌, ℕ, List, ◌++◌, ap, refl, ◌∙◌}
use Rattle.run_pictures.specs.SaysInside.{sheet_of}
use Rattle.run_pictures.proofs.picture.svg.whole_text.Goals as goal

joined : (text before boxes folds after b f a : List ℕ) → text ≡ before ++ b ++ f ++ a → b ≡ boxes → f ≡ folds → a ≡ after → text ≡ before ++ boxes ++ folds ++ after
joined text before boxes folds after b f a is b_is f_is a_is =
    is
    ∙ ap (λ (x : List ℕ). before ++ x ++ f ++ a) b_is
    ∙ ap (λ (x : List ℕ). before ++ boxes ++ x ++ a) f_is
    ∙ ap (λ (x : List ℕ). before ++ boxes ++ folds ++ x) a_is

pub returns : goal.returns
returns c =
    let view = c.args.view in
    let es = c.args.endings.now in
    let layout = c.requires.layout in
    record {
      sheet = sheet_of view.script.now es view.layout.now;
      of_script = refl;
      of_tasks = refl;
      is = record { quiet = layout.quiet; flags = layout.flags; cells = layout.cells; slots = layout.slots; first = layout.first };
      before = c.in_ok-text.text.items;
      boxes = c.in_ok-boxes.boxes.items;
      folds = c.in_ok-folds.folds.items;
      after = c.in_ok-after.after.items;
      whole = joined _ _ _ _ _ _ _ _ c.in_ok-join.ensures c.deref.ensures.value c.deref-2.ensures.value c.deref-3.ensures.value;
      drawn = c.in_ok-boxes.ensures es c.requires.names;
      folded = c.in_ok-folds.ensures;
    }
