-- Steps that were followed one after another.
use Rattle.swift_explorer.proofs.Prelude.{◌≡◌, ℕ, List, [], ◌∷◌, ◌++◌, refl, sym, subst, ap, ◌∙◌, Result, Ok, Err, IfOk, AllocError, arc_value, ScriptView, Block, Move, SearchedHistory, AreSteps, IsStep, roots_after, roots_over, Followed, Broken, No, Yes, IsBrokenAfter, GoesOn, IsHistory, IsPath, IsSomeHistory, WasDone}

pub steps_push : (ms : List Move) (n : ℕ) (bs : List Block) (m : Move) (b : Block) → AreSteps n ms bs → IsStep (roots_over n ms) m b → AreSteps n (ms ++ m ∷ []) (bs ++ b ∷ [])
steps_push [] n [] m b done is = (is, tt)
steps_push [] n (c ∷ bs) m b done is = absurd done
steps_push (k ∷ ms) n [] m b done is = absurd done
steps_push (k ∷ ms) n (c ∷ bs) m b done is = (done.0, steps_push ms (roots_after n k) bs m b done.1 is)

pub roots_push : (ms : List Move) (n : ℕ) (m : Move) → roots_over n (ms ++ m ∷ []) ≡ roots_after (roots_over n ms) m
roots_push [] n m = refl
roots_push (k ∷ ms) n m = roots_push ms (roots_after n k) m

-- one more step
pub path_push : (script : ScriptView) (path : List Move) (m : Move) (x y : SearchedHistory) (f : Followed) → arc_value x.steps.script ≡ script → GoesOn m x y f → IsPath script path x → IsPath script (path ++ m ∷ []) y
path_push script path m x y f own goes p =
    let more = goes p.blocks (subst (λ (s : ScriptView). IsHistory s p.blocks x) (sym own) p.is) in
    record {
      blocks = p.blocks ++ more.0 ∷ [];
      steps = steps_push path 0 p.blocks m more.0 p.steps (subst (λ (n : ℕ). IsStep n m more.0) p.roots more.1);
      is = subst (λ (s : ScriptView). IsHistory s (p.blocks ++ more.0 ∷ []) y) own more.2;
      roots = more.3 ∙ ap (λ (n : ℕ). roots_after n m) p.roots ∙ sym (roots_push path 0 m);
    }

-- the last step is a turn that breaks an invariant
pub path_breaks : (script : ScriptView) (path : List Move) (m : Move) (x y : SearchedHistory) (f : Followed) → arc_value x.steps.script ≡ script → GoesOn m x y f → f ≡ Broken → IsPath script path x → IsBrokenAfter script (path ++ m ∷ [])
path_breaks script path m x y f own goes broken p =
    let more = goes p.blocks (subst (λ (s : ScriptView). IsHistory s p.blocks x) (sym own) p.is) in
    let h = subst (λ (s : ScriptView). IsHistory s (p.blocks ++ more.0 ∷ []) y) own more.2 in
    record {
      blocks = p.blocks;
      last = more.0;
      stand = h.followed.led.stand;
      orderly = h.orderly;
      steps = steps_push path 0 p.blocks m more.0 p.steps (subst (λ (n : ℕ). IsStep n m more.0) p.roots more.1);
      breaks = more.4 broken;
    }

-- what was followed is some history
pub path_some : (script : ScriptView) (path : List Move) (x : SearchedHistory) → arc_value x.steps.script ≡ script → IsPath script path x → IsSomeHistory x
path_some script path x own p = (p.blocks, subst (λ (s : ScriptView). IsHistory s p.blocks x) (sym own) p.is)

-- a step that was not refused was done

pub was_done : (f : Followed) → (f ≡ No → ⊥) → WasDone f
was_done No never = absurd (never refl)
was_done Yes never = tt
was_done Broken never = tt

pub breaks_if : (r : Result Followed AllocError) (script : ScriptView) (path : List Move) (m : Move) (x y : SearchedHistory) → arc_value x.steps.script ≡ script → IsPath script path x
    → IfOk r (λ f. WasDone f → GoesOn m x y f) → IfOk r (λ f. f ≡ Broken → IsBrokenAfter script (path ++ m ∷ []))
breaks_if (Ok f) script path m x y own p goes = λ is. path_breaks script path m x y f own (goes (subst WasDone (sym is) tt)) is p
breaks_if (Err e) script path m x y own p goes = tt
