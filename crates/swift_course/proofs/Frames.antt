-- What follows from a turn, by its frame and by its record.
use Rattle.swift_course.proofs.Prelude.{◌≡◌, ℕ, ℤ, ◌+◌, List, [], ◌∷◌, refl, sym, ap, ◌∙◌, count_by, None, Ending, Resume, ScriptView, FrameView, EffectView, ExitView, Played, calling, waiting, asking_next, closing, yielding, returning, failing, advanced, kept_turn, resumed, left_as, makes_own, opens_group}
use Rattle.swift_types.specs.declared.outcome.Ending.TheVariants.{Value, Fault}
use Rattle.swift_types.specs.declared.outcome.Resume.TheVariants.{Value as GivenValue, Fault as Raise}
use Rattle.swift_course.proofs.CountedTurns.{kept_turn_counts}
use Rattle.swift_course.specs.Frames.{FramesGoOn, kept_frame}

-- a frame that is left hands its counts on, and nothing else
hands_on : (script : ScriptView) (p q : FrameView) (callers : List FrameView) (outer : List (ℕ × ℤ)) (resume : Resume) (ending : Ending) → p.made ≡ q.made → p.opened ≡ q.opened → resumed script p callers outer resume ending ≡ resumed script q callers outer resume ending
hands_on script p q [] outer resume ending made opened = refl
hands_on script p q (c ∷ callers) outer resume ending made opened =
    ap (λ (n : ℕ). resumed script (record p { made = n }) (c ∷ callers) outer resume ending) made ∙ ap (λ (n : ℕ). resumed script (record p { made = q.made; opened = n }) (c ∷ callers) outer resume ending) opened

pub frames_go_on : FramesGoOn
frames_go_on script before after callers outer fields fields' resume env effects exit is = by exit refl
  where
    k : Played
    k = kept_turn script before outer fields resume env

    counts : (after.made ≡ before.made + count_by makes_own effects) × (after.opened ≡ before.opened + count_by opens_group effects)
    counts =
        let c = kept_turn_counts script before outer fields resume env in
        let same = ap (λ (x : Played). x.state.effects) is.1 in (
          ap (λ (x : Played). x.state.made) is.1 ∙ c.0 ∙ ap (λ (es : List EffectView). before.made + count_by makes_own es) (sym same),
          ap (λ (x : Played). x.state.opened) is.1 ∙ c.1 ∙ ap (λ (es : List EffectView). before.opened + count_by opens_group es) (sym same),
        )

    by : (e : ExitView) → exit ≡ e → advanced script after callers outer e ≡ advanced script (left_as before effects (kept_frame e after)) callers outer e
    by (returning v) here = hands_on script after (left_as before effects None) callers outer (GivenValue v) (Value v) counts.0 counts.1
    by (failing f) here = hands_on script after (left_as before effects None) callers outer (Raise f) (Fault f) counts.0 counts.1
    by _ here = refl
