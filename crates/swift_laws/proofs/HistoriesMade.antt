-- In each history a task is made once.
use Rattle.swift_laws.proofs.Prelude.{◌≡◌, ◌≢◌, ℕ, ℤ, List, [], ◌∷◌, ◌++◌, refl, sym, ◌∙◌, ap, arith, Bool, true, false, inl, inr, subst, append_assoc, ◌⊎◌, Option, Some, None, if◌then◌else◌, slice_get, unwrap_or, false≢true, append-nil, none-some, Priority, Background, Env, ScriptView, root_count, root_priority, FrameView, EffectView, spawning, detaching, opening, adding, cancelling_task, cancelling_group, ExitView, advanced, CheckpointView, Event, Root, Apply, Free, Child, Skip, Give, Life, Origin, task_of, tasks_of, later, life_of, origin_in, life_of-push_same, task, JobFacts, effect_events, is_left_out, log_after, root_job, Block, added, begun, ran, folded, Standing, Stands, AllStand, TurnStands, IsLegal, ReportView, after_block, after_blocks, at_first, left_as, begun_priority, turn_applied, OneMakes, BlockMakes, IsMadeWith}
use Rattle.swift_laws.specs.Inherited.{Makes}
use Rattle.swift_laws.proofs.HistoriesWritten.{keeps_effect, keeps_effects}
use Rattle.swift_laws.proofs.HistoriesCounted.{AreCounted, Beyond, beyond_push, written_within, made_push}
use Rattle.swift_laws.proofs.HistoriesTurns.{applied_is, all_keep, first_counted, after_push}
use Rattle.swift_laws.proofs.HistoriesGrow.{keeps_rest, log_grows}

abbrev IsBorn : ℕ → List Event → Type 0
IsBorn t log = (life_of t log).origin ≢ None

abbrev IsUnborn : ℕ → List Event → Type 0
IsUnborn t log = (life_of t log).origin ≡ None

some_not : {A : Type 0} (x : A) → ◌≡◌ {A = Option A} (Some x) None → ⊥
some_not x is = none-some x (sym is)

none_if : {A : Type 0} (o : Option A) → (o ≢ None → ⊥) → o ≡ None
none_if None f = refl
none_if (Some x) f = absurd (f (some_not x))

-- who was not made later was not made before
unborn_before : (t : ℕ) (log log' : List Event) → (IsBorn t log → IsBorn t log') → IsUnborn t log' → IsUnborn t log
unborn_before t log log' grows none = none_if (life_of t log).origin (λ born. grows born none)

stays_born : (t : ℕ) (more log : List Event) → IsBorn t log → IsBorn t (log ++ more)
stays_born t [] log born = subst (IsBorn t) (sym (append-nil log)) born
stays_born t (e ∷ more) log born = subst (IsBorn t) (append_assoc log (e ∷ []) more) (stays_born t more (log ++ e ∷ []) (made_push t log e born))

-- effects

beyond_effect : (script : ScriptView) (by : ℕ) (own : Priority) (log : List Event) (e : EffectView) → Beyond (root_count script) log → Beyond (root_count script) (log ++ effect_events (root_count script) by own log e)
beyond_effect script by own log e beyond = keeps_effect (Beyond (root_count script)) (root_count script) by own (λ l x w b. beyond_push (root_count script) l x (written_within (root_count script) by l x w) b) log e beyond

born_effect : (script : ScriptView) (by : ℕ) (own : Priority) (t : ℕ) (log : List Event) (e : EffectView) → IsBorn t log → IsBorn t (log ++ effect_events (root_count script) by own log e)
born_effect script by own t log e born = keeps_effect (IsBorn t) (root_count script) by own (λ l x w b. made_push t l x b) log e born

born_effects : (script : ScriptView) (by : ℕ) (own : Priority) (t : ℕ) (log : List Event) (es : List EffectView) → IsBorn t log → IsBorn t (log_after (root_count script) by own log es)
born_effects script by own t log es born = keeps_effects (IsBorn t) (root_count script) by own (λ l x w b. made_push t l x b) log es born

makes_unborn : (script : ScriptView) (by : ℕ) (log : List Event) (e : EffectView) (t : ℕ) (bindings : List (ℕ × ℤ)) → Beyond (root_count script) log → Makes script by log e t bindings → IsUnborn t log
makes_unborn script by log (spawning i p b) t bindings beyond m = let at = m.0 in beyond t (omega (arith, at))
makes_unborn script by log (detaching i p) t bindings beyond m = let at = m.0 in beyond t (omega (arith, at))
makes_unborn script by log (adding g unless i p b) t bindings beyond m = let at = m.1 in beyond t (omega (arith, at))
makes_unborn script by log _ t bindings beyond m = absurd m

born_now : (t : ℕ) (log : List Event) (e : Event) (x : Origin) → origin_in e ≡ Some x → task_of e ≡ t → IsBorn t (log ++ e ∷ [])
born_now t log e x made of = subst (λ (l : Life). l.origin ≢ None) (sym (life_of-push_same t log e of)) (subst (λ (o : Option Origin). later o (life_of t log).origin ≢ None) (sym made) (some_not x))

if_else : {A : Type 0} (P : A → Type 0) (b : Bool) (x y : A) → b ≡ false → P y → P (if b then x else y)
if_else P true x y is p = absurd (false≢true (sym is))
if_else P false x y is p = p

makes_born : (script : ScriptView) (by : ℕ) (own : Priority) (log : List Event) (e : EffectView) (t : ℕ) (bindings : List (ℕ × ℤ)) → Makes script by log e t bindings → IsBorn t (log ++ effect_events (root_count script) by own log e)
makes_born script by own log (spawning i p b) t bindings m = born_now t log (Free (task (tasks_of (root_count script) log)) (task by) (unwrap_or p own) false) _ refl (sym m.0)
makes_born script by own log (detaching i p) t bindings m = born_now t log (Free (task (tasks_of (root_count script) log)) (task by) p true) _ refl (sym m.0)
makes_born script by own log (adding g unless i p b) t bindings m =
    if_else (λ (es : List Event). IsBorn t (log ++ es)) (is_left_out by g unless log) (Skip (task by) g ∷ []) (Child (task (tasks_of (root_count script) log)) (task by) g (unwrap_or p Background) ∷ []) m.0
    (born_now t log (Child (task (tasks_of (root_count script) log)) (task by) g (unwrap_or p Background)) _ refl (sym m.1))
makes_born script by own log opening t bindings m = absurd m
makes_born script by own log (cancelling_task name) t bindings m = absurd m
makes_born script by own log (cancelling_group g) t bindings m = absurd m

makes_twice : (script : ScriptView) (by : ℕ) (log : List Event) (e : EffectView) (t : ℕ) (x y : List (ℕ × ℤ)) → Makes script by log e t x → Makes script by log e t y → x ≡ y
makes_twice script by log (spawning i p b) t x y m n = m.1 ∙ sym n.1
makes_twice script by log (detaching i p) t x y m n = m.1 ∙ sym n.1
makes_twice script by log (adding g unless i p b) t x y m n = m.2 ∙ sym n.2
makes_twice script by log _ t x y m n = absurd m

one_unborn : (script : ScriptView) (by : ℕ) (own : Priority) (log : List Event) (es : List EffectView) (t : ℕ) (bindings : List (ℕ × ℤ)) → Beyond (root_count script) log → OneMakes script by own log es t bindings → IsUnborn t log
one_unborn script by own log [] t bindings beyond m = absurd m
one_unborn script by own log (e ∷ es) t bindings beyond (inl m) = makes_unborn script by log e t bindings beyond m
one_unborn script by own log (e ∷ es) t bindings beyond (inr m) =
    let log' = log ++ effect_events (root_count script) by own log e in
    unborn_before t log log' (born_effect script by own t log e) (one_unborn script by own log' es t bindings (beyond_effect script by own log e beyond) m)

one_born : (script : ScriptView) (by : ℕ) (own : Priority) (log : List Event) (es : List EffectView) (t : ℕ) (bindings : List (ℕ × ℤ)) → OneMakes script by own log es t bindings → IsBorn t (log_after (root_count script) by own log es)
one_born script by own log [] t bindings m = absurd m
one_born script by own log (e ∷ es) t bindings (inl m) = born_effects script by own t (log ++ effect_events (root_count script) by own log e) es (makes_born script by own log e t bindings m)
one_born script by own log (e ∷ es) t bindings (inr m) = one_born script by own (log ++ effect_events (root_count script) by own log e) es t bindings m

not_again : (script : ScriptView) (by : ℕ) (own : Priority) (log : List Event) (e : EffectView) (es : List EffectView) (t : ℕ) (x y : List (ℕ × ℤ)) → Beyond (root_count script) log → Makes script by log e t x
    → OneMakes script by own (log ++ effect_events (root_count script) by own log e) es t y → ⊥
not_again script by own log e es t x y beyond m n =
    makes_born script by own log e t x m (one_unborn script by own (log ++ effect_events (root_count script) by own log e) es t y (beyond_effect script by own log e beyond) n)

one_twice : (script : ScriptView) (by : ℕ) (own : Priority) (log : List Event) (es : List EffectView) (t : ℕ) (x y : List (ℕ × ℤ)) → Beyond (root_count script) log → OneMakes script by own log es t x → OneMakes script by own log es t y → x ≡ y
one_twice script by own log [] t x y beyond m n = absurd m
one_twice script by own log (e ∷ es) t x y beyond (inl m) (inl n) = makes_twice script by log e t x y m n
one_twice script by own log (e ∷ es) t x y beyond (inl m) (inr n) = absurd (not_again script by own log e es t x y beyond m n)
one_twice script by own log (e ∷ es) t x y beyond (inr m) (inl n) = absurd (not_again script by own log e es t y x beyond n m)
one_twice script by own log (e ∷ es) t x y beyond (inr m) (inr n) =
    one_twice script by own (log ++ effect_events (root_count script) by own log e) es t x y (beyond_effect script by own log e beyond) m n

-- blocks

module _ (script : ScriptView) (cps : List CheckpointView) (before : List Block) where
  abbrev Good : Type 0
  Good = AreCounted (root_count script) (after_blocks script (at_first script) before).log (after_blocks script (at_first script) before).held

  applied_beyond : (t n : ℕ) → Good → Beyond (root_count script) ((after_blocks script (at_first script) before).log ++ Apply (task t) n ∷ [])
  applied_beyond t n good = beyond_push (root_count script) (after_blocks script (at_first script) before).log (Apply (task t) n) (inl refl) good.beyond

  turn_unborn : (u n : ℕ) (own : Priority) (es : List EffectView) (t : ℕ) (bindings : List (ℕ × ℤ)) → Good → OneMakes script u own ((after_blocks script (at_first script) before).log ++ Apply (task u) n ∷ []) es t bindings → IsUnborn t (after_blocks script (at_first script) before).log
  turn_unborn u n own es t bindings good m = grind (arith, unborn_before, made_push, one_unborn, applied_beyond)

  block_unborn : (b : Block) (t : ℕ) (bindings : List (ℕ × ℤ)) → Stands script cps before b → Good → BlockMakes script (after_blocks script (at_first script) before) b t bindings → IsUnborn t (after_blocks script (at_first script) before).log
  block_unborn (added r) t bindings stands good m = subst (λ (k : ℕ). IsUnborn k (after_blocks script (at_first script) before).log) (sym m.0) stands.1
  block_unborn (begun u n env) t bindings stands good m = absurd m
  block_unborn (ran e r) t bindings stands good m = turn_unborn r.task r.number _ r.effects t bindings good m
  block_unborn (folded e f) t bindings stands good m = turn_unborn f.task f.number _ f.effects t bindings good m

  turn_born : (e u n : ℕ) (effects : List EffectView) (exit : ExitView) (after : Option FrameView) (job : JobFacts) (env : Env) (frame : FrameView) (t : ℕ) (bindings : List (ℕ × ℤ))
      → (let s = after_blocks script (at_first script) before in
      TurnStands script s e u n effects exit job env frame → OneMakes script u (begun_priority (life_of u s.log).stage) (s.log ++ Apply (task u) n ∷ []) effects t bindings → IsBorn t (turn_applied script s u n effects exit after).log)
  turn_born e u n effects exit after job env frame t bindings stands m =
      let s = after_blocks script (at_first script) before in
      let own = begun_priority (life_of u s.log).stage in
      subst (λ (z : Standing). IsBorn t z.log) (sym (applied_is script s u n job frame stands.runs.0 effects exit after stands.given stands.runs.1))
      (keeps_rest (IsBorn t) (λ l x _ b. made_push t l x b) script s.log s.held u n own effects exit (advanced script (left_as frame effects after) stands.runs.0 job.frames.outer exit)
      (one_born script u own (s.log ++ Apply (task u) n ∷ []) effects t bindings m))

  block_born : (b : Block) (t : ℕ) (bindings : List (ℕ × ℤ)) → Stands script cps before b → BlockMakes script (after_blocks script (at_first script) before) b t bindings → IsBorn t (after_block script (after_blocks script (at_first script) before) b).log
  block_born (added r) t bindings stands m =
      let log = (after_blocks script (at_first script) before).log in
      let e : Event = Root (task r) (root_priority script r) in
      let j = root_job script r in
      let g : Event = Give (task j.task) j.number j.resume in
      subst (IsBorn t) (append_assoc log (e ∷ []) (g ∷ [])) (made_push t (log ++ e ∷ []) g (born_now t log e _ refl (sym m.0)))
  block_born (begun u n env) t bindings stands m = absurd m
  block_born (ran e r) t bindings stands m = turn_born e r.task r.number r.effects r.exit r.after stands.job r.env r.frame t bindings stands.stands m
  block_born (folded e f) t bindings stands m = turn_born e f.task f.number f.effects f.exit f.after stands.0.job stands.0.env stands.0.frame t bindings stands.0.stands m

  block_twice : (b : Block) (t : ℕ) (x y : List (ℕ × ℤ)) → Good → BlockMakes script (after_blocks script (at_first script) before) b t x → BlockMakes script (after_blocks script (at_first script) before) b t y → x ≡ y
  block_twice (added r) t x y good m n = m.1 ∙ sym n.1
  block_twice (begun u k env) t x y good m n = absurd m
  block_twice (ran e r) t x y good m n = one_twice script r.task _ _ r.effects t x y (applied_beyond r.task r.number good) m n
  block_twice (folded e f) t x y good m n = one_twice script f.task _ _ f.effects t x y (applied_beyond f.task f.number good) m n

-- two places of one list

abbrev rest_of : {A : Type 0} → List A → List A
rest_of [] = []
rest_of (x ∷ xs) = xs

same_head : {A : Type 0} (x y : A) (xs ys : List A) → x ∷ xs ≡ y ∷ ys → x ≡ y
same_head x y xs ys is = ap (λ l. unwrap_or (slice_get l 0) x) is

same_rest : {A : Type 0} (x y : A) (xs ys : List A) → x ∷ xs ≡ y ∷ ys → xs ≡ ys
same_rest x y xs ys is = ap rest_of is

-- one of them is in front of the other, or they are the same
abbrev pub InOrder : {A : Type 0} → List A → A → List A → A → Type 0
InOrder {A} front x front' y = ((front ≡ front') × (x ≡ y)) ⊎ ((mid : List A) × (front' ≡ front ++ x ∷ mid)) ⊎ ((mid : List A) × (front ≡ front' ++ y ∷ mid))

in_order_more : {A : Type 0} (a b : A) (front : List A) (x : A) (front' : List A) (y : A) → a ≡ b → InOrder front x front' y → InOrder (a ∷ front) x (b ∷ front') y
in_order_more a b front x front' y same (inl is) = inl (ap (λ z. z ∷ front) same ∙ ap (λ zs. b ∷ zs) is.0, is.1)
in_order_more a b front x front' y same (inr (inl is)) = inr (inl (is.0, ap (λ z. z ∷ front') (sym same) ∙ ap (λ zs. a ∷ zs) is.1))
in_order_more a b front x front' y same (inr (inr is)) = inr (inr (is.0, ap (λ z. z ∷ front) same ∙ ap (λ zs. b ∷ zs) is.1))

pub in_order : {A : Type 0} (front : List A) (x : A) (back : List A) (front' : List A) (y : A) (back' : List A) → front ++ x ∷ back ≡ front' ++ y ∷ back' → InOrder front x front' y
in_order [] x back [] y back' is = inl (refl, same_head x y back back' is)
in_order [] x back (b ∷ front') y back' is = inr (inl (front', ap (λ z. z ∷ front') (sym (same_head x b back _ is))))
in_order (a ∷ front) x back [] y back' is = inr (inr (front, ap (λ z. z ∷ front) (same_head a y _ back' is)))
in_order (a ∷ front) x back (b ∷ front') y back' is = in_order_more a b front x front' y (same_head a b _ _ is) (in_order front x back front' y back' (same_rest a b _ _ is))

stand_parts : (script : ScriptView) (cps : List CheckpointView) (start front back : List Block) → AllStand script cps start (front ++ back) → AllStand script cps start front × AllStand script cps (start ++ front) back
stand_parts script cps start [] back all = (tt, subst (λ (xs : List Block). AllStand script cps xs back) (sym (append-nil start)) all)
stand_parts script cps start (b ∷ front) back all =
    let rest = stand_parts script cps (start ++ b ∷ []) front back all.1 in
    ((all.0, rest.0), subst (λ (xs : List Block). AllStand script cps xs back) (append_assoc start (b ∷ []) front) rest.1)

-- a task that a block makes is not made by a later one
not_later : (script : ScriptView) (cps : List CheckpointView) (front : List Block) (b : Block) (mid : List Block) (c : Block) (back : List Block) (t : ℕ) (x y : List (ℕ × ℤ)) → AllStand script cps [] ((front ++ b ∷ mid) ++ c ∷ back)
    → BlockMakes script (after_blocks script (at_first script) front) b t x → BlockMakes script (after_blocks script (at_first script) (front ++ b ∷ mid)) c t y → ⊥
not_later script cps front b mid c back t x y all m n =
    let at_c = stand_parts script cps [] (front ++ b ∷ mid) (c ∷ back) all in
    let at_b = stand_parts script cps [] front (b ∷ mid) at_c.0 in
    let born = block_born script cps front b t x at_b.1.0 m in
    let grows = log_grows script cps (front ++ b ∷ []) mid at_b.1.1 in
    let later : IsBorn t (after_blocks script (at_first script) (front ++ b ∷ mid)).log =
    subst (λ (bs : List Block). IsBorn t (after_blocks script (at_first script) bs).log) (append_assoc front (b ∷ []) mid)
    (subst (IsBorn t) (sym grows.1) (stays_born t grows.0 _ (subst (λ (z : Standing). IsBorn t z.log) (sym (after_push script (at_first script) front b)) born))) in
    later (block_unborn script cps (front ++ b ∷ mid) c t y at_c.1.0 (all_keep script cps [] (front ++ b ∷ mid) at_c.0 (first_counted script)) n)

pub made_once : (script : ScriptView) (report : ReportView) (t : ℕ) (x y : List (ℕ × ℤ)) (legal : IsLegal script report) (m : IsMadeWith script legal.blocks t x) (n : IsMadeWith script legal.blocks t y)
    → (m.before ≡ n.before) × (m.block ≡ n.block) × (x ≡ y)
made_once script report t x y legal m n =
    let cps = report.checkpoints in
    elim (in_order m.before m.block m.after n.before n.block n.after (sym m.parts ∙ n.parts)) [
      | inl same ↦ (
        same.0,
        same.1,
        block_twice script cps n.before n.block t x y
            (all_keep script cps [] n.before (stand_parts script cps [] n.before (n.block ∷ n.after) (subst (AllStand script cps []) n.parts legal.stand)).0 (first_counted script))
            (subst (λ (b : Block). BlockMakes script (after_blocks script (at_first script) n.before) b t x) same.1 (subst (λ (bs : List Block). BlockMakes script (after_blocks script (at_first script) bs) m.block t x) same.0 m.makes))
            n.makes,
      )
      | inr (inl is) ↦ absurd (not_later script cps m.before m.block is.0 n.block n.after t x y
          (subst (λ (bs : List Block). AllStand script cps [] (bs ++ n.block ∷ n.after)) is.1 (subst (AllStand script cps []) n.parts legal.stand))
          m.makes (subst (λ (bs : List Block). BlockMakes script (after_blocks script (at_first script) bs) n.block t y) is.1 n.makes))
      | inr (inr is) ↦ absurd (not_later script cps n.before n.block is.0 m.block m.after t y x
          (subst (λ (bs : List Block). AllStand script cps [] (bs ++ m.block ∷ m.after)) is.1 (subst (AllStand script cps []) m.parts legal.stand))
          n.makes (subst (λ (bs : List Block). BlockMakes script (after_blocks script (at_first script) bs) m.block t x) is.1 m.makes))
    ]
