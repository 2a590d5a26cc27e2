-- The same steps after one history lead alike.
use Rattle.swift_explorer.proofs.Prelude.{◌≡◌, ◌<◌, ℕ, true, List, [], ◌∷◌, ◌++◌, append_assoc, append-nil, refl, sym, subst, subst₂, ap, ap₂, ◌∙◌, arith, inl, inr, Option, Some, None, is_some, eqb-true, false≢true, Env, TaskId, Resume, ScriptView, root_count, Event, LastJob, life_of, RecordView, was_given, AllStand, Block, Stands, added, begun, folded, ran, task, standing, starts, AllAllowed, IsOrderly, IsLike, LeadAlike, lead_on, orderly_too, all_push, block_stands, lead_push, Move, AreSteps, BreaksInvariant, IsBroken, IsStep, roots_after, AreThere, IsMoveOf}
use Rattle.swift_digest.proofs.Determined.{determined, determined_exit}
use Rattle.swift_digest.proofs.Lines.{one_env}
use Rattle.swift_explorer.specs.declared.moves.Move.TheVariants as step
use Rattle.swift_steps.proofs.Led.{first_of_both}
use Rattle.swift_explorer.proofs.Orderly.{before_or_past}

-- the block that a step does, whichever root it adds
pub move_of_step : (r : ℕ) (m : Move) (b : Block) → IsStep r m b → IsMoveOf m b
move_of_step r step.Add (added q) is = tt
move_of_step r (step.Begin t) (begun u n env) is = is
move_of_step r (step.Run t) (ran e q) is = is
move_of_step r step.Add (begun u n env) is = absurd is
move_of_step r step.Add (ran e q) is = absurd is
move_of_step r step.Add (folded e f) is = absurd is
move_of_step r (step.Begin t) (added q) is = absurd is
move_of_step r (step.Begin t) (ran e q) is = absurd is
move_of_step r (step.Begin t) (folded e f) is = absurd is
move_of_step r (step.Run t) (added q) is = absurd is
move_of_step r (step.Run t) (begun u n env) is = absurd is
move_of_step r (step.Run t) (folded e f) is = absurd is

-- which block a step does

block_of_add : (b : Block) → IsMoveOf step.Add b → (r : ℕ) × (b ≡ added r)
block_of_add (added r) is = (r, refl)
block_of_add (begun u n env) is = absurd is
block_of_add (ran e r) is = absurd is
block_of_add (folded e f) is = absurd is

block_of_begin : (t : TaskId) (b : Block) → IsMoveOf (step.Begin t) b → (n : ℕ) × (env : Env) × (b ≡ begun t.0 n env)
block_of_begin t (added r) is = absurd is
block_of_begin t (begun u n env) is = (n, env, ap (λ (v : ℕ). begun v n env) is)
block_of_begin t (ran e r) is = absurd is
block_of_begin t (folded e f) is = absurd is

block_of_run : (t : TaskId) (b : Block) → IsMoveOf (step.Run t) b → (e : ℕ) × (r : RecordView) × (r.task ≡ t.0) × (b ≡ ran e r)
block_of_run t (added r) is = absurd is
block_of_run t (begun u n env) is = absurd is
block_of_run t (ran e r) is = (e, r, is, refl)
block_of_run t (folded e f) is = absurd is

-- of blocks that are one but for the frame of a turn

pub move_too : (script : ScriptView) (m : Move) (b c : Block) → IsLike script b c → IsMoveOf m b → IsMoveOf m c
move_too script m (added r) c like is = subst (IsMoveOf m) like is
move_too script m (begun u n env) c like is = subst (IsMoveOf m) like is
move_too script m (folded e f) c like is = subst (IsMoveOf m) like is
move_too script (step.Run t) (ran e r) c like is = subst (IsMoveOf (step.Run t)) (sym like.2) is
move_too script step.Add (ran e r) c like is = absurd is
move_too script (step.Begin t) (ran e r) c like is = absurd is

pub move_back : (script : ScriptView) (m : Move) (b c : Block) → IsLike script b c → IsMoveOf m c → IsMoveOf m b
move_back script m (added r) c like is = subst (IsMoveOf m) (sym like) is
move_back script m (begun u n env) c like is = subst (IsMoveOf m) (sym like) is
move_back script m (folded e f) c like is = subst (IsMoveOf m) (sym like) is
move_back script (step.Run t) (ran e r) c like is = subst (IsMoveOf (step.Run t)) like.2 is
move_back script step.Add (ran e r) c like is = subst (IsMoveOf step.Add) like.2 is
move_back script (step.Begin t) (ran e r) c like is = subst (IsMoveOf (step.Begin t)) like.2 is

pub broken_too : (script : ScriptView) (b c : Block) → IsLike script b c → IsBroken b → IsBroken c
broken_too script (added r) c like breaks = absurd breaks
broken_too script (begun u n env) c like breaks = absurd breaks
broken_too script (folded e f) c like breaks = absurd breaks
broken_too script (ran e r) c like breaks = subst IsBroken (sym like.2) breaks

-- what a history leaves no choice of

module _ (script : ScriptView) (bs : List Block) where
  abbrev log : List Event
  log = (standing script bs).log

  not_before : (r q : ℕ) → (life_of r log).origin ≡ None → AreThere q log → r < q → ⊥
  not_before r q none there lt = false≢true (sym (ap is_some none) ∙ there r lt)

  same_root : (r q : ℕ) → (life_of r log).origin ≡ None → (life_of q log).origin ≡ None → AreThere r log → AreThere q log → r ≡ q
  same_root r q none also there too = elim (before_or_past r q) [
    | inl lt ↦ absurd (not_before r q none too lt)
    | inr le ↦ elim (before_or_past q r) [
      | inl lt ↦ absurd (not_before q r also there lt)
      | inr ge ↦ omega (arith, le, ge)
    ]
  ]

  given_number : (o : Option LastJob) (n k : ℕ) (a b : Resume) → was_given o n a ≡ true → was_given o k b ≡ true → n ≡ k
  given_number None n k a b one two = absurd (false≢true one)
  given_number (Some g) n k a b one two = sym (eqb-true g.number n (first_of_both _ _ one)) ∙ eqb-true g.number k (first_of_both _ _ two)

  same_begin : (u n k : ℕ) (env other : Env) → Stands script (starts script) bs (begun u n env) → Stands script (starts script) bs (begun u k other) → begun u n env ≡ begun u k other
  same_begin u n k env other stands also =
      let last : Option LastJob = (life_of u log).given in
      ap₂ (λ (i : ℕ) (x : Env). begun u i x) (given_number last n k stands.0.resume also.0.resume (first_of_both _ _ stands.2) (first_of_both _ _ also.2))
      (one_env (root_count script) (task u) log env other stands.3 also.3)

  alike_itself : LeadAlike script (starts script) bs bs
  alike_itself = record { standing = record { digest = refl; held = refl; jobs = λ t. refl }; fields = λ e. refl; unused = λ e none. none }

abbrev LeadsTo : ScriptView → List Block → Block → Block → Type 0
LeadsTo script bs b c = LeadAlike script (starts script) (bs ++ b ∷ []) (bs ++ c ∷ []) × (IsBroken b → IsBroken c)

same_block : (script : ScriptView) (bs : List Block) (b c : Block) → b ≡ c → LeadsTo script bs b c
same_block script bs b c same = subst (LeadsTo script bs b) same (alike_itself script (bs ++ b ∷ []), λ breaks. breaks)

-- What a step does after a history is determined up to what leads alike, and so is whether it breaks an invariant.
pub same_move : (script : ScriptView) (bs : List Block) (b c : Block) (m : Move) → AllStand script (starts script) [] bs → Stands script (starts script) bs b → Stands script (starts script) bs c
    → IsOrderly script bs b → IsOrderly script bs c → IsMoveOf m b → IsMoveOf m c → LeadAlike script (starts script) (bs ++ b ∷ []) (bs ++ c ∷ []) × (IsBroken b → IsBroken c)
same_move script bs b c step.Add all stands also orderly too is does =
    let p = block_of_add b is in
    let q = block_of_add c does in
    let none = subst (Stands script (starts script) bs) p.1 stands in
    let missing = subst (Stands script (starts script) bs) q.1 also in
    same_block script bs b c (p.1 ∙ ap added (same_root script bs p.0 q.0 none.1 missing.1 (subst (IsOrderly script bs) p.1 orderly) (subst (IsOrderly script bs) q.1 too)) ∙ sym q.1)
same_move script bs b c (step.Begin t) all stands also orderly too is does =
    let p = block_of_begin t b is in
    let q = block_of_begin t c does in
    same_block script bs b c (p.2 ∙ same_begin script bs t.0 p.0 q.0 p.1 q.1 (subst (Stands script (starts script) bs) p.2 stands) (subst (Stands script (starts script) bs) q.2 also) ∙ sym q.2)
same_move script bs b c (step.Run t) all stands also orderly too is does =
    let p = block_of_run t b is in
    let q = block_of_run t c does in
    let one = subst (Stands script (starts script) bs) p.3 stands in
    let two = subst (Stands script (starts script) bs) q.3 also in
    let same : p.1.task ≡ q.1.task = p.2 ∙ sym q.2 in
    subst₂ (LeadsTo script bs) (sym p.3) (sym q.3)
    ((determined script (starts script) bs p.0 q.0 p.1 q.1 all one two same).1, subst BreaksInvariant (determined_exit script (starts script) bs p.0 q.0 p.1 q.1 one two same))

-- the same steps, from two histories on that lead alike
same_from : (path : List Move) (script : ScriptView) (before others bs cs : List Block) (r : ℕ) → AllStand script (starts script) [] before → AllStand script (starts script) [] others → LeadAlike script (starts script) before others
    → AllStand script (starts script) before bs → AllStand script (starts script) others cs → AllAllowed (IsOrderly script) before bs → AllAllowed (IsOrderly script) others cs
    → AreSteps r path bs → AreSteps r path cs → LeadAlike script (starts script) (before ++ bs) (others ++ cs)
same_from [] script before others [] [] r stood other lead all also orderly too is does = subst₂ (LeadAlike script (starts script)) (sym (append-nil before)) (sym (append-nil others)) lead
same_from [] script before others [] (c ∷ cs) r stood other lead all also orderly too is does = absurd does
same_from [] script before others (b ∷ bs) cs r stood other lead all also orderly too is does = absurd is
same_from (m ∷ ms) script before others [] cs r stood other lead all also orderly too is does = absurd is
same_from (m ∷ ms) script before others (b ∷ bs) [] r stood other lead all also orderly too is does = absurd does
same_from (m ∷ ms) script before others (b ∷ bs) (c ∷ cs) r stood other lead all also orderly too is does =
    let cps = starts script in
    let o = block_stands script cps before others lead stood other b all.0 in
    let d : Block = o.other in
    let stood_b : AllStand script cps [] (before ++ b ∷ []) = all_push script cps before [] b stood all.0 in
    let other_d : AllStand script cps [] (others ++ d ∷ []) = all_push script cps others [] d other o.stands in
    let other_c : AllStand script cps [] (others ++ c ∷ []) = all_push script cps others [] c other also.0 in
    let near = lead_push script cps before others lead b d o.like stood_b other_d in
    let far = same_move script others d c m other o.stands also.0 (orderly_too script cps before others lead b d o.like orderly.0) too.0 (move_too script m b d o.like (move_of_step r m b is.0)) (move_of_step r m c does.0) in
    subst₂ (LeadAlike script cps) (append_assoc before (b ∷ []) bs) (append_assoc others (c ∷ []) cs)
    (same_from ms script (before ++ b ∷ []) (others ++ c ∷ []) bs cs (roots_after r m) stood_b other_c (lead_on script cps (before ++ b ∷ []) (others ++ d ∷ []) (others ++ c ∷ []) near far.0) all.1 also.1 orderly.1 too.1 is.1 does.1)

-- Two histories that the same steps have made lead alike.
pub same_path : (script : ScriptView) (bs cs : List Block) (path : List Move) (r : ℕ) → AllStand script (starts script) [] bs → AllStand script (starts script) [] cs
    → AllAllowed (IsOrderly script) [] bs → AllAllowed (IsOrderly script) [] cs → AreSteps r path bs → AreSteps r path cs → LeadAlike script (starts script) bs cs
same_path script bs cs path r all also orderly too is does = same_from path script [] [] bs cs r tt tt (alike_itself script []) all also orderly too is does
