-- What goes on in order after one history goes on so after another that it leads alike.
use Rattle.swift_reordering.proofs.Prelude.{ℕ, List, [], ◌∷◌, ◌++◌, sym, ◌∙◌, subst, subst₂, append_assoc, append-nil, AllByRecursion, ScriptView, IsNotFolded, CheckpointView, Block, added, begun, ran, folded, AllStand, AllAllowed, IsOrderly, LeadAlike, IsLike, AreLike, orderly_too, unfolded_too, all_push, block_stands, lead_push, RunsNext, BeginLate}
use Rattle.swift_reordering.proofs.Closed.{same_away}

-- a turn runs next in both
pub runs_like : (script : ScriptView) (t : ℕ) (bs cs : List Block) → AreLike script bs cs → RunsNext t bs → RunsNext t cs
runs_like script t (ran e r ∷ bs) (c ∷ cs) like is = subst (λ (x : Block). RunsNext t (x ∷ cs)) (sym like.0.2) is
runs_like script t (ran e r ∷ bs) [] like is = absurd like
runs_like script t _ cs like is = absurd is

pub plain_like : (script : ScriptView) (cps : List CheckpointView) (bs cs : List Block) → AreLike script bs cs → AllByRecursion IsNotFolded bs → AllByRecursion IsNotFolded cs
plain_like script cps [] [] like all = tt
plain_like script cps (b ∷ bs) (c ∷ cs) like all = (unfolded_too script cps b c like.0 all.0, plain_like script cps bs cs like.1 all.1)
plain_like script cps _ _ like all = absurd like

module _ (script : ScriptView) (cps : List CheckpointView) where
  pub record Carried (more before others : List Block) : Type 0 where
    pub rest : List Block
    pub like : AreLike script more rest
    pub stand : AllStand script cps others rest
    pub orderly : AllAllowed (IsOrderly script) others rest
    pub late : BeginLate script others rest
    pub lead : LeadAlike script cps (before ++ more) (others ++ rest)

  late_one : (b c : Block) (bs cs before others : List Block) → LeadAlike script cps before others → IsLike script b c → AreLike script bs cs → BeginLate script before (b ∷ bs) → BeginLate script (others ++ c ∷ []) cs → BeginLate script others (c ∷ cs)
  late_one (begun t n env) c bs cs before others lead like all late more =
      subst (λ (x : Block). BeginLate script others (x ∷ cs)) like (λ away. runs_like script t bs cs all (late.0 (same_away script cps before others lead t ∙ away)), subst (λ (x : Block). BeginLate script (others ++ x ∷ []) cs) (sym like) more)
  late_one (added r) c bs cs before others lead like all late more = subst (λ (x : Block). BeginLate script others (x ∷ cs)) like (subst (λ (x : Block). BeginLate script (others ++ x ∷ []) cs) (sym like) more)
  late_one (folded e f) c bs cs before others lead like all late more = subst (λ (x : Block). BeginLate script others (x ∷ cs)) like (subst (λ (x : Block). BeginLate script (others ++ x ∷ []) cs) (sym like) more)
  late_one (ran e r) c bs cs before others lead like all late more =
      subst (λ (x : Block). BeginLate script others (x ∷ cs)) (sym like.2) (subst (λ (x : Block). BeginLate script (others ++ x ∷ []) cs) like.2 more)

  pub late_rest : (b : Block) (bs before : List Block) → BeginLate script before (b ∷ bs) → BeginLate script (before ++ b ∷ []) bs
  late_rest (begun t n env) bs before late = late.1
  late_rest _ bs before late = late

  pub carry : (more before others : List Block) → AllStand script cps [] before → AllStand script cps [] others → LeadAlike script cps before others → AllStand script cps before more → AllAllowed (IsOrderly script) before more → BeginLate script before more
      → Carried more before others
  carry [] before others all also lead stand may late = record {
    rest = [];
    like = tt;
    stand = tt;
    orderly = tt;
    late = tt;
    lead = subst₂ (LeadAlike script cps) (sym (append-nil before)) (sym (append-nil others)) lead;
  }
  carry (b ∷ bs) before others all also lead stand may late =
      let o = block_stands script cps before others lead all also b stand.0 in
      let c : Block = o.other in
      let all_b : AllStand script cps [] (before ++ b ∷ []) = all_push script cps before [] b all stand.0 in
      let also_c : AllStand script cps [] (others ++ c ∷ []) = all_push script cps others [] c also o.stands in
      let next = carry bs (before ++ b ∷ []) (others ++ c ∷ []) all_b also_c (lead_push script cps before others lead b c o.like all_b also_c) stand.1 may.1 (late_rest b bs before late) in
      record {
        rest = c ∷ next.rest;
        like = (o.like, next.like);
        stand = (o.stands, next.stand);
        orderly = (orderly_too script cps before others lead b c o.like may.0, next.orderly);
        late = late_one b c bs next.rest before others lead o.like next.like late next.late;
        lead = subst₂ (LeadAlike script cps) (append_assoc before (b ∷ []) bs) (append_assoc others (c ∷ []) next.rest) next.lead;
      }
