-- Turns that blocks run: no turn is run by two blocks of a history, and each turn of a report is that of a block.
use Rattle.swift_laws.proofs.Prelude.{◌≡◌, ℕ, ◌+◌, ◌≤◌, List, [], ◌∷◌, ◌++◌, length, take, zero, suc, refl, sym, ◌∙◌, ap, arith, Bool, true, false, subst, ◌==◌, Option, Some, None, if◌then◌else◌, slice_get, filter_map, cons_option, eqb-true, none-some, same_Some, some_pair_parts, ScriptView, root_count, RecordView, FoldedView, CheckpointView, Block, added, begun, ran, folded, Standing, Stands, AllStand, IsLegal, ReportView, after_block, after_blocks, at_first, record_in, records_of, folded_in, folded_of, IsRecord, IsFolded, TurnPlace, in_journal, in_checkpoint, HasTurn}
use Rattle.swift_laws.proofs.HistoriesCounted.{applied, AreCounted}
use Rattle.swift_laws.proofs.HistoriesTurns.{turn_keeps, block_keeps, first_counted, after_push}
use Rattle.swift_laws.proofs.HistoriesGrow.{applied_stays}

-- the turn that a block runs
abbrev pub turn_of : Block → Option (ℕ × ℕ)
turn_of (ran e r) = Some (r.task, r.number)
turn_of (folded e f) = Some (f.task, f.number)
turn_of _ = None

pub record IsNext (before after : Standing) (t n : ℕ) : Type 0 where
  pub was : applied t before.log ≡ n
  pub is : applied t after.log ≡ n + 1

same_next : (x y : Standing) (t n u m : ℕ) → ◌≡◌ {A = Option (ℕ × ℕ)} (Some (t, n)) (Some (u, m)) → IsNext x y t n → IsNext x y u m
same_next x y t n u m same is = grind (arith, some_pair_parts)

pub block_next : (script : ScriptView) (cps : List CheckpointView) (before : List Block) (b : Block) (t n : ℕ) → Stands script cps before b → turn_of b ≡ Some (t, n)
    → AreCounted (root_count script) (after_blocks script (at_first script) before).log (after_blocks script (at_first script) before).held
    → IsNext (after_blocks script (at_first script) before) (after_block script (after_blocks script (at_first script) before) b) t n
block_next script cps before (added r) t n stands of are = absurd (none-some _ of)
block_next script cps before (begun u m env) t n stands of are = absurd (none-some _ of)
block_next script cps before (ran e r) t n stands of are =
    let s = after_blocks script (at_first script) before in
    let k = turn_keeps script s e r.task r.number r.effects r.exit r.after stands.job r.env r.frame stands.stands are in
    same_next s (after_block script s (ran e r)) r.task r.number t n of (record { was = k.2; is = k.1 })
block_next script cps before (folded e f) t n stands of are =
    let s = after_blocks script (at_first script) before in
    let k = turn_keeps script s e f.task f.number f.effects f.exit f.after stands.0.job stands.0.env stands.0.frame stands.0.stands are in
    same_next s (after_block script s (folded e f)) f.task f.number t n of (record { was = k.2; is = k.1 })

-- a history that goes on after blocks
module _ (script : ScriptView) (cps : List CheckpointView) where
  abbrev Good : List Block → Type 0
  Good before = AreCounted (root_count script) (after_blocks script (at_first script) before).log (after_blocks script (at_first script) before).held

  good_push : (before : List Block) (b : Block) → Stands script cps before b → Good before → Good (before ++ b ∷ [])
  good_push before b stands are = subst (λ (z : Standing). AreCounted (root_count script) z.log z.held) (sym (after_push script (at_first script) before b)) (block_keeps script cps before b stands are)

  -- a turn that is run later has a number that is no smaller than how many were applied
  later_turn : (before bs : List Block) (q : ℕ) (b : Block) (t n : ℕ) → AllStand script cps before bs → Good before → slice_get bs q ≡ Some b → turn_of b ≡ Some (t, n) → applied t (after_blocks script (at_first script) before).log ≤ n
  later_turn before [] q b t n all are at of = absurd (none-some b at)
  later_turn before (c ∷ bs) zero b t n all are at of =
      omega (arith, (block_next script cps before c t n all.0 (ap turn_of (same_Some c b at) ∙ of) are).was)
  later_turn before (c ∷ bs) (suc q) b t n all are at of =
      let le = later_turn (before ++ c ∷ []) bs q b t n all.1 (good_push before c all.0 are) at of in
      let same = ap (λ (z : Standing). applied t z.log) (after_push script (at_first script) before c) in
      omega (arith, le, same, applied_stays script cps before c t all.0)

  passed : (before : List Block) (c : Block) (bs : List Block) (q : ℕ) (b : Block) (t n : ℕ) → AllStand script cps before (c ∷ bs) → Good before → turn_of c ≡ Some (t, n) → slice_get bs q ≡ Some b → turn_of b ≡ Some (t, n) → ⊥
  passed before c bs q b t n all are first at of =
      let le = later_turn (before ++ c ∷ []) bs q b t n all.1 (good_push before c all.0 are) at of in
      let same = ap (λ (z : Standing). applied t z.log) (after_push script (at_first script) before c) in
      omega (arith, le, same, (block_next script cps before c t n all.0 first are).is)

  pub one_block : (before bs : List Block) (p q : ℕ) (a b : Block) (t n : ℕ) → AllStand script cps before bs → Good before
      → slice_get bs p ≡ Some a → turn_of a ≡ Some (t, n) → slice_get bs q ≡ Some b → turn_of b ≡ Some (t, n) → p ≡ q
  one_block before [] p q a b t n all are at of at' of' = absurd (none-some a at)
  one_block before (c ∷ bs) zero zero a b t n all are at of at' of' = refl
  one_block before (c ∷ bs) zero (suc q) a b t n all are at of at' of' = absurd (passed before c bs q b t n all are (ap turn_of (same_Some c a at) ∙ of) at' of')
  one_block before (c ∷ bs) (suc p) zero a b t n all are at of at' of' = absurd (passed before c bs p a t n all are (ap turn_of (same_Some c b at') ∙ of') at of)
  one_block before (c ∷ bs) (suc p) (suc q) a b t n all are at of at' of' = ap suc (one_block (before ++ c ∷ []) bs p q a b t n all.1 (good_push before c all.0 are) at of at' of')

-- the item of a list from which one of those that are picked comes
pub record IsPicked {X Y : Type 0} (f : X → Option Y) (xs : List X) (i : ℕ) (y : Y) : Type 0 where
  pub place : ℕ
  pub item : X
  pub at : slice_get xs place ≡ Some item
  pub gives : f item ≡ Some y
  pub before : i ≡ length (filter_map f (take place xs))

picked_by : {X Y : Type 0} (f : X → Option Y) (x : X) (xs : List X) (y : Y) (o : Option Y) (i : ℕ) → f x ≡ o → ((j : ℕ) → slice_get (filter_map f xs) j ≡ Some y → IsPicked f xs j y)
    → slice_get (cons_option o (filter_map f xs)) i ≡ Some y → IsPicked f (x ∷ xs) i y
picked_by f x xs y None i is rest at =
    let p = rest i at in
    record { place = suc p.place; item = p.item; at = p.at; gives = p.gives; before = p.before ∙ ap (λ o. length (cons_option o (filter_map f (take p.place xs)))) (sym is) }
picked_by f x xs y (Some z) zero is rest at = record { place = 0; item = x; at = refl; gives = is ∙ at; before = refl }
picked_by f x xs y (Some z) (suc i) is rest at =
    let p = rest i at in
    record { place = suc p.place; item = p.item; at = p.at; gives = p.gives; before = ap suc p.before ∙ ap (λ o. length (cons_option o (filter_map f (take p.place xs)))) (sym is) }

pub picked : {X Y : Type 0} (f : X → Option Y) (xs : List X) (i : ℕ) (y : Y) → slice_get (filter_map f xs) i ≡ Some y → IsPicked f xs i y
picked f [] i y at = absurd (none-some y at)
picked f (x ∷ xs) i y at = picked_by f x xs y (f x) i refl (λ j. picked f xs j y) at

-- the block of a record, and of a folded turn

pub some_if : {A : Type 0} (b : Bool) (x y : A) → (if b then Some x else None) ≡ Some y → (b ≡ true) × (x ≡ y)
some_if true x y is = (refl, same_Some x y is)
some_if false x y is = absurd (none-some y is)

pub ran_is : (e : ℕ) (b : Block) (r : RecordView) → record_in e b ≡ Some r → b ≡ ran e r
ran_is e (ran k q) r is = (let p = some_if (k == e) q r is in ap (λ (x : ℕ). ran x q) (eqb-true k e p.0) ∙ ap (λ (x : RecordView). ran e x) p.1)
ran_is e _ r is = absurd (none-some r is)

pub folded_is : (e : ℕ) (b : Block) (f : FoldedView) → folded_in e b ≡ Some f → b ≡ folded e f
folded_is e (folded k g) f is = (let p = some_if (k == e) g f is in ap (λ (x : ℕ). folded x g) (eqb-true k e p.0) ∙ ap (λ (x : FoldedView). folded e x) p.1)
folded_is e _ f is = absurd (none-some f is)

pub record_picked : (script : ScriptView) (report : ReportView) (legal : IsLegal script report) (e i : ℕ) (r : RecordView) → IsRecord report e i r → IsPicked (record_in e) legal.blocks i r
record_picked script report legal e i r is = picked (record_in e) legal.blocks i r (subst (λ (rs : List RecordView). slice_get rs i ≡ Some r) (legal.journals e is.journal is.is_journal) is.stands)

folded_picked : (script : ScriptView) (report : ReportView) (legal : IsLegal script report) (e i : ℕ) (f : FoldedView) → IsFolded report e i f → IsPicked (folded_in e) legal.blocks i f
folded_picked script report legal e i f is = picked (folded_in e) legal.blocks i f (subst (λ (fs : List FoldedView). slice_get fs i ≡ Some f) (legal.folded e is.checkpoint is.is_checkpoint) is.stands)

-- where the turn of a block stands in the report
abbrev pub place_of : List Block → ℕ → Block → Option TurnPlace
place_of blocks p (ran e r) = Some (in_journal e (length (records_of e (take p blocks))))
place_of blocks p (folded e f) = Some (in_checkpoint e (length (folded_of e (take p blocks))))
place_of blocks p _ = None

pub record HasBlock (blocks : List Block) (place : TurnPlace) (t n : ℕ) : Type 0 where
  pub at : ℕ
  pub block : Block
  pub is_block : slice_get blocks at ≡ Some block
  pub is_turn : turn_of block ≡ Some (t, n)
  pub is_place : place_of blocks at block ≡ Some place

pub pair_is : (a b t n : ℕ) → a ≡ t → b ≡ n → ◌≡◌ {A = Option (ℕ × ℕ)} (Some (a, b)) (Some (t, n))
pair_is a b t n p q = ap (λ (k : ℕ). Some (k, b)) p ∙ ap (λ (k : ℕ). Some (t, k)) q

pub has_block : (script : ScriptView) (report : ReportView) (legal : IsLegal script report) (place : TurnPlace) (t n : ℕ) → HasTurn report place t n → HasBlock legal.blocks place t n
has_block script report legal (in_journal e i) t n has =
    let p = record_picked script report legal e i has.0 has.1 in
    let is = ran_is e p.item has.0 p.gives in
    record {
      at = p.place;
      block = p.item;
      is_block = p.at;
      is_turn = ap turn_of is ∙ pair_is has.0.task has.0.number t n has.2 has.3;
      is_place = ap (place_of legal.blocks p.place) is ∙ ap (λ (k : ℕ). Some (in_journal e k)) (sym p.before);
    }
has_block script report legal (in_checkpoint e i) t n has =
    let p = folded_picked script report legal e i has.0 has.1 in
    let is = folded_is e p.item has.0 p.gives in
    record {
      at = p.place;
      block = p.item;
      is_block = p.at;
      is_turn = ap turn_of is ∙ pair_is has.0.task has.0.number t n has.2 has.3;
      is_place = ap (place_of legal.blocks p.place) is ∙ ap (λ (k : ℕ). Some (in_checkpoint e k)) (sym p.before);
    }

pub stands_once : (script : ScriptView) (report : ReportView) (p q : TurnPlace) (t n : ℕ) → IsLegal script report → HasTurn report p t n → HasTurn report q t n → p ≡ q
stands_once script report p q t n legal has has' =
    let a = has_block script report legal p t n has in
    let b = has_block script report legal q t n has' in
    let same : a.at ≡ b.at = one_block script report.checkpoints [] legal.blocks a.at b.at a.block b.block t n legal.stand (first_counted script) a.is_block a.is_turn b.is_block b.is_turn in
    let block : a.block ≡ b.block = same_Some a.block b.block (sym a.is_block ∙ ap (slice_get legal.blocks) same ∙ b.is_block) in
    same_Some p q (sym a.is_place ∙ ap (λ (k : ℕ). place_of legal.blocks k a.block) same ∙ ap (place_of legal.blocks b.at) block ∙ b.is_place)
