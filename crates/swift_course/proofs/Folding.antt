-- A history whose first turns of each executor are folded stands, and leads to the same.
use Rattle.swift_course.proofs.Prelude.{◌≡◌, ◌≢◌, ℕ, ℤ, zero, suc, ◌+◌, ◌≤◌, ◌<◌, Bool, true, false, List, [], ◌∷◌, ◌++◌, length, map, take, drop, if◌then◌else◌, refl, sym, ap, ◌∙◌, subst, append_assoc, length-append, take-append-drop, arith, inl, inr, Some, None, is_some, nat_lt, filter_map, cons_option, cases_eq, nat_tests, append-nil, filter_map-append, ScriptView, root_count, life_of, IsEnv, CheckpointView, FoldedView, folded_of, RecordView, replay, is_begun, is_current, AllStand, Block, added, begun, ran, folded, FoldedStands, RecordStands, Standing, Stands, after_block, at_first, checkpoint_at, fields_of, folded_in, record_in, records_of, root_in, roots_of, AllAllowed, IsOrderly, job_executor, JobFacts, task, standing}
use Rattle.swift_history.specs.Histories as history
use Rattle.swift_course.proofs.Left.{may_be_folded}
use Rattle.swift_course.proofs.Applied.{other_record}
use Rattle.swift_course.proofs.Blocks.{after_push, filter_none, filter_some, replay_append}
use Rattle.swift_course.proofs.Lists.{equal, unequal}

-- a turn is folded where the flag says so: a recorded one of executor `e` becomes what a fold leaves of it
abbrev pub folded_if : Bool → ℕ → RecordView → Block
folded_if true e r = folded e (folded_of r)
folded_if false e r = ran e r

-- a block, as a folded turn where it is one of the first `past e` turns on executor `e`; `before` has the blocks before it
abbrev pub folded_as : (ℕ → ℕ) → List Block → Block → Block
folded_as past before (ran e r) = folded_if (nat_lt (length (records_of e before)) (past e)) e r
folded_as past before (added r) = added r
folded_as past before (begun t n env) = begun t n env
folded_as past before (folded e f) = folded e f

-- blocks after `before`, the first `past e` turns on each executor `e` being folded
abbrev pub with_folds : List Block → (ℕ → ℕ) → List Block → List Block
with_folds [] past before = []
with_folds (b ∷ bs) past before = folded_as past before b ∷ with_folds bs past (before ++ b ∷ [])

-- no block is folded
abbrev pub IsPlain : Block → Type 0
IsPlain (folded e f) = ⊥
IsPlain _ = Unit {0}

abbrev pub ArePlain : List Block → Type 0
ArePlain [] = Unit {0}
ArePlain (b ∷ bs) = IsPlain b × ArePlain bs

cons_none : {A : Type 0} (x : A) (xs : List A) → x ∷ xs ≡ [] → ⊥
cons_none x xs is = cc

pub all_plain : (bs : List Block) → ((e : ℕ) → history.folded_of e bs ≡ []) → ArePlain bs
all_plain [] none = tt
all_plain (added r ∷ bs) none = (tt, all_plain bs none)
all_plain (begun t n env ∷ bs) none = (tt, all_plain bs none)
all_plain (ran e r ∷ bs) none = (tt, all_plain bs none)
all_plain (folded e f ∷ bs) none =
    absurd (cons_none f (history.folded_of e bs) (sym (ap (λ b. cons_option (if b then Some f else None) (history.folded_of e bs)) (equal e e refl)) ∙ none e))

-- Blocks, and what is left of them where the first turns are folded.
pub record Matches (script : ScriptView) (past : ℕ → ℕ) (before before' : List Block) : Type 0 where
  pub same : standing script before' ≡ standing script before
  pub records : (e : ℕ) → records_of e before' ≡ drop (past e) (records_of e before)
  pub folds : (e : ℕ) → history.folded_of e before' ≡ map folded_of (take (past e) (records_of e before))
  pub roots : roots_of before' ≡ roots_of before

pub nothing_matches : (script : ScriptView) (past : ℕ → ℕ) → Matches script past [] []
nothing_matches script past = record { same = refl; records = λ e. none_dropped (past e); folds = λ e. ap (map folded_of) (none_taken (past e)); roots = refl }
  where
    none_dropped : (n : ℕ) → ◌≡◌ {A = List RecordView} [] (drop n [])
    none_dropped zero = refl
    none_dropped (suc n) = refl

    none_taken : (n : ℕ) → ◌≡◌ {A = List RecordView} [] (take n [])
    none_taken zero = refl
    none_taken (suc n) = refl

-- lists with one more element

drop_all : {X : Type 0} (xs : List X) (n : ℕ) → length xs ≤ n → drop n xs ≡ []
drop_all [] zero le = refl
drop_all [] (suc n) le = refl
drop_all (x ∷ xs) zero le = absurd (omega arith)
drop_all (x ∷ xs) (suc n) le = drop_all xs n (omega arith)

take_all : {X : Type 0} (xs : List X) (n : ℕ) → length xs ≤ n → take n xs ≡ xs
take_all [] zero le = refl
take_all [] (suc n) le = refl
take_all (x ∷ xs) zero le = absurd (omega arith)
take_all (x ∷ xs) (suc n) le = ap (λ ys. x ∷ ys) (take_all xs n (omega arith))

drop_before : {X : Type 0} (xs ys : List X) (n : ℕ) → n ≤ length xs → drop n (xs ++ ys) ≡ drop n xs ++ ys
drop_before xs ys zero le = refl
drop_before [] ys (suc n) le = absurd (omega arith)
drop_before (x ∷ xs) ys (suc n) le = drop_before xs ys n (omega arith)

pub take_before : {X : Type 0} (xs ys : List X) (n : ℕ) → n ≤ length xs → take n (xs ++ ys) ≡ take n xs
take_before xs ys zero le = refl
take_before [] ys (suc n) le = absurd (omega arith)
take_before (x ∷ xs) ys (suc n) le = ap (λ zs. x ∷ zs) (take_before xs ys n (omega arith))

map_push : {X Y : Type 0} (f : X → Y) (xs : List X) (x : X) → map f (xs ++ x ∷ []) ≡ map f xs ++ f x ∷ []
map_push f [] x = refl
map_push f (y ∷ xs) x = ap (λ zs. f y ∷ zs) (map_push f xs x)

length_push : {X : Type 0} (xs : List X) (x : X) → length (xs ++ x ∷ []) ≡ length xs + 1
length_push xs x = length-append xs (x ∷ [])

-- a block more, that is no turn
quiet_matches : (script : ScriptView) (past : ℕ → ℕ) (before before' : List Block) (b : Block) → Matches script past before before' → ((e : ℕ) → record_in e b ≡ None) → ((e : ℕ) → folded_in e b ≡ None)
    → Matches script past (before ++ b ∷ []) (before' ++ b ∷ [])
quiet_matches script past before before' b m no_record no_fold = record {
  same = after_push script (at_first script) before' b ∙ ap (λ (s : Standing). after_block script s b) m.same ∙ sym (after_push script (at_first script) before b);
  records = λ e. filter_none (record_in e) before' b (no_record e) ∙ m.records e ∙ ap (drop (past e)) (sym (filter_none (record_in e) before b (no_record e)));
  folds = λ e. filter_none (folded_in e) before' b (no_fold e) ∙ m.folds e ∙ ap (λ (rs : List RecordView). map folded_of (take (past e) rs)) (sym (filter_none (record_in e) before b (no_record e)));
  roots = filter_map-append root_in before' (b ∷ []) ∙ ap (λ (rs : List ℕ). rs ++ filter_map root_in (b ∷ [])) m.roots ∙ sym (filter_map-append root_in before (b ∷ []));
}

same_turn : (script : ScriptView) (s : Standing) (b : Bool) (e : ℕ) (r : RecordView) → after_block script s (folded_if b e r) ≡ after_block script s (ran e r)
same_turn script s true e r = refl
same_turn script s false e r = refl

no_root : (b : Bool) (e : ℕ) (r : RecordView) → root_in (folded_if b e r) ≡ None
no_root true e r = refl
no_root false e r = refl

other_turn : (b : Bool) (e k : ℕ) (r : RecordView) → k ≢ e → (record_in e (folded_if b k r) ≡ None) × (folded_in e (folded_if b k r) ≡ None)
other_turn true e k r apart = (refl, ap (λ b. if b then Some (folded_of r) else None) (unequal k e apart))
other_turn false e k r apart = (other_record e k r apart, refl)

-- the records of the turn's own executor
record OwnMatches (past : ℕ) (e : ℕ) (rs : List RecordView) (before' : List Block) : Type 0 where
  records : records_of e before' ≡ drop past rs
  folds : history.folded_of e before' ≡ map folded_of (take past rs)

own_matches : (past e : ℕ) (rs : List RecordView) (before' : List Block) (r : RecordView) (b : Bool) → nat_lt (length rs) past ≡ b → OwnMatches past e rs before' → OwnMatches past e (rs ++ r ∷ []) (before' ++ folded_if b e r ∷ [])
own_matches past e rs before' r true is m =
    let lt : length rs < past = grind (arith, nat_tests) in
    let le : length (rs ++ r ∷ []) ≤ past = omega (arith, lt, length_push rs r) in
    record {
      records = filter_none (record_in e) before' (folded e (folded_of r)) refl ∙ m.records ∙ drop_all rs past (omega (arith, lt)) ∙ sym (drop_all (rs ++ r ∷ []) past le);
      folds = filter_some (folded_in e) before' (folded e (folded_of r)) (folded_of r) (ap (λ b. if b then Some (folded_of r) else None) (equal e e refl)) ∙ ap (λ (fs : List FoldedView). fs ++ folded_of r ∷ []) m.folds
          ∙ ap (λ (qs : List RecordView). map folded_of qs ++ folded_of r ∷ []) (take_all rs past (omega (arith, lt))) ∙ sym (map_push folded_of rs r) ∙ ap (map folded_of) (sym (take_all (rs ++ r ∷ []) past le));
    }
own_matches past e rs before' r false is m =
    let le : past ≤ length rs = grind (arith, nat_tests) in
    record {
      records = filter_some (record_in e) before' (ran e r) r (ap (λ b. if b then Some r else None) (equal e e refl)) ∙ ap (λ (qs : List RecordView). qs ++ r ∷ []) m.records ∙ sym (drop_before rs (r ∷ []) past le);
      folds = filter_none (folded_in e) before' (ran e r) refl ∙ m.folds ∙ ap (map folded_of) (sym (take_before rs (r ∷ []) past le));
    }

-- a turn more
turn_matches : (script : ScriptView) (past : ℕ → ℕ) (before before' : List Block) (k : ℕ) (r : RecordView) → Matches script past before before' → Matches script past (before ++ ran k r ∷ []) (before' ++ folded_as past before (ran k r) ∷ [])
turn_matches script past before before' k r m =
    let test = nat_lt (length (records_of k before)) (past k) in
    let b = folded_if test k r in
    let own_more : records_of k (before ++ ran k r ∷ []) ≡ records_of k before ++ r ∷ [] = filter_some (record_in k) before (ran k r) r (ap (λ b. if b then Some r else None) (equal k k refl)) in
    let own : OwnMatches (past k) k (records_of k (before ++ ran k r ∷ [])) (before' ++ b ∷ []) =
    subst (λ (rs : List RecordView). OwnMatches (past k) k rs (before' ++ b ∷ [])) (sym own_more) (own_matches (past k) k (records_of k before) before' r test refl (record { records = m.records k; folds = m.folds k }))
    in
    let each : (e : ℕ) → OwnMatches (past e) e (records_of e (before ++ ran k r ∷ [])) (before' ++ b ∷ []) =
    (λ e. elim (cases_eq k e) [
      | inl same ↦ subst (λ (i : ℕ). OwnMatches (past i) i (records_of i (before ++ ran k r ∷ [])) (before' ++ b ∷ [])) same own
      | inr apart ↦
          let other = other_turn test e k r apart in
          let was = filter_none (record_in e) before (ran k r) (other_record e k r apart) in
          record {
            records = filter_none (record_in e) before' b other.0 ∙ m.records e ∙ ap (drop (past e)) (sym was);
            folds = filter_none (folded_in e) before' b other.1 ∙ m.folds e ∙ ap (λ (rs : List RecordView). map folded_of (take (past e) rs)) (sym was);
          }
    ])
    in
    record {
      same = after_push script (at_first script) before' b ∙ ap (λ (s : Standing). after_block script s b) m.same ∙ same_turn script (standing script before) test k r ∙ sym (after_push script (at_first script) before (ran k r));
      records = λ e. (each e).records;
      folds = λ e. (each e).folds;
      roots = filter_none root_in before' b (no_root test k r) ∙ m.roots ∙ sym (filter_none root_in before (ran k r) refl);
    }

block_matches : (script : ScriptView) (past : ℕ → ℕ) (before before' : List Block) (b : Block) → IsPlain b → Matches script past before before' → Matches script past (before ++ b ∷ []) (before' ++ folded_as past before b ∷ [])
block_matches script past before before' (added r) plain m = quiet_matches script past before before' (added r) m (λ e. refl) (λ e. refl)
block_matches script past before before' (begun t n env) plain m = quiet_matches script past before before' (begun t n env) m (λ e. refl) (λ e. refl)
block_matches script past before before' (ran k r) plain m = turn_matches script past before before' k r m
block_matches script past before before' (folded k f) plain m = absurd plain

pub all_match : (bs : List Block) (script : ScriptView) (past : ℕ → ℕ) (before before' : List Block) → ArePlain bs → Matches script past before before' → Matches script past (before ++ bs) (before' ++ with_folds bs past before)
all_match [] script past before before' plain m = subst (λ (xs : List Block). Matches script past xs (before' ++ [])) (sym (append-nil before)) (subst (λ (xs : List Block). Matches script past before xs) (sym (append-nil before')) m)
all_match (b ∷ bs) script past before before' plain m =
    let c = folded_as past before b in
    let all = all_match bs script past (before ++ b ∷ []) (before' ++ c ∷ []) plain.1 (block_matches script past before before' b plain.0 m) in
    subst (λ (xs : List Block). Matches script past xs (before' ++ with_folds (b ∷ bs) past before)) (append_assoc before (b ∷ []) bs)
    (subst (λ (xs : List Block). Matches script past ((before ++ b ∷ []) ++ bs) xs) (append_assoc before' (c ∷ []) (with_folds bs past (before ++ b ∷ []))) all)

-- The fields of each checkpoint are those that its executor's first records give, of all of a history.
abbrev pub GiveFields : ScriptView → List CheckpointView → List CheckpointView → (ℕ → ℕ) → List Block → Type 0
GiveFields script from cps past total = (e : ℕ) → (checkpoint_at cps e).fields ≡ replay script (checkpoint_at from e).fields (take (past e) (records_of e total))

module _ (script : ScriptView) (from cps : List CheckpointView) (past : ℕ → ℕ) (total : List Block) (gives : GiveFields script from cps past total) where
  -- an executor whose folded turns are over has the same fields
  same_fields : (before before' rest : List Block) (e : ℕ) → before ++ rest ≡ total → Matches script past before before' → past e ≤ length (records_of e before) → fields_of script cps e before' ≡ fields_of script from e before
  same_fields before before' rest e whole m le =
      let rs = records_of e before in
      let start = (checkpoint_at from e).fields in
      let all : records_of e total ≡ rs ++ records_of e rest = ap (records_of e) (sym whole) ∙ filter_map-append (record_in e) before rest in
      let first : (checkpoint_at cps e).fields ≡ replay script start (take (past e) rs) = gives e ∙ ap (λ (qs : List RecordView). replay script start (take (past e) qs)) all ∙ ap (replay script start) (take_before rs (records_of e rest) (past e) le) in
      ap (replay script (checkpoint_at cps e).fields) (m.records e) ∙ ap (λ (fs : List (List ℤ)). replay script fs (drop (past e) rs)) first
      ∙ sym (replay_append script start (take (past e) rs) (drop (past e) rs)) ∙ ap (replay script start) (take-append-drop (past e) rs)

  turn_stands : (before before' rest : List Block) (e : ℕ) (r : RecordView) (b : Bool) → nat_lt (length (records_of e before)) (past e) ≡ b → before ++ rest ≡ total → Matches script past before before'
      → RecordStands script (standing script before) (fields_of script from e before) e r → Stands script cps before' (folded_if b e r)
  turn_stands before before' rest e r true is whole m stands =
      let lt : length (records_of e before) < past e = grind (arith, nat_tests) in (
        subst (λ (s : Standing). FoldedStands script s e (folded_of r)) (sym m.same) (may_be_folded script (standing script before) (fields_of script from e before) e r stands).0,
        m.records e ∙ drop_all (records_of e before) (past e) (omega (arith, lt)),
      )
  turn_stands before before' rest e r false is whole m stands =
      let le : past e ≤ length (records_of e before) = grind (arith, nat_tests) in
      subst (λ (s : Standing). RecordStands script s (fields_of script cps e before') e r) (sym m.same)
      (subst (λ (fs : List (List ℤ)). RecordStands script (standing script before) fs e r) (sym (same_fields before before' rest e whole m le)) stands)

  block_stands : (before before' rest : List Block) (b : Block) → before ++ rest ≡ total → Matches script past before before' → IsPlain b → Stands script from before b → Stands script cps before' (folded_as past before b)
  block_stands before before' rest (added r) whole m plain stands = subst (λ (s : Standing). (nat_lt r (root_count script) ≡ true) × ((life_of r s.log).origin ≡ None)) (sym m.same) stands
  block_stands before before' rest (begun t n env) whole m plain stands =
      subst (λ (s : Standing). (j : JobFacts) × (s.jobs t ≡ Some j) × (is_current (life_of t s.log) n j.resume ≡ true) × IsEnv (root_count script) (task t) s.log env) (sym m.same) stands
  block_stands before before' rest (ran e r) whole m plain stands = turn_stands before before' rest e r (nat_lt (length (records_of e before)) (past e)) refl whole m stands
  block_stands before before' rest (folded e f) whole m plain stands = absurd plain

  pub all_stand : (bs before before' : List Block) → before ++ bs ≡ total → Matches script past before before' → ArePlain bs → AllStand script from before bs → AllStand script cps before' (with_folds bs past before)
  all_stand [] before before' whole m plain stand = tt
  all_stand (b ∷ bs) before before' whole m plain stand = (
    block_stands before before' (b ∷ bs) b whole m plain.0 stand.0,
    all_stand bs (before ++ b ∷ []) (before' ++ folded_as past before b ∷ []) (append_assoc before (b ∷ []) bs ∙ whole) (block_matches script past before before' b plain.0 m) plain.1 stand.1,
  )

-- the blocks are in order too

if_orderly : (script : ScriptView) (before : List Block) (b : Bool) (e : ℕ) (r : RecordView) → IsOrderly script before (folded_if b e r)
if_orderly script before true e r = tt
if_orderly script before false e r = tt

block_orderly : (script : ScriptView) (past : ℕ → ℕ) (before before' : List Block) (b : Block) → Matches script past before before' → IsOrderly script before b → IsOrderly script before' (folded_as past before b)
block_orderly script past before before' (added r) m is = subst (λ (s : Standing). (u : ℕ) → u < r → is_some (life_of u s.log).origin ≡ true) (sym m.same) is
block_orderly script past before before' (begun t n env) m is =
    subst (λ (s : Standing). ((u : ℕ) → u < root_count script → is_some (life_of u s.log).origin ≡ true)
    × ((u : ℕ) → job_executor script (s.jobs u) ≡ job_executor script (s.jobs t) → is_begun (life_of u s.log).stage ≡ false)) (sym m.same) is
block_orderly script past before before' (ran e r) m is = if_orderly script before' (nat_lt (length (records_of e before)) (past e)) e r
block_orderly script past before before' (folded e f) m is = tt

pub all_orderly : (bs : List Block) (script : ScriptView) (past : ℕ → ℕ) (before before' : List Block) → ArePlain bs → Matches script past before before' → AllAllowed (IsOrderly script) before bs → AllAllowed (IsOrderly script) before' (with_folds bs past before)
all_orderly [] script past before before' plain m all = tt
all_orderly (b ∷ bs) script past before before' plain m all = (
  block_orderly script past before before' b m all.0,
  all_orderly bs script past (before ++ b ∷ []) (before' ++ folded_as past before b ∷ []) plain.1 (block_matches script past before before' b plain.0 m) all.1,
)
