-- Each kind of step keeps the rule of a lock, and tells what it says.
use Rattle.swift_shared_book.proofs.Prelude.{◌≡◌, ◌≢◌, ℕ, zero, suc, ◌==◌, ◌<◌, ◌≤◌, List, [], ◌∷◌, ◌++◌, set, Option, Some, None, IsSome, IfSome, MatchBool, false, refl, sym, ap, ◌∙◌, subst, ⊎_elim, arith, nat_tests, Step, Act, keeps, takes, gives, stepped, Valid, carried_after, Allows, Splits, Joins, put_back, at_set, at_snoc, at_map, at_longer, set_else, set_again, exchanged, LockKnown, MayLearn, MayUnlock, MaySplit, MayJoin, TableOf, known_in, IsWordFor, IsHolder, HolderHolds, IsUnlocked, IsKeptBy, LockInvariant, free, with_known, SeatOf, given, Takes, Locks, Unlocks, Publishes, Recalls}
use mathlib.Core.Option.{none, some, some-injective, some-ne-none}
use mathlib.Core.Logic.{dite}
use native.Mathlib.Decide.{ℕ_discrete}
use prog.Atomic.{either}
use lib.ListN.{get_elem?}

-- what a step that locks makes of a word
abbrev pub IsHeldWord : ℕ → Type 0
IsHeldWord n = (0 < n) × (n ≤ 2)

abbrev pub KeepsHeld : (ℕ → ℕ) → Type 0
KeepsHeld f = (n : ℕ) → n ≤ 2 → IsHeldWord (f n)

pub exchange_holds : KeepsHeld (λ n. either (n == 0) 1 n)
exchange_holds n le = exchanged n 0 1 IsHeldWord (λ e. (omega arith, omega arith)) (λ ne. (omega arith, le))

pub swap_holds : KeepsHeld (λ n. 2)
swap_holds n le = (omega arith, omega arith)

module _ {A : Type 0} where
  pub set_at : (l : List A) (i : ℕ) (a b : A) → get_elem? l i ≡ some a → get_elem? (set l i b) i ≡ some b
  set_at [] i a b e = absurd (some-ne-none a (sym e))
  set_at (x ∷ xs) zero a b e = refl
  set_at (x ∷ xs) (suc i) a b e = set_at xs i a b e

  pub none_is_some : (o : Option A) → o ≡ None → IsSome o → ⊥
  none_is_some None e is = cc
  none_is_some (Some x) e is = cc

module _ {I V : Type 0} where
  pub known_set : (views : List (LockKnown I V)) (i : ℕ) (w : LockKnown I V) → known_in (set views i w) ≡ set (known_in views) i w.known
  known_set [] i w = refl
  known_set (v ∷ vs) zero w = refl
  known_set (v ∷ vs) (suc i) w = ap (λ l. v.known ∷ l) (known_set vs i w)

  pub known_push : (views : List (LockKnown I V)) (w : LockKnown I V) → known_in (views ++ w ∷ []) ≡ known_in views ++ w.known ∷ []
  known_push [] w = refl
  known_push (v ∷ vs) w = ap (λ l. v.known ∷ l) (known_push vs w)

  -- the holder still holds where a seat that held holds
  holds_set : (h : Option ℕ) (views : List (LockKnown I V)) (id : ℕ) (v w : LockKnown I V) → get_elem? views id ≡ some v → (IsSome v.held → IsSome w.held)
      → HolderHolds h views → HolderHolds h (set views id w)
  holds_set None views id v w at more is = tt
  holds_set (Some x) views id v w at more is =
      dite (ℕ_discrete x id)
      (λ e.
      let same : is.0 ≡ v = some-injective is.0 v (sym is.1 ∙ ap (λ i. get_elem? views i) e ∙ at) in
      (w, ap (λ i. get_elem? (set views id w) i) e ∙ set_at views id v w at, more (subst (λ (u : LockKnown I V). IsSome u.held) same is.2)))
      (λ ne. (is.0, set_else views id x w ne ∙ is.1, is.2))

  holds_push : (h : Option ℕ) (views : List (LockKnown I V)) (w : LockKnown I V) → HolderHolds h views → HolderHolds h (views ++ w ∷ [])
  holds_push None views w is = tt
  holds_push (Some x) views w is = (is.0, at_longer views (w ∷ []) x is.0 is.1, is.2)

module _ {T I V : Type 0} (image_of : T → I) (holds : I → List V → Type 0) where
  abbrev pub Rule : TableOf T I V → Type 0
  Rule = LockInvariant image_of holds

  -- a step in which one view changes
  moved : (s : TableOf T I V) (k : Rule s) (id : ℕ) (w : LockKnown I V) (n : ℕ) (h : Option ℕ) (image : I) (homes : List (mathlib.Core.Option.Option (Option T)))
      → IsWordFor h n → IsKeptBy image_of holds h image homes → IsHolder h image id w.held
      → ((seat : ℕ) (u : LockKnown I V) → seat ≢ id → get_elem? s.views seat ≡ some u → IsHolder h image seat u.held)
      → HolderHolds h (set s.views id w) → holds image (set (known_in s.views) id w.known)
      → Rule (record { words = set s.words 0 n; homes = homes; views = set s.views id w })
  moved s k id w n h image homes tells home mine others there kept =
      record {
        image = image;
        holder = h;
        number = n;
        word = ap (λ l. set l 0 n) k.word;
        tells = tells;
        home = home;
        held = (λ seat u e. ⊎_elim
            (λ x. subst (λ i. IsHolder h image i u.held) (sym x.0) (subst (λ (y : LockKnown I V). IsHolder h image id y.held) x.1 mine))
            (λ x. others seat u x.0 x.1)
            (at_set s.views id seat w u e));
        holder_holds = there;
        kept = subst (holds image) (sym (known_set s.views id w)) kept;
      }

  -- the word that is found
  found_word : (s : TableOf T I V) (k : Rule s) → Rattle.std.specs.List.slice_index s.words 0 ≡ k.number
  found_word s k = ap (λ l. Rattle.std.specs.List.slice_index l 0) k.word

  -- where no seat holds, each seat may be said to hold nothing
  none_holds : (h : Option ℕ) (image image' : I) (seat : ℕ) (held : Option I) → IsHolder None image seat held → IsHolder h image' seat held
  none_holds h image image' seat None is = tt
  none_holds h image image' seat (Some x) is = let e : None ≡ Some seat = is.0 in cc

  -- no other seat than the holder holds
  other_holds : (image image' : I) (seat id : ℕ) (held : Option I) → seat ≢ id → IsHolder (Some id) image seat held → IsHolder None image' seat held
  other_holds image image' seat id None apart is = tt
  other_holds image image' seat id (Some x) apart is = let e : Some id ≡ Some seat = is.0 in let e' : seat ≡ id = cc in absurd (apart e')

  locks_at : (slots id : ℕ) (me : SeatOf T I V) (fact : V → I → Type 0) (f : ℕ → ℕ) (st : Step (Option T)) → KeepsHeld f → MayLearn holds me.0.known (fact me.0.known)
      → (s : TableOf T I V) (k : Rule s) (n : ℕ) → n ≡ k.number → get_elem? s.views id ≡ some me.0 → (h : Option ℕ) → k.holder ≡ h
      → (w : LockKnown I V) × (a : Act (Option T)) × Valid s.homes me.1 a × Rule (stepped s 0 (f n) id me.1 w a) × Locks image_of fact st me n (w, carried_after me.1 a)
  locks_at slots id me fact f st fits may s k n is at None e =
      let zero' : n ≡ 0 = is ∙ subst (λ h. IsWordFor h k.number) e k.tells in
      let home : IsUnlocked image_of holds k.image s.homes = subst (λ h. IsKeptBy image_of holds h k.image s.homes) e k.home in
      let w : LockKnown I V = record me.0 { held = Some (image_of home.value) } in
      let known : get_elem? (known_in s.views) id ≡ some me.0.known = at_map (λ (v : LockKnown I V). v.known) s.views id me.0 at in
      let told : fact me.0.known (image_of home.value) = subst (fact me.0.known) (sym home.named) (may k.image (known_in s.views) id k.kept known) in (
        w,
        takes 0 (Some home.value),
        ap (λ l. get_elem? l 0) home.home,
        moved s k id w (f n) (Some id) k.image (set s.homes 0 none) (fits n (omega arith)) (ap (λ l. set l 0 none) home.home) (refl, home.named)
            (λ seat u apart there. none_holds (Some id) k.image k.image seat u.held (subst (λ h. IsHolder h k.image seat u.held) e (k.held seat u there)))
            (w, set_at s.views id me.0 w at, refl)
            (subst (holds k.image) (sym (set_again (known_in s.views) id me.0.known known)) k.kept),
        (let new : SeatOf T I V = (w, (0, Some home.value) ∷ me.1) in
            subst (λ (m : ℕ). MatchBool (m == 0) (Takes image_of fact me new) (new ≡ me)) (sym zero') (home.value, refl, told)),
      )
  locks_at slots id me fact f st fits may s k n is at (Some x) e =
      let in_range : IsHeldWord k.number = subst (λ h. IsWordFor h k.number) e k.tells in
      let held_word : IsHeldWord n = subst IsHeldWord (sym is) in_range in
      let known : get_elem? (known_in s.views) id ≡ some me.0.known = at_map (λ (v : LockKnown I V). v.known) s.views id me.0 at in (
        me.0,
        keeps,
        tt,
        moved s k id me.0 (f n) k.holder k.image s.homes (subst (λ h. IsWordFor h (f n)) (sym e) (fits n held_word.1)) k.home (k.held id me.0 at) (λ seat u apart there. k.held seat u there)
            (subst (HolderHolds k.holder) (sym (set_again s.views id me.0 at)) k.holder_holds)
            (subst (holds k.image) (sym (set_again (known_in s.views) id me.0.known known)) k.kept),
        (let same : SeatOf T I V = (me.0, me.1) in busy n held_word.0 (Takes image_of fact me same)),
      )
    where
      busy : (m : ℕ) → 0 < m → (X : Type 0) → MatchBool (m == 0) X (me ≡ me)
      busy m lt X = let e : (m == 0) ≡ false = grind (arith, nat_tests) in subst (λ b. MatchBool b X (me ≡ me)) (sym e) refl

  pub locks : (slots id : ℕ) (me : SeatOf T I V) (fact : V → I → Type 0) (f : ℕ → ℕ) (st : Step (Option T)) → KeepsHeld f → MayLearn holds me.0.known (fact me.0.known)
      → Allows Rule slots id me 0 f (Locks image_of fact st me)
  locks slots id me fact f st fits may s k len at below = locks_at slots id me fact f st fits may s k _ (found_word s k) at k.holder refl

  pub unlocks : (slots id : ℕ) (me : SeatOf T I V) (then : V → I → I → V → Type 0) (st : Step (Option T)) (taken : I) (value : T) → me.0.held ≡ Some taken → me.1 ≡ (0, Some value) ∷ []
      → MayUnlock holds me.0.known taken (image_of value) (then me.0.known taken (image_of value))
      → Allows Rule slots id me 0 (λ n. 0) (Unlocks image_of then st me)
  unlocks slots id me then st taken value holding in_hand may s k len at below =
      let mine : (k.holder ≡ Some id) × (taken ≡ k.image) = subst (IsHolder k.holder k.image id) holding (k.held id me.0 at) in
      let known : get_elem? (known_in s.views) id ≡ some me.0.known = at_map (λ (v : LockKnown I V). v.known) s.views id me.0 at in
      let m = may (known_in s.views) id (subst (λ x. holds x (known_in s.views)) (sym mine.1) k.kept) known in
      let out : s.homes ≡ none ∷ [] = subst (λ h. IsKeptBy image_of holds h k.image s.homes) mine.0 k.home in
      let homes : put_back s.homes me.1 ≡ some (Some value) ∷ [] = ap (λ c. put_back s.homes c) in_hand ∙ ap (λ l. set l 0 (some (Some value))) out in (
        free m.0,
        gives,
        tt,
        moved s k id (free m.0) 0 None (image_of value) (put_back s.homes me.1) refl (record { value = value; home = homes; named = refl }) tt
            (λ seat u apart there. other_holds k.image (image_of value) seat id u.held apart (subst (λ h. IsHolder h k.image seat u.held) mine.0 (k.held seat u there)))
            tt
            m.1,
        (
          m.0,
          refl,
          subst (λ h. IfSome h (λ x. IfSome (given me.1) (λ y. then me.0.known x (image_of y) m.0))) (sym holding)
              (subst (λ c. IfSome (given c) (λ y. then me.0.known taken (image_of y) m.0)) (sym in_hand) m.2),
        ),
      )

  pub publishes : (slots id : ℕ) (me : SeatOf T I V) (then : V → I → I → V → Type 0) (st : Step (Option T)) (taken image : I) → me.0.held ≡ Some taken
      → MayUnlock holds me.0.known taken image (then me.0.known taken image)
      → Allows Rule slots id me 0 (λ n. n) (Publishes (Some image) then st me)
  publishes slots id me then st taken image holding may s k len at below =
      let mine : (k.holder ≡ Some id) × (taken ≡ k.image) = subst (IsHolder k.holder k.image id) holding (k.held id me.0 at) in
      let known : get_elem? (known_in s.views) id ≡ some me.0.known = at_map (λ (v : LockKnown I V). v.known) s.views id me.0 at in
      let m = may (known_in s.views) id (subst (λ x. holds x (known_in s.views)) (sym mine.1) k.kept) known in
      let out : s.homes ≡ none ∷ [] = subst (λ h. IsKeptBy image_of holds h k.image s.homes) mine.0 k.home in
      let w : LockKnown I V = record { known = m.0; held = Some image } in
      let tells : IsHeldWord k.number = subst (λ h. IsWordFor h k.number) mine.0 k.tells in (
        w,
        keeps,
        tt,
        moved s k id w _ (Some id) image s.homes (subst IsHeldWord (sym (found_word s k)) tells) out (refl, refl)
            (λ seat u apart there.
            none_holds (Some id) image image seat u.held (other_holds k.image image seat id u.held apart (subst (λ h. IsHolder h k.image seat u.held) mine.0 (k.held seat u there))))
            (w, set_at s.views id me.0 w at, refl)
            m.1,
        (m.0, refl, subst (λ h. IfSome h (λ x. then me.0.known x image m.0)) (sym holding) m.2),
      )

  pub recalls : (slots id : ℕ) (me : SeatOf T I V) (fact : V → I → Type 0) (st : Step (Option T)) → MayLearn holds me.0.known (fact me.0.known) → Allows Rule slots id me 0 (λ n. n) (Recalls fact st me)
  recalls slots id me fact st may s k len at below =
      let known : get_elem? (known_in s.views) id ≡ some me.0.known = at_map (λ (v : LockKnown I V). v.known) s.views id me.0 at in (
        me.0,
        keeps,
        tt,
        moved s k id me.0 _ k.holder k.image s.homes (subst (IsWordFor k.holder) (sym (found_word s k)) k.tells) k.home (k.held id me.0 at) (λ seat u apart there. k.held seat u there)
            (subst (HolderHolds k.holder) (sym (set_again s.views id me.0 at)) k.holder_holds)
            (subst (holds k.image) (sym (set_again (known_in s.views) id me.0.known known)) k.kept),
        (refl, learned me.0.held (k.held id me.0 at) (may k.image (known_in s.views) id k.kept known)),
      )
    where
      learned : (h : Option I) → IsHolder k.holder k.image id h → fact me.0.known k.image → IfSome h (fact me.0.known)
      learned None is told = tt
      learned (Some x) is told = subst (fact me.0.known) (sym is.1) told

  -- only the views change
  viewed : (s : TableOf T I V) (k : Rule s) (views : List (LockKnown I V)) → ((seat : ℕ) (u : LockKnown I V) → get_elem? views seat ≡ some u → IsHolder k.holder k.image seat u.held)
      → HolderHolds k.holder views → holds k.image (known_in views) → Rule (record { words = s.words; homes = s.homes; views = views })
  viewed s k views held there kept =
      record { image = k.image; holder = k.holder; number = k.number; word = k.word; tells = k.tells; home = k.home; held = held; holder_holds = there; kept = kept }

  held_set : (h : Option ℕ) (image : I) (views : List (LockKnown I V)) (id : ℕ) (w : LockKnown I V) → IsHolder h image id w.held
      → ((seat : ℕ) (u : LockKnown I V) → get_elem? views seat ≡ some u → IsHolder h image seat u.held)
      → (seat : ℕ) (u : LockKnown I V) → get_elem? (set views id w) seat ≡ some u → IsHolder h image seat u.held
  held_set h image views id w mine old seat u e =
      ⊎_elim (λ x. subst (λ i. IsHolder h image i u.held) (sym x.0) (subst (λ (y : LockKnown I V). IsHolder h image id y.held) x.1 mine)) (λ x. old seat u x.1) (at_set views id seat w u e)

  pub splits : (id : ℕ) (v : LockKnown I V) (left right : V) → MaySplit holds v.known left right → Splits Rule id v (with_known v left) (free right)
  splits id v left right may s k at =
      let known : get_elem? (known_in s.views) id ≡ some v.known = at_map (λ (x : LockKnown I V). x.known) s.views id v at in
      let front = set s.views id (with_known v left) in
      let new : LockKnown I V = free right in
      let is : known_in (front ++ new ∷ []) ≡ set (known_in s.views) id left ++ right ∷ [] = known_push front new ∙ ap (λ l. l ++ right ∷ []) (known_set s.views id (with_known v left)) in
      viewed s k (front ++ new ∷ [])
      (λ seat u e. ⊎_elim
      (λ x. held_set k.holder k.image s.views id (with_known v left) (k.held id v at) k.held seat u x)
      (λ x. subst (λ (y : LockKnown I V). IsHolder k.holder k.image seat y.held) x tt)
      (at_snoc front new u seat e))
      (holds_push k.holder front new (holds_set k.holder s.views id v (with_known v left) at (λ h. h) k.holder_holds))
      (subst (holds k.image) (sym is) (may k.image (known_in s.views) id k.kept known))

  pub joins : (id : ℕ) (v : LockKnown I V) (other : ℕ) (u : LockKnown I V) (both spent : V) → u.held ≡ None → MayJoin holds v.known u.known both spent
      → Joins Rule id v other u (with_known v both) (free spent)
  joins id v other u both spent nothing may s k at apart at' =
      let known : get_elem? (known_in s.views) id ≡ some v.known = at_map (λ (x : LockKnown I V). x.known) s.views id v at in
      let front = set s.views id (with_known v both) in
      let known' : get_elem? (set (known_in s.views) id both) other ≡ some u.known =
      subst (λ l. get_elem? l other ≡ some u.known) (known_set s.views id (with_known v both)) (at_map (λ (x : LockKnown I V). x.known) front other u at') in
      let none' : LockKnown I V = free spent in
      let is : known_in (set front other none') ≡ set (set (known_in s.views) id both) other spent = known_set front other none' ∙ ap (λ l. set l other spent) (known_set s.views id (with_known v both)) in
      viewed s k (set front other none')
      (held_set k.holder k.image front other none' tt (held_set k.holder k.image s.views id (with_known v both) (k.held id v at) k.held))
      (holds_set k.holder front other u none' at' (λ h. absurd (none_is_some u.held nothing h)) (holds_set k.holder s.views id v (with_known v both) at (λ h. h) k.holder_holds))
      (subst (holds k.image) (sym is) (may k.image (known_in s.views) id other k.kept known apart known'))
