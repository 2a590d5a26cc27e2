use Rattle.swift_executor.proofs.Prelude.{◌≡◌, ℕ, ◌+◌, ◌<◌, ◌≤◌, Global, Option, Some, IfSome, length, get_or, refl, sym, subst, ◌∙◌, arith, ltb-true, ltb-false, VecDeque, IsByArrival, IsOldestBelow}
use Rattle.swift_executor.proofs.FirstIsPicked.{least_new, least_old, least_oldest, starts, starts_any}
use Rattle.swift_executor.proofs.queue.lists.oldest_level.Goals as goal
use Rattle.swift_executor.proofs.queue.lists.oldest_level.Goals.{in-Some-found, in-None, then-is_older, else-is_older}

pub loop-level-preserved : goal.loop-level-preserved
loop-level-preserved g c =
    let lists = c.args.lists.now in
    let level = c.loop-level.level in
    let found = c.loop-level.found in
    let x = c.in-Some.first.now in
    let d = c.index-lists-level.result in
    let four = c.requires.1.four in
    let within : level < length lists = omega (arith, four, c.loop-level-test.true) in
    let some = c.in-Some.ensures.variant.0 refl in
    let ok = (get_or lists level d).ok.0 in
    let head = starts_any lists level d x within (starts (get_or lists level d).items x (omega (arith, some, ok)) c.in-Some.ensures.lookup) in
    let up : (e : VecDeque _ Global) → IsByArrival (get_or lists level e).items = λ e. (c.requires.1.each level e within).by_arrival in
    elim c.if-is_older.branch [
      | then-is_older w ↦
          let le : IfSome found (λ (f : ℕ × ℕ). x.arrival ≤ f.1) = elim c.match-found.branch [
            | in-Some-found v ↦
                let lt = ltb-true x.arrival v.in-Some-found.least (sym v.is_older-is ∙ w.if-is_older.true) in
                subst (λ (o : Option (ℕ × ℕ)). IfSome o (λ (f : ℕ × ℕ). x.arrival ≤ f.1)) (sym v.in-Some-found.is) (omega (arith, lt))
            | in-None v ↦ subst (λ (o : Option (ℕ × ℕ)). IfSome o (λ (f : ℕ × ℕ). x.arrival ≤ f.1)) (sym v.in-None.is) tt
          ] in
          subst (λ (o : Option (ℕ × ℕ)). IsOldestBelow (level + 1) lists o) (sym w.found-is) (least_new level lists found x head up le c.loop-level.invariant)
      | else-is_older w ↦ elim c.match-found.branch [
        | in-Some-found v ↦
            let f : ℕ × ℕ = (v.in-Some-found._level, v.in-Some-found.least) in
            let le = ltb-false x.arrival v.in-Some-found.least (sym v.is_older-is ∙ w.if-is_older.false) in
            subst (λ (o : Option (ℕ × ℕ)). IsOldestBelow (level + 1) lists o) (sym (w.found-is ∙ v.in-Some-found.is))
            (least_old level lists f x head up le (subst (λ (o : Option (ℕ × ℕ)). IsOldestBelow level lists o) v.in-Some-found.is c.loop-level.invariant))
        | in-None v ↦ absurd (let yes = v.is_older-is in let no = w.if-is_older.false in cc)
      ]
    ]

pub returns-in-Some-found-2-clause-some : goal.returns-in-Some-found-2-clause-some
returns-in-Some-found-2-clause-some g c =
    let lists = c.args.lists.now in
    let four = c.requires.1.four in
    let end = c.loop-level.auto.level-end in
    let all : c.loop-level.level ≡ length lists = omega (arith, four, end, c.loop-level-test.false) in
    least_oldest lists c.in-Some-found-2.level c.in-Some-found-2._arrival
    (subst (λ (n : ℕ). IsOldestBelow n lists (Some (c.in-Some-found-2.level, c.in-Some-found-2._arrival))) all (subst (λ (o : Option (ℕ × ℕ)). IsOldestBelow c.loop-level.level lists o) c.in-Some-found-2.is c.loop-level.invariant))
