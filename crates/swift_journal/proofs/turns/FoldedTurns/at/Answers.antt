use Rattle.swift_journal.proofs.Prelude.{◌≡◌, ℕ, ℤ, ◌+◌, ◌-◌, ◌<◌, List, length, take, drop, sym, ap, ◌∙◌, arith, rules, after_of, next_effect, next_start, FoldedHead, StoredEffect}
use Rattle.swift_journal.proofs.FoldedReads.{kept_same}
use Rattle.swift_journal.proofs.FoldedStay.{folded_count, folded_is}
use Rattle.swift_journal.proofs.turns.FoldedTurns.at.Goals as goal

pub index-head-requires : goal.index-head-requires
index-head-requires c =
    let t = c.self.inside in
    let count = folded_count t.heads.items t.words.items t.effects.items c.args.self.now c.self.view_is in
    omega (arith, count)

pub next_start-end-requires : goal.next_start-end-requires
next_start-end-requires c =
    let t = c.self.inside in
    let count = folded_count t.heads.items t.words.items t.effects.items c.args.self.now c.self.view_is in
    let lent = ap length c.deref.ensures.value in
    omega (arith, count, lent)

pub next_effect-last_effect-requires : goal.next_effect-last_effect-requires
next_effect-last_effect-requires c =
    let t = c.self.inside in
    let count = folded_count t.heads.items t.words.items t.effects.items c.args.self.now c.self.view_is in
    let lent = ap length c.deref-2.ensures.value in
    omega (arith, count, lent)

pub returns : goal.returns
returns c = λ d.
    let t = c.self.inside in
    let hs = t.heads.items in
    let ws = t.words.items in
    let es = t.effects.items in
    let k = c.args.place in
    let h = c.index-head.result.now in
    let count = folded_count hs ws es c.args.self.now c.self.view_is in
    let lt : k < length hs = omega (arith, count) in
    let all_words : c.len.result ≡ length ws = search rules in
    let all_effects : c.len-2.result ≡ length es = search rules in
    let size : c.saturating_sub.result ≡ next_start (drop (k + 1) hs) (length ws) - h.start =
    c.saturating_sub.ensures ∙ ap (λ (n : ℕ). n - h.start)
    (c.next_start-end.ensures ∙ ap (λ (x : List FoldedHead). next_start (drop (k + 1) x) c.len.result) c.deref.ensures.value ∙ ap (next_start (drop (k + 1) hs)) all_words) in
    let effects : c.saturating_sub-2.result ≡ next_effect (drop (k + 1) hs) (length es) - h.first_effect =
    c.saturating_sub-2.ensures ∙ ap (λ (n : ℕ). n - h.first_effect)
    (c.next_effect-last_effect.ensures ∙ ap (λ (x : List FoldedHead). next_effect (drop (k + 1) x) c.len-2.result) c.deref-2.ensures.value ∙ ap (next_effect (drop (k + 1) hs)) all_effects) in
    kept_same h.task h.number h.exit c.after_of.result (after_of h) c.part.result.now (take (next_start (drop (k + 1) hs) (length ws) - h.start) (drop h.start ws))
    c.part_of_effects.result.now (take (next_effect (drop (k + 1) hs) (length es) - h.first_effect) (drop h.first_effect es))
    c.after_of.ensures
    (c.part.ensures ∙ ap (λ (s : List ℤ). take c.saturating_sub.result (drop h.start s)) c.deref-3.ensures.value ∙ ap (λ (n : ℕ). take n (drop h.start ws)) size)
    (c.part_of_effects.ensures ∙ ap (λ (s : List StoredEffect). take c.saturating_sub-2.result (drop h.first_effect s)) c.deref-4.ensures.value ∙ ap (λ (n : ℕ). take n (drop h.first_effect es)) effects)
    ∙ sym (folded_is hs k h ws es c.args.self.now d lt c.index-head.ensures c.self.view_is)
