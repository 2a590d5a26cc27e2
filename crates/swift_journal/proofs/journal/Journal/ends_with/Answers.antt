use Rattle.swift_journal.proofs.Prelude.{◌≡◌, ℕ, ℤ, ◌-◌, ◌<◌, List, length, get_or, sym, ap, ◌∙◌, arith, rules, length-map, IsTrue, effects_at, record_at, record_of, words_at, whole, StoredEffect}
use Rattle.swift_journal.proofs.RecordsStay.{turn_at}
use Rattle.swift_journal.proofs.journal.Journal.ends_with.Goals as goal
use Rattle.swift_journal.proofs.journal.Journal.ends_with.Goals.{then-is_same_head, else-is_same_head}

pub returns-then-are_same_words : goal.returns-then-are_same_words
returns-then-are_same_words c = λ yes d.
    let j = c.self.inside in
    let h = c.index-last.result.now in
    let f = record_at (whole j.words) j.effects.items in
    let size = ap length c.self.view_is in let same = length-map j.heads.items f in
    let len : c.len.result ≡ length j.heads.items = search rules in
    let place : length c.args.self.now - 1 ≡ c.len.result - 1 = omega (arith, size, same, len) in
    let lt : c.len.result - 1 < length j.heads.items = omega (arith, size, same, len) in
    let effects = c.effects_of.ensures ∙ ap (λ (es : List StoredEffect). effects_at es h) c.deref.ensures.value in
    elim c.if-is_same_head.branch [
      | then-is_same_head w ↦
          let sure : IsTrue c.is_same_head.result = search rules in
          let both : IsTrue w.are_same_words.result = search rules in
          let words = w.words_of.ensures ∙ ap (λ (ws : List ℤ). words_at ws h) w.all.ensures in
          ap (λ (k : ℕ). get_or c.args.self.now k d) place
          ∙ turn_at f j.heads.items (c.len.result - 1) h c.args.self.now d lt c.index-last.ensures c.self.view_is
          ∙ sym (ap (λ (ws : List ℤ). record_of h ws c.effects_of.result.now) words ∙ ap (record_of h (words_at (whole j.words) h)) effects)
          ∙ ap (λ (ws : List ℤ). record_of h ws c.effects_of.result.now) (w.are_same_words.ensures both)
          ∙ ap (record_of h c.args.words.now) (c.are_same.ensures yes)
          ∙ c.is_same_head.ensures sure c.args.words.now c.args.effects.now
      | else-is_same_head w ↦ cc
    ]
