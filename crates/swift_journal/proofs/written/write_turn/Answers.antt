use Rattle.swift_journal.proofs.Prelude.{◌≡◌, length, reverse, ap, ◌∙◌, arith, rules, frame_view, effect_views, exit_view, resume_words, frame_words, span_of, frame_if_lent, since, pair_words, TurnHead}
use Rattle.swift_journal.proofs.EndsReadBack.{resume_reads_back_by, exit_reads_back_by}
use Rattle.swift_journal.proofs.EffectsReadBack.{bindings_read_back}
use Rattle.swift_journal.proofs.Gained.{length-since}
use Rattle.swift_journal.proofs.RecordsReadBack.{begun, chained, record_reads, span_same}
use Rattle.swift_journal.proofs.written.write_turn.Goals as goal

pub returns-clause-ok : goal.returns-clause-ok
returns-clause-ok c =
    let t = c.args.turn.now in
    let h : TurnHead = record {
      start = c.start.result;
      first_effect = c.len-first_effect.result;
      frame = c.in_ok-frame.frame;
      after = c.in_ok-after.after;
      task = t.task;
      number = t.number;
      worker = t.worker;
      room = t.env.room;
      size = c.in_ok-short.field-0;
      effects = c.in_ok-short-2.field-0;
      outer = c.in_ok-short-3.field-0;
      ended = c.in_ok-ended.ended;
      exit = c.in_ok-exit.exit;
      resume = c.in_ok-resume.resume;
      priority = t.env.priority;
      cancelled = t.env.cancelled;
    } in
    let stored = since c.args.effects.now.items c.write_effects.new.list.items in
    let r = resume_words t.resume in
    let f = frame_words c.in_ok-frame.frame.counted t.frame.now in
    let o = pair_words (reverse t.outer.now) in
    let head_words = begun _ _ _ _ r f o c.requires c.in_ok-resume.ensures.words c.in_ok-frame.ensures.words c.in_ok-write_bindings.ensures.words in
    let start : h.start ≡ length c.args.words.now.before = search rules in
    let size : h.size ≡ length c.write_effects.new.words.written = search rules in
    let first : h.first_effect ≡ length c.args.effects.now.items = search rules in
    let gained = length-since c.args.effects.now.items c.write_effects.new.list.items c.in_ok-write_effects.ensures.list in
    let effects : h.effects ≡ length stored = omega arith in
    record {
      head = h;
      put = c.in_ok-put_head.ensures.items;
      span = span_same (span_of h) _ _ _ _ start size first effects;
      says = record_reads h stored (frame_view t.frame.now) t.outer.now t.resume (exit_view t.exit.now) (effect_views t.effects.now) (frame_if_lent t.after)
          r f o _ _ _ _
          (chained _ _ _ _ r f o _ _ _ head_words c.in_ok-exit.ensures.words c.in_ok-after.ensures.words c.in_ok-write_effects.ensures.words)
          (c.in_ok-ended.ensures ∙ c.size.ensures ∙ ap length head_words)
          (resume_reads_back_by t.resume c.in_ok-resume.resume c.in_ok-resume.ensures.kind)
          (exit_reads_back_by t.exit.now c.in_ok-exit.exit c.in_ok-exit.ensures.kind c.in_ok-exit.ensures.narrow)
          c.in_ok-frame.ensures.reads_back
          (bindings_read_back t.outer.now c.in_ok-short-3.field-0 (c.in_ok-short-3.ensures ∙ c.depth.ensures) c.in_ok-write_bindings.ensures.narrow)
          c.in_ok-after.ensures.reads_back
          c.in_ok-write_effects.ensures.reads_back;
    }
