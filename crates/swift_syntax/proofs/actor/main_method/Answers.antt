use Rattle.std.proofs.Common.{◌≡◌, [], ◌++◌, ◌∙◌, ap, codes, false, length, subst, sym, true}
use Rattle.swift_syntax.specs.Declarations.{Rows, SpellsMain, method_of, nobody, rows_of}
use Rattle.swift_syntax.specs.Statements.{Row, SpellsBlock, spells_at}
use Rattle.swift_syntax.specs.declared.tree.Access.TheVariants.{Open}
use Rattle.swift_syntax.specs.declared.word.Word.TheVariants as word
use Rattle.swift_syntax.proofs.Declaring.{head_put_stays, kept_rows, main_of, puts, puts_as, puts_of, puts_step, row_puts, same_rows}
use Rattle.swift_syntax.proofs.Grown.{extends_of}
use Rattle.swift_syntax.proofs.Statements.{block_stays, lexed_stays, row_stays}
use Rattle.swift_syntax.proofs.Steps.{Took, lexed_on, no_row, step_call, took_key, took_same}
use Rattle.swift_syntax.proofs.actor.main_method.Goals as goal

pub returns : goal.returns
returns c =
    let first = took_key c.args.reader.now c.key.new.self word.Static c.key.ensures.taken c.key.ensures.grows in
    let same = took_same c.method_head-head.new.reader c.want_main.new.reader c.want_main.ensures.same c.want_main.ensures.grows in
    let named : Took c.method_head-head.new.reader c.want_main.new.reader (λ a. Row a.lexed [] c.method_head-head.new.reader.at c.want_main.new.reader.at × (spells_at a.lexed.text a.lexed.tokens c.method_head-head.result.name (codes "main") ≡ true) × (c.method_head-head.result.is_async ≡ true) × (c.method_head-head.result.is_throwing ≡ false)) = record {
      grows = same.grows;
      holds = λ n xs. (same.holds n xs, subst (λ l. spells_at l.text l.tokens c.method_head-head.result.name (codes "main") ≡ true) (sym (lexed_on _ _ (extends_of same.grows))) (c.want_main.ensures.named n), c.want_main.ensures.is_async n, c.want_main.ensures.throws n);
    } in
    let block = step_call c.want_main.new.reader c.body-body.new.reader c.body-body.ensures.spelled c.body-body.ensures.extends in
    let end = puts c.want_main.new.reader c.body-body.new.reader c.put_main.new.reader (λ s t m d. block_stays s t m d) (puts_step _ _ block) c.put_main.ensures in
    let rest = puts c.method_head-head.new.reader c.want_main.new.reader c.put_main.new.reader (λ s t m d. (row_stays _ _ _ s t m d.0, lexed_stays (λ l. spells_at l.text l.tokens c.method_head-head.result.name (codes "main") ≡ true) s t m d.1, d.2, d.3)) (puts_of _ _ named) end in
    let headed = puts c.key.new.self c.method_head-head.new.reader c.put_main.new.reader (head_put_stays _ _ _ _ _ _ _) c.method_head-head.ensures rest in
    let all = row_puts c.args.reader.now c.key.new.self c.put_main.new.reader first headed in
    puts_as (λ a x.
    let h = x.1.0.head in
    let head_rows = x.1.0.rows ∙ ap (λ (r : Rows). record r { params = r.params ++ h.params }) (same_rows _ _ first.grows) in
    let body_rows = kept_rows _ _ block.extends ∙ (same_rows _ _ named.grows ∙ head_rows) in
    let made = x.1.0.is ∙ ap (λ (r : Rows). method_of nobody Open (length r.params) h 0 0) (same_rows _ _ first.grows) in
    let body = subst (λ i. SpellsBlock a i c.body-body.new.reader.at c.body-body.result) (sym (no_row a.lexed x.1.1.0.0)) x.1.1.1.0 in
    subst (λ j. SpellsMain a c.args.name c.args.reader.now.at j (rows_of c.args.reader.now.tree.value) (rows_of c.put_main.new.reader.tree.value)) x.1.1.1.1.0 (main_of a h x.0 x.1.0.spelled body_rows made x.1.1.0.1 x.1.1.0.2 x.1.1.0.3 body c.saturating_sub-end.ensures x.1.1.1.1.1)) all
