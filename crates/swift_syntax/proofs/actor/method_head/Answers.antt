use Rattle.std.proofs.Common.{◌≡◌, ◌∷◌, [], ◌++◌, ◌∙◌, ap, length}
use Rattle.swift_syntax.specs.Declarations.{MethodHead, Rows, SpellsResult, rows_of}
use Rattle.swift_syntax.specs.Expressions.{after}
use Rattle.swift_syntax.specs.Statements.{Lexed, Row, SpellsPerhaps, a_key, a_name, a_sign}
use Rattle.swift_syntax.specs.declared.sign.Sign.TheVariants as sign
use Rattle.swift_syntax.specs.declared.word.Word.TheVariants as word
use Rattle.swift_syntax.proofs.Declaring.{counted, head_of, params_stay, puts, puts_as, puts_of, same_rows}
use Rattle.swift_syntax.proofs.Statements.{lexed_stays, row_stays}
use Rattle.swift_syntax.proofs.Steps.{Took, rows, then, took_call, took_key, took_name, took_perhaps, took_sign}
use Rattle.swift_syntax.proofs.actor.method_head.Goals as goal

pub returns : goal.returns
returns c =
    let func = took_key c.args.reader.now c.key.new.self word.Func c.key.ensures.taken c.key.ensures.grows in
    let name = took_name c.key.new.self c.name-name.new.self c.name-name.ensures.taken c.name-name.ensures.grows in
    let opened = took_sign c.name-name.new.self c.sign.new.self sign.Open c.sign.ensures.taken c.sign.ensures.grows in
    let front = rows _ _ _ func (rows _ _ _ name opened) in
    let head : Took c.args.reader.now c.sign.new.self (λ a. Row a.lexed (a_key word.Func ∷ a_name ∷ a_sign sign.Open ∷ []) c.args.reader.now.at c.sign.new.self.at × (c.name-name.result ≡ after c.args.reader.now.at)) = record {
      grows = front.grows;
      holds = λ n xs.
          let m = opened.grows.refused n in
          (front.holds n xs, (c.name-name.ensures.taken m).1 ∙ ap (λ r. r.at) (c.key.ensures.taken (c.name-name.ensures.grows.refused m)).1);
    } in
    let A : Lexed → Type 0 = λ l. SpellsPerhaps l word.Async c.params.new.reader.at c.takes_key-is_async.new.self.at c.takes_key-is_async.result in
    let T : Lexed → Type 0 = λ l. SpellsPerhaps l word.Throws c.takes_key-is_async.new.self.at c.takes_key-is_throwing.new.self.at c.takes_key-is_throwing.result in
    let waits = took_perhaps c.params.new.reader c.takes_key-is_async.new.self word.Async c.takes_key-is_async.result c.takes_key-is_async.ensures.found c.takes_key-is_async.ensures.taken in
    let throws = took_perhaps c.takes_key-is_async.new.self c.takes_key-is_throwing.new.self word.Throws c.takes_key-is_throwing.result c.takes_key-is_throwing.ensures.found c.takes_key-is_throwing.ensures.taken in
    let result = took_call c.takes_key-is_throwing.new.self c.result_type-result.new.reader (λ l i j. SpellsResult l i j c.result_type-result.result) c.result_type-result.ensures.spelled c.result_type-result.ensures.grows in
    let tail = then _ _ _ (lexed_stays A) waits (then _ _ _ (lexed_stays T) throws result) in
    let all = puts c.args.reader.now c.sign.new.self c.result_type-result.new.reader (λ s t m d. (row_stays _ _ _ s t m d.0, d.1)) (puts_of _ _ head) (puts c.sign.new.self c.params.new.reader c.result_type-result.new.reader (params_stay _ _ _ _) c.params.ensures (puts_of _ _ tail)) in
    let before : Rows = rows_of c.args.reader.now.tree.value in
    let before_params = ap (λ (r : Rows). r.params) (same_rows _ _ head.grows) in
    puts_as (λ a x.
    let made : MethodHead = record { name = c.name-name.result; params = x.1.0.params; is_async = c.takes_key-is_async.result; is_throwing = c.takes_key-is_throwing.result; result = c.result_type-result.result } in
    let put = x.1.0.rows ∙ ap (λ (r : Rows). record r { params = r.params ++ x.1.0.params }) (same_rows _ _ head.grows) in
    record {
      head = made;
      spelled = head_of a.lexed x.0.1 x.0.0 x.1.0.spelled x.1.1.0 x.1.1.1.0 x.1.1.1.1;
      rows = same_rows _ _ tail.grows ∙ put;
      is = counted c.args.actor c.args.access made before.params (c.params_len-first_param.ensures ∙ ap length before_params) (c.params_len-params_end.ensures ∙ ap (λ (r : Rows). length r.params) put);
    }) all
