use Rattle.std.proofs.Common.{[], ◌∷◌, ◌++◌, ◌≡◌, ◌∙◌, ap, append_assoc, refl, subst, sym}
use Rattle.swift_syntax.specs.ReadersInside.{AreFrom, lexed_of}
use Rattle.swift_syntax.specs.Expressions.{table_of}
use Rattle.swift_syntax.specs.Statements.{SpellsNames, a_sign}
use Rattle.swift_syntax.specs.Statements as swift
use Rattle.swift_syntax.specs.declared.sign.Sign.TheVariants as sign
use Rattle.swift_syntax.specs.declared.word.Word.TheVariants as word
use Rattle.swift_syntax.proofs.Arguments.{more_rows, name_rows, names_stand, rows_none}
use Rattle.swift_syntax.proofs.Grown.{extends_of, grows_on, grows_same}
use Rattle.swift_syntax.proofs.Refused.{clash}
use Rattle.swift_syntax.proofs.Steps.{lexed_on, rows, takes_one, took_key, took_name, took_none, took_same, took_sign}
use Rattle.swift_syntax.proofs.closure.captured.Goals as goal

pub loop-init : goal.loop-init
loop-init c = record { grows = grows_same c.args.reader.now; spelled = λ n. ([], c.new-names.ensures.items ∙ sym rows_none, λ j names d. d) }

pub loop-preserved : goal.loop-preserved
loop-preserved c =
    let name = took_name c.loop.reader c.name.new.self c.name.ensures.taken c.name.ensures.grows in
    let put = took_none c.name.new.self c.keep.new.reader (λ n. ap (λ r. r.at) (c.keep.ensures.kept n).1) c.keep.ensures.grows in
    let comma = takes_one c.keep.new.reader c.takes.new.self (a_sign sign.Comma) (c.if-not-takes.ensures.found.0 refl) c.if-not-takes.ensures.taken in
    let all = rows _ _ _ name (rows _ _ _ put comma) in
    let g = grows_on c.loop.invariant.grows all.grows in
    let at = c.loop.reader.at in
    record {
      grows = g;
      spelled = λ n.
          let so = c.loop.invariant.spelled (all.grows.refused n) in
          let kept = c.keep.ensures.kept (comma.grows.refused n) in
          let place = c.name.ensures.taken (put.grows.refused (comma.grows.refused n)) in
          let row = subst (λ l. swift.Row l (swift.a_name ∷ a_sign sign.Comma ∷ []) at c.takes.new.self.at) (lexed_on _ _ (extends_of g)) (all.holds n []) in
          (so.0 ++ at ∷ [], more_rows so.0 kept.0 so.1 place.1, λ j names d. subst (λ ns. SpellsNames (lexed_of c.args.reader.now) c.args.reader.now.at j ns) (sym (append_assoc so.0 (at ∷ []) names)) (so.2 j (at ∷ names) (swift.one_name row d)));
    }

pub returns-then-not-takes : goal.returns-then-not-takes
returns-then-not-takes c =
    let name = took_name c.loop.reader c.name.new.self c.name.ensures.taken c.name.ensures.grows in
    let put = took_none c.name.new.self c.keep.new.reader (λ n. ap (λ r. r.at) (c.keep.ensures.kept n).1) c.keep.ensures.grows in
    let other = took_same c.keep.new.reader c.takes.new.self (λ m. c.if-not-takes.ensures.taken) (rw c.if-not-takes.ensures.taken (grows_same c.keep.new.reader)) in
    let bracket = took_sign c.takes.new.self c.sign.new.self sign.CloseBracket c.sign.ensures.taken c.sign.ensures.grows in
    let key = took_key c.sign.new.self c.key.new.self word.In c.key.ensures.taken c.key.ensures.grows in
    let rest = took_none c.key.new.self c.put_arguments.new.reader c.put_arguments.ensures.at c.put_arguments.ensures.grows in
    let all = rows _ _ _ name (rows _ _ _ put (rows _ _ _ other (rows _ _ _ bracket (rows _ _ _ key rest)))) in
    let g = grows_on c.loop.invariant.grows all.grows in
    let at = c.loop.reader.at in
    let end = c.put_arguments.new.reader in
    record {
      spelled = λ n.
          let n4 = rest.grows.refused n in
          let n3 = key.grows.refused n4 in
          let n2 = other.grows.refused (bracket.grows.refused n3) in
          let so = c.loop.invariant.spelled (all.grows.refused n) in
          let place = c.name.ensures.taken (put.grows.refused n2) in
          let names = so.0 ++ at ∷ [] in
          let are : c.deref.result.now ≡ name_rows names = c.deref.ensures.value ∙ more_rows so.0 (c.keep.ensures.kept n2).0 so.1 place.1 in
          let same = lexed_on _ _ (extends_of g) in
          let last : SpellsNames (lexed_of end) at end.at (at ∷ []) = swift.last_name (all.holds n []) in
          record {
            names = names;
            spelled = subst (λ l. SpellsNames l c.args.reader.now.at end.at names) (sym same) (so.2 end.at (at ∷ []) (subst (λ l. SpellsNames l at end.at (at ∷ [])) same last));
            stand = names_stand (table_of end.tree.value) c.put_arguments.result names (subst (λ l. AreFrom end.tree.value.arguments.items c.put_arguments.result l) are (c.put_arguments.ensures.put n));
          };
      grows = g;
    }

pub returns : goal.returns
returns c = record { spelled = λ n. clash _ n c.refuse.ensures.noted; grows = grows_on c.loop.invariant.grows c.refuse.ensures.grows }
