use Rattle.swift_syntax.specs.declared.word.Word.TheVariants as word
use Rattle.swift_syntax.proofs.DeclaredRows.{import_of}
use Rattle.swift_syntax.proofs.Grown.{grows_on}
use Rattle.swift_syntax.proofs.Steps.{took_key, took_same}
use Rattle.swift_syntax.proofs.declaration.import.Goals as goal

pub returns : goal.returns
returns c =
    let key = took_key c.args.reader.now c.key.new.self word.Import c.key.ensures.taken c.key.ensures.grows in
    let same = took_same c.key.new.self c.want_module.new.reader c.want_module.ensures.same c.want_module.ensures.grows in
    record {
      spelled = λ n.
          let m = c.name.ensures.grows.refused n in
          let known = import_of c.args.reader.now c.key.new.self c.want_module.new.reader c.name.new.self key (c.want_module.ensures.same m) (c.want_module.ensures.known m) c.want_module.ensures.grows c.name.ensures.grows (c.name.ensures.taken n).2 in
          known n;
      grows = grows_on key.grows (grows_on same.grows c.name.ensures.grows);
    }
