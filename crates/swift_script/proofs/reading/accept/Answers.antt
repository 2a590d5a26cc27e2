use Rattle.swift_script.proofs.Prelude.{List, map, ap, arith, view_decl, script_size, Decl, names_in, NESTING}
use Rattle.swift_script.proofs.Refusing.{spells}
use Rattle.swift_script.proofs.Short.{within_limit, names_within_limit}
use Rattle.swift_script.proofs.reading.accept.Goals as goal

pub compile_named-requires : goal.compile_named-requires
compile_named-requires c =
    let s = c.in_ok-spelled.spelled in
    let decls = map view_decl s.decls.items in
    let spelled = spells c.args.text.now decls s.tokens c.in_ok-spelled.ensures.spelled in
    let plain = c.in_ok-spelled.ensures.spelled.plain in
    record {
      names = omega (arith, names_within_limit NESTING c.args.text.now decls plain spelled, ap (λ (ds : List Decl). names_in (map view_decl ds)) c.deref.ensures.value);
      size = omega (arith, within_limit NESTING c.args.text.now decls plain spelled, ap (λ (ds : List Decl). script_size (map view_decl ds)) c.deref.ensures.value);
    }
