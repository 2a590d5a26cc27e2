use Rattle.swift_explorer.proofs.Prelude.{rules, ◌≡◌, ◌<◌, List, ◌++◌, ◌∷◌, [], length, sym, subst, ap, ◌∙◌, arith, arc_value, on_ok_weaker, ScriptView, Move, IsHistory, IsPath, MayGoOn, NodeView, Search, path_after, paths_of}
use Rattle.swift_explorer.proofs.KeySets.{codes_added, known_code}
use Rattle.swift_explorer.proofs.Keeping.{coded, keeps_before, keeps_coded, keeps_full, keeps_known, keeps_new, path_before}
use Rattle.swift_explorer.proofs.search.Search.keep.Goals as goal

pub read_on-requires : goal.read_on-requires
read_on-requires c =
    let p = c.requires.path in
    (p.blocks, subst (λ (s : ScriptView). IsHistory s p.blocks c.args.history) (sym p.is.followed.script_is) p.is)

pub returns-then-contains : goal.returns-then-contains
returns-then-contains c =
    let x = c.args.self.now in
    let y = c.code_of.new.self in
    let h = c.read_on.new.self in
    let made = c.in_ok-code.ensures in
    let at = coded x y c.requires.sound c.code_of.ensures.rest made.grown in
    let has = known_code y.keys.keys c.in_ok-code.code (search rules) in
    record {
      keeps = keeps_before x y c.args.history h c.requires.path.is.followed.script_is c.in_ok-read_on.ensures.same
          (keeps_coded x y y h at.0 at.1 (keeps_known y h made.code.0 c.in_ok-code.code at.2 made.code.1 made.code.2 has));
    }

pub returns-then-len-self : goal.returns-then-len-self
returns-then-len-self c =
    let x = c.args.self.now in
    let y = c.code_of.new.self in
    let h = c.read_on.new.self in
    let at = coded x y c.requires.sound c.code_of.ensures.rest c.in_ok-code.ensures.grown in
    record {
      keeps = keeps_before x _ c.args.history h c.requires.path.is.followed.script_is c.in_ok-read_on.ensures.same
          (keeps_coded x y _ h at.0 at.1 (keeps_full y h at.2 (omega (arith, c.if-len-self.true, c.len.ensures))));
    }

pub returns : goal.returns
returns c =
    let x = c.args.self.now in
    let y = c.code_of.new.self in
    let h = c.read_on.new.self in
    let made = c.in_ok-code.ensures in
    let rest = c.code_of.ensures.rest in
    let at = coded x y c.requires.sound rest made.grown in
    let n : NodeView = record { before = c.args.before; moves = c.args.moves.items } in
    let may : MayGoOn (paths_of y.nodes) n.before = subst (λ (s : Search). MayGoOn (paths_of s.nodes) n.before) (sym rest) c.requires.before in
    let p : IsPath (arc_value y.script) (path_after (paths_of y.nodes) n.before n.moves) h =
    subst (λ (s : Search). IsPath (arc_value s.script) (path_after (paths_of s.nodes) n.before n.moves) h) (sym rest)
    (path_before (arc_value x.script) (path_after (paths_of x.nodes) n.before n.moves) c.args.history h c.in_ok-read_on.ensures.same c.requires.path) in
    let room : length y.nodes < y.limit = omega (arith, c.if-len-self.false, c.len.ensures) in
    let pushed : c.push.new.self ≡ y.nodes ++ n ∷ [] = c.in_ok-push.ensures ∙ ap (λ (ms : List Move). y.nodes ++ (record { before = n.before; moves = ms } ∷ [])) c.deref.ensures.value in
    let z : Search = record y { keys = c.insert.new.self; histories = c.put_history.new.histories } in
    record {
      keeps = on_ok_weaker c.put_history.result (λ there. keeps_before x _ c.args.history h c.requires.path.is.followed.script_is c.in_ok-read_on.ensures.same
          (keeps_coded x y _ h at.0 at.1
          (keeps_new y h made.code.0 c.in_ok-code.code n c.push.new.self at.2 made.code.1 made.code.2 may p pushed room z c.len-place.result
          (codes_added y.keys c.insert.new.self c.in_ok-code.code c.in_ok-insert.field-0 c.in_ok-insert.ensures.keys) (omega (arith, c.len-place.ensures)) there)))
          c.put_history.ensures;
    }
