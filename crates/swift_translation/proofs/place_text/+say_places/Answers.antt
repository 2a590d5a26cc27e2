use Rattle.std.proofs.lemmas.List.{take_rest}
use Rattle.swift_translation.proofs.Writes.{each_line}
use Rattle.swift_translation.proofs.place_text.+say_places.Goals as goal

pub returns-in-len1-up : goal.returns-in-len1-up
returns-in-len1-up t c =
    each_line c.args.out.now c.say_place.new.out c.say_places.new.out c.args.file.now c.args.places.now c.place-item.result c.in-len1-up.len_at_least c.place-item.is c.say_place.ensures (rw take_rest at c.say_places.ensures)
