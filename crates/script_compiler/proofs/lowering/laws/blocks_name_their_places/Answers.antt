use Rattle.script_compiler.proofs.BlockPlaces.{block_places}
use Rattle.script_compiler.proofs.lowering.laws.blocks_name_their_places.Goals as goal

pub returns : goal.returns
returns c = block_places
