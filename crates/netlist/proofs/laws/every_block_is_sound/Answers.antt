use Rattle.netlist.proofs.Soundness.{block_sound}
use Rattle.netlist.proofs.laws.every_block_is_sound.Goals as goal

pub returns : goal.returns
returns c = block_sound c.args.block.now
