-- Where the read failed, nothing was fed. Assumes nothing.
use Rattle.tile.proofs.Reading.{read_none}
use Rattle.tile.proofs.read_chunk.Goals as goal

pub returns-in_err-n-clause-read : goal.returns-in_err-n-clause-read
returns-in_err-n-clause-read g c = read_none _ c.in_err-n.ensures.bytes
