-- What comes at a turn goes on the text that came before. Assumes nothing.
use Rattle.std.proofs.KnownBytes.{Keeps-refl}
use Rattle.tile.proofs.Reading.{read_none, read_more}
use Rattle.tile.proofs.read_all.Goals as goal

pub loop-init : goal.loop-init
loop-init g c = read_none _ (Keeps-refl _)

pub returns-in_err-n-clause-read : goal.returns-in_err-n-clause-read
returns-in_err-n-clause-read g c = read_more c.loop.invariant c.read_chunk.ensures.read

pub returns-then-n-eq0-clause-read : goal.returns-then-n-eq0-clause-read
returns-then-n-eq0-clause-read g c = read_more c.loop.invariant c.read_chunk.ensures.read

pub loop-preserved : goal.loop-preserved
loop-preserved g c = read_more c.loop.invariant c.read_chunk.ensures.read
