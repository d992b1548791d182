-- `peek` meets its contract: the first N of the bytes left, or too few. Assumes nothing.
use Rattle.buf.specs.Stream.{remaining}
use Rattle.buf.proofs.Reading.{first_are}
use Rattle.buf.proofs.Buf.peek.Goals as goal

pub returns : goal.returns
unfolding remaining
returns g c = rw (c.ok_or.ensures.value, c.copied.ensures) (first_are c.args.self.inner.now _ c.args.self.pos g.row.N c.rest-rest.ensures c.first_chunk.result c.first_chunk.ensures.cases)
