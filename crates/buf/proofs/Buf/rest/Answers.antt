-- `rest` meets its contract: a place past the end has no bytes. Assumes nothing.
use mathlib.Core.Path.{refl}
use Rattle.buf.proofs.Reading.{rest_is}
use Rattle.buf.proofs.Buf.rest.Goals as goal

pub returns : goal.returns
returns c = rw (c.unwrap_or.ensures) (rest_is c.args.self.inner.now c.args.self.pos _ refl c.get.result c.get.ensures.lookup.0)
