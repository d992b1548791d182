-- `stream_fits` meets its contract: no stream is longer than the bound. Assumes nothing.
use mathlib.Core.Path.{sym}
use native.Mathlib.Omega.{arith}
use lib.ListN.{length}
use borrow.Author.Tests.{le-leb}
use Rattle.encode.specs.Pixels.{stream_in}
use Rattle.encode.proofs.Streams.{small, overhead-few, stream-few}
use Rattle.encode.proofs.pixels.Pixels.stream_fits.Goals as goal

pub overflow_add-self : goal.overflow_add-self
overflow_add-self c =
    let p = c.args.self.now in
    omega (arith, p.few, small p p.total p.few, c.overhead.ensures, overhead-few p.bytes p.total)

pub returns-then-self-overhead : goal.returns-then-self-overhead
returns-then-self-overhead c =
    let p = c.args.self.now in
    sym (le-leb (length (stream_in p)) c.args.room (omega (arith, stream-few p, c.overhead.ensures, c.if-self-overhead.true)))
