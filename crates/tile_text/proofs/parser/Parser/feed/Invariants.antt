-- The state is that after the bytes passed. Assumes nothing.
use Rattle.std.proofs.Common.{◌≡◌, take}
use Rattle.tile_text.specs.Parse.{fed}
use Rattle.tile_text.proofs.parser.Parser.feed.Given as goal

abbrev pub invariant-loop-b : goal.invariant-loop-b
invariant-loop-b l = l.self ≡ fed l.initial.self (take l.b-index l.chunk)
