-- `write_stream` meets its contract. The invariant: the stream is written up to a place, and the rest is still to come. Assumes nothing.
use mathlib.Core.Path.{◌≡◌}
use Rattle.encode.specs.Pixels.{stream_in}
use Rattle.encode.proofs.Streams.{Begun, rest_of}
use Rattle.encode.proofs.pixels.Pixels.write_stream.Given as goal

abbrev pub invariant-loop-k : goal.invariant-loop-k
invariant-loop-k l = record {
  can : (goal.iterator-loop-k).can_next l.k-iterator;
  ends : (goal.iterator-loop-k).is_finite l.k-iterator;
  over : l.k-iterator.pixels.now ≡ l.self;
  begun : Begun (stream_in l.self) l.initial.dst l.dst (rest_of l.k-iterator) l.at;
}
