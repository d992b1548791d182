-- `write_stream` meets its contract. The invariant: the stream is written up to a place, and the rest is still to come. Assumes nothing.
use mathlib.Core.Path.{refl, sym}
use native.Mathlib.Omega.{arith}
use Rattle.encode.specs.Pixels.{stream_in}
use Rattle.encode.proofs.Streams.{step, nothing_left, all_left, begun_all, order-room, order_begun}
use Rattle.encode.proofs.pixels.Pixels.write_stream.Goals as goal

pub loop-k-init : goal.loop-k-init
loop-k-init c =
    let from = rw (← c.into_iter-k-iterator.ensures.into_iter_gives) at c.orders-k-items.ensures in
    record {
      can = tt;
      ends = tt;
      over = from.pixels;
      begun = record { within = omega arith; next = sym (all_left _ _ from); is = refl };
    }

pub put_order-at-requires : goal.put_order-at-requires
put_order-at-requires c =
    let p = c.args.self.now in
    let l = c.loop-k in
    let x = step p _ _ _ _ l.invariant.over c.in-Some.ensures.steps in
    record { ends = x.ends; room = order-room p _ _ _ _ x c.args.dst.now l.dst l.at c.requires l.invariant.begun }

pub loop-k-preserved : goal.loop-k-preserved
loop-k-preserved c =
    let p = c.args.self.now in
    let l = c.loop-k in
    let x = step p _ _ _ _ l.invariant.over c.in-Some.ensures.steps in
    record {
      can = tt;
      ends = tt;
      over = x.over;
      begun = order_begun p _ _ _ _ x c.args.dst.now l.dst l.at c.requires l.invariant.begun _ _ c.put_order-at.ensures;
    }

pub returns : goal.returns
returns c =
    let p = c.args.self.now in
    let l = c.loop-k in
    begun_all (stream_in p) c.args.dst.now c.requires l.dst l.at
    (rw (nothing_left l.k-iterator c.in-None.ensures.steps) at l.invariant.begun)
