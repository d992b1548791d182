-- `xor_pixel` meets its contract: j bytes are stored. Assumes nothing.
use Rattle.std.proofs.Common.{◌≡◌, ℕ, ◌+◌, ◌-◌, refl, ap, arith, get_or, rules}
use lib.ListN.{length-set}
use Rattle.std.specs.Prelude.{Some}
use Rattle.byte_runs.specs.Runs.{run, each, row_bytes}
use Rattle.byte_runs.proofs.Pixels.{row_byte}
use Rattle.byte_runs.proofs.Runs.{store_more}
use Rattle.xor.proofs.Xored.xor_pixel.Goals as goal

pub loop-j-init : goal.loop-j-init
unfolding run
loop-j-init g c = record { long = refl; stored = refl }

pub loop-j-preserved : goal.loop-j-preserved
loop-j-preserved g c =
    let a = c.args in
    let l = c.loop-j in
    let place : a.self.at - a.self.row + l.j ≡ a.self.at + l.j - a.self.row = search (rules, c.requires) in
    record {
      long = simp length-set (omega arith);
      stored =
          store_more (row_bytes (Some a.self.row) a.self.at (each a.self.pixel)) a.self.at l.j (a.self.at + l.j) _ l.dst a.dst.now refl
          (row_byte (Some a.self.row) (each a.self.pixel) a.self.at l.j _ _ l.dst (ap (λ (i : ℕ). get_or l.dst i 0) place) refl) l.invariant.stored;
    }
