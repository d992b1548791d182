-- `put_mask` meets its contract: i bytes are in the array, each by its bit, and the array is stored. Assumes nothing.
use Rattle.std.proofs.Common.{ℕ, ◌+◌, ap, ◌∙◌, arith, get_or}
use Rattle.std.proofs.lemmas.Slice.{put_mid-paste}
use lib.ListN.{length-set}
use lib.Bits.{bit_xor}
use Rattle.byte_runs.specs.Runs.{byte_back, inked_by}
use Rattle.byte_runs.proofs.Arrays.{filled_by, pasted}
use Rattle.byte_runs.proofs.Masks.{ink_found}
use Rattle.byte_runs.proofs.Pixels.{row_read}
use Rattle.mask.proofs.Masked.put_mask.Goals as goal

pub loop-i-preserved : goal.loop-i-preserved
loop-i-preserved g c =
    let a = c.args in
    let l = c.loop-i in
    let D = g.row.D in
    let w : ℕ → ℕ = λ (k : ℕ). bit_xor (byte_back a.self.back (a.self.at + k) a.dst.now) (inked_by a.m D a.color.now k) in
    record {
      long = simp length-set (omega arith);
      filled =
          filled_by w l.t l.i _ (omega arith) l.invariant.filled
          (ap (λ (b : ℕ). bit_xor b c.ink.result) c.byte_back.ensures
          ∙ ap (λ (b : ℕ). bit_xor (byte_back a.self.back (a.self.at + l.i) a.dst.now) b)
          (c.ink.ensures ∙ rw c.from-twice.ensures (ink_found D a.m l.i (get_or a.tests.now l.i 0) (get_or a.color.now l.i 0) (omega arith) (omega arith) (omega arith) (c.requires.by_bit l.i (omega arith)))));
    }

pub returns-in-None : goal.returns-in-None
returns-in-None g c =
    let a = c.args in
    let l = c.loop-i in
    let r = c.requires.in_bounds in
    c.store.ensures ∙ row_read a.self.back (inked_by a.m g.row.D a.color.now) a.self.at g.row.N l.t a.dst.now a.self.there r.2 (λ k q. l.invariant.filled k (omega arith))

pub returns-in-Some : goal.returns-in-Some
returns-in-Some g c =
    let a = c.args in
    let l = c.loop-i in
    let r = c.requires.in_bounds in
    put_mid-paste _ _ _ _ l.t g.row.N c.copy_from_slice.ensures.after (omega arith) (omega arith)
    ∙ pasted l.t a.self.at g.row.N a.dst.now (omega arith) (omega arith)
    ∙ row_read a.self.back (inked_by a.m g.row.D a.color.now) a.self.at g.row.N l.t a.dst.now a.self.there r.2 (λ k q. l.invariant.filled k (omega arith))
