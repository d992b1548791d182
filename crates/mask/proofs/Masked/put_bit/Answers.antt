-- `put_bit` meets its contract: j bytes are stored, each by the mask's lowest bit. Assumes nothing.
use Rattle.std.proofs.Common.{ℕ, zero, suc, ◌≡◌, ◌+◌, ◌*◌, ◌%◌, ◌<◌, cond, eqb, refl, sym, ap, ◌∙◌, arith, rules, tests, get_or, zero-mul, one-mul, bit_and}
use Rattle.std.proofs.lemmas.Nat.{and_mask}
use lib.ListN.{length-set}
use Rattle.byte_runs.specs.Runs.{run, row_bytes, byte_back}
use Rattle.byte_runs.proofs.Pixels.{row_byte}
use Rattle.byte_runs.proofs.Runs.{store_more}
use Rattle.mask.proofs.Masked.put_bit.Goals as goal

-- a byte or zero by a bit is the bit times the byte
by_bit : (b a : ℕ) → b < 2 → cond (eqb b 1) a 0 ≡ b * a
by_bit zero a h = sym (zero-mul a)
by_bit (suc zero) a h = sym (one-mul a)
by_bit (suc (suc n)) a h = absurd (omega arith)

by_lowest : (m a : ℕ) → cond (eqb (bit_and m 1) 1) a 0 ≡ m % 2 * a
by_lowest m a = ap (λ (b : ℕ). cond (eqb b 1) a 0) (and_mask m 1) ∙ by_bit (m % 2) a (omega arith)

pub loop-j-init : goal.loop-j-init
unfolding run
loop-j-init g c = record { long = refl; stored = refl }

pub loop-j-preserved : goal.loop-j-preserved
loop-j-preserved g c =
    let a = c.args in
    let l = c.loop-j in
    let w : ℕ → ℕ = λ (j : ℕ). a.m % 2 * get_or a.self.pixel j 0 in
    record {
      long = simp length-set (omega arith);
      stored =
          store_more (row_bytes a.self.back a.self.at w) a.self.at l.j (a.self.at + l.j) _ l.dst a.dst.now refl
          (row_byte a.self.back w a.self.at l.j _ _ l.dst (c.byte_back.ensures ∙ ap (λ back. byte_back back (a.self.at + l.j) l.dst) (search (rules, tests))) (c.ink.ensures ∙ rw c.from.ensures (by_lowest a.m (get_or a.self.pixel l.j 0)))) l.invariant.stored;
    }
