-- The channels of a pixel of two bytes: out of its number, as the definition takes them, and out of its bytes, as the code does. The
-- laws of green and red are over n, how many values green has. Assumes nothing.
use mathlib.Core.Path.{◌≡◌}
use mathlib.Core.Logic.{inl, inr}
use Prim.Native.Nat.{ℕ, ◌+◌, ◌*◌, ◌/◌, ◌%◌, ◌<◌}
use native.Mathlib.Omega.{arith}
use Rattle.color.specs.Promises.{ChannelValues}

pub blue : (low high : ℕ) → (low + 256 * high) % 32 ≡ low % 32
blue low high = omega arith

module _ {n : ℕ} (g : ChannelValues n) {low high : ℕ} (l : low < 256) (h : high < 256) where
  pub green : (low + 256 * high) / 32 % n ≡ low / 32 + high % (n / 8) * 8
  green = elim g [ inl e ↦ rw e (omega arith) | inr e ↦ rw e (omega arith) ]

  pub red : (low + 256 * high) / (32 * n) % 32 ≡ high / (n / 8) % 32
  red = elim g [ inl e ↦ rw e (omega arith) | inr e ↦ rw e (omega arith) ]
