-- Digits and their values undo each other. Assumes nothing.
use Rattle.std.proofs.Common.{◌≡◌, ℕ, ◌+◌, ◌-◌, ◌<◌, ◌≤◌, Some, ltb, leb, sym, ap, ◌∙◌, arith}
use borrow.Author.Tests.{le-ltb, le-leb, lt-leb, ltb-false}
use Rattle.print.specs.Digits.{hex_digit}
use Rattle.tile_text.specs.Parse.{digit_among, decimal_value, hex_value}
use Rattle.base.proofs.Tests.{apart, by_test, by_less}
use Rattle.print.proofs.Printed.{hex_low, hex_high}

-- ---- digits that follow one another

record Digit (b first last least v : ℕ) : Type 0 where
  low : first ≤ b
  high : b ≤ last
  value : v ≡ b - first + least

module _ (b first last least : ℕ) where
  found : (v : ℕ) → digit_among b first last least ≡ Some v → Digit b first last least v
  unfolding digit_among
  found v =
      by_test (λ o. o ≡ Some v → Digit b first last least v) (ltb b first) (λ _ h. apart cc)
      (λ low. by_test (λ o. o ≡ Some v → Digit b first last least v) (ltb last b) (λ _ h. apart cc)
      (λ high h. record { low = ltb-false b first low; high = ltb-false last b high; value = cc }))

  among : first ≤ b → b ≤ last → digit_among b first last least ≡ Some (b - first + least)
  unfolding digit_among
  among low high = rw (le-ltb b first low, le-ltb last b high)

-- ---- decimal digits

pub record Decimal (b v : ℕ) : Type 0 where
  pub code : b ≡ 48 + v
  pub small : v < 10

pub decimal_digit : (b v : ℕ) → decimal_value b ≡ Some v → Decimal b v
decimal_digit b v h = let d = found b 48 57 0 v h in record { code = omega arith; small = omega arith }

pub decimal_value_lem : (d : ℕ) → d < 10 → decimal_value (48 + d) ≡ Some d
decimal_value_lem d h =
    let same : 48 + d - 48 + 0 ≡ d = omega arith in among (48 + d) 48 57 0 (omega arith) (omega arith) ∙ ap Some same

-- ---- hexadecimal digits

pub record Hex (b v : ℕ) : Type 0 where
  pub code : b ≡ hex_digit v
  pub small : v < 16

pub hex_digit_lem : (b v : ℕ) → hex_value b ≡ Some v → Hex b v
unfolding hex_value
hex_digit_lem b v =
    by_test (λ o. o ≡ Some v → Hex b v) (leb b 57)
    (λ _ h. let d = decimal_digit b v h in record { code = d.code ∙ sym (hex_low v d.small); small = omega arith })
    (λ _ h.
    let d = found b 97 102 10 v h in
    let e : b ≡ 87 + v = omega arith in
    record { code = e ∙ sym (hex_high v (omega arith)); small = omega arith })

pub hex_decimal : (b : ℕ) → b ≤ 57 → hex_value b ≡ decimal_value b
unfolding hex_value
hex_decimal b h = rw (le-leb b 57 h)

pub hex_letter : (b : ℕ) → 57 < b → hex_value b ≡ digit_among b 97 102 10
unfolding hex_value
hex_letter b h = rw (lt-leb b 57 h)

pub hex_value_lem : (d : ℕ) → d < 16 → hex_value (hex_digit d) ≡ Some d
hex_value_lem d h =
    by_less d 10 (λ low. rw (hex_low d low) (hex_decimal (48 + d) (omega arith) ∙ decimal_value_lem d low))
    (λ high.
    let same : 87 + d - 97 + 10 ≡ d = omega arith in
    rw (hex_high d high) (hex_letter (87 + d) (omega arith) ∙ among (87 + d) 97 102 10 (omega arith) (omega arith) ∙ ap Some same))
