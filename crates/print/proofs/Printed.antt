-- Numbers in decimal and bytes in hexadecimal, as they are printed: how long they are, and one digit or one byte more. Assumes nothing.
use mathlib.Core.Path.{◌≡◌, refl, ◌∙◌, ap, sym}
use mathlib.Core.List.{List, [], ◌∷◌, ◌++◌}
use Prim.Native.Nat.{ℕ, zero, suc, ◌+◌, ◌*◌, ◌/◌, ◌%◌, ◌^◌, ◌<◌, ◌≤◌}
use native.Mathlib.Nat.{pow-suc}
use native.Mathlib.Omega.{arith}
use lib.ListN.{length, length-append}
use borrow.Author.Tests.{lt-ltb, le-ltb}
use Rattle.print.specs.Digits.{decimal_in, decimal, hex_digit, hex_pairs}
use Rattle.base.proofs.Tests.{by_less}

-- ---- decimal

pub in_small : (k n : ℕ) → n < 10 → decimal_in (suc k) n ≡ (48 + n) ∷ []
unfolding decimal_in
in_small k n h = rw (lt-ltb _ _ h)

pub in_more : (k n : ℕ) → 10 ≤ n → decimal_in (suc k) n ≡ decimal_in k (n / 10) ++ ((48 + n % 10) ∷ [])
unfolding decimal_in
in_more k n h = rw (le-ltb _ _ h)

-- room for k digits is enough for a number below 10 ^ k
enough : (k n : ℕ) → n < 10 ^ suc k → decimal_in (suc k) n ≡ decimal_in (suc (suc k)) n
enough zero n h = let small : n < 10 = omega arith in in_small 0 n small ∙ sym (in_small 1 n small)
enough (suc k) n h =
    let less : n < 10 ^ suc k * 10 = rw pow-suc at h in
    by_less n 10 (λ small. in_small (suc k) n small ∙ sym (in_small (suc (suc k)) n small))
    (λ more. in_more (suc k) n more ∙ rw (enough k (n / 10) (omega arith)) (sym (in_more (suc (suc k)) n more)))

in_length : (k n : ℕ) → length (decimal_in k n) ≤ k
unfolding decimal_in
in_length zero n = omega arith
in_length (suc k) n =
    by_less n 10 (λ small. rw (in_small k n small) (omega arith))
    (λ more. rw (in_more k n more, length-append) (omega (arith, in_length k (n / 10))))

pub decimal_small : (n : ℕ) → n < 10 → decimal n ≡ (48 + n) ∷ []
unfolding decimal
decimal_small n h = in_small 19 n h

-- a number of two digits or more is its tenth and one digit
pub decimal_more : (n : ℕ) → n < 10 ^ 20 → 10 ≤ n → decimal n ≡ decimal (n / 10) ++ ((48 + n % 10) ∷ [])
unfolding decimal
decimal_more n fits h =
    in_more 19 n h ∙ ap (λ (l : List ℕ). l ++ ((48 + n % 10) ∷ [])) (enough 18 (n / 10) (omega arith))

pub decimal-length : (n : ℕ) → length (decimal n) ≤ 20
unfolding decimal
decimal-length n = in_length 20 n

-- ---- hexadecimal

pub hex_low : (d : ℕ) → d < 10 → hex_digit d ≡ 48 + d
unfolding hex_digit
hex_low d h = rw (lt-ltb d 10 h)

pub hex_high : (d : ℕ) → 10 ≤ d → hex_digit d ≡ 87 + d
unfolding hex_digit
hex_high d h = rw (le-ltb d 10 h)

pub not_line_feed : (d : ℕ) → hex_digit d ≡ 10 → ⊥
not_line_feed d e = by_less d 10 (λ low. omega (arith, hex_low d low)) (λ high. omega (arith, hex_high d high))

pub pairs_append : (xs ys : List ℕ) → hex_pairs (xs ++ ys) ≡ hex_pairs xs ++ hex_pairs ys
unfolding hex_pairs
pairs_append [] ys = refl
pairs_append (x ∷ xs) ys = ap (λ (l : List ℕ). hex_digit (x / 16) ∷ hex_digit (x % 16) ∷ l) (pairs_append xs ys)

pub pairs_length : (xs : List ℕ) → length (hex_pairs xs) ≡ 2 * length xs
unfolding hex_pairs
pairs_length [] = refl
pairs_length (x ∷ xs) = omega (arith, pairs_length xs)
