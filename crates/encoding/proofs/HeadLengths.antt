-- The bytes of header and run length of the three kinds that are written, by the run length, and how many they are. Assumes nothing.
use mathlib.Core.Path.{◌≡◌, refl, ap}
use mathlib.Core.List.{[], ◌∷◌}
use Prim.Native.Nat.{ℕ, zero, suc, ◌+◌, ◌-◌, ◌*◌, ◌/◌, ◌%◌, ◌≤◌, ◌<◌}
use native.Mathlib.Decide.{dec_le}
use native.Mathlib.Omega.{arith}
use lib.Dec.{lit≤}
use lib.ListN.{length}
use borrow.Author.Tests.{le-leb, lt-leb, le-ltb, lt-ltb, eq-eqb, ne_eqb}
use Rattle.definition.specs.Orders.{written, rows, row}
use Rattle.definition.specs.Codes.{kind_row}
use Rattle.encoding.specs.Heads.{shortest_in, written_as, head_bytes}
use Rattle.encoding.specs.Bound.{head_size}

-- the number of a kind that the encoder writes: 0 background runs, 3 color runs, 4 color images
pub record EncodedKind (c : ℕ) : Type 0 where
  pub few : c ≤ 4
  pub not_1 : c ≡ 1 → ⊥
  pub not_2 : c ≡ 2 → ⊥

pub background-kind : EncodedKind 0
background-kind = record { few = lit≤ tt; not_1 = λ e. omega arith; not_2 = λ e. omega arith }

pub color-kind : EncodedKind 3
color-kind = record { few = lit≤ tt; not_1 = λ e. omega arith; not_2 = λ e. omega arith }

pub image-kind : EncodedKind 4
image-kind = record { few = lit≤ tt; not_1 = λ e. omega arith; not_2 = λ e. omega arith }

-- what holds of each of the three holds of a kind that is written
pub by_kind : (Q : ℕ → Type 0) → Q 0 → Q 3 → Q 4 → (c : ℕ) → EncodedKind c → Q c
by_kind Q x y z zero o = x
by_kind Q x y z (suc zero) o = absurd (o.not_1 refl)
by_kind Q x y z (suc (suc zero)) o = absurd (o.not_2 refl)
by_kind Q x y z (suc (suc (suc zero))) o = y
by_kind Q x y z (suc (suc (suc (suc zero)))) o = z
by_kind Q x y z (suc (suc (suc (suc (suc c))))) o = absurd (omega (arith, o.few))

-- the three have rows alike
alike : (c n : ℕ) → EncodedKind c
    → head_bytes (kind_row c) n ≡ written_as (c * 32) (written 1 32 (0xF0 + c)) n (shortest_in 32 (written 1 32 (0xF0 + c)) n)
unfolding head_bytes kind_row rows row
alike c n o =
    by_kind
    (λ c. head_bytes (kind_row c) n ≡ written_as (c * 32) (written 1 32 (0xF0 + c)) n (shortest_in 32 (written 1 32 (0xF0 + c)) n))
    refl refl refl c o

module _ {c : ℕ} (n : ℕ) (o : EncodedKind c) where
  pub head_short : n ≤ 31 → head_bytes (kind_row c) n ≡ (c * 32 + n) ∷ []
  unfolding written_as shortest_in
  head_short h =
      let e : n / 1 ≡ n = omega arith in
      rw (alike c n o, eq-eqb (n % 1) 0 (omega arith), lt-ltb n 32 (omega arith), e)

  pub head-one : 31 < n → n ≤ 287 → head_bytes (kind_row c) n ≡ (c * 32) ∷ (n - 32) ∷ []
  unfolding written_as shortest_in
  head-one h k = rw (alike c n o, eq-eqb (n % 1) 0 (omega arith), le-ltb n 32 (omega arith), le-leb n 287 k)

  pub head_two : 287 < n → head_bytes (kind_row c) n ≡ (0xF0 + c) ∷ (n % 256) ∷ (n / 256) ∷ []
  unfolding written_as shortest_in
  head_two h = rw (alike c n o, eq-eqb (n % 1) 0 (omega arith), le-ltb n 32 (omega arith), lt-leb n 287 h)

-- how many bytes, by the run length
pub data HeadOf (n : ℕ) : ℕ → Type 0 where
  no_head : n ≡ 0 → HeadOf n 0
  one_byte : 1 ≤ n → n ≤ 31 → HeadOf n 1
  two_bytes : 31 < n → n ≤ 287 → HeadOf n 2
  three_bytes : 287 < n → HeadOf n 3

pub head_of_lem : (n : ℕ) → HeadOf n (head_size n)
unfolding head_size
head_of_lem n =
    elim (dec_le n 0) [
      | yes z ↦ rw (eq-eqb n 0 (omega arith)) (no_head (omega arith))
      | no z ↦ rw (ne_eqb n 0 (λ e. omega arith))
          (elim (dec_le n 31) [
            | yes a ↦ rw (le-leb n 31 a) (one_byte (omega arith) a)
            | no a ↦ rw (lt-leb n 31 (omega arith))
                (elim (dec_le n 287) [
                  | yes b ↦ rw (le-leb n 287 b) (two_bytes (omega arith) b)
                  | no b ↦ rw (lt-leb n 287 (omega arith)) (three_bytes (omega arith))
                ])
          ])
    ]

-- what holds of each number of bytes, by the run lengths that have it
pub by_head : (Q : ℕ → Type 0) (n : ℕ) → (n ≡ 0 → Q 0) → (1 ≤ n → n ≤ 31 → Q 1) → (31 < n → n ≤ 287 → Q 2) → (287 < n → Q 3)
    → Q (head_size n)
by_head Q n none one two three = go (head_of_lem n)
  where
    go : {x : ℕ} → HeadOf n x → Q x
    go (no_head e) = none e
    go (one_byte a b) = one a b
    go (two_bytes a b) = two a b
    go (three_bytes a) = three a

pub head-length : (c n : ℕ) → EncodedKind c → 1 ≤ n → length (head_bytes (kind_row c) n) ≡ head_size n
head-length c n o one =
    by_head (λ x. length (head_bytes (kind_row c) n) ≡ x) n (λ e. absurd (omega arith)) (λ a b. ap length (head_short n o b))
    (λ a b. ap length (head-one n o a b)) (λ a. ap length (head_two n o a))

pub head-most : (n : ℕ) → head_size n ≤ 3
head-most n = by_head (λ x. x ≤ 3) n (λ e. omega arith) (λ a b. omega arith) (λ a b. omega arith) (λ a. omega arith)
