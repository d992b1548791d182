-- What a byte does to the state, case by case. Assumes nothing.
use Rattle.std.proofs.Common.{◌≡◌, ℕ, ◌+◌, ◌*◌, ◌<◌, Option, Some, None, eqb, ltb, slice_get, option_map, option_and_then, unwrap_or, refl, arith}
use borrow.Author.Tests.{ltb-true, eqb-true, eqb-false}
use Rattle.tile_text.specs.Parse.{key_of, decimal_value, hex_value, on_line, key_read, with_value, with_stream, end_number, grown, number_step, digit_on, digit_of, stream_step, after_key, in_key, next, step}
use Rattle.tile_text.specs.declared.parser.Line.{Line}
use Rattle.tile_text.specs.declared.parser.Line.TheVariants.{Width, Height, Bpp, Stream, Whole, Bad}
use Rattle.tile_text.specs.declared.parser.Parser.{Parser}
use Rattle.base.proofs.Tests.{apart, by_test}
use Rattle.tile_text.proofs.Keys.{HasNumber}

-- ---- options

-- what holds of each value, and where there is none
mapped : {A B : Type 0} (Q : B → Type 0) (f : A → B) (o : Option A) (d : B) → ((x : A) → o ≡ Some x → Q (f x)) → Q d
    → Q (unwrap_or (option_map f o) d)
mapped Q f None d g h = h
mapped Q f (Some x) d g h = g x refl

record Both (A B : Type 0) (m : Option A) (f : A → Option B) (y : B) : Type 0 where
  first : A
  there : m ≡ Some first
  second : f first ≡ Some y

chained : {A B : Type 0} (m : Option A) (f : A → Option B) (y : B) → option_and_then f m ≡ Some y → Both A B m f y
chained None f y e = apart cc
chained (Some x) f y e = record { first = x; there = refl; second = e }

-- a number with a digit more has at most eight digits, and more than a 0 before it
pub record Grows (v d w : ℕ) : Type 0 where
  pub begun : 0 < v
  pub small : v < 10_000_000
  pub value : w ≡ v * 10 + d

pub grown_more : (v d w : ℕ) → grown (Some v) d ≡ Some w → Grows v d w
unfolding grown
grown_more v d w =
    by_test (λ o. o ≡ Some w → Grows v d w) (eqb v 0) (λ _ e. apart cc)
    (λ other. by_test (λ o. o ≡ Some w → Grows v d w) (ltb v 10_000_000)
    (λ less e.
    let pos = eqb-false v 0 other in
    record { begun = omega arith; small = ltb-true _ _ less; value = cc })
    (λ _ e. apart cc))

module _ (p : Parser) (b : ℕ) where
  -- ---- in a key

  pub key_cases : (Q : Parser → Type 0) (k : ℕ) → slice_get (key_of p.line) p.place ≡ Some k → (b ≡ k → Q (key_read p)) → Q (on_line Bad p) → Q (step p b)
  unfolding step next in_key
  key_cases Q k e f g = rw e (by_test (λ o. Q (unwrap_or o (on_line Bad p))) (eqb b k) (λ t. f (eqb-true _ _ t)) (λ _. g))

  -- ---- after a key

  number_after : (l : Line) → HasNumber l → after_key l p b ≡ number_step p b
  unfolding after_key
  number_after Width h = refl
  number_after Height h = refl
  number_after Bpp h = refl
  number_after Stream h = absurd h
  number_after Whole h = absurd h
  number_after Bad h = absurd h

  module _ (over : slice_get (key_of p.line) p.place ≡ None) where
    pub step-number : HasNumber p.line → step p b ≡ unwrap_or (number_step p b) (on_line Bad p)
    unfolding step next in_key
    step-number h = rw (over, number_after p.line h)

    pub step-stream : p.line ≡ Stream → step p b ≡ unwrap_or (digit_of p.stream.high p b) (on_line Bad p)
    unfolding step next in_key after_key stream_step
    step-stream e = rw (over, e)

    pub number_cases : (Q : Parser → Type 0) → HasNumber p.line → ((v : ℕ) → b ≡ 10 → p.value ≡ Some v → Q (end_number p v))
        → ((d v : ℕ) → decimal_value b ≡ Some d → grown p.value d ≡ Some v → Q (with_value v p)) → Q (on_line Bad p) → Q (step p b)
    unfolding number_step
    number_cases Q l f g h =
        rw (step-number l)
        (by_test (λ o. Q (unwrap_or o (on_line Bad p))) (eqb b 10) (λ t. mapped Q _ p.value _ (λ v e. f v (eqb-true _ _ t) e) h)
        (λ _. mapped Q _ _ _ (λ v e. let c = chained _ _ v e in g c.first v c.there c.second) h))

    pub stream_cases : (Q : Parser → Type 0) → p.line ≡ Stream → (b ≡ 10 → p.stream.high ≡ None → Q (on_line Whole p))
        → ((d : ℕ) → hex_value b ≡ Some d → p.stream.high ≡ None → Q (with_stream (digit_on None p.stream d) p))
        → ((v d : ℕ) → hex_value b ≡ Some d → p.stream.high ≡ Some v → Q (with_stream (digit_on (Some v) p.stream d) p))
        → Q (on_line Bad p) → Q (step p b)
    unfolding digit_of
    stream_cases Q l f g h k = rw (step-stream l) (by_value p.stream.high refl)
      where
        by_value : (o : Option ℕ) → p.stream.high ≡ o → Q (unwrap_or (digit_of o p b) (on_line Bad p))
        by_value None e =
            by_test (λ o. Q (unwrap_or o (on_line Bad p))) (eqb b 10) (λ t. f (eqb-true _ _ t) e) (λ _. mapped Q _ _ _ (λ d i. g d i e) k)
        by_value (Some v) e = mapped Q _ _ _ (λ d i. h v d i e) k

  -- ---- no byte may follow

  pub step_whole : p.line ≡ Whole → step p b ≡ on_line Bad p
  unfolding step next in_key key_of after_key
  step_whole e = rw e

  pub step_bad : p.line ≡ Bad → step p b ≡ on_line Bad p
  unfolding step next in_key key_of after_key
  step_bad e = rw e
