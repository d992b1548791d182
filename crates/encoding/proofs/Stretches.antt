-- Laws of stretches: how far one goes, what holds in it, and how it is known. Assumes nothing.
use mathlib.Core.Path.{◌≡◌, refl, ap}
use mathlib.Core.Bool.{Bool, true, false}
use Prim.Native.Nat.{ℕ, zero, suc, ◌+◌, ◌≤◌, ◌<◌}
use native.Mathlib.Nat.{add-zero, le_refl}
use native.Mathlib.Omega.{arith}
use lib.Dec.{eqb}
use borrow.Author.Tests.{eq-eqb, ne_eqb, eqb-true}
use Rattle.base.specs.Picks.{pick}
use Rattle.base.proofs.Tests.{by_less, before_or_last, clash, both_true, same_test}
use Rattle.encoding.specs.Encode.{stretch}

module _ (passes : ℕ → Bool) where
  pub stretch_le : (k n : ℕ) → stretch passes k n ≤ n
  unfolding stretch
  stretch_le k zero = le_refl 0
  stretch_le k (suc n) = go (passes k) (stretch_le (suc k) n)
    where
      go : (t : Bool) → stretch passes (suc k) n ≤ n → pick t (suc (stretch passes (suc k) n)) 0 ≤ suc n
      go true h = omega arith
      go false h = omega arith

  -- each place in it passes
  pub stretch_passes : (k n i : ℕ) → i < stretch passes k n → passes (k + i) ≡ true
  unfolding stretch
  stretch_passes k zero i h = absurd (omega arith)
  stretch_passes k (suc n) i h = go (passes k) refl i h (λ j b. stretch_passes (suc k) n j b)
    where
      go : (t : Bool) → passes k ≡ t → (i : ℕ) → i < pick t (suc (stretch passes (suc k) n)) 0
          → ((j : ℕ) → j < stretch passes (suc k) n → passes (suc k + j) ≡ true) → passes (k + i) ≡ true
      go false e i b next = absurd (omega arith)
      go true e zero b next = rw add-zero e
      go true e (suc i) b next =
          let g : k + suc i ≡ suc k + i = omega arith in
          rw g (next i (omega arith))

  -- a stretch of m: m places pass, and the next one does not or is past the end
  pub stretch-is : (k n m : ℕ) → m ≤ n → ((i : ℕ) → i < m → passes (k + i) ≡ true) → (m < n → passes (k + m) ≡ false) → stretch passes k n ≡ m
  unfolding stretch
  stretch-is k zero m h a b = omega arith
  stretch-is k (suc n) zero h a b = rw (rw add-zero at (b (omega arith)))
  stretch-is k (suc n) (suc m) h a b =
      let g : k + suc m ≡ suc k + m = omega arith in
      rw (rw add-zero at (a 0 (omega arith)))
      (ap suc (stretch-is (suc k) n m (omega arith)
      (λ i c.
      let e : suc k + i ≡ k + suc i = omega arith in
      rw e (a (suc i) (omega arith)))
      (λ c. rw g at (b (omega arith)))))

  -- the place behind it does not pass, where it is not the last
  pub stretch-stops : (k n : ℕ) → stretch passes k n < n → passes (k + stretch passes k n) ≡ false
  unfolding stretch
  stretch-stops k zero h = absurd (omega arith)
  stretch-stops k (suc n) h = go (passes k) refl h (λ b. stretch-stops (suc k) n b)
    where
      go : (t : Bool) → passes k ≡ t → pick t (suc (stretch passes (suc k) n)) 0 < suc n
          → (stretch passes (suc k) n < n → passes (suc k + stretch passes (suc k) n) ≡ false)
          → passes (k + pick t (suc (stretch passes (suc k) n)) 0) ≡ false
      go false e b next = rw add-zero e
      go true e b next =
          let g : k + suc (stretch passes (suc k) n) ≡ suc k + stretch passes (suc k) n = omega arith in
          rw g (next (omega arith))

  -- a stretch of at least m
  pub stretch_reaches : (k n m : ℕ) → m ≤ n → ((i : ℕ) → i < m → passes (k + i) ≡ true) → m ≤ stretch passes k n
  stretch_reaches k n m h a =
      by_less (stretch passes k n) m (λ b. clash (a (stretch passes k n) b) (stretch-stops k n (omega arith))) (λ b. b)

  -- ---- a stretch of all n places

  pub whole : (k n : ℕ) → ((i : ℕ) → i < n → passes (k + i) ≡ true) → stretch passes k n ≡ n
  whole k n a = stretch-is k n n (le_refl n) a (λ h. absurd (omega arith))

  pub whole_none : (k : ℕ) → eqb (stretch passes k 0) 0 ≡ true
  unfolding stretch
  whole_none k = refl

  pub whole_more : (k n : ℕ) → eqb (stretch passes k (n + 1)) (n + 1) ≡ pick (eqb (stretch passes k n) n) (passes (k + n)) false
  whole_more k n =
      same_test (eqb (stretch passes k (n + 1)) (n + 1)) (pick (eqb (stretch passes k n) n) (passes (k + n)) false)
      (λ e.
      let all : stretch passes k (n + 1) ≡ n + 1 = eqb-true (stretch passes k (n + 1)) (n + 1) e in
      let before = whole k n (λ i h. stretch_passes k (n + 1) i (omega arith)) in
      rw (eq-eqb (stretch passes k n) n before) (stretch_passes k (n + 1) n (omega arith)))
      (λ e.
      let b = both_true (eqb (stretch passes k n) n) (passes (k + n)) e in
      let before : stretch passes k n ≡ n = eqb-true (stretch passes k n) n b.0 in
      eq-eqb (stretch passes k (n + 1)) (n + 1) (whole k (n + 1)
      (λ i h. before_or_last i n (omega arith) (λ l. stretch_passes k n i (omega arith)) (λ l. rw l b.1))))

  pub whole_fails : (k n i : ℕ) → i < n → passes (k + i) ≡ false → eqb (stretch passes k n) n ≡ false
  whole_fails k n i h e = ne_eqb (stretch passes k n) n (λ all. clash (stretch_passes k n i (omega arith)) e)

  pub whole_one : (k : ℕ) → eqb (stretch passes k 1) 1 ≡ passes k
  unfolding stretch
  whole_one k = go (passes k)
    where
      go : (t : Bool) → eqb (pick t 1 0) 1 ≡ t
      go true = refl
      go false = refl
