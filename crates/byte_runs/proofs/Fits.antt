-- Laws of tests and places: when bytes and pixels are there, and a run that is written where a test holds. Assumes nothing.
use mathlib.Core.Path.{◌≡◌, refl, sym, ap, ◌∙◌}
use mathlib.Core.List.{List}
use mathlib.Core.Bool.{Bool, true, false}
use Prim.Native.Nat.{ℕ, ◌+◌, ◌*◌, ◌≤◌}
use lib.Dec.{leb}
use lib.ListN.{length}
use borrow.Author.Tests.{le-leb}
use Rattle.byte_runs.specs.Runs.{run, run_where, both, there, pixels_there, above}

-- ---- tests

pub both_hold : (s t : Bool) → s ≡ true → t ≡ true → both s t ≡ true
both_hold s t e f = rw e f

both_left : (s t : Bool) → t ≡ true → both s t ≡ s
both_left true t e = e
both_left false t e = refl

-- ---- places

pub is-there : (at n : ℕ) (l : List ℕ) → at + n ≤ length l → there at n l ≡ true
is-there at n l h = le-leb (at + n) (length l) h

-- n pixels of d bytes from `at` on
module _ (d at n : ℕ) (l : List ℕ) where
  pub pixels-there : 1 ≤ d → d ≤ 3 → at + n * d ≤ length l → pixels_there d at n l ≡ true
  pixels-there low high h = rw (le-leb 1 d low, le-leb d 3 high, is-there at (n * d) l h) refl

-- ---- a run where a test holds

module _ (test : Bool) (v : List ℕ → ℕ → ℕ) (at n : ℕ) (l : List ℕ) where
  pub where_holds : {new : List ℕ} → test ≡ true → new ≡ run v at n l → new ≡ run_where test v at n l
  where_holds e r = r ∙ rw e refl

-- a run where two tests hold, of which one does
pub where_left : (s t : Bool) (v : List ℕ → ℕ → ℕ) (at n : ℕ) (l : List ℕ) → t ≡ true → run_where s v at n l ≡ run_where (both s t) v at n l
where_left s t v at n l e = ap (λ (b : Bool). run_where b v at n l) (sym (both_left s t e))

-- a copy from a row back whose bytes are there
pub back-there : (at n row : ℕ) (new l : List ℕ) → row ≤ at → at + n ≤ length l
    → new ≡ run_where (both (leb row at) (there at n l)) (above at row) at n l → new ≡ run (above at row) at n l
back-there at n row new l g h e = e ∙ rw (le-leb row at g, is-there at n l h) refl
