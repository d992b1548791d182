-- What a read finds: bytes, a number, or that bytes are missing, by the bytes left at its place. Each law is over k, the bytes that are read.
-- Assumes nothing.
use mathlib.Core.Path.{◌≡◌, sym, ◌∙◌}
use mathlib.Core.List.{List, []}
use mathlib.Core.Logic.{◌⊎◌, inl, inr}
use Prim.Native.Nat.{ℕ, ◌+◌, ◌*◌, ◌-◌, ◌≤◌, ◌<◌}
use native.Mathlib.Omega.{arith}
use denote.Bor.{Bor}
use lib.Dec.{leb}
use lib.ListN.{length, get_or, take, drop, drop_of_length-le, length-drop}
use lib.Seq.{take-length, get_or-take, get_or-drop}
use borrow.Author.Tests.{leb-true, leb-false, le-leb, lt-leb}
use Rattle.base.proofs.Tests.{by_test, apart}
use Rattle.std.specs.Prelude.{Option, Some, None, MatchOption, Result, Ok, Err}
use Rattle.std.specs.Option.{option_copied, ok_or, unwrap_or}
use Rattle.std.specs.List.{slice_range}
use Rattle.std.specs.Array.{IsFirstChunk}
use Rattle.picture.specs.declared.outcome.RleError.{RleError}
use Rattle.picture.specs.declared.outcome.RleError.TheVariants.{NotEnoughBytes}
use Rattle.buf.specs.Stream.{remaining, read_of, u8_at, u16_at}

module _ {A : Type 0} (k left : ℕ) (x : A) where
  pub enough : (v : A) → Ok v ≡ read_of k left x → (k ≤ left) × (v ≡ x)
  unfolding read_of
  enough v =
      by_test (λ (r : Result A RleError). Ok v ≡ r → (k ≤ left) × (v ≡ x)) (leb k left) (λ t e. (leb-true k left t, cc)) (λ t e. apart cc)

  pub too_few : (e : RleError) → Err e ≡ read_of k left x → (left < k) × (e ≡ NotEnoughBytes k left)
  unfolding read_of
  too_few e =
      by_test (λ (r : Result A RleError). Err e ≡ r → (left < k) × (e ≡ NotEnoughBytes k left)) (leb k left) (λ t p. apart cc) (λ t p. (leb-false k left t, cc))

  pub read_enough : k ≤ left → Ok x ≡ read_of k left x
  unfolding read_of
  read_enough h = rw (le-leb k left h)

  pub read_few : left < k → Err (NotEnoughBytes k left) ≡ read_of k left x
  unfolding read_of
  read_few h = rw (lt-leb k left h)

-- ---- how a read comes about

-- the bytes from a place on
pub rest_is : (s : List ℕ) (pos : ℕ) (none : Bor (List ℕ)) → none.now ≡ [] → (o : Option (Bor (List ℕ)))
    → MatchOption o ((length s < pos) ⊎ (length s < length s)) (λ x. (pos ≤ length s) × (length s ≤ length s) × (x.now ≡ slice_range s pos (length s)) × (length x.now + pos ≡ length s))
    → (unwrap_or o none).now ≡ drop pos s
rest_is s pos none empty None (inl h) = rw (empty, drop_of_length-le s {i = pos} (omega arith))
rest_is s pos none empty None (inr h) = absurd (omega arith)
rest_is s pos none empty (Some x) h = rw (h.2, ← length-drop pos s, take-length)

-- the first k of them
pub first_are : (s rest : List ℕ) (pos k : ℕ) → rest ≡ drop pos s → (o : Option (Bor (List ℕ))) → MatchOption o (length rest < k) (λ y. IsFirstChunk rest y.now k)
    → ok_or (option_copied o) (NotEnoughBytes k (length rest)) ≡ read_of k (length s - pos) (take k (drop pos s))
first_are s rest pos k e o h = rw (← e, ← length-drop pos s, ← e) (go o h)
  where
    go : (o : Option (Bor (List ℕ))) → MatchOption o (length rest < k) (λ y. IsFirstChunk rest y.now k)
        → ok_or (option_copied o) (NotEnoughBytes k (length rest)) ≡ read_of k (length rest) (take k rest)
    go None h = read_few k (length rest) (take k rest) h
    go (Some y) h = rw (h.same) (read_enough k (length rest) (take k rest) h.enough)

-- each of them
pub byte_read : (s : List ℕ) (pos k i : ℕ) → i < k → {xs : List ℕ} → xs ≡ take k (drop pos s) → get_or xs i 0 ≡ get_or s (pos + i) 0
byte_read s pos k i h e = rw (e, get_or-take k (drop pos s) i 0 h, get_or-drop)

-- ---- what the outcome of a read says

module _ (s : List ℕ) (pos : ℕ) (r : Result ℕ RleError) where
  pub u8_is : (b : ℕ) → r ≡ u8_at s pos → r ≡ Ok b → (1 ≤ length s - pos) × (b ≡ get_or s pos 0)
  unfolding u8_at remaining
  u8_is b e is = enough 1 (length s - pos) (get_or s pos 0) b (sym is ∙ e)

  pub u8_few : (e : RleError) → r ≡ u8_at s pos → r ≡ Err e → (length s - pos < 1) × (e ≡ NotEnoughBytes 1 (length s - pos))
  unfolding u8_at remaining
  u8_few e given is = too_few 1 (length s - pos) (get_or s pos 0) e (sym is ∙ given)

  pub u16_is : (v : ℕ) → r ≡ u16_at s pos → r ≡ Ok v → (2 ≤ length s - pos) × (v ≡ get_or s pos 0 + get_or s (pos + 1) 0 * 256)
  unfolding u16_at remaining
  u16_is v e is = enough 2 (length s - pos) (get_or s pos 0 + get_or s (pos + 1) 0 * 256) v (sym is ∙ e)

  pub u16_few : (e : RleError) → r ≡ u16_at s pos → r ≡ Err e → (length s - pos < 2) × (e ≡ NotEnoughBytes 2 (length s - pos))
  unfolding u16_at remaining
  u16_few e given is = too_few 2 (length s - pos) (get_or s pos 0 + get_or s (pos + 1) 0 * 256) e (sym is ∙ given)
