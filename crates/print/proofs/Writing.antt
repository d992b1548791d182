-- What the functions promise, put together: one text after the other is both, a turn of the loop is one byte more. Assumes nothing.
use mathlib.Core.Path.{◌≡◌, refl, ◌∙◌, ap, sym, subst}
use mathlib.Core.List.{List, [], ◌∷◌, ◌++◌}
use Prim.Native.Nat.{ℕ, suc, ◌+◌, ◌/◌, ◌%◌, ◌<◌, ◌≤◌, min}
use native.Mathlib.Nat.{zero-add, add-zero, add-suc, suc-add}
use native.Mathlib.Numerals.{add-one}
use native.Mathlib.Omega.{arith}
use lib.ListN.{length, get_or, take, drop, set, length-append}
use lib.Seq.{sets, sets-eq, take-suc, set_out, length-sets}
use Rattle.print.specs.Text.{line}
use Rattle.print.specs.Digits.{hex_digit, hex_pairs}
use Rattle.print.specs.Writes.{Writes, Prints, largest}
use Rattle.print.specs.declared.Output.{Output}
use Rattle.print.proofs.Printed.{pairs_append}
use Rattle.base.proofs.Tests.{by_less}

sets_append : (l : List ℕ) (i : ℕ) (xs ys : List ℕ) → sets l i (xs ++ ys) ≡ sets (sets l i xs) (i + length xs) ys
sets_append l i [] ys = rw add-zero
sets_append l i (x ∷ xs) ys = sets_append (set l i x) (suc i) xs ys ∙ rw (add-suc, suc-add)

-- from the end on nothing is stored
sets_out : (l : List ℕ) (i : ℕ) (xs : List ℕ) → length l ≤ i → sets l i xs ≡ l
sets_out l i [] h = refl
sets_out l i (x ∷ xs) h = ap (λ (k : List ℕ). sets k (suc i) xs) (set_out l i x h) ∙ sets_out l (suc i) xs (omega arith)

-- a place past the largest stores nothing, and neither does the largest
sets_cut : (l : List ℕ) (i j : ℕ) (xs : List ℕ) → length l ≤ largest → i ≡ min j largest → sets l i xs ≡ sets l j xs
sets_cut l i j xs h e =
    by_less j largest (λ less. let same : i ≡ j = omega arith in rw same)
    (λ more. sets_out l i xs (omega arith) ∙ sym (sets_out l j xs (omega arith)))

pub writes_none : (l : List ℕ) (at : ℕ) → length l ≤ largest → at ≤ largest → Writes l at [] l at
writes_none l at h k = record { place = omega arith; written = refl; size = h }

pub writes_append : {a b c s t : List ℕ} {at k r : ℕ} → Writes a at s b k → Writes b k t c r → Writes a at (s ++ t) c r
writes_append {a} {b} {c} {s} {t} {at} {k} {r} v w =
    record {
      place = omega (arith, length-append s t);
      written =
          w.written ∙ ap (λ (l : List ℕ). sets l k t) v.written
          ∙ sets_cut (sets a at s) k (at + length s) t (rw length-sets v.size) v.place
          ∙ sym (sets_append a at s t);
      size = v.size;
    }

pub writes_as : {a b s t : List ℕ} {at r : ℕ} → s ≡ t → Writes a at s b r → Writes a at t b r
writes_as {a} {b} {s} {t} {at} {r} e w = subst (λ (l : List ℕ). Writes a at l b r) e w

-- ---- a text printed

pub prints_none : (o : Output) → length o.buffer.now ≤ largest → o.place ≤ largest → Prints o [] o
prints_none o h k = record { writes = writes_none _ _ h k; same_buffer = refl }

pub prints_append : {a b c : Output} {s t : List ℕ} → Prints a s b → Prints b t c → Prints a (s ++ t) c
prints_append v w = record { writes = writes_append v.writes w.writes; same_buffer = w.same_buffer ∙ v.same_buffer }

pub prints_as : {a b : Output} {s t : List ℕ} → s ≡ t → Prints a s b → Prints a t b
prints_as {a} {b} e w = subst (λ (l : List ℕ). Prints a l b) e w

pub prints_line : {a b c d : Output} {key value : List ℕ} → Prints a key b → Prints b value c → Prints c (10 ∷ []) d
    → Prints a (line key value) d
unfolding line
prints_line u v w = prints_append (prints_append u v) w

-- a turn of the loop: one byte more
pub prints_more : {a b c : Output} (xs : List ℕ) (i : ℕ) → i < length xs → Prints a (take i xs) b → Prints b (get_or xs i 0 ∷ []) c
    → Prints a (take (i + 1) xs) c
prints_more xs i h v w = prints_as (sym (rw (add-one) (take-suc xs i 0 h))) (prints_append v w)

-- the two digits of one byte more
pub pairs_more : {a b c d : Output} (xs : List ℕ) (i : ℕ) → i < length xs → Prints a (hex_pairs (take i xs)) b
    → Prints b (hex_digit (get_or xs i 0 / 16) ∷ []) c → Prints c (hex_digit (get_or xs i 0 % 16) ∷ []) d
    → Prints a (hex_pairs (take (i + 1) xs)) d
unfolding hex_pairs
pairs_more xs i h u v w =
    prints_as (sym (rw (add-one, take-suc xs i 0 h) (pairs_append (take i xs) (get_or xs i 0 ∷ [])))) (prints_append u (prints_append v w))

-- nothing before the text, and what the output held after it
pub from_start : {l text out : List ℕ} {r : ℕ} → Writes l 0 text out r → length text ≤ length l → out ≡ text ++ drop (length text) l
from_start {l} {text} {out} {r} w h = w.written ∙ sets-eq text l 0 (omega arith) ∙ rw zero-add
