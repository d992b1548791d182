-- Palette look gives the lowest index that has the triple, and nothing exactly if none has it; no other answer is right. Assumes nothing.
use mathlib.Core.Path.{◌≡◌, refl, sym, ◌∙◌}
use mathlib.Core.List.{List, [], ◌∷◌, ◌++◌}
use mathlib.Core.Bool.{true, false}
use Prim.Native.Nat.{ℕ, zero, suc, ◌+◌, ◌≤◌, ◌<◌, zero-le}
use native.Mathlib.Omega.{arith}
use lib.Dec.{leb}
use lib.ListN.{length, get_or, replicate}
use borrow.Author.Tests.{leb-true, leb-false, le-leb}
use Rattle.base.proofs.Tests.{by_test, by_less, before_or_last, clash, apart}
use Rattle.picture.specs.Pixels.{pixel_at, first_pixel}
use Rattle.picture.proofs.Pixels.{length-first_pixel}
use Rattle.std.specs.Prelude.{Option, Some, None, MatchOption}
use Rattle.std.specs.List.{AllWithin, HoldsAt}
use Rattle.std.specs.Str.{bytes_eq}
use Rattle.std.proofs.lemmas.Slice.Eq.{bytes_eq-Decides}
use Rattle.color.specs.Colors.{Triple, same_triple, entry}
use Rattle.color.specs.Look.{Looked, lowest_from, lowest_index}
use Rattle.color.proofs.Triples.{same-equal, equal-same}

-- ---- a palette whose entries repeat, by computing

-- 254 black entries, then twice another color
abbrev repeating : List ℕ
repeating = replicate 762 0 ++ (10 ∷ 20 ∷ 30 ∷ 10 ∷ 20 ∷ 30 ∷ [])

pub repeats_computed :
    (lowest_index repeating (0 ∷ 0 ∷ 0 ∷ []) ≡ Some 0) × (lowest_index repeating (10 ∷ 20 ∷ 30 ∷ []) ≡ Some 254)
    × (lowest_index repeating (30 ∷ 20 ∷ 10 ∷ []) ≡ None)
unfolding lowest_index lowest_from entry same_triple pixel_at first_pixel
repeats_computed = (refl, refl, refl)

-- ---- what the definition says

module _ (palette : List ℕ) (t : Triple) (three : length t ≡ 3) where
  has_triple : (i : ℕ) → same_triple (entry palette i) t ≡ true → entry palette i ≡ t
  unfolding entry pixel_at
  has_triple i = same-equal (entry palette i) t (length-first_pixel 3 _) three

  lacks_triple : (i : ℕ) → same_triple (entry palette i) t ≡ false → entry palette i ≡ t → ⊥
  lacks_triple i e h = apart (cc (equal-same (entry palette i) t h, e))

  -- the n entries from index i on are the last, and none before has the triple
  looked_from : (i n : ℕ) → i + n ≡ 256 → 768 ≤ length palette → ((k : ℕ) → k < i → entry palette k ≡ t → ⊥)
      → Looked palette t (lowest_from palette t i n)
  unfolding lowest_from
  looked_from i zero e long none = λ k m. none k (omega (arith, m.index)) m.equal
  looked_from i (suc n) e long none =
      by_test (Looked palette t) (same_triple (entry palette i) t)
      (λ h. (record { long = long; index = omega arith; equal = has_triple i h }, λ k l m. none k l m.equal))
      (λ h. looked_from (suc i) n (omega arith) long (λ k l. before_or_last k i l (none k) (λ j. rw j (lacks_triple i h))))

  pub lowest_looked : Looked palette t (lowest_index palette t)
  unfolding lowest_index
  lowest_looked =
      by_test (Looked palette t) (leb 768 (length palette))
      (λ h. looked_from 0 256 refl (leb-true 768 (length palette) h) (λ k l. absurd (omega arith)))
      (λ h i m. apart (omega (arith, m.long, leb-false 768 (length palette) h)))

  only_answer : (r s : Option ℕ) → Looked palette t r → Looked palette t s → r ≡ s
  only_answer (Some i) (Some k) p q =
      by_less i k (λ l. absurd (q.1 i l p.0))
      (λ h. by_less k i (λ l. absurd (p.1 k l q.0)) (λ l. let e : i ≡ k = omega arith in rw e refl))
  only_answer (Some i) None p q = absurd (q i p.0)
  only_answer None (Some k) p q = absurd (p k q.0)
  only_answer None None p q = refl

  pub looked_lowest : (r : Option ℕ) → Looked palette t r → r ≡ lowest_index palette t
  looked_lowest r p = only_answer r (lowest_index palette t) p lowest_looked

-- ---- what a search over the entries finds

module _ (palette : List ℕ) (t : Triple) (long : 768 ≤ length palette) (entries : List Triple) (count : length entries ≡ 256)
    (are : (i : ℕ) (d : Triple) → i < 256 → get_or entries i d ≡ entry palette i) where
  abbrev Differs : Triple → Type 0
  Differs e = bytes_eq e t ≡ false

  differs_lem : (k : ℕ) → k < 256 → Differs (get_or entries k []) → entry palette k ≡ t → ⊥
  differs_lem k h e is = clash ((bytes_eq-Decides (get_or entries k []) t).1 (are k [] h ∙ is)) e

  pub looked_first : (r : Option ℕ)
      → MatchOption r (AllWithin Differs entries 0 (length entries))
      (λ i. (i < length entries) × HoldsAt (λ e. bytes_eq e t ≡ true) entries i × AllWithin Differs entries 0 i) → Looked palette t r
  looked_first None none = λ i m. differs_lem i m.index (none i [] zero-le (rw count m.index)) m.equal
  looked_first (Some i) (h, e, before) =
      let index : i < 256 = rw count at h in (
        record { long = long; index = index; equal = sym (are i [] index) ∙ (bytes_eq-Decides (get_or entries i []) t).0 (e []) },
        λ k b m. differs_lem k m.index (before k [] zero-le b) m.equal,
      )

-- ---- two palettes

module _ (p q : List ℕ) (t : Triple) (agree : (k : ℕ) → k < 256 → entry p k ≡ entry q k) where
  agree_from : (i n : ℕ) → i + n ≤ 256 → lowest_from p t i n ≡ lowest_from q t i n
  unfolding lowest_from
  agree_from i zero h = refl
  agree_from i (suc n) h = rw (agree i (omega arith), agree_from (suc i) n (omega arith)) refl

  -- palettes with the same 256 entries have one index for each triple, whatever stands behind the entries
  pub entries_decide : 768 ≤ length p → 768 ≤ length q → lowest_index p t ≡ lowest_index q t
  unfolding lowest_index
  entries_decide hp hq = rw (le-leb 768 (length p) hp, le-leb 768 (length q) hq) (agree_from 0 256 (omega arith))
