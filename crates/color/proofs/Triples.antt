-- Laws of triples: the test by bytes is equality. Assumes nothing.
use mathlib.Core.Path.{◌≡◌, refl, sym, ◌∙◌}
use mathlib.Core.List.{[], ◌∷◌}
use mathlib.Core.Bool.{Bool, true}
use lib.Dec.{eqb}
use lib.ListN.{length, get_or}
use borrow.Author.Tests.{eq-eqb, eqb-true}
use Rattle.base.proofs.Tests.{both_true}
use Rattle.picture.proofs.Pixels.{three}
use Rattle.color.specs.Colors.{Triple, both, same_triple}

pub all_true : (a b c : Bool) → both a (both b c) ≡ true → (a ≡ true) × (b ≡ true) × (c ≡ true)
all_true a b c e =
    let p = both_true a (both b c) e in
    let q = both_true b c p.1 in
    (p.0, q.0, q.1)

pub same-equal : (s t : Triple) → length s ≡ 3 → length t ≡ 3 → same_triple s t ≡ true → s ≡ t
unfolding same_triple
same-equal s t ls lt e =
    let h = all_true (eqb (get_or s 0 0) (get_or t 0 0)) (eqb (get_or s 1 0) (get_or t 1 0)) (eqb (get_or s 2 0) (get_or t 2 0)) e in
    let e₀ = eqb-true (get_or s 0 0) (get_or t 0 0) h.0 in
    let e₁ = eqb-true (get_or s 1 0) (get_or t 1 0) h.1 in
    let e₂ = eqb-true (get_or s 2 0) (get_or t 2 0) h.2 in
    three s ls ∙ (λ j. e₀ j ∷ e₁ j ∷ e₂ j ∷ []) ∙ sym (three t lt)

pub equal-same : (s t : Triple) → s ≡ t → same_triple s t ≡ true
unfolding same_triple
equal-same s t e = rw e (simp (eq-eqb (get_or t 0 0) _ refl, eq-eqb (get_or t 1 0) _ refl, eq-eqb (get_or t 2 0) _ refl))
