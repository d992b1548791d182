-- `same_picture` meets its contract: a test that fails rules out that the pictures are alike, and after both of them the bytes decide.
-- Assumes nothing.
use mathlib.Core.Path.{◌≡◌, refl, sym, ◌∙◌}
use Prim.Native.Nat.{◌*◌, ◌≤◌}
use native.Mathlib.Omega.{arith}
use lib.ListN.{length}
use lib.Seq.{length-take-le}
use Rattle.std.proofs.Common.{rules, tests}
use Rattle.std.proofs.lemmas.Bool.Decides.{Decides-eqb, same_from_decides}
use Rattle.std.proofs.lemmas.Grind.{common_steps}
use Rattle.std.proofs.lemmas.Slice.Eq.{slice_eq-Decides}
use Rattle.base.proofs.Tests.{clash, both_true}
use Rattle.color.proofs.Bytes.{same_bytes-Decides}
use Rattle.color.proofs.Meaning.{differs, bytes_decide}
use Rattle.color.proofs.Valid.{valid-painted}
use Rattle.color.proofs.same.same_picture.Goals as goal

pub returns-then-ne : goal.returns-then-ne
returns-then-ne c =
    let differ : c.args.p ≡ c.args.q → ⊥ = grind (arith, common_steps) in
    differs _ _ _ (λ s. differ (λ i. record { pixels = s.counts i; width = s.widths i; height = s.heights i; bpp = s.depths i }))

pub returns-then-not-are_valid : goal.returns-then-not-are_valid
returns-then-not-are_valid c =
    let same : c.args.p ≡ c.args.q = search (rules, tests) in
    differs _ _ _ (λ s. clash (rw (s.first, same) s.second) (sym c.are_valid.ensures ∙ c.if-not-are_valid.true))

pub overflow_mul-painted : goal.overflow_mul-painted
overflow_mul-painted c =
    let v = both_true _ _ (sym c.are_valid.ensures ∙ c.if-not-are_valid.false) in
    rw c.bytes_per_pixel.ensures (omega (arith, (valid-painted _ _ v.0).few))

pub slice_bounds-eq-end : goal.slice_bounds-eq-end
slice_bounds-eq-end c =
    let v = both_true _ _ (sym c.are_valid.ensures ∙ c.if-not-are_valid.false) in
    sym (length-take-le _ _ (rw c.bytes_per_pixel.ensures (valid-painted _ _ v.0).within))

pub slice_bounds-eq-end-2 : goal.slice_bounds-eq-end-2
slice_bounds-eq-end-2 c =
    let same : c.args.p ≡ c.args.q = search (rules, tests) in
    let v = both_true _ _ (sym c.are_valid.ensures ∙ c.if-not-are_valid.false) in
    sym (length-take-le _ _ (rw c.bytes_per_pixel.ensures (valid-painted _ _ v.1).within))

pub returns : goal.returns
returns c =
    let same : c.args.p ≡ c.args.q = search (rules, tests) in
    let v = both_true _ _ (sym c.are_valid.ensures ∙ c.if-not-are_valid.false) in
    let a : c.args.p.pixels * c.bytes_per_pixel.result ≤ length c.args.a.now = rw c.bytes_per_pixel.ensures (valid-painted _ _ v.0).within in
    let b : c.args.p.pixels * c.bytes_per_pixel.result ≤ length c.args.b.now = rw c.bytes_per_pixel.ensures (valid-painted _ _ v.1).within in
    rw (← same)
    (same_from_decides _ _ (slice_eq-Decides Decides-eqb _ _ _ c.eq.ensures) (same_bytes-Decides c.args.a.now c.args.b.now (c.args.p.pixels * c.bytes_per_pixel.result) a b)
    ∙ rw c.bytes_per_pixel.ensures (bytes_decide _ _ _ v.0 v.1 refl refl refl refl))
