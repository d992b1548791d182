-- What one read gives is what stands behind the bytes before it, so the start of `buf` grows by what `input` lost.
use Rattle.std.proofs.Common.{◌≡◌, ℕ, ◌+◌, ◌≤◌, List, ◌++◌, rules, length, take, drop, sym, ap, ◌∙◌, subst, le_refl, drop_at, length-take-le}
use Rattle.std.proofs.lemmas.Slice.{take-put_mid_below}
use Rattle.std.specs.Io.KnownBytes.{Consumes}
use Rattle.std.proofs.KnownBytes.{Consumes-trans}
use borrow.Rule.Slice.PartMut.{put_mid, post_of}
use lib.Seq.{take-add, take-append-le}
use Rattle.replay.proofs.read_full.Goals as goal

-- The bytes before `a`, and then the n bytes that were put there.
joined : (a k n : ℕ) (xs ys : List ℕ) → a ≤ length xs → n ≤ length ys → take a xs ++ take n ys ≡ take (a + n) (put_mid a k xs ys)
joined a k n xs ys within fits =
    let new : List ℕ = put_mid a k xs ys in
    let front : take a new ≡ take a xs = take-put_mid_below _ _ _ _ _ (le_refl _) within in
    let part : take n (drop a new) ≡ take n ys =
    ap (take n) (drop_at (take a xs) (ys ++ post_of a k xs) a (length-take-le a xs within)) ∙ take-append-le n ys (post_of a k xs) fits in
    sym (take-add a n new ∙ ap (λ l. l ++ take n (drop a new)) front ∙ ap (λ l. take a xs ++ l) part)

pub loop-done-preserved : goal.loop-done-preserved
loop-done-preserved g c = record {
  within = search rules;
  same_length = search rules;
  bytes = subst (Consumes _ _) (joined _ _ _ _ _ c.loop-done.invariant.within c.in_ok-n.ensures.bound.0) (Consumes-trans _ _ _ _ _ c.loop-done.invariant.bytes c.in_ok-n.ensures.bytes.0);
}
