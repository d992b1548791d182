-- What the contracts of `compress` and `decompress` and the laws of the rule amount to. Assumes nothing.
use mathlib.Core.Path.{◌≡◌, refl, ap, sym, ◌∙◌, subst}
use mathlib.Core.List.{List}
use mathlib.Core.Bool.{Bool, true, false}
use Prim.Native.Nat.{ℕ, ◌*◌, ◌≤◌}
use native.Mathlib.Omega.{arith}
use lib.Dec.{leb, ltb, eqb}
use lib.ListN.{length, take, drop, length-append}
use lib.Seq.{take-append_seam}
use borrow.Author.Tests.{le-leb, ltb-false}
use Rattle.std.specs.Prelude.{Result}
use Rattle.base.specs.Picks.{pick}
use Rattle.base.proofs.Tests.{apart, by_test}
use Rattle.picture.specs.Sizes.{Refusal, refusal, depth_index, depth_of, Frame, Checked, refused, accepted, accept, checked, with_space, size_of}
use Rattle.picture.specs.Pixels.{bytes_of}
use Rattle.picture.proofs.Pixels.{length-pixels_of}
use Rattle.picture.proofs.Sizes.{sized}
use Rattle.definition.specs.Decode.{result, Summary}
use Rattle.rle.specs.declared.report.Report.{Report}
use Rattle.rle.specs.Report.{Decompresses}
use Rattle.rle.specs.Guarantees.{HasSpace}
use Rattle.rle.proofs.Theorems.{defined}
use Rattle.encoding.specs.Encode.{encode}
use Rattle.encoding.specs.Bound.{bound}
use Rattle.encoding.specs.Compress as rule
use Rattle.encoding.proofs.Bound.{bound_holds}
use Rattle.encoding.proofs.RoundTrip.{encoded-back, bytes_back}
use Rattle.encode.specs.declared.error.CompressError.{CompressError}
use Rattle.encode.specs.Promises.{refusal_in, length_in, Compresses}
use Rattle.round_trip.specs.Guarantee.{is_accepted, HasPicture, ComesBack}

-- ---- depth and sizes

record Good (src : List ℕ) (bpp w h : ℕ) (f : Frame) (k : ℕ) : Type 0 where
  is : checked bpp w h ≡ accepted f k
  there : f.total * f.bytes ≤ length src

space_accepted : (given : ℕ) (x : Checked) (f : Frame) (k : ℕ) → with_space given x ≡ accepted f k → (x ≡ accepted f k) × (f.total * f.bytes ≤ given)
unfolding with_space
space_accepted given (refused r) f k e = apart cc
space_accepted given (accepted g j) f k e = go (ltb given (g.total * g.bytes)) refl e
  where
    go : (t : Bool) → ltb given (g.total * g.bytes) ≡ t → pick t (refused (refusal 4 (g.total * g.bytes) given)) (accepted g j) ≡ accepted f k
        → (accepted g j ≡ accepted f k) × (f.total * f.bytes ≤ given)
    go true q e = apart cc
    go false q e =
        let same : g ≡ f = cc in
        (e, subst (λ (x : Frame). x.total * x.bytes ≤ given) same (ltb-false given (g.total * g.bytes) q))

-- a refusal before the pixels has a number
abbrev Numbered : Checked → Type 0
Numbered (refused r) = r.number ≡ 0 → ⊥
Numbered (accepted f k) = Unit {0}

checked_numbered : (bpp w h : ℕ) → Numbered (checked bpp w h)
unfolding checked accept
checked_numbered bpp w h =
    by_test Numbered (leb 4 (depth_index bpp)) (λ _ e. omega arith)
    (λ _. by_test Numbered (eqb w 0) (λ _ e. omega arith)
    (λ _. by_test Numbered (eqb h 0) (λ _ e. omega arith)
    (λ _. by_test Numbered (ltb 8192 w) (λ _ e. omega arith) (λ _. by_test Numbered (ltb 8192 h) (λ _ e. omega arith) (λ _. tt)))))

space_numbered : (given : ℕ) (x : Checked) → Numbered x → Numbered (with_space given x)
unfolding with_space
space_numbered given (refused r) n = n
space_numbered given (accepted f k) n = by_test Numbered (ltb given (f.total * f.bytes)) (λ _ e. omega arith) (λ _. tt)

-- ---- what `compress` wrote

-- the stream of a good picture
data Encoded (src : List ℕ) (bpp w h : ℕ) : rule.Compressed → Type 0 where
  encoded : {f : Frame} {k : ℕ} → Good src bpp w h f k → Encoded src bpp w h (rule.stream (encode f src))

module _ (src : List ℕ) (bpp w h given : ℕ) where
  in_output_lem : (f : Frame) (k : ℕ) → Good src bpp w h f k → (rule.refusal_of (rule.in_output given (encode f src))).number ≡ 0
      → Encoded src bpp w h (rule.in_output given (encode f src))
  unfolding rule.in_output rule.refusal_of
  in_output_lem f k g = go (leb (length (encode f src)) given)
    where
      go : (t : Bool) → (rule.refusal_of (pick t (rule.stream (encode f src)) (rule.refused (refusal 14 0 0)))).number ≡ 0
          → Encoded src bpp w h (pick t (rule.stream (encode f src)) (rule.refused (refusal 14 0 0)))
      go true e = encoded g
      go false e = absurd (omega arith)

  encoded-is : (rule.refusal_of (rule.compressed given src bpp w h)).number ≡ 0 → Encoded src bpp w h (rule.compressed given src bpp w h)
  unfolding rule.compressed rule.of_checked rule.refusal_of
  encoded-is = go (with_space (length src) (checked bpp w h)) refl (space_numbered (length src) (checked bpp w h) (checked_numbered bpp w h))
    where
      go : (x : Checked) → with_space (length src) (checked bpp w h) ≡ x → Numbered x → (rule.refusal_of (rule.of_checked given src x)).number ≡ 0
          → Encoded src bpp w h (rule.of_checked given src x)
      go (refused r) q n e = absurd (n e)
      go (accepted f k) q n e =
          let g = space_accepted (length src) (checked bpp w h) f k q in
          in_output_lem f k (record { is = g.0; there = g.1 }) e

length-output : (before : List ℕ) (x : rule.Compressed) → rule.length_of x ≤ length (rule.output x before)
unfolding rule.length_of rule.output
length-output before (rule.stream s) = rw length-append (omega arith)
length-output before (rule.refused r) = omega arith

pub length-inside : (src : List ℕ) (bpp w h : ℕ) (before after : List ℕ) (r : Result ℕ CompressError) → Compresses src bpp w h before after r → length_in r ≤ length after
length-inside src bpp w h before after r c = rw (c.size, c.output) (length-output before (rule.compressed (length before) src bpp w h))

-- ---- both calls

module _ (src : List ℕ) (bpp w h : ℕ) (output written : List ℕ) (answer : Result ℕ CompressError) (c : Compresses src bpp w h output written answer) where
  pub not_refused : HasPicture src bpp w h → bound bpp w h ≤ length output → refusal_in answer ≡ refusal 0 0 0
  unfolding rule.compressed rule.of_checked rule.in_output rule.refusal_of
  not_refused p b = c.refusal ∙ go (with_space (length src) (checked bpp w h)) refl p
    where
      go : (x : Checked) → with_space (length src) (checked bpp w h) ≡ x → is_accepted x → rule.refusal_of (rule.of_checked (length output) src x) ≡ refusal 0 0 0
      go (refused r) q a = absurd a
      go (accepted f k) q a =
          let g = space_accepted (length src) (checked bpp w h) f k q in
          rw (le-leb (length (encode f src)) (length output) (omega (arith, bound_holds bpp w h k f src g.0)))

  -- the stream of the frame f, decoded
  stream-back : (f : Frame) (k : ℕ) → Good src bpp w h f k → (before after : List ℕ) (r : Report) → Decompresses (encode f src) bpp w h before after r
      → HasSpace before bpp w h → ComesBack src bpp w h before after r
  unfolding accept size_of
  stream-back f k g before after r d s =
      let b = encoded-back bpp w h k f src g.is in
      let n = sized bpp w h (f.total * f.bytes) (sym (ap size_of g.is)) in
      let whole : f.total ≡ w * h = cc (n.checks, g.is) in
      let depth : f.bytes ≡ (depth_of bpp).bytes = cc (n.checks, g.is) in
      let told : k ≡ (depth_of bpp).format = cc (n.checks, g.is) in
      let x = defined (encode f src) bpp w h before after r d s in
      let report = x.report in
      let count : r.pixels ≡ w * h = ap (λ (y : Summary). y.pixels) report ∙ rw (b, length-pixels_of) whole in
      let bytes : (result (encode f src) bpp w h).bytes ≡ (depth_of bpp).bytes = rw b depth in
      record {
        refusal = ap (λ (y : Summary). y.refusal) report ∙ rw b refl;
        format = ap (λ (y : Summary). y.format) report ∙ rw b told;
        pixels = count;
        bytes =
            (rw (count, bytes) at x.painted)
            ∙ ap (λ (D : ℕ). bytes_of D (result (encode f src) bpp w h).painted) (sym depth)
            ∙ bytes_back bpp w h k f src g.is g.there
            ∙ rw (whole, depth) refl;
        kept = rw (count, bytes) at x.kept;
      }

  pub comes_back : (before after : List ℕ) (r : Report) → Decompresses (take (length_in answer) written) bpp w h before after r
      → refusal_in answer ≡ refusal 0 0 0 → HasSpace before bpp w h → ComesBack src bpp w h before after r
  unfolding rule.length_of rule.output
  comes_back before after r d e s = go (rule.compressed (length output) src bpp w h) c.size c.output (encoded-is src bpp w h (length output) number)
    where
      number : (rule.refusal_of (rule.compressed (length output) src bpp w h)).number ≡ 0
      number = ap (λ (x : Refusal). x.number) (sym c.refusal ∙ e)

      go : (x : rule.Compressed) → length_in answer ≡ rule.length_of x → written ≡ rule.output x output → Encoded src bpp w h x → ComesBack src bpp w h before after r
      go x l o (encoded {f = f} {k = k} g) =
          let front : take (length_in answer) written ≡ encode f src = rw (l, o) (take-append_seam (encode f src) (drop (length (encode f src)) output)) in
          stream-back f k g before after r (subst (λ (y : List ℕ). Decompresses y bpp w h before after r) front d) s
