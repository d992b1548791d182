-- What each way through `compress` answers is the definition's. Assumes nothing.
use mathlib.Core.Path.{◌≡◌}
use mathlib.Core.List.{List}
use mathlib.Core.Bool.{true, false}
use Prim.Native.Nat.{ℕ, ◌+◌, ◌*◌, ◌≤◌, ◌<◌}
use native.Mathlib.Omega.{arith}
use lib.Dec.{leb}
use lib.ListN.{length}
use borrow.Author.Tests.{lt-ltb, le-ltb}
use Rattle.picture.specs.Pixels.{pixels_of}
use Rattle.picture.specs.declared.outcome.RleError.{RleError}
use Rattle.picture.specs.declared.outcome.RleError.TheVariants.{BufferTooShort}
use Rattle.picture.specs.Outcomes.{refusal_of as errorRefusal}
use Rattle.picture.specs.Sizes.{Refusal, depth_of, accept, checked, with_space, bytes, refused, size_of}
use Rattle.picture.proofs.Sizes.{Sized, sized, size-refused}
use Rattle.encoding.specs.Encode.{orders_of, stream_of, encode}
use Rattle.encoding.specs.Bound.{bound_of, bound, overhead}
use Rattle.encoding.specs.Compress as rule
use Rattle.encode.specs.declared.error.CompressError.TheVariants.{Refused, OutputTooShort}
use Rattle.std.proofs.Common.{Result, Ok, Err}
use Rattle.std.specs.Result.{IsErrAnd}
use Rattle.encode.specs.declared.error.CompressError.{CompressError}
use Rattle.encode.specs.Writing.{Writes}
use Rattle.encode.specs.Promises.{Compresses}

module _ (src : List ℕ) (bpp w h : ℕ) (before : List ℕ) where
  pub answers-refused : (e : RleError) → refused (errorRefusal e) ≡ size_of (checked bpp w h) → (r : Result ℕ CompressError)
      → IsErrAnd r (λ x. x ≡ Refused e) → Compresses src bpp w h before before r
  unfolding rule.compressed rule.of_checked rule.refusal_of rule.length_of rule.output with_space
  answers-refused e s (Ok n) x = absurd x
  answers-refused e s (Err y) x =
      let c = size-refused (checked bpp w h) (errorRefusal e) s in
      record { refusal = rw (x, c); size = rw c; output = rw c }

  -- the size is good
  module _ (n : ℕ) (s : bytes n ≡ size_of (checked bpp w h)) where
    good : Sized bpp w h n
    good = sized bpp w h n s

    pub answers_short : length src < n → Compresses src bpp w h before before (Err (Refused (BufferTooShort n (length src))))
    unfolding rule.compressed rule.of_checked rule.refusal_of rule.length_of rule.output with_space accept
    answers_short l =
        let g = good in
        let e = g.size in
        let t = lt-ltb (length src) (w * h * (depth_of bpp).bytes) (rw e at l) in
        record { refusal = rw (g.checks, t, e); size = rw (g.checks, t); output = rw (g.checks, t) }

    -- and the buffer has the picture
    pub bytes_there : (D : ℕ) → D ≡ (depth_of bpp).bytes → n ≤ length src → w * h * D ≤ length src
    bytes_there D e l = let g = good in rw e (omega (arith, l, g.size))

    module _ (D : ℕ) (size : D ≡ (depth_of bpp).bytes) where
      abbrev stream : List ℕ
      stream = stream_of D (orders_of w (pixels_of D (w * h) src))

      answer : n ≤ length src → rule.compressed (length before) src bpp w h ≡ rule.in_output (length before) stream
      unfolding rule.compressed rule.of_checked with_space accept encode
      answer l =
          let g = good in
          rw (g.checks, le-ltb (length src) (w * h * (depth_of bpp).bytes) (omega (arith, l, g.size)), size)

      pub answers-long : n ≤ length src → leb (length stream) (length before) ≡ false → Compresses src bpp w h before before (Err OutputTooShort)
      unfolding rule.in_output rule.refusal_of rule.length_of rule.output
      answers-long l t = let c = answer l in record { refusal = rw (c, t); size = rw (c, t); output = rw (c, t) }

      pub answers-written : n ≤ length src → leb (length stream) (length before) ≡ true → (r : ℕ) (after : List ℕ)
          → Writes stream before after r → Compresses src bpp w h before after (Ok r)
      unfolding rule.in_output rule.refusal_of rule.length_of rule.output
      answers-written l t r after x =
          let c = answer l in record { refusal = rw (c, t); size = rw (c, t) x.next; output = rw (c, t) x.is }

-- ---- the bound

pub bound-refused : (bpp w h : ℕ) (r : Refusal) → refused r ≡ size_of (checked bpp w h) → 0 ≡ bound bpp w h
unfolding bound bound_of
bound-refused bpp w h r s = rw (size-refused (checked bpp w h) r s)

pub bound_good : (bpp w h n D o : ℕ) → bytes n ≡ size_of (checked bpp w h) → D ≡ (depth_of bpp).bytes → o ≡ overhead D (w * h) → n + o ≡ bound bpp w h
unfolding bound bound_of accept
bound_good bpp w h n D o s d e =
    let g = sized bpp w h n s in
    rw (g.checks, e, d, g.size)
