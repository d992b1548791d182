-- Decoding what the rule writes gives back every picture whole. Assumes nothing.
use mathlib.Core.Path.{◌≡◌, refl, ap, sym, ◌∙◌}
use mathlib.Core.Bool.{Bool, false}
use mathlib.Core.List.{List, []}
use Prim.Native.Nat.{ℕ, zero, suc, ◌+◌, ◌*◌, ◌≤◌}
use native.Mathlib.Nat.{add-zero, zero-add}
use native.Mathlib.Omega.{arith}
use lib.Dec.{ltb}
use lib.ListN.{length, take, drop, length-append}
use lib.Seq.{take_all}
use borrow.Author.Tests.{ltb-true, ltb-false}
use Rattle.base.proofs.Tests.{by_test}
use Rattle.picture.specs.Pixels.{Pixel, pixel_at, pixels_of, bytes_of}
use Rattle.picture.specs.Sizes.{refusal, depth_of, Frame, accepted, accept, checked, size_of}
use Rattle.picture.proofs.Pixels.{of_depth, length-pixels_of, get_or-pixels_of, bytes-pixels}
use Rattle.picture.proofs.Sizes.{sized}
use Rattle.picture.proofs.Depths.{depth_good}
use Rattle.definition.specs.Codes.{kind_row}
use Rattle.definition.specs.Decode.{State, start, decode, Result, result_of, of_run, of_checked, result}
use Rattle.definition.specs.Plan.{complete, end_with}
use Rattle.definition.specs.Runs.{Continues}
use Rattle.definition.proofs.Runs.{continues-start, continues_end, continues_on}
use Rattle.encoding.specs.Heads.{head_bytes}
use Rattle.encoding.specs.Encode.{Order, bg_run, color_run, color_image, pixels_in, is_bg_run, order_at, orders_from, orders_of, order_bytes, stream_of, encode}
use Rattle.encoding.proofs.HeadLengths.{EncodedKind, background-kind, color-kind, image-kind, by_head, head-length}
use Rattle.encoding.proofs.Orders.{order_sound}
use Rattle.encoding.proofs.Trip.{PictureOf, Stands, order_leads}

-- ---- every order has a byte

head_byte : (c n : ℕ) → EncodedKind c → 1 ≤ n → 1 ≤ length (head_bytes (kind_row c) n)
head_byte c n o one =
    rw (head-length c n o one)
    (by_head (λ x. 1 ≤ x) n (λ e. omega arith) (λ a b. omega arith) (λ a b. omega arith) (λ a. omega arith))

order_byte : (D : ℕ) (o : Order) → 1 ≤ pixels_in o → 1 ≤ length (order_bytes D o)
unfolding order_bytes pixels_in
order_byte D (bg_run n) one = head_byte 0 n background-kind one
order_byte D (color_run p n) one = rw length-append (omega (arith, head_byte 3 n color-kind one))
order_byte D (color_image qs) one = rw length-append (omega (arith, head_byte 4 (length qs) image-kind one))

-- ---- the whole stream

-- all pixels, painted by m orders and with no refusal
abbrev whole : Frame → ℕ → List Pixel → ℕ → Result
whole f c ps m = record { refusal = refusal 0 0 0; format = c; bytes = f.bytes; painted = ps; orders = m }

module _ {f : Frame} {ps : List Pixel} (of : PictureOf f ps) (c : ℕ) (src : List ℕ) where
  ends : (k m : ℕ) (after : Bool) (s : State) → Continues f (decode f src) s → length ps ≤ k → Stands ps [] k after m s
      → of_run f c (decode f src) ≡ whole f c ps (m + 0)
  unfolding of_run result_of
  ends k m after s on b here = rw (← continues_end on here.left, here.painted, take_all k ps b, here.orders, add-zero)

  -- from pixel k on; n orders are enough
  trip : (n k m : ℕ) (after : Bool) (s : State) → Continues f (decode f src) s → length ps ≤ k + n
      → Stands ps (stream_of f.bytes (orders_from f.width ps n k after)) k after m s
      → of_run f c (decode f src) ≡ whole f c ps (m + length (orders_from f.width ps n k after))
  unfolding orders_from stream_of end_with
  trip zero k m after s on b = ends k m after s on (omega arith)
  trip (suc n) k m after s on b =
      by_test Q (ltb k (length ps))
      (λ t here.
      let sound = order_sound f.bytes f.width ps of.full k (ltb-true k (length ps) t) after in
      let g = order_leads of s k m after (stream_of f.bytes os) o here sound in
      let byte = order_byte f.bytes o sound.one in
      trip n (k + pixels_in o) (m + 1) (is_bg_run o) g.to
      (continues_on on (rw (here.left, length-append) (omega arith)) complete g.to (sym g.is) refl
      (rw (g.stands.left, here.left, length-append) (omega arith)))
      (omega (arith, sound.one)) g.stands
      ∙ ap (λ (x : ℕ). whole f c ps x) (omega arith))
      (λ t. ends k m after s on (ltb-false k (length ps) t))
    where
      o : Order
      o = order_at f.width ps k after

      os : List Order
      os = orders_from f.width ps n (k + pixels_in o) (is_bg_run o)

      Q : List Order → Type 0
      Q l = Stands ps (stream_of f.bytes l) k after m s → of_run f c (decode f src) ≡ whole f c ps (m + length l)

-- ---- a picture in its buffer

module _ (bpp w h k : ℕ) (f : Frame) (bytes : List ℕ) (is : checked bpp w h ≡ accepted f k) where
  picture : PictureOf f (pixels_of f.bytes f.total bytes)
  unfolding accept size_of pixel_at
  picture =
      let z = sized bpp w h (f.total * f.bytes) (rw is) in
      let d = depth_good bpp z.known in
      let e : accepted f k ≡ accept (depth_of bpp) w h = sym is ∙ z.checks in
      let D : f.bytes ≡ (depth_of bpp).bytes = cc in
      let low : 1 ≤ f.bytes = rw D d.low in
      let high : f.bytes ≤ 3 = rw D d.high in
      let size = length-pixels_of f.bytes f.total bytes in
      record {
        low = low;
        high = high;
        wide = let v : f.width ≡ w = cc in rw v z.wide;
        size = size;
        full = λ i b. rw (get_or-pixels_of f.bytes f.total bytes i _ (rw size at b))
            (of_depth f.bytes (drop (i * f.bytes) bytes) low high);
      }

  pub encoded-back : result (encode f bytes) bpp w h
      ≡ record {
        refusal = refusal 0 0 0;
        format = k;
        bytes = f.bytes;
        painted = pixels_of f.bytes f.total bytes;
        orders = length (orders_of f.width (pixels_of f.bytes f.total bytes));
      }
  unfolding result of_checked encode orders_of start
  encoded-back =
      let n = length (pixels_of f.bytes f.total bytes) in
      let s = start f (encode f bytes) in
      rw is (rw zero-add at
      (trip picture k (encode f bytes) n 0 0 false s (continues-start f (encode f bytes)) (omega arith)
      (record { left = refl; painted = refl; insert = refl; orders = refl })))

  -- where the buffer has the whole picture
  pub bytes_back : f.total * f.bytes ≤ length bytes
      → bytes_of f.bytes (result (encode f bytes) bpp w h).painted ≡ take (f.total * f.bytes) bytes
  bytes_back given = rw encoded-back (bytes-pixels f.bytes f.total bytes picture.high given)
