-- One order of the rule, decoded: it paints the pixels that it was made of. Assumes nothing.
use mathlib.Core.Path.{◌≡◌, refl, sym, ◌∙◌, subst}
use mathlib.Core.Bool.{Bool, false}
use mathlib.Core.List.{List, [], ◌∷◌, ◌++◌, append_assoc}
use Prim.Native.Nat.{ℕ, zero, suc, ◌+◌, ◌*◌, ◌-◌, ◌≤◌, ◌<◌}
use native.Mathlib.Nat.{add-zero}
use native.Mathlib.Omega.{arith}
use lib.Dec.{lit≤}
use lib.ListN.{length, take, length-append}
use lib.Seq.{take-suc, get_or-take, length-take-le, drop_at}
use borrow.Author.Tests.{le-leb, le-ltb}
use Rattle.base.proofs.Tests.{pick_same}
use Rattle.picture.specs.Pixels.{Pixel, OfDepth, pixel_at, bytes_of}
use Rattle.picture.specs.Sizes.{Frame}
use Rattle.picture.proofs.Pixels.{AllOfDepth, length_taken, first_back, length-bytes_of, pixel-back}
use Rattle.definition.specs.Orders.{rows, row}
use Rattle.definition.specs.Codes.{kind_row}
use Rattle.definition.specs.Decode as decoding
use Rattle.definition.specs.Decode.{Ink, solid, pixel_above, color, paint, State, done, with_left, with_painted, completed, bg_ink, insert_ink, room, need_bytes, paint_order, order_from, end_first_row, step}
use Rattle.encoding.specs.Heads.{head_bytes}
use Rattle.encoding.specs.Encode.{pixel, Order, bg_run, color_run, color_image, pixels_in, is_bg_run, order_bytes}
use Rattle.encoding.proofs.Heads.{head-back}
use Rattle.encoding.proofs.Orders.{shown, Sound}

-- ---- painting

-- where each ink gives the picture's pixel, the picture goes on
paint-take : (w : ℕ) (ps : List Pixel) (k : ℕ) (ink : ℕ → Ink) (n : ℕ) → k + n ≤ length ps
    → ((j : ℕ) → j < n → color w (take (k + j) ps) (ink j) ≡ pixel ps (k + j)) → paint w ink n (take k ps) ≡ take (k + n) ps
unfolding paint
paint-take w ps k ink zero b e = rw add-zero
paint-take w ps k ink (suc n) b e =
    let g : k + suc n ≡ suc (k + n) = omega arith in
    let r = paint-take w ps k ink n (omega arith) (λ j h. e j (omega arith)) in
    rw (g, take-suc ps (k + n) (0 ∷ 0 ∷ 0 ∷ []) (omega arith), r, e n (omega arith))

above-take : (w : ℕ) (ps : List Pixel) (m : ℕ) → 1 ≤ w → w ≤ m → m ≤ length ps → pixel_above w (take m ps) ≡ pixel ps (m - w)
unfolding pixel_above
above-take w ps m o h b = rw (length-take-le m ps b) (get_or-take m ps (m - w) _ (omega arith))

-- ---- orders

-- the frame is of a depth in the table and has columns, and these are the pixels of a picture of it
pub record PictureOf (f : Frame) (ps : List Pixel) : Type 0 where
  pub low : 1 ≤ f.bytes
  pub high : f.bytes ≤ 3
  pub wide : 1 ≤ f.width
  pub size : length ps ≡ f.total
  pub full : AllOfDepth f.bytes ps

-- the first k pixels are painted, by m orders, the last of them a background run or not, and the bytes `rest` are left
pub record Stands (ps : List Pixel) (rest : List ℕ) (k : ℕ) (after : Bool) (m : ℕ) (s : State) : Type 0 where
  pub left : s.left ≡ rest
  pub painted : s.painted ≡ take k ps
  pub insert : s.insert ≡ after
  pub orders : s.orders ≡ m

-- the next order leads there
pub record Leads (f : Frame) (ps : List Pixel) (rest : List ℕ) (k : ℕ) (after : Bool) (m : ℕ) (s : State) : Type 0 where
  pub to : State
  pub is : step f s ≡ done to
  pub stands : Stands ps rest k after m to

module _ {f : Frame} {ps : List Pixel} (of : PictureOf f ps) (s : State) (k m : ℕ) (after : Bool) (rest : List ℕ) where
  -- behind header and run length
  head_step : (c : ℕ) → c < 8 → (n : ℕ) → 1 ≤ n → (l : List ℕ) → s.left ≡ head_bytes (kind_row c) n ++ l
      → step f s ≡ decoding.order_of f (kind_row c).kind n (with_left l (end_first_row f s))
  unfolding step order_from
  head_step c h n one l e = rw (e, (head-back n one l c h).is)

  paints : (o : Order) → Stands ps (order_bytes f.bytes o ++ rest) k after m s → Sound f.width ps k after o → (ink : ℕ → Ink)
      → step f s ≡ paint_order f (is_bg_run o) ink (pixels_in o) (with_left rest (end_first_row f s))
      → ((j : ℕ) → j < pixels_in o → color f.width (take (k + j) ps) (ink j) ≡ shown f.width ps k o j)
      → Leads f ps rest (k + pixels_in o) (is_bg_run o) (m + 1) s
  unfolding paint_order room completed with_painted with_left end_first_row
  paints o here sound ink e inks =
      let fits = sound.fits in
      record {
        to = completed (is_bg_run o) (with_painted (paint f.width ink (pixels_in o) s.painted) (with_left rest (end_first_row f s)));
        is = e ∙ rw (here.painted, length-take-le k ps (omega arith), ← of.size, le-leb (pixels_in o) (length ps - k) (omega arith));
        stands = record {
          left = refl;
          painted = rw here.painted (paint-take f.width ps k ink (pixels_in o) fits (λ j b. inks j b ∙ sym (sound.says j b)));
          insert = refl;
          orders = rw here.orders;
        };
      }

  pub order_leads : (o : Order) → Stands ps (order_bytes f.bytes o ++ rest) k after m s → Sound f.width ps k after o
      → Leads f ps rest (k + pixels_in o) (is_bg_run o) (m + 1) s
  unfolding order_bytes pixels_in is_bg_run shown color kind_row rows row with_left insert_ink bg_ink end_first_row need_bytes
      decoding.order_of
      decoding.bg_run
      decoding.color_run
      decoding.color_image
  order_leads (bg_run n) here sound =
      let a = sound.above refl in
      let fits = sound.fits in
      let u = with_left rest (end_first_row f s) in
      let i : s.insert ≡ false = here.insert ∙ a.1 in
      let r : f.width ≤ length s.painted = rw (here.painted, length-take-le k ps (omega arith)) a.0 in
      paints (bg_run n) here sound (insert_ink u.insert (decoding.fg u) (decoding.bg f u))
      (head_step 0 (lit≤ tt) n sound.one rest here.left)
      (λ j b. rw (i, le-ltb (length s.painted) f.width r, pick_same)
      (above-take f.width ps (k + j) of.wide (omega (arith, a.0)) (omega arith)))
  order_leads (color_run p n) here sound =
      let D = f.bytes in
      let l = take D p ++ rest in
      let fits = sound.fits in
      let one = sound.one in
      let whole : OfDepth D p = subst (λ (q : Pixel). OfDepth D q) (sound.says 0 one) (of.full (k + 0) (omega arith)) in
      let t = length_taken D of.low of.high p whole in
      let b : D ≤ length l = rw (length-append, t) (omega arith) in
      paints (color_run p n) here sound (λ j. solid p)
      (head_step 3 (lit≤ tt) n one l (here.left ∙ append_assoc (head_bytes (kind_row 3) n) (take D p) rest)
      ∙ rw (le-leb D (length l) b, first_back D of.low of.high p rest whole, drop_at (take D p) rest D t))
      (λ j b. refl)
  order_leads (color_image qs) here sound =
      let D = f.bytes in
      let n = length qs in
      let l = bytes_of D qs ++ rest in
      let fits = sound.fits in
      let whole : AllOfDepth D qs = λ j b. subst (λ (q : Pixel). OfDepth D q) (sound.says j b) (of.full (k + j) (omega arith)) in
      let t = length-bytes_of D of.low of.high qs whole in
      let b : n * D ≤ length l = rw (length-append, t) (omega arith) in
      paints (color_image qs) here sound (λ j. solid (pixel_at D l j))
      (head_step 4 (lit≤ tt) n sound.one l (here.left ∙ append_assoc (head_bytes (kind_row 4) n) (bytes_of D qs) rest)
      ∙ rw (le-leb (n * D) (length l) b, drop_at (bytes_of D qs) rest (n * D) t))
      (λ j b. pixel-back D of.low of.high qs rest j whole b)
