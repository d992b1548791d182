-- Laws of orders: an order that is planned, and whose pixels are painted as planned, is the definition's. Assumes nothing.
use mathlib.Core.Path.{◌≡◌, refl, sym, ◌∙◌, subst}
use mathlib.Core.List.{List}
use mathlib.Core.Bool.{Bool, false}
use Prim.Native.Nat.{ℕ, ◌+◌, ◌-◌, ◌*◌, ◌≤◌}
use native.Mathlib.Nat.{mul-le-mul_right}
use native.Mathlib.Omega.{arith}
use lib.ListN.{length, drop, length-drop}
use lib.Dec.{leb}
use lib.Seq.{drop-drop}
use Rattle.rle.specs.declared.kind.Kind.{Kind as CodeKind}
use Rattle.rle.specs.declared.kind.Kind.TheVariants.{BgRun, FgRun, FgBgImage, ColorRun, ColorImage, SetFgRun, SetFgBgImage, DitheredRun, SpecialFgBg1, SpecialFgBg2, White, Black, NoOrder}
use Rattle.rle.specs.declared.order.Order.{Order}
use Rattle.rle.specs.declared.frame.Frame.{Frame as CodeFrame}
use Rattle.rle.specs.declared.state.State.{State as CodeState}
use Rattle.rle.specs.declared.state.Stepped.{Stepped}
use Rattle.rle.specs.declared.span.Span.{Span}
use Rattle.rle.specs.declared.plan.Plan.{Plan as CodePlan}
use Rattle.rle.specs.declared.paint.Ink.{Ink as CodeInk}
use Rattle.picture.specs.Pixels.{Pixel, OfDepth}
use Rattle.picture.specs.Sizes.{Frame}
use Rattle.definition.specs.Orders.{Kind}
use Rattle.definition.specs.Decode.{Ink, State, room, order_of}
use Rattle.definition.specs.Plan.{Counts, with_operands, behind, counts_of, leaves_insert, foreground_by, kind_ink, leaves, insert_in}
use Rattle.rle.specs.Kinds.{kind_in, sets_foreground}
use Rattle.rle.specs.Planning.{counts_in, ending_in}
use Rattle.rle.specs.Painting.{HasPlace, HasColor, Paintable, Painted, Paints, ink_of}
use Rattle.rle.specs.States.{Invariant, frame_of, state_of, fg_of, bg_of, with_fg, IsSpan, Fits, finished_of}
use Rattle.rle.specs.Orders.{Executes}
use Rattle.rle.specs.Carrying.{HasPicture, CarriesOut}
use Rattle.rle.specs.Operands.{HasOperands}
use Rattle.base.specs.Picks.{pick}
use Rattle.base.proofs.Tests.{by_test}
use Rattle.picture.proofs.Pixels.{length-pixels_of}
use Rattle.definition.proofs.Masks.{acted, image-masks}
use Rattle.definition.proofs.Planned.{ink_by, kind_acted, Within, kind-within, orders-few, operands-there, image-read}
use Rattle.rle.proofs.Inks.{foreground_of_depth, fg_paintable, fg_color, bg_paintable, fg-is, bg-is}
use Rattle.rle.proofs.Painting.{painted_as}
use Rattle.rle.proofs.Sharing.{foreground_is}

-- what an order counts as one of kind k, in a room of R pixels of D bytes
abbrev counts_by : Order → CodeKind → ℕ → ℕ → Counts
counts_by o k D R = counts_of D (kind_in k) o.run_length.pixels (length o.src.now - o.state.walk.pos) R

-- p is the plan of the order as one of kind k, and xs has its picture's place; short: each place of the stream is a number of the code
pub record Planned (o : Order) (k : CodeKind) (xs : List ℕ) (p : CodePlan) : Type 0 where
  pub place : HasPicture o xs
  pub short : length o.src.now ≤ 18446744073709551615
  pub counts : counts_in p ≡ counts_by o k o.frame.depth.bytes (o.frame.total - o.state.walk.pixels)

-- D, R: what its frame says of the room that the picture has left
pub planned : {o : Order} {k : CodeKind} {xs : List ℕ} {p : CodePlan} {D R : ℕ} → HasPicture o xs → length o.src.now ≤ 18446744073709551615
    → (D ≡ o.frame.depth.bytes) × (R ≡ o.frame.total - o.state.walk.pixels) → counts_in p ≡ counts_by o k D R → Planned o k xs p
planned {o} {k} place short room counts =
    record { place = place; short = short; counts = counts ∙ (λ i. counts_by o k (room.0 i) (room.1 i)) }

-- the pixels of counts have their operands
counted_operands : (D n a R : ℕ) (k : CodeKind) → HasOperands k D (counts_of D (kind_in k) n a R).pixels a
unfolding counts_of with_operands behind
counted_operands D n a R BgRun = tt
counted_operands D n a R FgRun = tt
counted_operands D n a R FgBgImage = image-masks D n a R
counted_operands D n a R ColorRun = operands-there D a _
counted_operands D n a R ColorImage = image-read D n a R
counted_operands D n a R SetFgRun = tt
counted_operands D n a R SetFgBgImage =
    by_test (λ (c : Counts). c.pixels ≤ (a - D) * 8) (leb D a) (λ e. image-masks D n (a - D) R) (λ e. omega arith)
counted_operands D n a R DitheredRun = operands-there (2 * D) a _
counted_operands D n a R SpecialFgBg1 = tt
counted_operands D n a R SpecialFgBg2 = tt
counted_operands D n a R White = tt
counted_operands D n a R Black = tt
counted_operands D n a R NoOrder = refl

-- only a background run looks at the insert
insert_only : (f : Frame) (k : CodeKind) (i : Bool) (fg bg : Ink) (xs : List ℕ) (j : ℕ)
    → kind_ink f (kind_in k) i fg bg xs j ≡ kind_ink f (kind_in k) (pick (leaves_insert (kind_in k)) i false) fg bg xs j
unfolding kind_ink insert_in leaves
insert_only f BgRun i fg bg xs j = refl
insert_only f FgRun i fg bg xs j = refl
insert_only f FgBgImage i fg bg xs j = refl
insert_only f ColorRun i fg bg xs j = refl
insert_only f ColorImage i fg bg xs j = refl
insert_only f SetFgRun i fg bg xs j = refl
insert_only f SetFgBgImage i fg bg xs j = refl
insert_only f DitheredRun i fg bg xs j = refl
insert_only f SpecialFgBg1 i fg bg xs j = refl
insert_only f SpecialFgBg2 i fg bg xs j = refl
insert_only f White i fg bg xs j = refl
insert_only f Black i fg bg xs j = refl
insert_only f NoOrder i fg bg xs j = refl

-- the pixels that come next are those that an order paints
pub next-painted : {f : CodeFrame} {s : CodeState} {n : ℕ} {t : Span} {ink : ℕ → Ink} {xs ys : List ℕ} → IsSpan f s n t → Paints t ink xs ys
    → Painted f.depth.bytes f.width ink s.walk.pixels n xs ys
next-painted is p = rw (is.bytes, is.width, is.start, is.pixels) at p

-- an order that is planned as p, and whose pixels are painted as planned
module _ {f : Frame} (src before : List ℕ) {s : CodeState} (n : ℕ) (low : 1 ≤ f.bytes) (high : f.bytes ≤ 3) (invariant : Invariant f s) (some : 1 ≤ n) (place : s.walk.pos ≤ length src)
    (k : Kind) (p : CodePlan) (plans : counts_in p ≡ counts_of f.bytes k n (length src - s.walk.pos) (f.total - s.walk.pixels)) where
  abbrev S : State
  S = state_of f src before s

  -- the foreground that it leaves
  abbrev foreground : Pixel
  foreground = foreground_by f.bytes k s.foreground (drop s.walk.pos src)

  foreground_depth : OfDepth f.bytes foreground
  foreground_depth = foreground_of_depth f.bytes low high invariant.foreground (drop s.walk.pos src) (leaves k)

  plan_within : Within (length src - s.walk.pos) (f.total - s.walk.pixels) (counts_in p)
  plan_within = rw plans (kind-within f.bytes k n (length src - s.walk.pos) (f.total - s.walk.pixels) some)

  -- t: the state with that foreground
  pub executes_finished : {t : CodeState} {after : List ℕ} {r : Stepped} → t ≡ with_fg s foreground → r ≡ finished_of t p (leaves_insert k)
      → Painted f.bytes f.width (ink_by f k S) s.walk.pixels p.pixels before after → Executes f src before after s r (order_of f k n)
  unfolding acted room
  executes_finished e is painted =
      let counts : counts_of f.bytes k n (length (drop s.walk.pos src)) (room f S) ≡ counts_in p = rw (length-drop, length-pixels_of, plans) in
      rw (is, e)
      (record {
        is = rw (← drop-drop p.read s.walk.pos src, painted.pixels) (sym (rw counts at (kind_acted f n S k)));
        rest = painted.rest;
        grows = omega arith;
        reads = omega arith;
        place = omega (arith, plan_within.read, place);
        mark = refl;
        invariant =
            record {
              within = omega (arith, invariant.within, plan_within.pixels);
              row = omega (arith, invariant.row);
              foreground = foreground_depth;
              counted = orders-few (ending_in p.ending) invariant.counted plan_within.some;
            };
      })

module _ {o : Order} {k : CodeKind} {xs : List ℕ} {p : CodePlan} (planned : Planned o k xs p) where
  abbrev f : Frame
  f = frame_of o.frame

  abbrev n : ℕ
  n = o.run_length.pixels

  abbrev s : CodeState
  s = o.state

  abbrev operands : List ℕ
  operands = drop s.walk.pos o.src.now

  -- the foreground that it leaves
  abbrev own : Pixel
  own = foreground_by f.bytes (kind_in k) s.foreground operands

  own_depth : OfDepth f.bytes own
  own_depth = foreground_of_depth f.bytes o.frame.low o.frame.high o.holds.foreground operands (leaves (kind_in k))

  within : Within (length o.src.now - s.walk.pos) (f.total - s.walk.pixels) (counts_in p)
  within = plan_within o.src.now xs n o.frame.low o.frame.high o.holds o.run_length.some o.place (kind_in k) p planned.counts

  pub has_room : s.walk.pixels + p.pixels ≤ f.total
  has_room = omega (arith, within.pixels, o.holds.within)

  pub few_behind : s.walk.pixels + p.pixels ≤ 67108864
  few_behind = omega (arith, has_room, o.frame.few)

  pub has_place : {t : Span} → IsSpan o.frame s p.pixels t → HasPlace t xs
  has_place is =
      rw (is.bytes, is.start, is.pixels) (omega (arith, planned.place, mul-le-mul_right {m = s.walk.pixels + p.pixels} {n = f.total} f.bytes has_room))

  pub has_operands : HasOperands k f.bytes p.pixels (length o.src.now - s.walk.pos)
  has_operands =
      subst (λ (c : Counts). HasOperands k f.bytes c.pixels (length o.src.now - s.walk.pos)) (sym planned.counts)
      (counted_operands f.bytes n (length o.src.now - s.walk.pos) (f.total - s.walk.pixels) k)

  -- no number behind it is too large, whatever the foreground
  pub fits : {t : CodeState} {x : Pixel} → t ≡ with_fg s x → Fits t p
  fits e = rw e (record { read = omega (arith, within.read, o.place, planned.short); pixels = few_behind; counted = o.holds.counted })

  -- with its foreground in place of the state's
  pub own_holds : {x : Pixel} → x ≡ own → Invariant f (with_fg s x)
  own_holds e = record { within = o.holds.within; row = o.holds.row; foreground = rw e own_depth; counted = o.holds.counted }

  pub own_paintable : {t : CodeState} {i : CodeInk} {span : Span} → t ≡ with_fg s own → i ≡ fg_of t → IsSpan o.frame s p.pixels span
      → Paintable span i × HasColor i
  own_paintable e fg is = rw (fg, e) (fg_paintable is o.holds.row own_depth, fg_color (with_fg s own))

  -- its pixels are painted with the inks of the state t
  abbrev PaintsIn : CodeState → List ℕ → Type 0
  PaintsIn t ys =
      Painted f.bytes f.width (kind_ink f (kind_in k) s.walk.insert (ink_of (fg_of t)) (ink_of (bg_of o.frame s)) operands) s.walk.pixels p.pixels xs ys

  -- the same in the code's inks; t: the state with the foreground that it leaves
  pub executes_painted : {t : CodeState} {ys : List ℕ} {r : Stepped} → t ≡ with_fg s own → r ≡ finished_of t p (leaves_insert (kind_in k))
      → PaintsIn t ys → CarriesOut o (kind_in k) xs ys r
  executes_painted e is paints =
      executes_finished o.src.now xs n o.frame.low o.frame.high o.holds o.run_length.some o.place (kind_in k) p planned.counts e is
      (painted_as (λ j _. insert_only f k s.walk.insert _ _ operands j) (rw (fg-is s e, bg-is o.frame s) at paints))

  -- the state's own is left
  pub executes_kept : {ys : List ℕ} {r : Stepped} → sets_foreground k ≡ false → r ≡ finished_of s p (leaves_insert (kind_in k))
      → PaintsIn s ys → CarriesOut o (kind_in k) xs ys r
  executes_kept keeps is paints = executes_painted (rw (foreground_is, keeps)) is paints

-- ---- the background's ink in the plain decoder's span

module _ (o : Order) (n : ℕ) (room : o.state.walk.pixels + n ≤ o.frame.total) where
  abbrev own_span : Span
  own_span =
      record {
        bytes = o.frame.depth.bytes;
        width = o.frame.width;
        start = o.state.walk.pixels;
        pixels = n;
        low = o.frame.low;
        high = o.frame.high;
        wide = o.frame.wide;
        end = omega (arith, room, o.frame.few);
      }

  pub own_bg : {ink : CodeInk} → ink ≡ bg_of o.frame o.state → Paintable own_span ink
  own_bg e = rw e (bg_paintable {f = o.frame} {s = o.state} {n = n} {t = own_span} (record { bytes = refl; width = refl; start = refl; pixels = refl }) o.holds.row)
