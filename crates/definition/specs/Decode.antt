-- What a stream of orders paints, after MS-RDPBCGR 3.1.9, with the refusals that the pseudo-code lacks. Fed stream, bits per
-- pixel, width and height; it has no target, so no old picture can show in it.
use Rattle.std.specs.Prelude.{List, [], ◌∷◌, ◌++◌, Bool, true, false, ℕ, zero, suc, ◌+◌, ◌-◌, ◌*◌, ◌/◌, ◌%◌, ◌^◌, min, ltb, leb, eqb, length, get_or, drop}
use Rattle.picture.specs.Sizes.{Refusal, refusal, Frame, Checked, accepted, checked, with_space}
use Rattle.definition.specs.Orders.{Kind, BgRun, FgRun, FgBgImage, ColorRun, ColorImage, SetFgRun, SetFgBgImage, DitheredRun, SpecialFgBg1, SpecialFgBg2, White, Black, NoOrder, Head, head, head_of}
use Rattle.base.specs.Picks.{pick}
use Rattle.picture.specs.Pixels.{Pixel, first_pixel, pixel_at, xor_pixel}

-- ---- painting

-- what a pixel is painted with: a color, the pixel above, or the pixel above exclusive-or a color
pub data Ink : Type 0 where
  solid : Pixel → Ink
  above : Ink
  above_xor : Pixel → Ink

-- the pixel above the next one stands w places before it
unfoldable pub pixel_above : ℕ → List Pixel → Pixel
pixel_above w ps = get_or ps (length ps - w) (0 ∷ 0 ∷ 0 ∷ [])

unfoldable pub color : ℕ → List Pixel → Ink → Pixel
color w ps (solid p) = p
color w ps above = pixel_above w ps
color w ps (above_xor p) = xor_pixel (pixel_above w ps) p

-- n pixels appended to ps, number k of them with `ink k`
unfoldable pub paint : ℕ → (ℕ → Ink) → ℕ → List Pixel → List Pixel
paint w ink zero ps = ps
paint w ink (suc n) ps = let r = paint w ink n ps in r ++ (color w r (ink n) ∷ [])

-- ---- the state between orders

pub record State : Type 0 where
  -- stream bytes left
  pub left : List ℕ
  -- pixels painted
  pub painted : List Pixel
  pub foreground : Pixel
  -- a background run that comes next starts with a foreground pixel
  pub insert : Bool
  pub first_row : Bool
  -- orders completed
  pub orders : ℕ

pub data Step : Type 0 where
  done : State → Step
  refused : Refusal → State → Step

abbrev pub state : List ℕ → List Pixel → Pixel → Bool → Bool → ℕ → State
state left painted foreground insert first_row orders =
    record { left = left; painted = painted; foreground = foreground; insert = insert; first_row = first_row; orders = orders }

unfoldable pub start : Frame → List ℕ → State
start f stream = state stream [] f.white false true 0

unfoldable pub with_left : List ℕ → State → State
with_left rest s = state rest s.painted s.foreground s.insert s.first_row s.orders

unfoldable pub with_foreground : Pixel → State → State
with_foreground p s = state s.left s.painted p s.insert s.first_row s.orders

unfoldable pub with_painted : List Pixel → State → State
with_painted ps s = state s.left ps s.foreground s.insert s.first_row s.orders

-- the order is completed, with an insert pending or not
unfoldable pub completed : Bool → State → State
completed i s = state s.left s.painted s.foreground i s.first_row (s.orders + 1)

-- ---- what the orders paint with, in the first row and later

unfoldable pub fg_ink : Bool → Pixel → Ink
fg_ink first p = pick first (solid p) (above_xor p)

unfoldable pub bg_ink : Bool → Pixel → Ink
bg_ink first black = pick first (solid black) above

-- a background run, with an inserted foreground pixel or without
unfoldable pub insert_ink : Bool → Ink → Ink → ℕ → Ink
insert_ink insert fg bg k = pick (pick insert (eqb k 0) false) fg bg

-- a mask's lowest bit comes first: 1 foreground, 0 background
unfoldable pub mask_ink : Ink → Ink → ℕ → ℕ → Ink
mask_ink fg bg m k = pick (eqb (m / 2 ^ k % 2) 1) fg bg

-- two colors by turns
unfoldable pub dither_ink : Pixel → Pixel → ℕ → Ink
dither_ink a b k = solid (pick (eqb (k % 2) 0) a b)

abbrev pub fg : State → Ink
fg s = fg_ink s.first_row s.foreground

abbrev pub bg : Frame → State → Ink
bg f s = bg_ink s.first_row f.black

-- ---- refusals inside an order

-- pixels of the picture that are not painted yet
unfoldable pub room : Frame → State → ℕ
room f s = f.total - length s.painted

unfoldable pub too_large : Frame → ℕ → State → Step
too_large f n s = refused (refusal 7 (room f s * f.bytes) (n * f.bytes)) s

unfoldable pub too_short : ℕ → State → Step
too_short k s = refused (refusal 6 k (length s.left)) s

-- `go` where k bytes of the stream are left, else refusal 6
unfoldable pub need_bytes : ℕ → State → Step → Step
need_bytes k s go = pick (leb k (length s.left)) go (too_short k s)

-- an order of n pixels, or refusal 7 with none of them painted
unfoldable pub paint_order : Frame → Bool → (ℕ → Ink) → ℕ → State → Step
paint_order f i ink n s =
    pick (leb n (room f s)) (done (completed i (with_painted (paint f.width ink n s.painted) s))) (too_large f n s)

-- ---- the orders, of run length n

unfoldable pub bg_run : Frame → ℕ → State → Step
bg_run f n s = paint_order f true (insert_ink s.insert (fg s) (bg f s)) n s

unfoldable pub fg_run : Frame → ℕ → State → Step
fg_run f n s = paint_order f false (λ k. fg s) n s

-- a set-foreground order reads a new foreground
unfoldable pub set_foreground : Frame → State → State
set_foreground f s = with_left (drop f.bytes s.left) (with_foreground (first_pixel f.bytes s.left) s)

unfoldable pub set_fg_run : Frame → ℕ → State → Step
set_fg_run f n s = need_bytes f.bytes s (fg_run f n (set_foreground f s))

unfoldable pub color_run : Frame → ℕ → State → Step
color_run f n s =
    need_bytes f.bytes s
    (paint_order f false (λ k. solid (first_pixel f.bytes s.left)) n (with_left (drop f.bytes s.left) s))

-- n pairs of the two pixels that it reads
unfoldable pub dithered_run : Frame → ℕ → State → Step
dithered_run f n s =
    need_bytes (2 * f.bytes) s
    (paint_order f false (dither_ink (first_pixel f.bytes s.left) (first_pixel f.bytes (drop f.bytes s.left))) (n * 2)
    (with_left (drop (2 * f.bytes) s.left) s))

unfoldable pub color_image : Frame → ℕ → State → Step
color_image f n s =
    need_bytes (n * f.bytes) s
    (paint_order f false (λ k. solid (pixel_at f.bytes s.left k)) n (with_left (drop (n * f.bytes) s.left) s))

unfoldable pub special_fg_bg : Frame → ℕ → ℕ → State → Step
special_fg_bg f m n s = paint_order f false (mask_ink (fg s) (bg f s) m) n s

-- k pixels by one mask, or refusal 7
unfoldable pub one_mask : Frame → ℕ → ℕ → State → Step
one_mask f m k s =
    pick (leb k (room f s)) (done (with_painted (paint f.width (mask_ink (fg s) (bg f s) m) k s.painted) s)) (too_large f k s)

unfoldable pub and_then : (State → Step) → Step → Step
and_then go (done s) = go s
and_then go (refused r s) = refused r s

-- an fg/bg image with n pixels to go, each mask for up to 8 of them; the masks are the bytes left, which the last argument repeats
unfoldable pub masks : Frame → ℕ → State → List ℕ → Step
masks f n s [] = pick (eqb n 0) (done (completed false s)) (too_short 1 s)
masks f n s (m ∷ rest) =
    let next = and_then (λ t. masks f (n - min 8 n) t rest) (one_mask f m (min 8 n) (with_left rest s)) in
    pick (eqb n 0) (done (completed false s)) next

unfoldable pub fg_bg_image : Frame → ℕ → State → Step
fg_bg_image f n s = masks f n s s.left

unfoldable pub set_fg_bg_image : Frame → ℕ → State → Step
set_fg_bg_image f n s = need_bytes f.bytes s (fg_bg_image f n (set_foreground f s))

unfoldable pub order_of : Frame → Kind → ℕ → State → Step
order_of f BgRun n s = bg_run f n s
order_of f FgRun n s = fg_run f n s
order_of f FgBgImage n s = fg_bg_image f n s
order_of f ColorRun n s = color_run f n s
order_of f ColorImage n s = color_image f n s
order_of f SetFgRun n s = set_fg_run f n s
order_of f SetFgBgImage n s = set_fg_bg_image f n s
order_of f DitheredRun n s = dithered_run f n s
order_of f SpecialFgBg1 n s = special_fg_bg f 0x03 n s
order_of f SpecialFgBg2 n s = special_fg_bg f 0x05 n s
order_of f White n s = paint_order f false (λ k. solid f.white) n s
order_of f Black n s = paint_order f false (λ k. solid f.black) n s
order_of f NoOrder n s = refused (refusal 5 0 0) s

unfoldable pub order_from : Frame → State → Head → Step
order_from f s (head k n rest) = order_of f k n (with_left rest s)
order_from f s (Head.refused r rest) = refused r (with_left rest s)

-- the first row ends for good at an order's start with at least one row painted, and a pending insert is dropped
unfoldable pub end_first_row : Frame → State → State
end_first_row f s =
    let stays = ltb (length s.painted) f.width in
    state s.left s.painted s.foreground (pick s.first_row (pick stays s.insert false) s.insert)
    (pick s.first_row stays false) s.orders

-- one order, of a stream with a byte left
unfoldable pub step : Frame → State → Step
step f s = order_from f (end_first_row f s) (head_of s.left)

-- ---- the whole stream

pub data Run : Type 0 where
  ended : State → Run
  paused : State → Run
  refused : Refusal → State → Run

unfoldable pub at_end : List ℕ → Run → Run → Run
at_end [] a b = a
at_end (x ∷ xs) a b = b

unfoldable pub then_run : (State → Run) → Step → Run
then_run go (done s) = go s
then_run go (refused r s) = refused r s

-- at most n orders
unfoldable pub run : Frame → ℕ → State → Run
run f zero s = at_end s.left (ended s) (paused s)
run f (suc n) s = at_end s.left (ended s) (then_run (run f n) (step f s))

-- all orders: each has at least one byte, so there are at most as many as bytes
unfoldable pub decode : Frame → List ℕ → Run
decode f stream = run f (length stream) (start f stream)

-- ---- the picture and its report

-- the refusal (number 0: none), the format's number (0 where refused), the bytes of a pixel, the pixels painted, the orders
-- completed
pub record Result : Type 0 where
  pub refusal : Refusal
  pub format : ℕ
  pub bytes : ℕ
  pub painted : List Pixel
  pub orders : ℕ

unfoldable pub result_of : Refusal → ℕ → ℕ → State → Result
result_of r k D s = record { refusal = r; format = k; bytes = D; painted = s.painted; orders = s.orders }

unfoldable pub of_run : Frame → ℕ → Run → Result
of_run f k (ended s) = result_of (refusal 0 0 0) k f.bytes s
of_run f k (paused s) = result_of (refusal 0 0 0) 0 f.bytes s
of_run f k (refused r s) = result_of r 0 f.bytes s

unfoldable pub of_checked : List ℕ → Checked → Result
of_checked stream (Checked.refused r) = record { refusal = r; format = 0; bytes = 0; painted = []; orders = 0 }
of_checked stream (accepted f k) = of_run f k (decode f stream)

-- the definition: what decoding gives in every target that has space
unfoldable pub result : List ℕ → ℕ → ℕ → ℕ → Result
result stream bpp w h = of_checked stream (checked bpp w h)

-- the same with refusal 4 tested beside it, of which only the target's length is seen
unfoldable pub result_in : ℕ → List ℕ → ℕ → ℕ → ℕ → Result
result_in given stream bpp w h = of_checked stream (with_space given (checked bpp w h))

-- ---- what a report says of a result

pub record Summary : Type 0 where
  pub refusal : Refusal
  pub format : ℕ
  pub pixels : ℕ
  pub orders : ℕ

abbrev pub summary : Refusal → ℕ → ℕ → ℕ → Summary
summary refusal format pixels orders = record { refusal = refusal; format = format; pixels = pixels; orders = orders }

abbrev pub summary_of : Result → Summary
summary_of e = summary e.refusal e.format (length e.painted) e.orders
