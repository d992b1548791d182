-- An order without its pixels. Which order comes, what it reads, how many pixels it paints and how it ends follow from the stream's
-- bytes and from counts, never from a pixel; so an order can be planned without a target, and its pixels painted later. That each
-- order is its plan carried out is `step_planned`, proofs/Planned.antt.
use Rattle.std.specs.Prelude.{List, Bool, true, false, ℕ, suc, ◌+◌, ◌-◌, ◌*◌, ◌/◌, ◌%◌, min, ltb, leb, length, get_or, drop}
use Rattle.base.specs.Picks.{pick}
use Rattle.picture.specs.Pixels.{Pixel, first_pixel, pixel_at}
use Rattle.picture.specs.Sizes.{Refusal, refusal, Frame}
use Rattle.definition.specs.Orders.{Kind, BgRun, FgRun, FgBgImage, ColorRun, ColorImage, SetFgRun, SetFgBgImage, DitheredRun, SpecialFgBg1, SpecialFgBg2, White, Black, NoOrder, Place, Head, head, head_of, row_of, place_of}
use Rattle.definition.specs.Decode.{Ink, solid, fg_ink, bg_ink, insert_ink, mask_ink, dither_ink, paint, State, state, Step, done}
use Rattle.definition.specs.Records.{Record}

-- ---- what an order reads and paints, by counts alone

pub data Ending : Type 0 where
  complete : Ending
  refused : Refusal → Ending

-- bytes read behind the run length, pixels painted, and the order's end
pub record Counts : Type 0 where
  pub read : ℕ
  pub pixels : ℕ
  pub ending : Ending

abbrev pub counts : ℕ → ℕ → Ending → Counts
counts read pixels ending = record { read = read; pixels = pixels; ending = ending }

-- c behind d more bytes
unfoldable pub behind : ℕ → Counts → Counts
behind d c = counts (d + c.read) c.pixels c.ending

-- c behind d operand bytes where so many of the a bytes left are there, else refusal 6
unfoldable pub with_operands : ℕ → ℕ → Counts → Counts
with_operands d a c = pick (leb d a) (behind d c) (counts 0 0 (refused (refusal 6 d a)))

-- n pixels of D bytes into a room of R pixels: all of them or none
unfoldable pub run_counts : ℕ → ℕ → ℕ → Counts
run_counts D n R = pick (leb n R) (counts 0 n complete) (counts 0 0 (refused (refusal 7 (R * D) (n * D))))

-- the masks of n pixels, eight to a mask
unfoldable pub masks_for : ℕ → ℕ
masks_for n = (n + 7) / 8

-- an image that ends behind all of the a masks left, each with its eight pixels
unfoldable pub no_mask : ℕ → Counts
no_mask a = counts a (a * 8) (refused (refusal 6 1 0))

-- an image that ends at the first mask without room: R / 8 masks have theirs
unfoldable pub no_room : ℕ → ℕ → ℕ → Counts
no_room D n R = counts (suc (R / 8)) (R / 8 * 8) (refused (refusal 7 (R % 8 * D) (min 8 (n - R / 8 * 8) * D)))

-- an fg/bg image of n pixels with a masks left: it paints mask by mask, until a mask or its room is missing
unfoldable pub image_counts : ℕ → ℕ → ℕ → ℕ → Counts
image_counts D n a R =
    pick (leb n R) (pick (leb (masks_for n) a) (counts (masks_for n) n complete) (no_mask a))
    (pick (leb a (R / 8)) (no_mask a) (no_room D n R))

-- an order of run length n, with a bytes left and a room of R pixels, of D bytes each
unfoldable pub counts_of : ℕ → Kind → ℕ → ℕ → ℕ → Counts
counts_of D BgRun n a R = run_counts D n R
counts_of D FgRun n a R = run_counts D n R
counts_of D FgBgImage n a R = image_counts D n a R
counts_of D ColorRun n a R = with_operands D a (run_counts D n R)
counts_of D ColorImage n a R = with_operands (n * D) a (run_counts D n R)
counts_of D SetFgRun n a R = with_operands D a (run_counts D n R)
counts_of D SetFgBgImage n a R = with_operands D a (image_counts D n (a - D) R)
counts_of D DitheredRun n a R = with_operands (2 * D) a (run_counts D (n * 2) R)
counts_of D SpecialFgBg1 n a R = run_counts D n R
counts_of D SpecialFgBg2 n a R = run_counts D n R
counts_of D White n a R = run_counts D n R
counts_of D Black n a R = run_counts D n R
counts_of D NoOrder n a R = counts 0 0 (refused (refusal 5 0 0))

-- ---- what an order leaves besides its pixels

-- a pending insert, a foreground that stands first in its operands, or neither
pub data Left : Type 0 where
  an_insert : Left
  a_foreground : Left
  nothing : Left

unfoldable pub leaves : Kind → Left
leaves BgRun = an_insert
leaves FgRun = nothing
leaves FgBgImage = nothing
leaves ColorRun = nothing
leaves ColorImage = nothing
leaves SetFgRun = a_foreground
leaves SetFgBgImage = a_foreground
leaves DitheredRun = nothing
leaves SpecialFgBg1 = nothing
leaves SpecialFgBg2 = nothing
leaves White = nothing
leaves Black = nothing
leaves NoOrder = nothing

unfoldable pub insert_in : Left → Bool
insert_in an_insert = true
insert_in a_foreground = false
insert_in nothing = false

-- a foreground that stands first in the operands, where its D bytes are there
unfoldable pub new_foreground : ℕ → Pixel → List ℕ → Pixel
new_foreground D p operands = pick (leb D (length operands)) (first_pixel D operands) p

-- the foreground after it, from the one before and the bytes from its operands on
unfoldable pub foreground_in : ℕ → Left → Pixel → List ℕ → Pixel
foreground_in D an_insert p operands = p
foreground_in D a_foreground p operands = new_foreground D p operands
foreground_in D nothing p operands = p

abbrev pub leaves_insert : Kind → Bool
leaves_insert k = insert_in (leaves k)

abbrev pub foreground_by : ℕ → Kind → Pixel → List ℕ → Pixel
foreground_by D k p operands = foreground_in D (leaves k) p operands

-- a completed order is counted, and says whether an insert is pending; a refused one leaves both
unfoldable pub insert_after : Ending → Bool → Bool → Bool
insert_after complete i before = i
insert_after (refused r) i before = before

unfoldable pub orders_after : Ending → ℕ → ℕ
orders_after complete n = n + 1
orders_after (refused r) n = n

-- ---- what an order paints with, by the bytes from its operands on

-- pixel j of an fg/bg image: bit j % 8 of mask j / 8
unfoldable pub image_ink : Ink → Ink → List ℕ → ℕ → Ink
image_ink fg bg masks j = mask_ink fg bg (get_or masks (j / 8) 0) (j % 8)

-- pixel j of an order, by its foreground and background
unfoldable pub kind_ink : Frame → Kind → Bool → Ink → Ink → List ℕ → ℕ → Ink
kind_ink f BgRun inserted fg bg operands j = insert_ink inserted fg bg j
kind_ink f FgRun inserted fg bg operands j = fg
kind_ink f FgBgImage inserted fg bg operands j = image_ink fg bg operands j
kind_ink f ColorRun inserted fg bg operands j = solid (first_pixel f.bytes operands)
kind_ink f ColorImage inserted fg bg operands j = solid (pixel_at f.bytes operands j)
kind_ink f SetFgRun inserted fg bg operands j = fg
kind_ink f SetFgBgImage inserted fg bg operands j = image_ink fg bg (drop f.bytes operands) j
kind_ink f DitheredRun inserted fg bg operands j = dither_ink (first_pixel f.bytes operands) (first_pixel f.bytes (drop f.bytes operands)) j
kind_ink f SpecialFgBg1 inserted fg bg operands j = mask_ink fg bg 0x03 j
kind_ink f SpecialFgBg2 inserted fg bg operands j = mask_ink fg bg 0x05 j
kind_ink f White inserted fg bg operands j = solid f.white
kind_ink f Black inserted fg bg operands j = solid f.black
kind_ink f NoOrder inserted fg bg operands j = bg

-- ---- the plan of an order

-- a state without its pixels
pub record Progress : Type 0 where
  -- stream bytes left
  pub left : List ℕ
  -- how many pixels are painted
  pub pixels : ℕ
  -- as in a state
  pub insert : Bool
  pub first_row : Bool
  pub orders : ℕ

abbrev pub progress : List ℕ → ℕ → Bool → Bool → ℕ → Progress
progress left pixels insert first_row orders =
    record { left = left; pixels = pixels; insert = insert; first_row = first_row; orders = orders }

unfoldable pub progress_of : State → Progress
progress_of s = progress s.left (length s.painted) s.insert s.first_row s.orders

pub record Plan : Type 0 where
  pub header : ℕ
  -- no order where the run length is refused
  pub kind : Kind
  -- where the run length stands
  pub place : Place
  -- 0 where it is refused
  pub run_length : ℕ
  -- the stream's bytes from the order's operands on, and how many of them it reads
  pub operands : List ℕ
  pub read : ℕ
  -- how many pixels it paints, those before a refusal too
  pub pixels : ℕ
  -- whether the first of them is an inserted foreground pixel
  pub inserted : Bool
  pub ending : Ending
  pub after : Progress

-- the plan of an order whose run length is read, and whose counts are known
unfoldable pub plan_by : ℕ → Kind → ℕ → List ℕ → Progress → Counts → Plan
plan_by h k n operands m c =
    record {
      header = h;
      kind = k;
      place = place_of (row_of h) h;
      run_length = n;
      operands = operands;
      read = c.read;
      pixels = c.pixels;
      inserted = pick (leaves_insert k) m.insert false;
      ending = c.ending;
      after =
          progress (drop c.read operands) (m.pixels + c.pixels) (insert_after c.ending (leaves_insert k) m.insert) m.first_row
          (orders_after c.ending m.orders);
    }

unfoldable pub plan_from : Frame → ℕ → Progress → Head → Plan
plan_from f h m (head k n rest) = plan_by h k n rest m (counts_of f.bytes k n (length rest) (f.total - m.pixels))
plan_from f h m (Head.refused r rest) = plan_by h NoOrder 0 rest m (counts 0 0 (refused r))

-- the first row's end, as at an order's start
unfoldable pub past_first_row : Frame → Progress → Progress
past_first_row f m =
    let stays = ltb m.pixels f.width in
    progress m.left m.pixels (pick m.first_row (pick stays m.insert false) m.insert) (pick m.first_row stays false) m.orders

-- the next order, of a stream with a byte left
unfoldable pub plan_of : Frame → Progress → Plan
plan_of f m = plan_from f (get_or m.left 0 0) (past_first_row f m) (head_of m.left)

-- what the order will have been, where it is completed
unfoldable pub plan_record : Plan → Record
plan_record a =
    record {
      header = a.header;
      place = a.place;
      kind = a.kind;
      run_length = a.run_length;
      pixels = a.pixels;
      first_row = a.after.first_row;
      inserted = a.inserted;
    }

-- ---- the plan carried out

-- the foreground after a plan, from the one before
unfoldable pub plan_foreground : Frame → Pixel → Plan → Pixel
plan_foreground f p a = foreground_by f.bytes a.kind p a.operands

-- pixel j of a plan, from the foreground before
unfoldable pub plan_ink : Frame → Pixel → Plan → ℕ → Ink
plan_ink f p a j =
    kind_ink f a.kind a.inserted (fg_ink a.after.first_row (plan_foreground f p a)) (bg_ink a.after.first_row f.black) a.operands j

unfoldable pub plan_state : Frame → State → Plan → State
plan_state f s a =
    state a.after.left (paint f.width (plan_ink f s.foreground a) a.pixels s.painted) (plan_foreground f s.foreground a)
    a.after.insert a.after.first_row a.after.orders

unfoldable pub end_with : Ending → State → Step
end_with complete s = done s
end_with (refused r) s = Step.refused r s

unfoldable pub plan_step : Frame → State → Plan → Step
plan_step f s a = end_with a.ending (plan_state f s a)
