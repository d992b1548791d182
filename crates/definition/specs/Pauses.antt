-- Decoding that stops after some orders and goes on from a state by value. The states of Decode.antt hold the bytes left and the
-- pixels painted; a state by value has places in the stream and in the target, and stands for one of them where both are given.
use Rattle.std.specs.Prelude.{List, Option, None, Some, Bool, true, false, ℕ, ◌-◌, ltb, length, get_or, drop}
use Rattle.base.specs.Picks.{pick}
use Rattle.picture.specs.Pixels.{Pixel, pixels_of}
use Rattle.picture.specs.Sizes.{refusal, Frame, depth_of, Checked, accepted, checked, with_space}
use Rattle.definition.specs.Decode.{State, state, start, Run, ended, paused, refused, run, Result, of_run, of_checked}

-- ---- states by value

pub record Saved : Type 0 where
  -- how many bytes of the stream are read
  pub place : ℕ
  -- how many pixels are painted
  pub pixels : ℕ
  pub foreground : Pixel
  pub insert : Bool
  pub first_row : Bool
  -- orders completed
  pub orders : ℕ

abbrev pub saved : ℕ → ℕ → Pixel → Bool → Bool → ℕ → Saved
saved place pixels foreground insert first_row orders =
    record { place = place; pixels = pixels; foreground = foreground; insert = insert; first_row = first_row; orders = orders }

-- before the first order, at a depth
unfoldable pub start_at : ℕ → Saved
start_at bpp = saved 0 0 (depth_of bpp).white false true 0

-- the state that s stands for: the stream's bytes from its place on, and the target's first pixels
abbrev pub restored : Frame → List ℕ → List ℕ → Saved → State
restored f stream target s =
    state (drop s.place stream) (pixels_of f.bytes s.pixels target) s.foreground s.insert s.first_row s.orders

-- the one that stands for t, in a stream of `size` bytes
unfoldable pub saved_of : ℕ → State → Saved
saved_of size t = saved (size - length t.left) (length t.painted) t.foreground t.insert t.first_row t.orders

-- ---- refusal 15

-- a byte that pixels of D bytes do not use is not zero
unfoldable pub unused_byte : ℕ → Pixel → Bool
unused_byte D p = pick (pick (ltb 1 D) false (ltb 0 (get_or p 1 0))) true (pick (ltb 2 D) false (ltb 0 (get_or p 2 0)))

-- in a stream of `size` bytes, for a picture of `total` pixels of D bytes in rows of w: the place is past the stream, the pixels are past
-- the picture, the orders exceed the pixels, the first-row mark is off with less than a row painted, or the foreground has an unused
-- byte that is not zero
unfoldable pub bad_state : ℕ → ℕ → ℕ → ℕ → Saved → Bool
bad_state size total w D s =
    pick (ltb size s.place) true
    (pick (ltb total s.pixels) true
    (pick (ltb s.pixels s.orders) true
    (pick (pick s.first_row false (ltb s.pixels w)) true (unused_byte D s.foreground))))

unfoldable pub with_state : ℕ → Saved → Checked → Checked
with_state size s (Checked.refused r) = Checked.refused r
with_state size s (accepted f k) =
    pick (bad_state size f.total f.width f.bytes s) (Checked.refused (refusal 15 0 0)) (accepted f k)

-- ---- some orders

-- what a call gives: the result, with all pixels painted by then, and the state to go on from where it is paused. A paused one has no
-- refusal and no format
pub record Part : Type 0 where
  pub result : Result
  pub state : Option Saved

unfoldable pub paused_in : ℕ → Run → Option Saved
paused_in size (ended t) = None
paused_in size (paused t) = Some (saved_of size t)
paused_in size (refused r t) = None

unfoldable pub part_of : List ℕ → List ℕ → Saved → ℕ → Checked → Part
part_of stream target s n (Checked.refused r) = record { result = of_checked stream (Checked.refused r); state = None }
part_of stream target s n (accepted f k) =
    let r = run f n (restored f stream target s) in
    record { result = of_run f k r; state = paused_in (length stream) r }

-- the definition: at most n orders from the state s on, in a target that holds `target`; refusal 15 comes after 1 to 4
unfoldable pub decode_some : List ℕ → ℕ → ℕ → ℕ → List ℕ → Saved → ℕ → Part
decode_some stream bpp w h target s n = part_of stream target s n (with_state (length stream) s (with_space (length target) (checked bpp w h)))

-- ---- some orders from the start

-- what at most n orders of a stream give in every target that has space: as in `result`, none is seen
unfoldable pub first_of : ℕ → List ℕ → Checked → Result
first_of n stream (Checked.refused r) = of_checked stream (Checked.refused r)
first_of n stream (accepted f k) = of_run f k (run f n (start f stream))

unfoldable pub first_orders : ℕ → List ℕ → ℕ → ℕ → ℕ → Result
first_orders n stream bpp w h = first_of n stream (checked bpp w h)
