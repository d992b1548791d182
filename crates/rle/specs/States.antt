-- The code's frame and state: what they stand for in the definition, what holds of a state between orders, and the states that the
-- functions of state.rt answer.
use Rattle.std.specs.Prelude.{Bool, true, false, Option, Result, Ok, Err, ◌≡◌, List, [], ◌∷◌, ℕ, ◌+◌, ◌*◌, ◌≤◌, ltb, drop}
use Rattle.std.specs.Bool.{then_some}
use Rattle.base.specs.Picks.{pick}
use Rattle.picture.specs.Pixels.{Pixel, pixels_of, OfDepth}
use Rattle.picture.specs.Sizes.{Frame, Checked, accepted, refused}
use Rattle.picture.specs.Outcomes.{refusal_of, format_of}
use Rattle.definition.specs.Decode.{State}
use Rattle.definition.specs.Plan.{insert_after, orders_after}
use Rattle.rle.specs.declared.paint.Ink.{Ink as CodeInk}
use Rattle.rle.specs.declared.paint.Ink.TheVariants.{Solid, Above, AboveXor}
use Rattle.rle.specs.declared.span.Span.{Span}
use Rattle.picture.specs.declared.outcome.RleError.{RleError}
use Rattle.picture.specs.declared.outcome.RlePixelFormat.{RlePixelFormat}
use Rattle.rle.specs.declared.plan.Plan.{Plan as CodePlan}
use Rattle.rle.specs.declared.frame.Frame.{Frame as CodeFrame}
use Rattle.rle.specs.declared.state.State.{State as CodeState}
use Rattle.rle.specs.declared.state.Stepped.{Stepped}
use Rattle.decoder_state.specs.declared.State.{State as KeptState}
use Rattle.rle.specs.Planning.{ending_in}

abbrev pub frame_of : CodeFrame → Frame
frame_of f =
    record {
      bytes = f.depth.bytes;
      white = f.depth.white;
      black = f.depth.black;
      width = f.width;
      total = f.total;
    }

-- the definition's frame and format number, or its refusal
abbrev pub checked_in : Result (CodeFrame × RlePixelFormat) RleError → Checked
checked_in (Ok x) = accepted (frame_of x.0) (format_of x.1)
checked_in (Err e) = refused (refusal_of e)

-- the definition's state that the code's stands for, with the stream src and the target dst
abbrev pub state_of : Frame → List ℕ → List ℕ → CodeState → State
state_of f src dst s =
    record {
      left = drop s.walk.pos src;
      painted = pixels_of f.bytes s.walk.pixels dst;
      foreground = s.foreground;
      insert = s.walk.insert;
      first_row = s.walk.first_row;
      orders = s.orders;
    }

-- a frame that decoding can go by, with a target of `given` bytes
pub record Framed (given : ℕ) (f : Frame) : Type 0 where
  pub low : 1 ≤ f.bytes
  pub high : f.bytes ≤ 3
  pub wide : 1 ≤ f.width
  pub few : f.total ≤ 67108864
  pub fits : f.total * f.bytes ≤ given
  pub white : OfDepth f.bytes f.white
  pub black : f.black ≡ 0 ∷ 0 ∷ 0 ∷ []

-- the row above is there once the first row has ended
abbrev pub row_above : Bool → ℕ → ℕ
row_above true w = 0
row_above false w = w

-- what holds of a state between orders
pub record Invariant (f : Frame) (s : CodeState) : Type 0 where
  pub within : s.walk.pixels ≤ f.total
  pub row : row_above s.walk.first_row f.width ≤ s.walk.pixels
  pub foreground : OfDepth f.bytes s.foreground
  pub counted : s.orders ≤ s.walk.pixels

-- in the first row a color, later by the pixel above
abbrev pub fg_of : CodeState → CodeInk
fg_of s = pick s.walk.first_row (Solid s.foreground) (AboveXor s.foreground)

abbrev pub bg_of : CodeFrame → CodeState → CodeInk
bg_of f s = pick s.walk.first_row (Solid f.depth.black) Above

-- the ink that a pending insert begins a background run with
abbrev pub insert_of : CodeState → Option CodeInk
insert_of s = then_some s.walk.insert (fg_of s)

-- the n pixels that come next
pub record IsSpan (f : CodeFrame) (s : CodeState) (n : ℕ) (t : Span) : Type 0 where
  pub bytes : t.bytes ≡ f.depth.bytes
  pub width : t.width ≡ f.width
  pub start : t.start ≡ s.walk.pixels
  pub pixels : t.pixels ≡ n

-- ---- the states that the functions here answer, exactly

-- the state that a caller keeps, and back
abbrev pub state_from : KeptState → CodeState
state_from s =
    record {
      foreground = s.foreground;
      walk = record { pos = s.pos; insert = s.insert; pixels = s.pixels; first_row = s.first_row };
      orders = s.orders;
    }

abbrev pub kept_state : CodeState → KeptState
kept_state s =
    record {
      foreground = s.foreground;
      pos = s.walk.pos;
      insert = s.walk.insert;
      pixels = s.walk.pixels;
      first_row = s.walk.first_row;
      orders = s.orders;
    }

abbrev pub with_fg : CodeState → Pixel → CodeState
with_fg s p =
    record {
      foreground = p;
      walk = s.walk;
      orders = s.orders;
    }

abbrev pub at_pos : CodeState → ℕ → CodeState
at_pos s pos =
    record {
      foreground = s.foreground;
      walk = record { pos = pos; insert = s.walk.insert; pixels = s.walk.pixels; first_row = s.walk.first_row };
      orders = s.orders;
    }

abbrev pub completed_in : CodeState → Stepped
completed_in s = record { ending = Ok tt; state = s }

abbrev pub refused_in : RleError → CodeState → Stepped
refused_in e s = record { ending = Err e; state = s }

-- no number of the state behind a plan is too large
pub record Fits (s : CodeState) (p : CodePlan) : Type 0 where
  pub read : s.walk.pos + p.read ≤ 18446744073709551615
  pub pixels : s.walk.pixels + p.pixels ≤ 67108864
  pub counted : s.orders ≤ s.walk.pixels

-- the ending and the state of an order that is carried out as planned
abbrev pub finished_of : CodeState → CodePlan → Bool → Stepped
finished_of s p i =
    record {
      ending = p.ending;
      state = record {
        foreground = s.foreground;
        walk = record { pos = s.walk.pos + p.read; insert = insert_after (ending_in p.ending) i s.walk.insert; pixels = s.walk.pixels + p.pixels; first_row = s.walk.first_row };
        orders = orders_after (ending_in p.ending) s.orders;
      };
    }

abbrev pub first_row_ended : CodeFrame → CodeState → CodeState
first_row_ended f s =
    record {
      foreground = s.foreground;
      walk = record { pos = s.walk.pos; pixels = s.walk.pixels; insert = pick s.walk.first_row (pick (ltb s.walk.pixels f.width) s.walk.insert false) s.walk.insert; first_row = pick s.walk.first_row (ltb s.walk.pixels f.width) false };
      orders = s.orders;
    }

abbrev pub start_of : CodeFrame → CodeState
start_of f = record { walk = record { pos = 0; pixels = 0; insert = false; first_row = true }; foreground = f.depth.white; orders = 0 }
