-- A row to show: row r of the new picture where it is wholly painted, else the same part of the picture on screen. An empty part
-- of the new one for bad depth or sizes, no such row, or a slice that is shorter than the picture.
use Rattle.std.specs.Prelude.{List, Bool, true, false, ℕ, ◌+◌, ◌*◌, ltb, length, take, drop}
use Rattle.std.specs.Borrow.{Bor}
use Rattle.base.specs.Picks.{pick}
use Rattle.picture.specs.Sizes.{checked, depth_of, Size, size_of, has_space}
use Rattle.screen.specs.declared.Part.{Part}
use Rattle.screen.specs.declared.Source.{Source}
use Rattle.screen.specs.declared.Source.TheVariants.{New, Screen}

-- a part of the new picture or of the one on screen, in bytes
pub record RowPart : Type 0 where
  pub on_screen : Bool
  pub start : ℕ
  pub size : ℕ

abbrev pub row_part : Bool → ℕ → ℕ → RowPart
row_part s a n = record { on_screen = s; start = a; size = n }

-- an empty part of the new picture
abbrev pub no_part : RowPart
no_part = row_part false 0 0

-- in pictures of `size`, of which the slices have `new` and `screen` bytes: row r of h, w pixels of D bytes each
unfoldable pub part_in : Size → ℕ → ℕ → ℕ → ℕ → ℕ → ℕ → ℕ → RowPart
part_in size D new pixels screen w h r =
    pick (has_space new size)
    (pick (has_space screen size)
    (pick (ltb r h) (row_part (ltb pixels ((r + 1) * w)) (r * (w * D)) (w * D)) no_part)
    no_part)
    no_part

-- where the row to show stands
unfoldable pub part_to_show : ℕ → ℕ → ℕ → ℕ → ℕ → ℕ → ℕ → RowPart
part_to_show new pixels screen bpp w h r =
    part_in (size_of (checked bpp w h)) (depth_of bpp).bytes new pixels screen w h r

-- the bytes of a part
unfoldable pub part_bytes : List ℕ → List ℕ → RowPart → List ℕ
part_bytes new screen p = take p.size (drop p.start (pick p.on_screen screen new))

-- the definition: the row to show
unfoldable pub row_to_show : List ℕ → ℕ → List ℕ → ℕ → ℕ → ℕ → ℕ → List ℕ
row_to_show new pixels screen bpp w h r =
    part_bytes new screen (part_to_show (length new) pixels (length screen) bpp w h r)

-- where a part begins in memory, a block and a place in it, for slices that begin at `new` and `screen`
unfoldable pub part_place : ℕ × ℕ → ℕ × ℕ → RowPart → ℕ × ℕ
part_place new screen p = ((pick p.on_screen screen new).0, p.start + (pick p.on_screen screen new).1)

-- the definition: where the row to show begins, which tells of which slice it is a part
abbrev pub place_to_show : Bor (List ℕ) → ℕ → Bor (List ℕ) → ℕ → ℕ → ℕ → ℕ → ℕ × ℕ
place_to_show new pixels screen bpp w h r =
    part_place new.ref_ptr screen.ref_ptr (part_to_show (length new.now) pixels (length screen.now) bpp w h r)

-- the part that the code's stands for
abbrev pub on_screen : Source → Bool
on_screen New = false
on_screen Screen = true

abbrev pub part_of : Part → RowPart
part_of p = row_part (on_screen p.source) p.start p.size
