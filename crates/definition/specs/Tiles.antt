-- Tiles with what they paint: proofs/Tiles.antt runs the definition on each of them. Written as rows of stream, refusal (number and
-- both values; 0 0 0: none), format (0 where refused), pixels painted, orders completed, and painted bytes.
use Rattle.std.specs.Prelude.{List, [], ◌∷◌, ℕ}
use Rattle.picture.specs.Pixels
use Rattle.picture.specs.Sizes.{Refusal, refusal}
use Rattle.definition.specs.Decode.{Result, result, Summary, summary, summary_of}

pub record Tile : Type 0 where
  pub bpp : ℕ
  pub width : ℕ
  pub height : ℕ
  pub stream : List ℕ
  pub report : Summary
  pub painted : List ℕ

-- bpp 8, width 4, height 2
abbrev tile : List ℕ → Refusal → ℕ → ℕ → ℕ → List ℕ → Tile
tile stream r format pixels orders painted =
    record { bpp = 8; width = 4; height = 2; stream = stream; report = summary r format pixels orders; painted = painted }

abbrev ok : Refusal
ok = refusal 0 0 0

-- two background runs, between which a foreground pixel is inserted
abbrev pub two_runs : Tile
two_runs = tile (0x02 ∷ 0x02 ∷ []) ok 8 4 2 (0x00 ∷ 0x00 ∷ 0xFF ∷ 0x00 ∷ [])

unfoldable pub tiles : List Tile
tiles =
    tile [] ok 8 0 0 []
    ∷ two_runs
    ∷ tile (0x04 ∷ 0x01 ∷ []) ok 8 5 2 (0x00 ∷ 0x00 ∷ 0x00 ∷ 0x00 ∷ 0x00 ∷ [])
    ∷ tile (0x26 ∷ []) ok 8 6 1 (0xFF ∷ 0xFF ∷ 0xFF ∷ 0xFF ∷ 0xFF ∷ 0xFF ∷ [])
    ∷ tile (0x24 ∷ 0x22 ∷ []) ok 8 6 2 (0xFF ∷ 0xFF ∷ 0xFF ∷ 0xFF ∷ 0x00 ∷ 0x00 ∷ [])
    ∷ tile (0x24 ∷ 0x01 ∷ 0x01 ∷ []) ok 8 6 3 (0xFF ∷ 0xFF ∷ 0xFF ∷ 0xFF ∷ 0xFF ∷ 0x00 ∷ [])
    ∷ tile (0xE2 ∷ 0x0A ∷ 0x0B ∷ []) ok 8 4 1 (0x0A ∷ 0x0B ∷ 0x0A ∷ 0x0B ∷ [])
    ∷ tile (0x41 ∷ 0x05 ∷ []) ok 8 8 1 (0xFF ∷ 0x00 ∷ 0xFF ∷ 0x00 ∷ 0x00 ∷ 0x00 ∷ 0x00 ∷ 0x00 ∷ [])
    ∷ tile (0xFA ∷ []) ok 8 8 1 (0xFF ∷ 0x00 ∷ 0xFF ∷ 0x00 ∷ 0x00 ∷ 0x00 ∷ 0x00 ∷ 0x00 ∷ [])
    ∷ tile (0x09 ∷ []) (refusal 7 8 9) 0 0 0 []
    ∷ tile (0x24 ∷ 0xA0 ∷ []) (refusal 5 0 0) 0 4 1 (0xFF ∷ 0xFF ∷ 0xFF ∷ 0xFF ∷ [])
    ∷ tile (0x40 ∷ 0x0B ∷ 0x81 ∷ []) (refusal 6 1 0) 0 8 0 (0xFF ∷ 0x00 ∷ 0x00 ∷ 0x00 ∷ 0x00 ∷ 0x00 ∷ 0x00 ∷ 0xFF ∷ [])
    ∷ tile (0x40 ∷ 0x0B ∷ 0x81 ∷ 0x00 ∷ []) (refusal 7 0 4) 0 8 0 (0xFF ∷ 0x00 ∷ 0x00 ∷ 0x00 ∷ 0x00 ∷ 0x00 ∷ 0x00 ∷ 0xFF ∷ [])
    ∷ tile (0xF0 ∷ 0x00 ∷ 0x00 ∷ []) (refusal 8 0 0) 0 0 0 []
    ∷ tile (0xF0 ∷ 0x00 ∷ []) (refusal 6 2 1) 0 0 0 []
    ∷ record { bpp = 24; width = 1; height = 2; stream = 0xFD ∷ 0xFE ∷ []; report = summary ok 24 2 2; painted = 0xFF ∷ 0xFF ∷ 0xFF ∷ 0x00 ∷ 0x00 ∷ 0x00 ∷ [] }
    ∷ []

-- what the definition makes of a tile's stream
unfoldable pub painting : Tile → Result → Tile
painting t r =
    record {
      bpp = t.bpp;
      width = t.width;
      height = t.height;
      stream = t.stream;
      report = summary_of r;
      painted = Pixels.bytes_of r.bytes r.painted;
    }

unfoldable pub decoded : Tile → Tile
decoded t = painting t (result t.stream t.bpp t.width t.height)
