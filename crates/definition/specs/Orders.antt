-- An order's start in the stream: the header byte's kind, and the run length (MS-RDPBCGR 2.2.9.1.1.3.1.2.4). Bytes alone: no
-- picture and no state.
use Rattle.std.specs.Prelude.{List, [], ◌∷◌, Bool, true, false, ℕ, ◌+◌, ◌*◌, ◌%◌, ltb, leb, eqb, length, get_or, drop}
use Rattle.base.specs.Picks.{pick}
use Rattle.picture.specs.Sizes.{Refusal, refusal}

pub data Kind : Type 0 where
  BgRun : Kind
  FgRun : Kind
  FgBgImage : Kind
  ColorRun : Kind
  ColorImage : Kind
  SetFgRun : Kind
  SetFgBgImage : Kind
  DitheredRun : Kind
  SpecialFgBg1 : Kind
  SpecialFgBg2 : Kind
  White : Kind
  Black : Kind
  NoOrder : Kind

-- how a kind writes its run lengths
pub data Lengths : Type 0 where
  -- unit, mega, header: the header's low bits times the unit; if they are 0, the next byte plus `mega`; with this one header
  -- (mega-mega), the next two bytes, low byte first
  written : ℕ → ℕ → ℕ → Lengths
  -- always so many pixels
  fixed : ℕ → Lengths

-- a kind; its headers, `size` of them from `from` on, besides the mega-mega one; its run lengths
pub record Row : Type 0 where
  pub kind : Kind
  pub from : ℕ
  pub size : ℕ
  pub lengths : Lengths

unfoldable pub row : Kind → ℕ → ℕ → Lengths → Row
row k a n l = record { kind = k; from = a; size = n; lengths = l }

-- one row for each kind
unfoldable pub rows : List Row
unfolding row
rows =
    row BgRun 0x00 32 (written 1 32 0xF0)
    ∷ row FgRun 0x20 32 (written 1 32 0xF1)
    ∷ row FgBgImage 0x40 32 (written 8 1 0xF2)
    ∷ row ColorRun 0x60 32 (written 1 32 0xF3)
    ∷ row ColorImage 0x80 32 (written 1 32 0xF4)
    ∷ row SetFgRun 0xC0 16 (written 1 16 0xF6)
    ∷ row SetFgBgImage 0xD0 16 (written 8 1 0xF7)
    ∷ row DitheredRun 0xE0 16 (written 1 16 0xF8)
    ∷ row SpecialFgBg1 0xF9 1 (fixed 8)
    ∷ row SpecialFgBg2 0xFA 1 (fixed 8)
    ∷ row White 0xFD 1 (fixed 1)
    ∷ row Black 0xFE 1 (fixed 1)
    ∷ []

unfoldable pub no_row : Row
unfolding row
no_row = row NoOrder 0 0 (fixed 1)

unfoldable pub is_mega_mega : ℕ → Lengths → Bool
is_mega_mega h (written unit mega header) = eqb h header
is_mega_mega h (fixed n) = false

unfoldable pub has_header : ℕ → Row → Bool
has_header h r = pick (pick (leb r.from h) (ltb h (r.from + r.size)) false) true (is_mega_mega h r.lengths)

unfoldable pub row_in : ℕ → List Row → Row
row_in h [] = no_row
row_in h (r ∷ rs) = pick (has_header h r) r (row_in h rs)

-- the row of a header
unfoldable pub row_of : ℕ → Row
row_of h = row_in h rows

-- where a run length stands: nowhere (its kind has just one), in the header, in the byte after it, or in two
pub data Place : Type 0 where
  nowhere : Place
  in_header : Place
  in_byte : Place
  in_two_bytes : Place

unfoldable pub place_in : ℕ → ℕ → Lengths → Place
place_in h size (written unit mega header) = pick (eqb h header) in_two_bytes (pick (eqb (h % size) 0) in_byte in_header)
place_in h size (fixed n) = nowhere

-- the place of the length in an order with header h, of row r
unfoldable pub place_of : Row → ℕ → Place
place_of r h = place_in h r.size r.lengths

-- a run length with the stream's bytes left after it, or a refusal
pub data RunLength : Type 0 where
  run_length : ℕ → List ℕ → RunLength
  refused : Refusal → List ℕ → RunLength

-- l where k bytes are left, else refusal 6
unfoldable pub with_bytes : ℕ → List ℕ → RunLength → RunLength
with_bytes k rest l = pick (leb k (length rest)) l (refused (refusal 6 k (length rest)) rest)

unfoldable pub mega_length : ℕ → List ℕ → RunLength
mega_length mega rest = with_bytes 1 rest (run_length (get_or rest 0 0 + mega) (drop 1 rest))

unfoldable pub mega_mega_length : List ℕ → RunLength
mega_mega_length rest =
    let n = get_or rest 0 0 + get_or rest 1 0 * 256 in
    with_bytes 2 rest (pick (eqb n 0) (refused (refusal 8 0 0) (drop 2 rest)) (run_length n (drop 2 rest)))

-- the header's own length, where it stands there or nowhere
unfoldable pub own_length : ℕ → ℕ → Lengths → ℕ
own_length h size (written unit mega header) = h % size * unit
own_length h size (fixed n) = n

-- what is added to the length in the byte after the header
unfoldable pub mega_of : Lengths → ℕ
mega_of (written unit mega header) = mega
mega_of (fixed n) = 0

unfoldable pub length_at : Place → ℕ → ℕ → List ℕ → RunLength
length_at nowhere n mega rest = run_length n rest
length_at in_header n mega rest = run_length n rest
length_at in_byte n mega rest = mega_length mega rest
length_at in_two_bytes n mega rest = mega_mega_length rest

-- the run length of an order with header h, of row r
unfoldable pub length_of : Row → ℕ → List ℕ → RunLength
length_of r h rest = length_at (place_of r h) (own_length h r.size r.lengths) (mega_of r.lengths) rest

-- an order's kind, its run length, and the bytes left; or a refusal
pub data Head : Type 0 where
  head : Kind → ℕ → List ℕ → Head
  refused : Refusal → List ℕ → Head

unfoldable pub headed : Kind → RunLength → Head
headed k (run_length n rest) = head k n rest
headed k (refused r rest) = refused r rest

-- the start of a stream with a byte left
unfoldable pub head_of : List ℕ → Head
head_of stream =
    let h = get_or stream 0 0 in
    headed (row_of h).kind (length_of (row_of h) h (drop 1 stream))
