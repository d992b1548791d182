-- Pictures with what they are encoded to, and the bound for their sizes: proofs/Examples.antt runs the definition on each of them.
use Rattle.std.specs.Prelude.{List, [], ◌∷◌, ◌++◌, ℕ, suc, length, replicate}
use Rattle.picture.specs.Pixels.{bytes_of}
use Rattle.picture.specs.Sizes.{Refusal, refusal}
use Rattle.encoding.specs.Bound.{bound}
use Rattle.encoding.specs.Compress.{Compressed, compressed, length_of, refusal_of, output}

-- a picture in its buffer and an output; the refusal (0 0 0: none), the stream's length and the output afterwards; and the bound
pub record Example : Type 0 where
  pub bpp : ℕ
  pub width : ℕ
  pub height : ℕ
  pub pixels : List ℕ
  pub before : List ℕ
  pub refusal : Refusal
  pub length : ℕ
  pub after : List ℕ
  pub bound : ℕ

-- the stream s, in an output that has one byte more
abbrev written : ℕ → ℕ → ℕ → List ℕ → List ℕ → ℕ → Example
written bpp w h pixels s bound =
    record {
      bpp = bpp;
      width = w;
      height = h;
      pixels = pixels;
      before = replicate (suc (length s)) 0x99;
      refusal = refusal 0 0 0;
      length = length s;
      after = s ++ (0x99 ∷ []);
      bound = bound;
    }

-- a refusal, which leaves the output as it was
abbrev refused : ℕ → ℕ → ℕ → List ℕ → List ℕ → Refusal → ℕ → Example
refused bpp w h pixels before r bound =
    record {
      bpp = bpp;
      width = w;
      height = h;
      pixels = pixels;
      before = before;
      refusal = r;
      length = 0;
      after = before;
      bound = bound;
    }

-- 32 pixels, no two alike side by side
abbrev turns : List ℕ
turns = bytes_of 2 (replicate 16 (0x01 ∷ 0x02 ∷ []))

unfoldable pub examples : List Example
examples =
    -- one pixel; two equal ones are no run, three are
    written 8 1 1 (0x07 ∷ []) (0x81 ∷ 0x07 ∷ []) 2
    ∷ written 8 2 1 (0x05 ∷ 0x05 ∷ []) (0x82 ∷ 0x05 ∷ 0x05 ∷ []) 3
    ∷ written 8 3 1 (0x05 ∷ 0x05 ∷ 0x05 ∷ []) (0x63 ∷ 0x05 ∷ []) 4
    -- an image between runs
    ∷ written 8 8 1 (0x05 ∷ 0x05 ∷ 0x05 ∷ 0x01 ∷ 0x02 ∷ 0x06 ∷ 0x06 ∷ 0x06 ∷ []) (0x63 ∷ 0x05 ∷ 0x82 ∷ 0x01 ∷ 0x02 ∷ 0x63 ∷ 0x06 ∷ []) 9
    -- background on a tie
    ∷ written 8 4 2 (0x01 ∷ 0x05 ∷ 0x05 ∷ 0x05 ∷ 0x02 ∷ 0x05 ∷ 0x05 ∷ 0x05 ∷ []) (0x81 ∷ 0x01 ∷ 0x63 ∷ 0x05 ∷ 0x81 ∷ 0x02 ∷ 0x03 ∷ []) 9
    -- color where it has one pixel more, background where that has
    ∷ written 8 5 2
    (0x01 ∷ 0x05 ∷ 0x05 ∷ 0x05 ∷ 0x06 ∷ 0x02 ∷ 0x05 ∷ 0x05 ∷ 0x05 ∷ 0x05 ∷ [])
    (0x81 ∷ 0x01 ∷ 0x63 ∷ 0x05 ∷ 0x82 ∷ 0x06 ∷ 0x02 ∷ 0x64 ∷ 0x05 ∷ []) 11
    ∷ written 8 5 2
    (0x01 ∷ 0x05 ∷ 0x05 ∷ 0x05 ∷ 0x06 ∷ 0x02 ∷ 0x05 ∷ 0x05 ∷ 0x05 ∷ 0x06 ∷ [])
    (0x81 ∷ 0x01 ∷ 0x63 ∷ 0x05 ∷ 0x82 ∷ 0x06 ∷ 0x02 ∷ 0x04 ∷ []) 11
    -- two pixels as above are no run; more go past the end of a row
    ∷ written 8 3 2 (0x01 ∷ 0x02 ∷ 0x03 ∷ 0x01 ∷ 0x02 ∷ 0x04 ∷ []) (0x86 ∷ 0x01 ∷ 0x02 ∷ 0x03 ∷ 0x01 ∷ 0x02 ∷ 0x04 ∷ []) 7
    ∷ written 8 2 3 (0x01 ∷ 0x02 ∷ 0x01 ∷ 0x02 ∷ 0x01 ∷ 0x02 ∷ []) (0x82 ∷ 0x01 ∷ 0x02 ∷ 0x04 ∷ []) 7
    -- one column
    ∷ written 8 1 4 (0x01 ∷ 0x02 ∷ 0x02 ∷ 0x02 ∷ []) (0x81 ∷ 0x01 ∷ 0x63 ∷ 0x02 ∷ []) 5
    -- 15 bpp, pixels that differ in the top bit alone; 16 bpp; 24 bpp, pixels that differ in the last byte alone
    ∷ written 15 3 1 (0x34 ∷ 0x12 ∷ 0x34 ∷ 0x92 ∷ 0x34 ∷ 0x12 ∷ []) (0x83 ∷ 0x34 ∷ 0x12 ∷ 0x34 ∷ 0x92 ∷ 0x34 ∷ 0x12 ∷ []) 7
    ∷ written 15 3 1 (0x34 ∷ 0x92 ∷ 0x34 ∷ 0x92 ∷ 0x34 ∷ 0x92 ∷ []) (0x63 ∷ 0x34 ∷ 0x92 ∷ []) 7
    ∷ written 16 2 1 (0x34 ∷ 0x12 ∷ 0x34 ∷ 0x12 ∷ []) (0x82 ∷ 0x34 ∷ 0x12 ∷ 0x34 ∷ 0x12 ∷ []) 5
    ∷ written 24 3 1
    (0x01 ∷ 0x02 ∷ 0x03 ∷ 0x01 ∷ 0x02 ∷ 0x04 ∷ 0x01 ∷ 0x02 ∷ 0x03 ∷ [])
    (0x83 ∷ 0x01 ∷ 0x02 ∷ 0x03 ∷ 0x01 ∷ 0x02 ∷ 0x04 ∷ 0x01 ∷ 0x02 ∷ 0x03 ∷ []) 10
    ∷ written 24 3 1 (0x01 ∷ 0x02 ∷ 0x03 ∷ 0x01 ∷ 0x02 ∷ 0x03 ∷ 0x01 ∷ 0x02 ∷ 0x03 ∷ []) (0x63 ∷ 0x01 ∷ 0x02 ∷ 0x03 ∷ []) 10
    -- lengths: 31 in the header, 32 to 287 in the byte after it, 288 in two
    ∷ written 8 31 1 (replicate 31 0x05) (0x7F ∷ 0x05 ∷ []) 32
    ∷ written 8 32 1 (replicate 32 0x05) (0x60 ∷ 0x00 ∷ 0x05 ∷ []) 34
    ∷ written 8 287 1 (replicate 287 0x05) (0x60 ∷ 0xFF ∷ 0x05 ∷ []) 296
    ∷ written 8 288 1 (replicate 288 0x05) (0xF3 ∷ 0x20 ∷ 0x01 ∷ 0x05 ∷ []) 297
    -- the bound is met: images of 32 pixels and a color run of 3 by turns
    ∷ written 8 67 1
    (turns ++ (0x05 ∷ 0x05 ∷ 0x05 ∷ []) ++ turns)
    ((0x80 ∷ 0x00 ∷ []) ++ turns ++ (0x63 ∷ 0x05 ∷ 0x80 ∷ 0x00 ∷ []) ++ turns) 70
    -- bytes behind the picture do not count
    ∷ written 8 2 1 (0x05 ∷ 0x05 ∷ 0x05 ∷ 0x05 ∷ []) (0x82 ∷ 0x05 ∷ 0x05 ∷ []) 3
    -- refusals 1 to 4, each before the next
    ∷ refused 32 0 1 [] (0x99 ∷ []) (refusal 1 32 0) 0
    ∷ refused 8 0 8193 [] (0x99 ∷ []) (refusal 2 0 0) 0
    ∷ refused 8 8193 0 [] (0x99 ∷ []) (refusal 2 0 0) 0
    ∷ refused 8 8193 1 [] (0x99 ∷ []) (refusal 3 8193 1) 0
    ∷ refused 8 1 8193 [] (0x99 ∷ []) (refusal 3 1 8193) 0
    ∷ refused 16 2 1 (0x05 ∷ 0x05 ∷ 0x05 ∷ []) [] (refusal 4 4 3) 5
    ∷ refused 16 8192 8 [] [] (refusal 4 131072 0) 131076
    -- 14: one byte too few, and just enough
    ∷ refused 8 1 1 (0x07 ∷ []) (0x99 ∷ []) (refusal 14 0 0) 2
    ∷ record {
      bpp = 8;
      width = 1;
      height = 1;
      pixels = 0x07 ∷ [];
      before = 0x99 ∷ 0x99 ∷ [];
      refusal = refusal 0 0 0;
      length = 2;
      after = 0x81 ∷ 0x07 ∷ [];
      bound = 2;
    }
    ∷ []

-- what the definition makes of an example's picture
unfoldable pub encoding : Example → Compressed → Example
encoding e c =
    record {
      bpp = e.bpp;
      width = e.width;
      height = e.height;
      pixels = e.pixels;
      before = e.before;
      refusal = refusal_of c;
      length = length_of c;
      after = output c e.before;
      bound = bound e.bpp e.width e.height;
    }

unfoldable pub encoded : Example → Example
encoded e = encoding e (compressed (length e.before) e.pixels e.bpp e.width e.height)
