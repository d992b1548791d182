-- Reading a tile text one byte at a time, by a state of a few numbers and an array for the stream's first 8,192 bytes: what `feed`
-- computes, for every state. `proofs/Inverse.antt` shows that it undoes `text_of`: a state reached from the start has read a whole text
-- exactly if the text is some tile's.
use Rattle.std.specs.Prelude.{List, [], ◌∷◌, ℕ, ◌+◌, ◌-◌, ◌*◌, ◌%◌, ltb, leb, eqb, set, slice_get, Option, Some, None, option_map, option_and_then, unwrap_or}
use Rattle.base.specs.Picks.{pick}
use Rattle.print.specs.Text.{ascii}
use Rattle.tile_text.specs.declared.parser.Line.{Line}
use Rattle.tile_text.specs.declared.parser.Line.TheVariants.{Width, Height, Bpp, Stream, Whole, Bad}
use Rattle.tile_text.specs.declared.parser.Parser.{Parser}
use Rattle.tile_text.specs.declared.stream.StreamBytes.{StreamBytes}

-- the line of a number: 4, the text is read whole; from 5 on, it is no tile text
unfoldable pub line_of : ℕ → Line
line_of n = pick (eqb n 0) Width (pick (eqb n 1) Height (pick (eqb n 2) Bpp (pick (eqb n 3) Stream (pick (eqb n 4) Whole Bad))))

-- what a line begins with
unfoldable pub key_of : Line → List ℕ
key_of Width = ascii "width="
key_of Height = ascii "height="
key_of Bpp = ascii "bpp="
key_of Stream = ascii "stream="
key_of Whole = []
key_of Bad = []

-- the value of b as one of the digits from `first` to `last`, the first of which is worth `least`
unfoldable pub digit_among : ℕ → ℕ → ℕ → ℕ → Option ℕ
digit_among b first last least = pick (ltb b first) None (pick (ltb last b) None (Some (b - first + least)))

-- the value of a decimal digit, `0` to `9`
abbrev pub decimal_value : ℕ → Option ℕ
decimal_value b = digit_among b 48 57 0

-- the value of a lower-case hexadecimal digit, which is decimal or `a` to `f`
unfoldable pub hex_value : ℕ → Option ℕ
hex_value b = pick (leb b 57) (decimal_value b) (digit_among b 97 102 10)

-- nothing of a stream is read yet, with an array for its bytes
abbrev pub no_bytes : List ℕ → StreamBytes
no_bytes xs = record { bytes = xs; count = 0; high = None }

-- nothing is read yet
abbrev pub start : List ℕ → Parser
start xs = record { line = Width; place = 0; value = None; width = 0; height = 0; bpp = 0; stream = no_bytes xs }

-- another line starts
abbrev pub on_line : Line → Parser → Parser
on_line l p = record p { line = l; place = 0; value = None }

-- a byte of a key is read
abbrev pub key_read : Parser → Parser
key_read p = record p { place = p.place + 1 }

-- a digit of a number is read, and the value so far is v
abbrev pub with_value : ℕ → Parser → Parser
with_value v p = record p { value = Some v }

-- the line of a number ends, and v is the width, the height or the depth
unfoldable pub number_on : Line → Parser → ℕ → Parser
number_on Width p v = record (on_line Height p) { width = v }
number_on Height p v = record (on_line Bpp p) { height = v }
number_on _ p v = record (on_line Stream p) { bpp = v }

unfoldable pub end_number : Parser → ℕ → Parser
end_number p v = number_on p.line p v

-- the value of a number's digits and one more, d: no digit comes after a 0 alone, or after a number from 10,000,000 on
unfoldable pub grown : Option ℕ → ℕ → Option ℕ
grown None d = Some d
grown (Some v) d = pick (eqb v 0) None (pick (ltb v 10_000_000) (Some (v * 10 + d)) None)

-- after a number's key: a line feed ends the line of a number, and a digit is read; all else departs
unfoldable pub number_step : Parser → ℕ → Option Parser
number_step p b =
    pick (eqb b 10) (option_map (end_number p) p.value)
    (option_map (λ v. with_value v p) (option_and_then (grown p.value) (decimal_value b)))

-- the count of a stream's bytes, one more; it stays at 8,193
unfoldable pub count_more : ℕ → ℕ
count_more n = pick (ltb n 8193) (n + 1) n

-- the array with one byte more, where it is among the first 8,192
unfoldable pub put : ℕ → ℕ → List ℕ → List ℕ
put n x xs = pick (ltb n 8192) (set xs n x) xs

-- a byte of the stream is read
unfoldable pub pushed : StreamBytes → ℕ → StreamBytes
pushed s x = record { bytes = put s.count x s.bytes; count = count_more s.count; high = None }

-- a digit of the stream is read, the first of a byte or the second
unfoldable pub digit_on : Option ℕ → StreamBytes → ℕ → StreamBytes
digit_on None s d = record s { high = Some d }
digit_on (Some high) s d = pushed s (high % 16 * 16 + d)

abbrev pub with_stream : StreamBytes → Parser → Parser
with_stream s p = record p { stream = s }

-- after the stream's key: a digit is read, and between two bytes a line feed ends the text
unfoldable pub digit_of : Option ℕ → Parser → ℕ → Option Parser
digit_of None p b = pick (eqb b 10) (Some (on_line Whole p)) (option_map (λ d. with_stream (digit_on None p.stream d) p) (hex_value b))
digit_of (Some high) p b = option_map (λ d. with_stream (digit_on (Some high) p.stream d) p) (hex_value b)

unfoldable pub stream_step : Parser → ℕ → Option Parser
stream_step p b = digit_of p.stream.high p b

-- after a key
unfoldable pub after_key : Line → Parser → ℕ → Option Parser
after_key Width p b = number_step p b
after_key Height p b = number_step p b
after_key Bpp p b = number_step p b
after_key Stream p b = stream_step p b
after_key Whole p b = None
after_key Bad p b = None

-- in a key, whose byte is given, or after it
unfoldable pub in_key : Option ℕ → Parser → ℕ → Option Parser
in_key (Some key) p b = pick (eqb b key) (Some (key_read p)) None
in_key None p b = after_key p.line p b

-- the state after the byte b, where a tile's text may have it
unfoldable pub next : Parser → ℕ → Option Parser
next p b = in_key (slice_get (key_of p.line) p.place) p b

-- the state after the byte b
unfoldable pub step : Parser → ℕ → Parser
step p b = unwrap_or (next p b) (on_line Bad p)

-- the state after the bytes t
unfoldable pub fed : Parser → List ℕ → Parser
fed p [] = p
fed p (b ∷ t) = fed (step p b) t
