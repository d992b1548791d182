-- What a reader finds at a place of a stream: the bytes left there, and the number in the next one or two of them, low byte first,
-- as `Buf` of rle.rs reads them. A place past the end has no bytes left, so that a read is defined at every place.
use Rattle.std.specs.Prelude.{ℕ, ◌+◌, ◌*◌, ◌-◌, List, leb, length, get_or, Result, Ok, Err}
use Rattle.base.specs.Picks.{pick}
use Rattle.picture.specs.declared.outcome.RleError.{RleError}
use Rattle.picture.specs.declared.outcome.RleError.TheVariants.{NotEnoughBytes}

-- the number of bytes left at a place
unfoldable pub remaining : List ℕ → ℕ → ℕ
remaining s pos = length s - pos

-- the value where enough bytes are left, else how many were expected and how many are left
unfoldable pub read_of : {A : Type 0} → ℕ → ℕ → A → Result A RleError
read_of expected left value = pick (leb expected left) (Ok value) (Err (NotEnoughBytes expected left))

-- the byte at a place
unfoldable pub u8_at : List ℕ → ℕ → Result ℕ RleError
u8_at s pos = read_of 1 (remaining s pos) (get_or s pos 0)

-- the number in two bytes at a place
unfoldable pub u16_at : List ℕ → ℕ → Result ℕ RleError
u16_at s pos = read_of 2 (remaining s pos) (get_or s pos 0 + get_or s (pos + 1) 0 * 256)
