-- Every tile's text is read whole: the state after `text_of w h b stream` is past the last line with these numbers. Assumes nothing.
use Rattle.std.proofs.Common.{◌≡◌, ℕ, zero, suc, ◌+◌, ◌*◌, ◌/◌, ◌%◌, ◌^◌, ◌<◌, List, [], ◌∷◌, ◌++◌, Some, None, slice_get, refl, ap, ◌∙◌, arith}
use native.Mathlib.Nat.{pow-suc}
use borrow.Author.Tests.{ne_eqb, lt-ltb}
use Rattle.print.specs.Text.{ascii, line}
use Rattle.print.specs.Digits.{decimal_in, decimal, hex_digit, hex_pairs}
use Rattle.tile_text.specs.Text.{text_of, Bytes, Tile}
use Rattle.tile_text.specs.Parse.{key_of, start, with_value, number_on, end_number, no_bytes, pushed, digit_on, grown, number_step, digit_of, in_key, next, step, fed}
use Rattle.tile_text.specs.declared.parser.Line.{Line}
use Rattle.tile_text.specs.declared.parser.Line.TheVariants.{Height, Bpp, Stream, Whole}
use Rattle.tile_text.specs.declared.parser.Parser.{Parser}
use Rattle.tile_text.specs.declared.stream.StreamBytes.{StreamBytes}
use Rattle.base.proofs.Tests.{by_less}
use Rattle.print.proofs.Printed.{in_small, in_more, not_line_feed}
use Rattle.tile_text.proofs.Keys.{HasNumber}
use Rattle.tile_text.proofs.Digits.{decimal_value_lem, hex_value_lem}
use Rattle.tile_text.proofs.Steps.{step-number, step-stream}
use Rattle.tile_text.proofs.Chunks.{fed-append}

-- one text after the other
then : (p : Parser) (t u : List ℕ) {q r : Parser} → fed p t ≡ q → fed q u ≡ r → fed p (t ++ u) ≡ r
then p t u e f = fed-append p t u ∙ ap (λ (q : Parser). fed q u) e ∙ f

-- ---- numbers

-- the state is after the key of a number's line
record Number (p : Parser) : Type 0 where
  over : slice_get (key_of p.line) p.place ≡ None
  line : HasNumber p.line

digit_read : (p : Parser) (d v : ℕ) → Number p → grown p.value d ≡ Some v → d < 10 → step p (48 + d) ≡ with_value v p
unfolding number_step
digit_read p d v n g h =
    let other : 48 + d ≡ 10 → ⊥ = (λ e. omega arith) in
    step-number p (48 + d) n.over n.line ∙ rw (ne_eqb _ _ other, decimal_value_lem d h, g)

line_feed_read : (p : Parser) (v : ℕ) → Number p → p.value ≡ Some v → step p 10 ≡ end_number p v
unfolding number_step
line_feed_read p v n e = step-number p 10 n.over n.line ∙ rw e

module _ (p : Parser) (n : Number p) (none : p.value ≡ None) where
  first_digit : (d : ℕ) → d < 10 → step p (48 + d) ≡ with_value d p
  unfolding grown
  first_digit d h = digit_read p d d n (rw none) h

  next_digit : (v d : ℕ) → 0 < v → v < 10_000_000 → d < 10 → step (with_value v p) (48 + d) ≡ with_value (v * 10 + d) p
  unfolding grown
  next_digit v d pos small h =
      let other : v ≡ 0 → ⊥ = (λ e. omega arith) in
      digit_read (with_value v p) d (v * 10 + d) (record { over = n.over; line = n.line }) (rw (ne_eqb v 0 other, lt-ltb v 10_000_000 small)) h

  digits_more : (j m : ℕ) → m < 100_000_000 → fed p (decimal_in j (m / 10)) ≡ with_value (m / 10) p → fed p (decimal_in (suc j) m) ≡ with_value m p
  unfolding fed
  digits_more j m h tenth =
      by_less m 10 (λ small. rw (in_small j m small) (first_digit m small))
      (λ more.
      let whole : m / 10 * 10 + m % 10 ≡ m = omega arith in
      rw (in_more j m more, fed-append, tenth)
      (next_digit (m / 10) (m % 10) (omega arith) (omega arith) (omega arith) ∙ ap (λ (v : ℕ). with_value v p) whole))

  digits_read : (j m : ℕ) → m < 100_000_000 → m < 10 ^ suc j → fed p (decimal_in (suc j) m) ≡ with_value m p
  unfolding fed
  digits_read zero m h f =
      let small : m < 10 = omega arith in
      rw (in_small 0 m small) (first_digit m small)
  digits_read (suc j) m h f =
      let less : m < 10 ^ suc j * 10 = rw pow-suc at f in
      digits_more (suc j) m h (digits_read j (m / 10) (omega arith) (omega arith))

-- a line of a number, whose key leads from p to q
line_read : (key : List ℕ) (p q : Parser) → fed p key ≡ q → Number q → q.value ≡ None
    → (m : ℕ) → m < 100_000_000 → fed p (line key (decimal m)) ≡ end_number (with_value m q) m
unfolding line decimal fed
line_read key p q e n none m h =
    then p (key ++ decimal m) (10 ∷ []) (then p key (decimal m) e (digits_read q n none 19 m h (omega arith)))
    (line_feed_read (with_value m q) m (record { over = n.over; line = n.line }) refl)

-- ---- the stream

-- the state at a place of a line, no digit of a number being read
abbrev pub at_place : Line → ℕ → ℕ → ℕ → ℕ → StreamBytes → Parser
at_place l place w h b s = record { line = l; place = place; value = None; width = w; height = h; bpp = b; stream = s }

-- the bytes that are read, and then those of a list
abbrev pub push_all : StreamBytes → List ℕ → StreamBytes
push_all s [] = s
push_all s (x ∷ xs) = push_all (pushed s x) xs

stream_key_over : slice_get (key_of Stream) 7 ≡ None
unfolding key_of ascii
stream_key_over = refl

module _ (w h b : ℕ) where
  first_read : (s : StreamBytes) (d : ℕ) → s.high ≡ None → d < 16
      → step (at_place Stream 7 w h b s) (hex_digit d) ≡ at_place Stream 7 w h b (digit_on None s d)
  unfolding digit_of
  first_read s d none small =
      step-stream (at_place Stream 7 w h b s) (hex_digit d) stream_key_over refl ∙ rw (none, ne_eqb _ _ (not_line_feed d), hex_value_lem d small)

  second_read : (s : StreamBytes) (v d : ℕ) → d < 16
      → step (at_place Stream 7 w h b (digit_on None s v)) (hex_digit d) ≡ at_place Stream 7 w h b (pushed s (v % 16 * 16 + d))
  unfolding digit_of digit_on pushed
  second_read s v d small =
      step-stream (at_place Stream 7 w h b (digit_on None s v)) (hex_digit d) stream_key_over refl ∙ rw (hex_value_lem d small)

  pairs_read : (s : StreamBytes) (xs : List ℕ) → s.high ≡ None → Bytes xs
      → fed (at_place Stream 7 w h b s) (hex_pairs xs) ≡ at_place Stream 7 w h b (push_all s xs)
  unfolding fed hex_pairs pushed Bytes
  pairs_read s [] none g = refl
  pairs_read s (x ∷ xs) none g =
      let high : x / 16 < 16 = omega (arith, g.0) in
      let whole : x / 16 % 16 * 16 + x % 16 ≡ x = omega (arith, g.0) in
      ap (λ (p : Parser). fed (step p (hex_digit (x % 16))) (hex_pairs xs)) (first_read s (x / 16) none high)
      ∙ ap (λ (p : Parser). fed p (hex_pairs xs))
      (second_read s (x / 16) (x % 16) (omega arith) ∙ ap (λ (y : ℕ). at_place Stream 7 w h b (pushed s y)) whole)
      ∙ pairs_read (pushed s x) xs refl g.1

  none_left : (s : StreamBytes) (xs : List ℕ) → s.high ≡ None → (push_all s xs).high ≡ None
  unfolding pushed
  none_left s [] none = none
  none_left s (x ∷ xs) none = none_left (pushed s x) xs refl

  stream-read : (s : StreamBytes) (xs : List ℕ) → s.high ≡ None → Bytes xs
      → fed (at_place Stream 0 w h b s) (line (ascii "stream=") (hex_pairs xs)) ≡ at_place Whole 0 w h b (push_all s xs)
  unfolding line fed step next in_key key_of digit_of ascii
  stream-read s xs none g =
      let q = at_place Stream 0 w h b s in
      then q (ascii "stream=" ++ hex_pairs xs) (10 ∷ []) (then q (ascii "stream=") (hex_pairs xs) refl (pairs_read s xs none g))
      (step-stream (at_place Stream 7 w h b (push_all s xs)) 10 stream_key_over refl ∙ rw (none_left s xs none))

-- ---- the text

module _ (xs : List ℕ) where
  pub text-read : (w h b : ℕ) (s : List ℕ) → Tile w h b s → fed (start xs) (text_of w h b s) ≡ at_place Whole 0 w h b (push_all (no_bytes xs) s)
  unfolding text_of fed step next in_key key_of number_on end_number ascii
  text-read w h b s t =
      let width = line (ascii "width=") (decimal w) in
      let height = line (ascii "height=") (decimal h) in
      let depth = line (ascii "bpp=") (decimal b) in
      then (start xs) (width ++ height ++ depth) (line (ascii "stream=") (hex_pairs s))
      (then (start xs) (width ++ height) depth
      (then (start xs) width height (line_read (ascii "width=") (start xs) _ refl (record { over = refl; line = tt }) refl w t.width)
      (line_read (ascii "height=") (at_place Height 0 w 0 0 (no_bytes xs)) _ refl (record { over = refl; line = tt }) refl h t.height))
      (line_read (ascii "bpp=") (at_place Bpp 0 w h 0 (no_bytes xs)) _ refl (record { over = refl; line = tt }) refl b t.bpp))
      (stream-read w h b (no_bytes xs) s refl t.bytes)
