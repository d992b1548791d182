-- What a state has read: every state that the start leads to is one in the middle of a tile's text, with the stream's bytes so far in
-- the array, or it has failed for good. Assumes nothing.
use Rattle.std.proofs.Common.{◌≡◌, ℕ, ◌+◌, ◌*◌, ◌/◌, ◌%◌, ◌<◌, ◌≤◌, min, List, [], ◌∷◌, ◌++◌, Option, Some, None, ltb, length, get_or, take, set, slice_get, length-append, length-set, append_assoc, append-nil, refl, sym, ap, ◌∙◌, arith}
use lib.ListN.{get_or-append}
use lib.Seq.{get_or-set_same, get_or-set_other, get_or-append_seam}
use borrow.Author.Tests.{ltb-true, ltb-false}
use Rattle.print.specs.Text.{ascii, line}
use Rattle.print.specs.Digits.{decimal, hex_digit, hex_pairs}
use Rattle.tile_text.specs.Text.{text_of, Bytes}
use Rattle.tile_text.specs.Parse.{key_of, hex_value, start, on_line, key_read, with_value, with_stream, number_on, end_number, count_more, put, pushed, digit_on, grown, step, fed}
use Rattle.tile_text.specs.declared.parser.Line.{Line}
use Rattle.tile_text.specs.declared.parser.Line.TheVariants.{Width, Height, Bpp, Stream, Whole, Bad}
use Rattle.tile_text.specs.declared.parser.Parser.{Parser}
use Rattle.tile_text.specs.declared.stream.StreamBytes.{StreamBytes}
use Rattle.base.proofs.Tests.{apart, by_test, by_less}
use Rattle.tile_text.proofs.Keys.{HasNumber, IsOpen, by_open, key_over, key_more}
use Rattle.tile_text.proofs.Digits.{decimal_digit, hex_digit_lem}
use Rattle.print.proofs.Printed.{decimal_small, decimal_more, pairs_append}
use Rattle.tile_text.proofs.Steps.{grown_more, key_cases, number_cases, stream_cases, step_whole, step_bad}

-- ---- what is read

-- the lines before a line
unfoldable pub lines_before : Line → ℕ → ℕ → ℕ → List ℕ
lines_before Width w h b = []
lines_before Height w h b = line (ascii "width=") (decimal w)
lines_before Bpp w h b = line (ascii "width=") (decimal w) ++ line (ascii "height=") (decimal h)
lines_before _ w h b =
    line (ascii "width=") (decimal w) ++ line (ascii "height=") (decimal h) ++ line (ascii "bpp=") (decimal b)

abbrev pub front : Line → Parser → List ℕ
front l p = lines_before l p.width p.height p.bpp

-- the digits of a number so far
abbrev pub digits : Option ℕ → List ℕ
digits None = []
digits (Some v) = decimal v

-- the first digit of a byte
abbrev pub first_digit : Option ℕ → List ℕ
first_digit None = []
first_digit (Some v) = hex_digit v ∷ []

-- nothing of the stream is read
pub record Fresh (p : Parser) (s : List ℕ) : Type 0 where
  pub none : s ≡ []
  pub high : p.stream.high ≡ None

-- t is what the state p has read, with s the stream's bytes so far
pub data Seen (t : List ℕ) (p : Parser) (s : List ℕ) : Type 0 where
  in_key : IsOpen p.line → p.value ≡ None → Fresh p s → t ≡ front p.line p ++ take p.place (key_of p.line) → Seen t p s
  in_number : HasNumber p.line → slice_get (key_of p.line) p.place ≡ None → ((v : ℕ) → p.value ≡ Some v → v < 100_000_000) → Fresh p s
      → t ≡ front p.line p ++ (key_of p.line ++ digits p.value) → Seen t p s
  in_stream : p.line ≡ Stream → slice_get (key_of p.line) p.place ≡ None → ((v : ℕ) → p.stream.high ≡ Some v → v < 16)
      → t ≡ front Stream p ++ (ascii "stream=" ++ (hex_pairs s ++ first_digit p.stream.high)) → Seen t p s
  at_end : p.line ≡ Whole → t ≡ text_of p.width p.height p.bpp s → Seen t p s

-- the array holds the stream's first bytes
pub record Holds (q : StreamBytes) (s : List ℕ) : Type 0 where
  pub count : q.count ≡ min 8193 (length s)
  pub space : length q.bytes ≡ 8192
  pub held : (i : ℕ) → i < 8192 → i < length s → get_or q.bytes i 0 ≡ get_or s i 0

-- what holds of the numbers and of the stream's array all along
pub record Kept (p : Parser) (s : List ℕ) : Type 0 where
  pub width : p.width < 100_000_000
  pub height : p.height < 100_000_000
  pub bpp : p.bpp < 100_000_000
  pub bytes : Bytes s
  pub holds : Holds p.stream s

pub data Reads (t : List ℕ) (p : Parser) : Type 0 where
  failed : p.line ≡ Bad → Reads t p
  going : (s : List ℕ) → Kept p s → Seen t p s → Reads t p

fails : (t : List ℕ) (p : Parser) → Reads t (on_line Bad p)
fails t p = failed refl

-- ---- texts, one byte longer

longer : (f key ds es : List ℕ) (b : ℕ) → es ≡ ds ++ (b ∷ []) → (f ++ (key ++ ds)) ++ (b ∷ []) ≡ f ++ (key ++ es)
longer f key ds es b e = rw e (simp append_assoc)

line_closed : (f key ds : List ℕ) → (f ++ (key ++ ds)) ++ (10 ∷ []) ≡ (f ++ line key ds) ++ []
unfolding line
line_closed f key ds = simp (append_assoc, append-nil)

text_closed : (w h b : ℕ) (s : List ℕ) → (lines_before Stream w h b ++ (ascii "stream=" ++ (hex_pairs s ++ []))) ++ (10 ∷ []) ≡ text_of w h b s
unfolding lines_before text_of
text_closed w h b s = line_closed (lines_before Stream w h b) (ascii "stream=") (hex_pairs s ++ []) ∙ simp append-nil

-- a number with one digit more, as `grown` has it
record Grown (v : ℕ) (before after : List ℕ) : Type 0 where
  small : v < 100_000_000
  text : decimal v ≡ before ++ after

digits_grown : (o : Option ℕ) (d w : ℕ) → grown o d ≡ Some w → d < 10 → Grown w (digits o) ((48 + d) ∷ [])
unfolding grown
digits_grown None d w g h =
    let same : d ≡ w = cc in
    record { small = omega arith; text = rw (← same) (decimal_small d h) }
digits_grown (Some v) d w g h =
    let more = grown_more v d w g in
    let q : w / 10 ≡ v = omega arith in
    let r : w % 10 ≡ d = omega arith in
    record { small = omega arith; text = rw (q, r) at (decimal_more w (omega arith) (omega arith)) }

pairs_grown : (s : List ℕ) (v d : ℕ) → v < 16 → d < 16 → hex_pairs (s ++ ((v % 16 * 16 + d) ∷ [])) ≡ (hex_pairs s ++ (hex_digit v ∷ [])) ++ (hex_digit d ∷ [])
unfolding hex_pairs
pairs_grown s v d hv hd =
    let q : (v % 16 * 16 + d) / 16 ≡ v = omega arith in
    let r : (v % 16 * 16 + d) % 16 ≡ d = omega arith in
    pairs_append s ((v % 16 * 16 + d) ∷ []) ∙ rw (q, r, append_assoc)

bytes_grown : (s : List ℕ) (x : ℕ) → Bytes s → x < 256 → Bytes (s ++ (x ∷ []))
unfolding Bytes
bytes_grown [] x g h = (h, tt)
bytes_grown (y ∷ ys) x g h = (g.0, bytes_grown ys x g.1 h)

-- ---- the stream's array

-- a byte is read, and stored where it has a place
module _ (q : StreamBytes) (s : List ℕ) (x : ℕ) (k : Holds q s) where
  counted_more : count_more q.count ≡ min 8193 (length (s ++ (x ∷ [])))
  unfolding count_more
  counted_more =
      by_test (λ c. c ≡ min 8193 (length (s ++ (x ∷ [])))) (ltb q.count 8193)
      (λ low. let l = ltb-true q.count 8193 low in omega (arith, k.count, length-append s (x ∷ [])))
      (λ high. let g = ltb-false q.count 8193 high in omega (arith, k.count, length-append s (x ∷ [])))

  -- the array after it has room for as many bytes, and the stream's first
  record Puts (ys : List ℕ) : Type 0 where
    space : length ys ≡ 8192
    held : (i : ℕ) → i < 8192 → i < length (s ++ (x ∷ [])) → get_or ys i 0 ≡ get_or (s ++ (x ∷ [])) i 0

  held_more : q.count < 8192 → (i : ℕ) → i < 8192 → i < length (s ++ (x ∷ [])) → get_or (set q.bytes q.count x) i 0 ≡ get_or (s ++ (x ∷ [])) i 0
  held_more low i h g =
      let c : q.count ≡ length s = omega (arith, k.count) in
      by_less i (length s)
      (λ small.
      let other : i ≡ q.count → ⊥ = (λ same. omega arith) in
      get_or-set_other q.bytes q.count i x 0 other ∙ k.held i h small ∙ sym (get_or-append s (x ∷ []) 0 i small))
      (λ high.
      let last : i ≡ length s = omega (arith, length-append s (x ∷ [])) in
      rw (last, c) (get_or-set_same q.bytes (length s) x 0 (omega (arith, k.space)) ∙ sym (get_or-append_seam s x [] 0)))

  held_past : 8192 ≤ q.count → (i : ℕ) → i < 8192 → i < length (s ++ (x ∷ [])) → get_or q.bytes i 0 ≡ get_or (s ++ (x ∷ [])) i 0
  held_past high i h g =
      let small : i < length s = omega (arith, k.count) in
      k.held i h small ∙ sym (get_or-append s (x ∷ []) 0 i small)

  puts : Puts (put q.count x q.bytes)
  unfolding put
  puts =
      by_test Puts (ltb q.count 8192)
      (λ low. record { space = length-set q.bytes q.count x ∙ k.space; held = held_more (ltb-true _ _ low) })
      (λ high. record { space = k.space; held = held_past (ltb-false _ _ high) })

  holds_more : Holds (pushed q x) (s ++ (x ∷ []))
  unfolding pushed
  holds_more = record { count = counted_more; space = puts.space; held = puts.held }

-- ---- one byte more

module _ (t : List ℕ) (p : Parser) (s : List ℕ) (b : ℕ) (kept : Kept p s) where
  -- the state q has read the byte b too
  abbrev More : Parser → Type 0
  More q = Reads (t ++ (b ∷ [])) q

  -- the reading goes on to q, and no byte of the stream ends
  goes : (q : Parser) → q.width < 100_000_000 → q.height < 100_000_000 → q.bpp < 100_000_000
      → Holds q.stream s → Seen (t ++ (b ∷ [])) q s → More q
  goes q w h d k seen = going s (record { width = w; height = h; bpp = d; bytes = kept.bytes; holds = k }) seen

  from_key : IsOpen p.line → p.value ≡ None → Fresh p s → t ≡ front p.line p ++ take p.place (key_of p.line)
      → (k : ℕ) → slice_get (key_of p.line) p.place ≡ Some k → More (step p b)
  from_key l none fresh e k more =
      key_cases p b More k more
      (λ same. goes (key_read p) kept.width kept.height kept.bpp kept.holds
      (in_key l none (record { none = fresh.none; high = fresh.high })
      (rw (e, append_assoc, key_more p.line p.place k more) (ap (λ (x : ℕ). front p.line p ++ (take p.place (key_of p.line) ++ (x ∷ []))) same))))
      (fails _ p)

  -- ---- numbers

  module _ (l : HasNumber p.line) (fresh : Fresh p s) where
    -- the line m ends, and the line n comes, with the width w, the height h and the depth d
    line-ends : (v : ℕ) (m n : Line) (w h d : ℕ) → b ≡ 10 → IsOpen n → w < 100_000_000 → h < 100_000_000 → d < 100_000_000
        → t ≡ front m p ++ (key_of m ++ decimal v) → lines_before n w h d ≡ front m p ++ line (key_of m) (decimal v)
        → More (record (on_line n p) { width = w; height = h; bpp = d })
    line-ends v m n w h d lf opens fw fh fd e lines =
        goes (record (on_line n p) { width = w; height = h; bpp = d }) fw fh fd kept.holds
        (in_key opens refl (record { none = fresh.none; high = fresh.high }) (rw (lf, lines, e) (line_closed (front m p) (key_of m) (decimal v))))

    number-ends : (v : ℕ) → b ≡ 10 → v < 100_000_000 → t ≡ front p.line p ++ (key_of p.line ++ decimal v) → More (end_number p v)
    unfolding end_number number_on lines_before key_of
    number-ends v lf small e = on p.line l e
      where
        on : (m : Line) → HasNumber m → t ≡ front m p ++ (key_of m ++ decimal v) → More (number_on m p v)
        on Width h e = line-ends v Width Height v p.height p.bpp lf tt small kept.height kept.bpp e refl
        on Height h e = line-ends v Height Bpp p.width v p.bpp lf tt kept.width small kept.bpp e refl
        on Bpp h e = line-ends v Bpp Stream p.width p.height v lf tt kept.width kept.height small e refl
        on Stream h e = absurd h
        on Whole h e = absurd h
        on Bad h e = absurd h

    from-number : slice_get (key_of p.line) p.place ≡ None → ((v : ℕ) → p.value ≡ Some v → v < 100_000_000)
        → t ≡ front p.line p ++ (key_of p.line ++ digits p.value) → More (step p b)
    from-number over small e =
        number_cases p b over More l
        (λ v lf begun. number-ends v lf (small v begun) (rw begun at e))
        (λ d v digit more.
        let c = decimal_digit b d digit in
        let g = digits_grown p.value d v more c.small in
        goes (with_value v p) kept.width kept.height kept.bpp kept.holds
        (in_number l over (λ u same. let w : u ≡ v = cc in rw w g.small) (record { none = fresh.none; high = fresh.high })
        (ap (λ (u : List ℕ). u ++ (b ∷ [])) e
        ∙ longer (front p.line p) (key_of p.line) (digits p.value) _ b (g.text ∙ rw (← c.code)))))
        (fails _ p)

  -- ---- the stream

  module _ (l : p.line ≡ Stream) (over : slice_get (key_of p.line) p.place ≡ None) where
    first-read : (d : ℕ) → p.stream.high ≡ None → hex_value b ≡ Some d
        → t ≡ front Stream p ++ (ascii "stream=" ++ (hex_pairs s ++ [])) → More (with_stream (digit_on None p.stream d) p)
    unfolding digit_on
    first-read d none digit e =
        let c = hex_digit_lem b d digit in
        let k = kept.holds in
        goes (with_stream (digit_on None p.stream d) p) kept.width kept.height kept.bpp
        (record { count = k.count; space = k.space; held = k.held })
        (in_stream l over (λ u same. let w : u ≡ d = cc in rw w c.small)
        (ap (λ (u : List ℕ). u ++ (b ∷ [])) e
        ∙ longer (front Stream p) (ascii "stream=") (hex_pairs s ++ []) _ b
        (rw append-nil (ap (λ (x : ℕ). hex_pairs s ++ (x ∷ [])) (sym c.code)))))

    byte_ends : (v d : ℕ) → v < 16 → hex_value b ≡ Some d
        → t ≡ front Stream p ++ (ascii "stream=" ++ (hex_pairs s ++ (hex_digit v ∷ []))) → More (with_stream (digit_on (Some v) p.stream d) p)
    unfolding digit_on pushed
    byte_ends v d small digit e =
        let c = hex_digit_lem b d digit in
        let x : ℕ = v % 16 * 16 + d in
        let byte : x < 256 = omega arith in
        going (s ++ (x ∷ []))
        (record {
          width = kept.width;
          height = kept.height;
          bpp = kept.bpp;
          bytes = bytes_grown s x kept.bytes byte;
          holds = holds_more p.stream s x kept.holds;
        })
        (in_stream l over (λ _ no. apart cc)
        (ap (λ (u : List ℕ). u ++ (b ∷ [])) e
        ∙ longer (front Stream p) (ascii "stream=") (hex_pairs s ++ (hex_digit v ∷ [])) _ b
        (append-nil (hex_pairs (s ++ (x ∷ []))) ∙ pairs_grown s v d small c.small
        ∙ ap (λ (k : ℕ). (hex_pairs s ++ (hex_digit v ∷ [])) ++ (k ∷ [])) (sym c.code))))

    from-stream : ((v : ℕ) → p.stream.high ≡ Some v → v < 16) → t ≡ front Stream p ++ (ascii "stream=" ++ (hex_pairs s ++ first_digit p.stream.high))
        → More (step p b)
    from-stream small e =
        stream_cases p b over More l
        (λ lf none. goes (on_line Whole p) kept.width kept.height kept.bpp kept.holds
        (at_end refl (rw (rw none at e, lf) (text_closed p.width p.height p.bpp s))))
        (λ d digit none. first-read d none digit (rw none at e))
        (λ v d digit begun. byte_ends v d (small v begun) digit (rw begun at e))
        (fails _ p)

  -- at the key's end: a number's first digit, or the stream's
  from_key_end : IsOpen p.line → p.value ≡ None → Fresh p s → t ≡ front p.line p ++ take p.place (key_of p.line)
      → slice_get (key_of p.line) p.place ≡ None → More (step p b)
  unfolding hex_pairs key_of
  from_key_end l none fresh e over =
      let read : t ≡ front p.line p ++ key_of p.line = e ∙ ap (λ (u : List ℕ). front p.line p ++ u) (key_over p.line p.place over) in
      by_open p.line l
      (λ number. from-number number fresh over (λ _ begun. apart cc)
      (rw none (read ∙ ap (λ (u : List ℕ). front p.line p ++ u) (sym (append-nil (key_of p.line))))))
      (λ last.
      let high = fresh.high in
      from-stream last over (λ _ begun. apart cc) (read ∙ rw (last, fresh.none, high) (rw append-nil)))

  from_open : IsOpen p.line → p.value ≡ None → Fresh p s → t ≡ front p.line p ++ take p.place (key_of p.line)
      → (o : Option ℕ) → slice_get (key_of p.line) p.place ≡ o → More (step p b)
  from_open l none fresh e None over = from_key_end l none fresh e over
  from_open l none fresh e (Some k) more = from_key l none fresh e k more

  from_seen : Seen t p s → More (step p b)
  from_seen (in_key l none fresh e) = from_open l none fresh e _ refl
  from_seen (in_number l over small fresh e) = from-number l fresh over small e
  from_seen (in_stream l over small e) = from-stream l over small e
  from_seen (at_end l e) = rw (step_whole p b l) (fails _ p)

-- ---- a whole text

reads_more : (t : List ℕ) (p : Parser) (b : ℕ) → Reads t p → Reads (t ++ (b ∷ [])) (step p b)
reads_more t p b (failed e) = rw (step_bad p b e) (fails _ p)
reads_more t p b (going s k seen) = from_seen t p s b k seen

reads_on : (t u : List ℕ) (p : Parser) → Reads t p → Reads (t ++ u) (fed p u)
unfolding fed
reads_on t [] p r = rw append-nil r
reads_on t (b ∷ u) p r = rw (append_assoc t (b ∷ []) u) at (reads_on (t ++ (b ∷ [])) u (step p b) (reads_more t p b r))

reads-start : (xs : List ℕ) → length xs ≡ 8192 → Reads [] (start xs)
unfolding lines_before Bytes
reads-start xs e =
    going []
    (record {
      width = omega arith;
      height = omega arith;
      bpp = omega arith;
      bytes = tt;
      holds = record { count = refl; space = e; held = λ i h g. absurd (omega arith) };
    })
    (in_key tt refl (record { none = refl; high = refl }) refl)

-- the state after a text, from the start
pub text-reads : (t xs : List ℕ) → length xs ≡ 8192 → Reads t (fed (start xs) t)
text-reads t xs e = reads_on [] t (start xs) (reads-start xs e)
