-- From the decoder's report to the answer: each way through `decode` gives the definition's result, and the answer's lines are the
-- definition's lines. Assumes nothing.
use Rattle.std.proofs.Common.{◌≡◌, ℕ, ◌+◌, ◌*◌, ◌-◌, ◌<◌, ◌≤◌, ◌↔◌, List, Option, None, IsSome, Result as Either, Ok, Err, MatchResult, ltb, eqb, ◌++◌, length, take, append_assoc, length-append, length-drop, refl, sym, ◌∙◌, ap, arith}
use lib.Seq.{take-append_seam}
use borrow.Author.Tests.{lt-ltb, le-ltb}
use Rattle.base.specs.Picks.{pick}
use Rattle.picture.specs.Pixels.{bytes_of}
use Rattle.picture.specs.Outcomes as Outcomes
use Rattle.picture.specs.declared.outcome.RleError.{RleError}
use Rattle.picture.specs.Sizes.{Refusal, Checked, refused, accepted, Frame, checked, accept, depth_of, bytes, size_of}
use Rattle.definition.specs.Decode.{Result, Run, ended, paused, of_checked, of_run, result_of, decode, result, Summary}
use Rattle.rle.specs.Report.{Agrees, Decompresses}
use Rattle.rle.specs.declared.report.Report.{Report}
use Rattle.picture.proofs.Sizes.{sized}
use Rattle.rle.proofs.Theorems.{with_space_lem}
use Rattle.std.specs.Result.{IsErrAnd}
use Rattle.print.specs.Text.{ascii, line}
use Rattle.print.specs.Digits.{decimal}
use Rattle.print.specs.Writes.{Writes}
use Rattle.tile_text.specs.Answer.{refused_with, bad_tile_text, tile_too_large, limited, format_name, format_line, painted_line, lines_with, lines_of}
use Rattle.tile_text.specs.Reply.{decoded, reply_on, reply_of, Replies}
use Rattle.tile_text.specs.declared.parser.Line.{Line}
use Rattle.tile_text.specs.declared.parser.Line.TheVariants.{Width, Height, Bpp, Stream, Whole, Bad}
use Rattle.tile_text.specs.Promises.{Outcome, refusal_as, refusal_in, format_in, summary_in, refusal_lines, answer_lines, Answered, AnsweredOr}
use Rattle.tile_text.specs.Promises as promises
use Rattle.tile_text.specs.declared.parser.Parser.{Parser}
use Rattle.tile_text.specs.declared.refusal.Refusal.{Refusal as Why}
use Rattle.tile_text.specs.declared.refusal.Refusal.TheVariants.{NotATileText, TooLarge, Decoder}
use Rattle.tile_text.specs.declared.lines.Answer.{Answer}
use Rattle.base.proofs.Tests.{by_less, by_test, apart}
use Rattle.print.proofs.Printed.{decimal-length, pairs_length}
use Rattle.print.proofs.Writing.{writes_as, from_start}

-- ---- refusals before the stream

nothing-painted : (e : Why) (xs : List ℕ) → Answered (refused_with (refusal_as e)) xs xs (promises.refused e)
unfolding refused_with bytes_of
nothing-painted e xs = record { summary = refl; painted = refl; target = refl; fits = omega arith }

refused-result : (c : Checked) (r : Refusal) (stream : List ℕ) → refused r ≡ size_of c → of_checked stream c ≡ refused_with r
unfolding size_of of_checked refused_with
refused-result (refused q) r stream e = let same : q ≡ r = cc in rw same
refused-result (accepted f k) r stream e = apart cc

fit_limited : (c : Checked) (n streamBytes : ℕ) (e : Result) → bytes n ≡ size_of c
    → limited (size_of c) streamBytes e ≡ pick (ltb 65536 n) tile_too_large (pick (ltb 8192 streamBytes) tile_too_large e)
unfolding limited
fit_limited c n streamBytes e h = rw (← h)

pub not_whole : (l : Line) (e : Result) → (l ≡ Whole → ⊥) → reply_on l e ≡ bad_tile_text
unfolding reply_on
not_whole Width e h = refl
not_whole Height e h = refl
not_whole Bpp e h = refl
not_whole Stream e h = refl
not_whole Whole e h = absurd (h refl)
not_whole Bad e h = refl

-- where none can be read, the stream's bytes are too many
pub too_many : {A : Type 0} (r : Option A) (n : ℕ) → IsSome r ↔ (n ≤ 8192) → r ≡ None → 8192 < n
too_many r n limit none = by_less 8192 n (λ h. h) (λ few. let some = limit.1 few in apart cc)

module _ (p : Parser) (xs : List ℕ) where
  pub answered_bad : (p.line ≡ Whole → ⊥) → Answered (reply_of p) xs xs (promises.refused NotATileText)
  unfolding reply_of bad_tile_text
  answered_bad h = rw (not_whole p.line _ h) (nothing-painted NotATileText xs)

  module _ (whole : p.line ≡ Whole) where
    pub answered_refused : (e : RleError) → refused (Outcomes.refusal_of e) ≡ size_of (checked p.bpp p.width p.height)
        → Answered (reply_of p) xs xs (promises.refused (Decoder e))
    unfolding reply_of reply_on decoded result limited
    answered_refused e s =
        rw (whole, ← s, refused-result (checked p.bpp p.width p.height) (Outcomes.refusal_of e) (take p.stream.count p.stream.bytes) s)
        (nothing-painted (Decoder e) xs)

    module _ (n : ℕ) (size : bytes n ≡ size_of (checked p.bpp p.width p.height)) where
      -- the picture is over its limit, or else the stream is
      pub answered_large : (n ≤ 65536 → 8192 < p.stream.count) → Answered (reply_of p) xs xs (promises.refused TooLarge)
      unfolding reply_of reply_on tile_too_large limited size_of checked accept decoded
      answered_large over =
          let large = nothing-painted TooLarge xs in
          rw (whole, fit_limited _ n p.stream.count (decoded p) size)
          (by_less 65536 n (λ h. rw (lt-ltb _ _ h) large) (λ h. rw (le-ltb _ _ h, lt-ltb _ _ (over h)) large))

      pub answered_decoded : {ys : List ℕ} {a : Answer} → n ≤ 65536 → p.stream.count ≤ 8192 → Answered (decoded p) xs ys a
          → Answered (reply_of p) xs ys a
      unfolding reply_of reply_on limited size_of checked accept decoded
      answered_decoded h g a =
          rw (whole, fit_limited _ n p.stream.count (decoded p) size, le-ltb _ _ h, le-ltb _ _ g) a

-- ---- decoding

run-bytes : (f : Frame) (k : ℕ) (r : Run) → (of_run f k r).bytes ≡ f.bytes
unfolding of_run result_of
run-bytes f k (ended s) = refl
run-bytes f k (paused s) = refl
run-bytes f k (Run.refused r s) = refl

fit_bytes : (b w h n : ℕ) (stream : List ℕ) → bytes n ≡ size_of (checked b w h) → (result stream b w h).bytes ≡ (depth_of b).bytes
unfolding result of_checked accept
fit_bytes b w h n stream e = rw (sized b w h n e).checks (run-bytes _ _ (decode _ stream))

-- the decoder's outcome among the answers
abbrev pub outcome_of : Outcomes.Outcome → Outcome
outcome_of (Ok k) = Ok k
outcome_of (Err e) = Err (Decoder e)

outcome_same : (o : Outcomes.Outcome) → (refusal_in (outcome_of o) ≡ Outcomes.refusal_in o) × (format_in (outcome_of o) ≡ Outcomes.format_in o)
outcome_same (Ok k) = (refl, refl)
outcome_same (Err e) = (refl, refl)

-- what `map_err` makes of it, with a function that names the decoder
pub outcome_mapped : {P : RleError → Why → Type 0} (o : Outcomes.Outcome) (r : Outcome) → MatchResult o (λ k. r ≡ Ok k) (λ e. IsErrAnd r (P e))
    → ((e : RleError) (w : Why) → P e w → w ≡ Decoder e) → r ≡ outcome_of o
outcome_mapped (Ok k) r m h = m
outcome_mapped (Err e) (Ok k) m h = absurd m
outcome_mapped (Err e) (Err w) m h = ap Err (h e w m)

module _ {e : Result} {before after : List ℕ} where
  -- what `unwrap_or_else` makes of an answer or a refusal
  pub answered_else : (r : Either Answer Why) (a : Answer) → AnsweredOr e before after r
      → MatchResult r (λ x. a ≡ x) (λ w. a ≡ promises.refused w) → Answered e before after a
  answered_else (Ok x) a k m = rw m k
  answered_else (Err w) a k m = rw m k

  -- what `?` passes on of the decoder's error
  pub answered_error : (x : RleError) (r : Either Answer Why) → IsErrAnd r (λ w. w ≡ Decoder x) → Answered e before after (promises.refused (Decoder x))
      → AnsweredOr e before after r
  answered_error x (Ok a) m k = absurd m
  answered_error x (Err w) m k = rw m k

-- a tile whose picture has `size` bytes, which the limits allow and the target has room for
module _ (p : Parser) (before after : List ℕ) (r : Report) (size : ℕ)
    (fit : bytes size ≡ size_of (checked p.bpp p.width p.height)) (small : size ≤ 65536) (space : length before ≡ 65536)
    (same : length after ≡ length before) (D : ℕ) (depth : D ≡ (depth_of p.bpp).bytes)
    (d : Decompresses (take p.stream.count p.stream.bytes) p.bpp p.width p.height before after r) where
  decodes : Agrees (take p.stream.count p.stream.bytes) before after (p.width * p.height) r (decoded p)
  unfolding decoded accept
  decodes =
      let k = sized p.bpp p.width p.height size fit in
      with_space_lem _ _ _ _ before after r d (rw k.checks (omega (arith, k.size)))

  -- the painted bytes are D for each pixel
  painted-bytes : length (bytes_of (decoded p).bytes (decoded p).painted) ≡ r.pixels * D
  unfolding decoded
  painted-bytes =
      decodes.painted
      ∙ rw (fit_bytes p.bpp p.width p.height size (take p.stream.count p.stream.bytes) fit, ← depth, ← ap (λ (x : Summary). x.pixels) decodes.report)

  pub painted_fit : r.pixels * D ≤ 65536
  painted_fit =
      let e = decodes in
      let q = decoded p in
      let bs = bytes_of q.bytes q.painted in
      let l : length after ≡ length bs + (length before - length q.painted * q.bytes) =
      ap length e.target ∙ simp (length-append, length-drop)
      in
      omega (arith, l, painted-bytes, e.painted, space, same)

  pub decode_answered : (a : Answer) → a.outcome ≡ outcome_of r.outcome → a.pixels ≡ r.pixels → a.orders ≡ r.orders
      → a.painted ≡ r.pixels * D → Answered (decoded p) before after a
  decode_answered a outcome pixels orders painted =
      let e = decodes in
      let same = outcome_same r.outcome in
      record {
        summary = rw (outcome, pixels, orders, same.0, same.1) e.report;
        painted = painted ∙ sym painted-bytes;
        target = e.target;
        fits = rw painted-bytes painted_fit;
      }

-- ---- the lines

-- the refusal's three lines stand between the format's and the others
pub lines_joined : (a : Answer) (target : List ℕ)
    → format_line (format_in a.outcome) ++ refusal_lines a.outcome ++ line (ascii "orders=") (decimal a.orders)
    ++ line (ascii "pixels=") (decimal a.pixels) ++ painted_line (take a.painted target) ≡ answer_lines a target
unfolding answer_lines lines_with refusal_lines
lines_joined a target = simp append_assoc

same_lines : (e : Result) (before after : List ℕ) (a : Answer) → Answered e before after a → answer_lines a after ≡ lines_of e
unfolding answer_lines lines_of
same_lines e before after a k = rw (k.summary, k.painted, k.target, take-append_seam)

line-length : (key value : List ℕ) → length (line key value) ≡ length key + length value + 1
unfolding line
line-length key value = simp length-append

name_length : (k : ℕ) → length (format_name k) ≤ 23
unfolding format_name ascii
name_length k =
    by_test (λ (l : List ℕ). length l ≤ 23) (eqb k 0) (λ _. omega arith) (λ _. omega (arith, decimal-length k))

-- 171 bytes of a report with 20 digits for each number, and 131,081 of the painted bytes' line
lines_length : (e : Result) → length (bytes_of e.bytes e.painted) ≤ 65536 → length (lines_of e) ≤ 131252
unfolding lines_of lines_with format_line painted_line ascii
lines_length e h =
    let name = name_length e.format in
    let number = decimal-length e.refusal.number in
    let first = decimal-length e.refusal.first in
    let second = decimal-length e.refusal.second in
    let orders = decimal-length e.orders in
    let pixels = decimal-length (length e.painted) in
    simp (length-append, line-length, pairs_length) (omega arith)

pub replied : {e : Result} {before after out out' : List ℕ} {a : Answer} {r : ℕ} → Answered e before after a
    → Writes out 0 (answer_lines a after) out' r → length out ≡ 131328 → Replies e before after out out' r
replied {e} {before} {after} {out} {out'} {a} {r} k w space =
    let w' = writes_as (same_lines e before after a k) w in
    let short = lines_length e k.fits in
    let c : r ≡ length (lines_of e) = omega (arith, w'.place) in
    record { count = c; fits = omega arith; out = from_start w' (omega arith); target = k.target }
