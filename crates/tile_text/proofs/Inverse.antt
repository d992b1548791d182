-- The parser undoes `text_of`: after a text it has read a whole tile exactly if the text is some tile's, and then it has that tile's
-- numbers and stream. So what `reply` writes after a text, in chunks of any size, is the answer to the text.
-- Assumes nothing.
use Rattle.std.proofs.Common.{◌≡◌, ℕ, ◌<◌, ◌≤◌, ◌⊎◌, min, inl, inr, List, length, get_or, take, refl, ap, ◌∙◌, subst, arith}
use lib.Seq.{ext_get_or, get_or-take, length-take-le}
use borrow.Author.Tests.{lt-ltb}
use Rattle.picture.specs.Sizes.{Checked, refused, accepted, checked, size_of}
use Rattle.definition.specs.Decode.{of_checked, result}
use Rattle.tile_text.specs.Text.{text_of, Tile}
use Rattle.tile_text.specs.Answer.{limited, answer_of, Answers, tile, no_tile}
use Rattle.tile_text.specs.Parse.{start, no_bytes, fed}
use Rattle.tile_text.specs.Reply.{decoded, reply_on, reply_of, Replies, RepliesTo}
use Rattle.tile_text.specs.declared.parser.Line.{Line}
use Rattle.tile_text.specs.declared.parser.Line.TheVariants.{Width, Height, Bpp, Stream, Whole, Bad}
use Rattle.tile_text.specs.declared.parser.Parser.{Parser}
use Rattle.base.proofs.Tests.{apart, by_less}
use Rattle.tile_text.proofs.Replying.{not_whole}
use Rattle.tile_text.proofs.Chunks.{joined, fed_chunks, chunks_fed}
use Rattle.tile_text.proofs.Complete.{text-read, at_place, push_all}
use Rattle.tile_text.proofs.Sound.{in_key, in_number, in_stream, at_end, Kept, Reads, failed, going, text-reads}

-- ---- the two directions

-- a tile, as the parser has it
pub record TileRead (t : List ℕ) (p : Parser) : Type 0 where
  pub stream : List ℕ
  pub kept : Kept p stream
  pub text : t ≡ text_of p.width p.height p.bpp stream

ended : (t : List ℕ) (p : Parser) → p.line ≡ Whole → Reads t p → TileRead t p
ended t p e (failed f) = apart cc
ended t p e (going s k (in_key l none fresh f)) = absurd (rw e at l)
ended t p e (going s k (in_number l over small fresh f)) = absurd (rw e at l)
ended t p e (going s k (in_stream l over small f)) = apart cc
ended t p e (going s k (at_end l f)) = record { stream = s; kept = k; text = f }

-- a text that is read whole is a tile's
pub sound : (t xs : List ℕ) → length xs ≡ 8192 → (fed (start xs) t).line ≡ Whole → TileRead t (fed (start xs) t)
sound t xs e l = ended t (fed (start xs) t) l (text-reads t xs e)

-- a tile's text is read whole, with the tile's numbers and its stream's bytes
pub complete : (t xs : List ℕ) (w h b : ℕ) (s : List ℕ) → Tile w h b s → t ≡ text_of w h b s
    → fed (start xs) t ≡ at_place Whole 0 w h b (push_all (no_bytes xs) s)
complete t xs w h b s g e = ap (fed (start xs)) e ∙ text-read xs w h b s g

-- ---- the answer

-- a stream that the array has whole gives its result; a longer one is refused before that
limited-result : (c : Checked) (n : ℕ) (s u : List ℕ) → n ≡ min 8193 (length u) → (length u ≤ 8192 → s ≡ u)
    → limited (size_of c) n (of_checked s c) ≡ limited (size_of c) (length u) (of_checked u c)
unfolding limited size_of of_checked
limited-result (refused r) n s u e f = refl
limited-result (accepted g k) n s u e f =
    by_less 8192 (length u) (λ long. rw (lt-ltb 8192 n (omega arith), lt-ltb 8192 (length u) long))
    (λ short. let same : n ≡ length u = omega arith in rw (same, f short))

held_all : (n : ℕ) (xs s : List ℕ) → length xs ≡ 8192 → n ≡ min 8193 (length s) → length s ≤ 8192
    → ((i : ℕ) → i < 8192 → i < length s → get_or xs i 0 ≡ get_or s i 0) → take n xs ≡ s
held_all n xs s e c h f =
    let same : n ≡ length s = omega arith in
    let l : length (take n xs) ≡ n = length-take-le n xs (omega arith) in
    ext_get_or 0 (take n xs) s (l ∙ same)
    (λ i g. let low : i < n = subst (λ (m : ℕ). i < m) l g in get_or-take n xs i 0 low ∙ f i (omega arith) (omega arith))

reply_of_tile : (t : List ℕ) (p : Parser) → p.line ≡ Whole → (r : TileRead t p) → reply_of p ≡ answer_of p.width p.height p.bpp r.stream
unfolding reply_of reply_on answer_of decoded result
reply_of_tile t p e r =
    let q = p.stream in
    let k = r.kept.holds in
    rw e
    (limited-result (checked p.bpp p.width p.height) q.count (take q.count q.bytes) r.stream k.count
    (λ few. held_all q.count q.bytes r.stream k.space k.count few k.held))

whole_or_not : (l : Line) → (l ≡ Whole) ⊎ (l ≡ Whole → ⊥)
whole_or_not Width = inr (λ no. apart cc)
whole_or_not Height = inr (λ no. apart cc)
whole_or_not Bpp = inr (λ no. apart cc)
whole_or_not Stream = inr (λ no. apart cc)
whole_or_not Whole = inl refl
whole_or_not Bad = inr (λ no. apart cc)

-- the answer after a text is the answer to the text
pub answered : (t xs : List ℕ) → length xs ≡ 8192 → Answers t (reply_of (fed (start xs) t))
unfolding reply_of
answered t xs e =
    elim (whole_or_not (fed (start xs) t).line) [
      | inl l ↦
          let r = sound t xs e l in
          let k = r.kept in
          tile _ _ _ r.stream (record { width = k.width; height = k.height; bpp = k.bpp; bytes = k.bytes }) r.text
          (reply_of_tile t (fed (start xs) t) l r)
      | inr other ↦
          no_tile (λ w h d s g f. other (ap (λ (p : Parser). p.line) (complete t xs w h d s g f))) (not_whole (fed (start xs) t).line _ other)
    ]

-- the same for a text that comes in chunks of any size
pub chunks_answered : (cs : List (List ℕ)) (xs : List ℕ) → length xs ≡ 8192
    → Answers (joined cs) (reply_of (fed_chunks (start xs) cs))
chunks_answered cs xs e = rw chunks_fed (answered (joined cs) xs e)

-- ---- a text in one slice

pub replied_to : (t xs : List ℕ) (p q : Parser) {before after out out' : List ℕ} {r : ℕ} → q ≡ start xs → p ≡ fed q t
    → length xs ≡ 8192 → Replies (reply_of p) before after out out' r → RepliesTo t before after out out' r
replied_to t xs p q e f h replies = record { result = reply_of p; answers = rw (f, e) (answered t xs h); replies = replies }
