-- A text has one answer: it is the text of one tile at most. Assumes nothing.
use mathlib.Core.Path.{◌≡◌, refl, ◌∙◌, ap, sym}
use mathlib.Core.List.{List, [], ◌∷◌, ◌++◌, append_assoc}
use Prim.Native.Nat.{ℕ, ◌/◌, ◌%◌, ◌<◌}
use native.Mathlib.Omega.{arith}
use lib.ListN.{length, drop}
use lib.Seq.{drop-append_seam}
use Rattle.definition.specs.Decode.{Result}
use Rattle.print.specs.Text.{ascii, line}
use Rattle.print.specs.Digits.{decimal, hex_digit, hex_pairs}
use Rattle.tile_text.specs.Text.{text_of, Bytes, Tile}
use Rattle.tile_text.specs.Answer.{answer_of, Answers, tile, no_tile}
use Rattle.tile_text.specs.Parse.{hex_value}
use Rattle.tile_text.specs.declared.parser.Parser.{Parser}
use Rattle.print.proofs.Printed.{not_line_feed}
use Rattle.tile_text.proofs.Digits.{hex_value_lem}
use Rattle.tile_text.proofs.Inverse.{complete}

same_digit : (c d : ℕ) → c < 16 → d < 16 → hex_digit c ≡ hex_digit d → c ≡ d
same_digit c d h g e = let same = sym (hex_value_lem c h) ∙ ap hex_value e ∙ hex_value_lem d g in cc

pairs_unique : (s u : List ℕ) → Bytes s → Bytes u → hex_pairs s ++ (10 ∷ []) ≡ hex_pairs u ++ (10 ∷ []) → s ≡ u
unfolding hex_pairs Bytes
pairs_unique [] [] f g e = refl
pairs_unique [] (y ∷ ys) f g e = let lf : hex_digit (y / 16) ≡ 10 = cc in absurd (not_line_feed (y / 16) lf)
pairs_unique (x ∷ xs) [] f g e = let lf : hex_digit (x / 16) ≡ 10 = cc in absurd (not_line_feed (x / 16) lf)
pairs_unique (x ∷ xs) (y ∷ ys) f g e =
    let h : hex_digit (x / 16) ≡ hex_digit (y / 16) = cc in
    let l : hex_digit (x % 16) ≡ hex_digit (y % 16) = cc in
    let rest : hex_pairs xs ++ (10 ∷ []) ≡ hex_pairs ys ++ (10 ∷ []) = cc in
    let high : x / 16 ≡ y / 16 = same_digit (x / 16) (y / 16) (omega (arith, f.0)) (omega (arith, g.0)) h in
    let low : x % 16 ≡ y % 16 = same_digit (x % 16) (y % 16) (omega arith) (omega arith) l in
    let head : x ≡ y = omega arith in
    let tail : xs ≡ ys = pairs_unique xs ys f.1 g.1 rest in
    rw (head, tail)

after_same : (a b c : List ℕ) → a ++ b ≡ a ++ c → b ≡ c
after_same a b c e = sym (drop-append_seam a b) ∙ ap (drop (length a)) e ∙ drop-append_seam a c

stream_unique : (w h b : ℕ) (s u : List ℕ) → Bytes s → Bytes u → text_of w h b s ≡ text_of w h b u → s ≡ u
unfolding text_of line
stream_unique w h b s u f g e =
    let same = after_same (line (ascii "width=") (decimal w) ++ line (ascii "height=") (decimal h) ++ line (ascii "bpp=") (decimal b)) _ _ e in
    let key = ascii "stream=" in
    let values = sym (append_assoc key (hex_pairs s) (10 ∷ [])) ∙ same ∙ append_assoc key (hex_pairs u) (10 ∷ []) in
    pairs_unique s u f g (after_same key _ _ values)

tile_unique : (w h b w' h' b' : ℕ) (s u : List ℕ) → Tile w h b s → Tile w' h' b' u → text_of w h b s ≡ text_of w' h' b' u
    → answer_of w h b s ≡ answer_of w' h' b' u
tile_unique w h b w' h' b' s u f g e =
    let p = sym (complete _ [] w h b s f refl) ∙ complete _ [] w' h' b' u g e in
    let ew : w ≡ w' = ap (λ (q : Parser). q.width) p in
    let eh : h ≡ h' = ap (λ (q : Parser). q.height) p in
    let eb : b ≡ b' = ap (λ (q : Parser). q.bpp) p in
    let same : text_of w' h' b' s ≡ text_of w' h' b' u = rw (ew, eh, eb) at e in
    rw (ew, eh, eb, stream_unique w' h' b' s u f.bytes g.bytes same)

pub answer_unique : (t : List ℕ) (e f : Result) → Answers t e → Answers t f → e ≡ f
answer_unique t e f (tile w h b s g x i) (tile w' h' b' u g' x' i') = i ∙ tile_unique w h b w' h' b' s u g g' (sym x ∙ x') ∙ sym i'
answer_unique t e f (tile w h b s g x i) (no_tile other i') = absurd (other w h b s g x)
answer_unique t e f (no_tile other i) (tile w h b s g x i') = absurd (other w h b s g x)
answer_unique t e f (no_tile other i) (no_tile other' i') = i ∙ sym i'
