-- One read after the other is one text, and the answer after a text is the answer to it. Assumes nothing.
use Rattle.std.proofs.Common.{◌≡◌, ℕ, List, ◌++◌, [], Option, Result, Ok, Err, OnOk, is_ok, length, take, refl, sym, subst, ◌∙◌}
use Rattle.std.specs.Io.KnownBytes.{Keeps, Appends, IsAtEnd}
use Rattle.std.proofs.KnownBytes.{Consumes-nil, Consumes-kept, Consumes-trans}
use lib.Seq.{take-append_seam}
use Rattle.base.proofs.Tests.{apart}
use Rattle.tile_text.specs.Answer.{lines_of}
use Rattle.tile_text.specs.Parse.{start, fed}
use Rattle.tile_text.specs.Reply.{reply_of, Replies}
use Rattle.tile_text.specs.declared.parser.Parser.{Parser}
use Rattle.tile_text.proofs.Chunks.{fed-append}
use Rattle.tile_text.proofs.Inverse.{answered}
use Rattle.tile.specs.Input.{ReadFrom, Replied}

pub read_none : {a b : Option (List ℕ)} (p : Parser) → Keeps a b → ReadFrom a b p p
unfolding fed
read_none {a} {b} p kept = record { text = []; consumed = Consumes-kept a a b [] (Consumes-nil a) kept; parser = refl }

pub read_more : {a b c : Option (List ℕ)} {p q r : Parser} → ReadFrom a b p q → ReadFrom b c q r → ReadFrom a c p r
read_more {a} {b} {c} {p} u v =
    record {
      text = u.text ++ v.text;
      consumed = Consumes-trans a b c u.text v.text u.consumed v.consumed;
      parser = v.parser ∙ rw u.parser (sym (fed-append p u.text v.text));
    }

-- an error that is named otherwise leaves what holds on success
pub named_otherwise : {T E F P Q : Type 0} (r : Result T F) (s : Result T E) → is_ok r ≡ is_ok s → (P → Q) → OnOk s P → OnOk r Q
named_otherwise (Ok x) (Ok y) e f h = f h
named_otherwise (Ok x) (Err y) e f h = apart cc
named_otherwise (Err x) s e f h = tt

-- the text is read to its end, and the first bytes of the output are written
pub replied : {input left before after : Option (List ℕ)} {p q : Parser} {xs held target out out' : List ℕ} {n : ℕ} → length xs ≡ 8192
    → p ≡ start xs → ReadFrom input left p q → IsAtEnd left → Replies (reply_of q) held target out out' n
    → Appends before after (take n out') → Replied input left before after
replied {before = before} {after = after} {q = q} {xs = xs} {n = n} space e read end replies written =
    let state : q ≡ fed (start xs) read.text = rw e at read.parser in
    let lines : take n _ ≡ lines_of (reply_of q) = rw (replies.out, replies.count) (take-append_seam _ _) in
    record {
      text = read.text;
      consumed = read.consumed;
      whole = end;
      result = reply_of q;
      answers = rw state (answered read.text xs space);
      written = subst (λ (bs : List ℕ). Appends before after bs) lines written;
    }
