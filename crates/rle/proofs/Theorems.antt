-- The guarantees of specs/Guarantees.antt, from the contract of `decompress` alone. Assumes nothing.
use mathlib.Core.Path.{◌≡◌, refl, ap, sym, ◌∙◌, subst}
use mathlib.Core.List.{List}
use Prim.Native.Nat.{ℕ, ◌*◌}
use lib.ListN.{length, drop}
use lib.Seq.{take_at, drop_at}
use lib.Dec.{eqb}
use borrow.Author.Tests.{le-ltb}
use Rattle.rle.specs.declared.report.Report.{Report}
use Rattle.std.specs.Prelude.{Ok, Err}
use Rattle.picture.specs.declared.outcome.RleError.TheVariants.{InvalidBpp, EmptyImage, DimensionsTooLarge, BufferTooShort, BadOrderCode, NotEnoughBytes, InvalidImageSize, UnexpectedZeroLength}
use Rattle.picture.specs.Pixels.{bytes_of}
use Rattle.picture.specs.Sizes.{Refusal, Checked, refused, accepted, checked, with_space}
use Rattle.definition.specs.Decode.{Result, of_checked, result, result_in, Summary}
use Rattle.picture.specs.Outcomes.{Outcome, refusal_in}
use Rattle.rle.specs.Report.{Agrees, Decompresses}
use Rattle.rle.specs.Guarantees.{space_for, HasSpace, Defined, NoOldByte, SameDecoding, is_ok}

space_is : (given : ℕ) (c : Checked) → space_for given c → with_space given c ≡ c
unfolding with_space
space_is given (refused r) h = refl
space_is given (accepted f k) h = rw (le-ltb given (f.total * f.bytes) h)

-- with space the call's result is that of the definition, which sees no target
pub with_space_lem : (src : List ℕ) (bpp w h : ℕ) (before after : List ℕ) (r : Report) → Decompresses src bpp w h before after r → HasSpace before bpp w h
    → Agrees src before after (w * h) r (result src bpp w h)
unfolding result_in result
with_space_lem src bpp w h before after r d space =
    subst (λ (x : Result). Agrees src before after (w * h) r x) (ap (λ (c : Checked). of_checked src c) (space_is (length before) (checked bpp w h) space)) d

pub defined : (src : List ℕ) (bpp w h : ℕ) (before after : List ℕ) (r : Report)
    → Decompresses src bpp w h before after r → HasSpace before bpp w h → Defined src bpp w h before after r
defined src bpp w h before after r d space =
    let e = with_space_lem src bpp w h before after r d space in
    let pixels = ap (λ (x : Summary). x.pixels) e.report in
    record {
      report = e.report;
      painted = rw (pixels, e.target) (take_at _ _ _ e.painted);
      kept =
          rw pixels
          (ap (λ (l : List ℕ). drop (length (result src bpp w h).painted * (result src bpp w h).bytes) l) e.target
          ∙ drop_at (bytes_of (result src bpp w h).bytes (result src bpp w h).painted) _ _ e.painted);
      within = e.within;
      counted = e.counted;
      bounded = e.bounded;
    }

-- no old byte shows
pub no_old_byte : (src : List ℕ) (bpp w h : ℕ) (before₁ after₁ : List ℕ) (r₁ : Report) (before₂ after₂ : List ℕ) (r₂ : Report)
    → Decompresses src bpp w h before₁ after₁ r₁ → Decompresses src bpp w h before₂ after₂ r₂
    → HasSpace before₁ bpp w h → HasSpace before₂ bpp w h → NoOldByte src bpp w h before₁ after₁ r₁ before₂ after₂ r₂
no_old_byte src bpp w h before₁ after₁ r₁ before₂ after₂ r₂ d₁ d₂ s₁ s₂ =
    let a = defined src bpp w h before₁ after₁ r₁ d₁ s₁ in
    let b = defined src bpp w h before₂ after₂ r₂ d₂ s₂ in
    record {
      report = a.report ∙ sym b.report;
      painted = a.painted ∙ sym b.painted;
      first = a;
      second = b;
    }

-- the contract settles report and bytes
pub same_decoding : (src : List ℕ) (bpp w h : ℕ) (before₁ after₁ : List ℕ) (r₁ : Report) (before₂ after₂ : List ℕ) (r₂ : Report)
    → Decompresses src bpp w h before₁ after₁ r₁ → Decompresses src bpp w h before₂ after₂ r₂
    → SameDecoding src bpp w h before₁ after₁ r₁ before₂ after₂ r₂
same_decoding src bpp w h before₁ after₁ r₁ before₂ after₂ r₂ d₁ d₂ =
    let same : before₁ ≡ before₂ → Decompresses src bpp w h before₁ after₂ r₂ =
    λ e. subst (λ (l : List ℕ). Decompresses src bpp w h l after₂ r₂) (sym e) d₂ in
    record {
      first = d₁;
      second = d₂;
      report = λ e. d₁.report ∙ sym (same e).report;
      target = λ e. d₁.target ∙ sym (same e).target;
    }

-- a call answers Ok exactly where the definition refused nothing
pub accepts : (src before after : List ℕ) (total : ℕ) (r : Report) (e : Result) → Agrees src before after total r e → is_ok r.outcome ≡ eqb e.refusal.number 0
accepts src before after total r e d = go r.outcome ∙ ap (λ (x : Refusal). eqb x.number 0) (ap (λ (x : Summary). x.refusal) d.report)
  where
    go : (o : Outcome) → is_ok o ≡ eqb (refusal_in o).number 0
    go (Ok k) = refl
    go (Err (InvalidBpp b)) = refl
    go (Err EmptyImage) = refl
    go (Err (DimensionsTooLarge w h)) = refl
    go (Err (BufferTooShort n g)) = refl
    go (Err BadOrderCode) = refl
    go (Err (NotEnoughBytes n a)) = refl
    go (Err (InvalidImageSize m n)) = refl
    go (Err UnexpectedZeroLength) = refl
