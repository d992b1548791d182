-- Laws of reading a run length. Assumes nothing.
use mathlib.Core.Path.{◌≡◌, refl, sym, subst, ◌∙◌}
use mathlib.Core.List.{List}
use Prim.Native.Nat.{ℕ, ◌+◌, ◌*◌, ◌-◌, ◌≤◌, ◌<◌}
use native.Mathlib.Nat.{le_refl, add-zero}
use native.Mathlib.Omega.{arith}
use lib.ListN.{length, get_or, drop, length-drop}
use lib.Seq.{drop-drop, get_or-drop}
use lib.Dec.{ltb}
use borrow.Author.Tests.{le-leb, lt-leb, eq-eqb, ne_eqb, lt-ltb, le-ltb}
use Rattle.rle.specs.declared.head.RunLength.{RunLength as CodeLength}
use Rattle.picture.specs.declared.outcome.RleError.{RleError}
use Rattle.picture.specs.declared.outcome.RleError.TheVariants.{NotEnoughBytes, UnexpectedZeroLength}
use Rattle.rle.specs.declared.record.Place.{Place as CodePlace}
use Rattle.rle.specs.declared.record.Place.TheVariants.{InByte, InTwoBytes}
use Rattle.rle.specs.declared.head.NoLength.{NoLength}
use Rattle.rle.specs.declared.kind.Kind.{Kind as CodeKind}
use Rattle.rle.specs.declared.kind.Kind.TheVariants.{BgRun, FgRun, FgBgImage, ColorRun, ColorImage, SetFgRun, SetFgBgImage, DitheredRun, SpecialFgBg1, SpecialFgBg2, White, Black, NoOrder}
use Rattle.rle.specs.Kinds.{number_of}
use Rattle.std.specs.Prelude.{Result, Ok, Err, MatchResult}
use Rattle.base.specs.Picks.{pick}
use Rattle.base.proofs.Tests.{apart}
use Rattle.definition.specs.Orders.{row_of, Place, nowhere, in_header, in_byte, in_two_bytes, place_of, RunLength, run_length, mega_length, mega_mega_length, with_bytes}
use Rattle.definition.specs.Codes.{kind_number, length_number, place_by}
use Rattle.definition.proofs.Headers.{place_is}
use Rattle.rle.specs.Records.{place_in}
use Rattle.rle.specs.Heads.{stands_at, own_place, ReadsLength}

-- ---- what a read gave, by what `map_err` makes of it

pub was_ok : (r : Result ℕ RleError) (x : ℕ) → MatchResult r (λ y. ◌≡◌ {A = Result ℕ NoLength} (Ok x) (Ok y)) (λ _. ⊥) → r ≡ Ok x
was_ok (Ok y) x h = cc
was_ok (Err e) x h = absurd h

pub was_err : {P : RleError → Type 0} (r : Result ℕ RleError) (d : NoLength) → MatchResult r (λ y. ◌≡◌ {A = Result ℕ NoLength} (Err d) (Ok y)) P
    → (e : RleError) × (r ≡ Err e) × P e
was_err (Ok y) d h = apart cc
was_err (Err e) d h = (e, refl, h)

-- ---- where it stands

own_in : (k : CodeKind) → place_in (own_place k) ≡ pick (ltb (number_of k) 8) in_header nowhere
own_in BgRun = refl
own_in FgRun = refl
own_in FgBgImage = refl
own_in ColorRun = refl
own_in ColorImage = refl
own_in SetFgRun = refl
own_in SetFgBgImage = refl
own_in DitheredRun = refl
own_in SpecialFgBg1 = refl
own_in SpecialFgBg2 = refl
own_in White = refl
own_in Black = refl
own_in NoOrder = refl

module _ (h : ℕ) (byte : h < 256) where
  pub own_stands : (k : CodeKind) → number_of k ≡ kind_number h → 0 < length_number h → place_in (own_place k) ≡ place_of (row_of h) h
  unfolding place_by
  own_stands k known some = own_in k ∙ sym (rw (place_is h byte, lt-ltb 0 _ some, known))

  pub byte_stands : length_number h ≡ 0 → h < 0xF0 → in_byte ≡ place_of (row_of h) h
  unfolding place_by
  byte_stands none low = sym (rw (place_is h byte, none, lt-ltb h 0xF0 low))

  pub two_stand : length_number h ≡ 0 → 0xF0 ≤ h → in_two_bytes ≡ place_of (row_of h) h
  unfolding place_by
  two_stand none high = sym (rw (place_is h byte, none, le-ltb h 0xF0 high))

-- ---- what it is

pub reads_as : {src : List ℕ} {a : ℕ} {p q : Place} {r : Result CodeLength NoLength} {x y : RunLength} → p ≡ q → x ≡ y → ReadsLength src a p r x → ReadsLength src a q r y
reads_as {r = r} e e' d = record { is = d.is ∙ e'; stands = subst (λ (z : Place). stands_at z r) e d.stands; fits = d.fits }

module _ (src : List ℕ) (a : ℕ) (inside : a ≤ length src) where
  pub own_read : (n : ℕ) (p : CodePlace) → 0 < n → n ≤ 248 → ReadsLength src a (place_in p) (Ok (record { pixels = n; place = p; next = a })) (run_length n (drop a src))
  own_read n p some few = record { is = refl; stands = refl; fits = (some, omega arith, le_refl a, inside) }

  pub mega_short : (mega : ℕ) (e : RleError) → (length src - a < 1) × (e ≡ NotEnoughBytes 1 (length src - a))
      → ReadsLength src a in_byte (Err (record { error = e; next = a })) (mega_length mega (drop a src))
  unfolding mega_length with_bytes
  mega_short mega e (h, p) = record { is = rw (length-drop, p, lt-leb 1 (length src - a) h); stands = tt; fits = (le_refl a, inside) }

  pub mega_read : (mega b : ℕ) → (1 ≤ length src - a) × (b ≡ get_or src a 0) → b < 256 → 1 ≤ mega → mega ≤ 32
      → ReadsLength src a in_byte (Ok (record { pixels = b + mega; place = InByte; next = a + 1 })) (mega_length mega (drop a src))
  unfolding mega_length with_bytes
  mega_read mega b (h, g) k l m =
      record {
        is = rw (length-drop, le-leb 1 (length src - a) h, get_or-drop, add-zero, drop-drop, g);
        stands = refl;
        fits = (omega arith, omega arith, omega arith, omega arith);
      }

  pub long_short : (e : RleError) → (length src - a < 2) × (e ≡ NotEnoughBytes 2 (length src - a))
      → ReadsLength src a in_two_bytes (Err (record { error = e; next = a })) (mega_mega_length (drop a src))
  unfolding mega_mega_length with_bytes
  long_short e (h, p) =
      record { is = rw (length-drop, p, lt-leb 2 (length src - a) h); stands = tt; fits = (le_refl a, inside) }

  pub long-zero : (n : ℕ) → (2 ≤ length src - a) × (n ≡ get_or src a 0 + get_or src (a + 1) 0 * 256) → n ≡ 0
      → ReadsLength src a in_two_bytes (Err (record { error = UnexpectedZeroLength; next = a + 2 })) (mega_mega_length (drop a src))
  unfolding mega_mega_length with_bytes
  long-zero n (h, p) z =
      let z' : get_or src a 0 + get_or src (a + 1) 0 * 256 ≡ 0 = rw (← p) z in
      record {
        is = simp (length-drop, le-leb 2 (length src - a) h, get_or-drop, add-zero, drop-drop, eq-eqb _ 0 z');
        stands = tt;
        fits = (omega arith, omega arith);
      }

  pub long-is : (n : ℕ) → (2 ≤ length src - a) × (n ≡ get_or src a 0 + get_or src (a + 1) 0 * 256) → n < 65536 → (n ≡ 0 → ⊥)
      → ReadsLength src a in_two_bytes (Ok (record { pixels = n; place = InTwoBytes; next = a + 2 })) (mega_mega_length (drop a src))
  unfolding mega_mega_length with_bytes
  long-is n (h, p) few z =
      let z' : get_or src a 0 + get_or src (a + 1) 0 * 256 ≡ 0 → ⊥ = rw (← p) z in
      record {
        is = simp (p, length-drop, le-leb 2 (length src - a) h, get_or-drop, add-zero, drop-drop, ne_eqb _ 0 z');
        stands = refl;
        fits = (omega arith, omega arith, omega arith, omega arith);
      }
