-- Laws of kinds: their numbers, and which kinds one function serves. Assumes nothing.
use mathlib.Core.Path.{◌≡◌, refl, ◌∙◌}
use mathlib.Core.Bool.{false}
use mathlib.Core.List.{List}
use mathlib.Core.Logic.{◌⊎◌, inl, inr}
use Prim.Native.Nat.{ℕ, ◌<◌}
use native.Mathlib.Omega.{arith}
use lib.Dec.{ltb}
use lib.ListN.{drop}
use Rattle.std.specs.Prelude.{Ok}
use Rattle.base.specs.Picks.{pick}
use Rattle.base.proofs.Tests.{by_test}
use Rattle.definition.specs.Orders as orders
use Rattle.definition.specs.Orders.{rows, row, no_row, row_of, run_length, length_of}
use Rattle.definition.specs.Codes.{kind_row, kind_of, kind_number, length_number, mega_number}
use Rattle.definition.specs.Plan.{leaves_insert, insert_in, leaves}
use Rattle.definition.proofs.Headers.{fixed-length, by_header}
use Rattle.rle.specs.declared.head.RunLength.{RunLength as CodeLength}
use Rattle.rle.specs.declared.kind.Kind.{Kind as CodeKind}
use Rattle.rle.specs.declared.kind.Kind.TheVariants.{BgRun, FgRun, FgBgImage, ColorRun, ColorImage, SetFgRun, SetFgBgImage, DitheredRun, SpecialFgBg1, SpecialFgBg2, White, Black, NoOrder}
use Rattle.rle.specs.Heads.{mega_in, ReadsLength}
use Rattle.rle.specs.Kinds.{kind_in, number_of, fixed_length, sets_foreground}

-- a kind is the definition's of its number
pub kind_numbered : (k : CodeKind) → kind_of (number_of k) ≡ kind_in k
unfolding kind_of kind_row rows row no_row
kind_numbered BgRun = refl
kind_numbered FgRun = refl
kind_numbered FgBgImage = refl
kind_numbered ColorRun = refl
kind_numbered ColorImage = refl
kind_numbered SetFgRun = refl
kind_numbered SetFgBgImage = refl
kind_numbered DitheredRun = refl
kind_numbered SpecialFgBg1 = refl
kind_numbered SpecialFgBg2 = refl
kind_numbered White = refl
kind_numbered Black = refl
kind_numbered NoOrder = refl

-- what it adds to a length is what the definition's adds
pub mega_numbered : (k : CodeKind) → mega_number (number_of k) ≡ mega_in k
unfolding mega_number
mega_numbered BgRun = refl
mega_numbered FgRun = refl
mega_numbered FgBgImage = refl
mega_numbered ColorRun = refl
mega_numbered ColorImage = refl
mega_numbered SetFgRun = refl
mega_numbered SetFgBgImage = refl
mega_numbered DitheredRun = refl
mega_numbered SpecialFgBg1 = refl
mega_numbered SpecialFgBg2 = refl
mega_numbered White = refl
mega_numbered Black = refl
mega_numbered NoOrder = refl

-- only a background run leaves an insert pending
pub no_insert : (k : CodeKind) → (k ≡ BgRun → ⊥) → false ≡ leaves_insert (kind_in k)
unfolding insert_in leaves
no_insert BgRun n = absurd (n refl)
no_insert FgRun n = refl
no_insert FgBgImage n = refl
no_insert ColorRun n = refl
no_insert ColorImage n = refl
no_insert SetFgRun n = refl
no_insert SetFgBgImage n = refl
no_insert DitheredRun n = refl
no_insert SpecialFgBg1 n = refl
no_insert SpecialFgBg2 n = refl
no_insert White n = refl
no_insert Black n = refl
no_insert NoOrder n = refl

-- numbers from 8 on have a fixed length
fixed_by : (k : CodeKind) {n : ℕ} → (7 < number_of k → n ≡ pick (ltb 9 (number_of k)) 1 8) → fixed_length k n
fixed_by BgRun f = refl
fixed_by FgRun f = refl
fixed_by FgBgImage f = refl
fixed_by ColorRun f = refl
fixed_by ColorImage f = refl
fixed_by SetFgRun f = refl
fixed_by SetFgBgImage f = refl
fixed_by DitheredRun f = refl
fixed_by SpecialFgBg1 f = f (omega arith)
fixed_by SpecialFgBg2 f = f (omega arith)
fixed_by White f = f (omega arith)
fixed_by Black f = f (omega arith)
fixed_by NoOrder f = f (omega arith)

-- and it is read as it is fixed
pub fixed_read : {src : List ℕ} {a h : ℕ} {q : orders.Place} (k : CodeKind) (l : CodeLength) → h < 256 → number_of k ≡ kind_number h
    → ReadsLength src a q (Ok l) (length_of (row_of h) h (drop a src)) → fixed_length k l.pixels
fixed_read {src} {a} {h} k l byte known reads = fixed_by k read
  where
    read : 7 < number_of k → l.pixels ≡ pick (ltb 9 (number_of k)) 1 8
    read u =
        let w : length_number h ≡ pick (ltb 9 (number_of k)) 1 8 = rw known (fixed-length h byte (rw (← known) u)) in
        let some : 0 < length_number h = rw w (by_test (λ (m : ℕ). 0 < m) (ltb 9 (number_of k)) (λ _. omega arith) (λ _. omega arith)) in
        let r : run_length l.pixels (drop l.next src) ≡ run_length (length_number h) (drop a src) =
        reads.is ∙ (by_header h byte (drop a src)).0 some in
        let n : l.pixels ≡ length_number h = cc in
        n ∙ w

-- ---- kinds that one function serves

-- an fg/bg image, with a foreground of its own or without
pub image_is : {k : CodeKind} → (k ≡ FgBgImage) ⊎ (k ≡ SetFgBgImage) → kind_in k ≡ pick (sets_foreground k) orders.SetFgBgImage orders.FgBgImage
image_is (inl e) = rw e
image_is (inr e) = rw e
