-- The code's kinds of orders: the definition's, and their numbers.
use Rattle.std.specs.Prelude.{◌≡◌, List, [], Bool, true, false, ℕ, ◌/◌, ◌%◌, get_or}
use Rattle.definition.specs.Orders as orders
use Rattle.definition.specs.Orders.{Kind}
use Rattle.definition.specs.Codes.{tabulate}
use Rattle.rle.specs.declared.kind.Kind.{Kind as CodeKind}
use Rattle.rle.specs.declared.kind.Kind.TheVariants.{BgRun, FgRun, FgBgImage, ColorRun, ColorImage, SetFgRun, SetFgBgImage, DitheredRun, SpecialFgBg1, SpecialFgBg2, White, Black, NoOrder}

-- the definition's kind that the code's stands for
abbrev pub kind_in : CodeKind → Kind
kind_in BgRun = orders.BgRun
kind_in FgRun = orders.FgRun
kind_in FgBgImage = orders.FgBgImage
kind_in ColorRun = orders.ColorRun
kind_in ColorImage = orders.ColorImage
kind_in SetFgRun = orders.SetFgRun
kind_in SetFgBgImage = orders.SetFgBgImage
kind_in DitheredRun = orders.DitheredRun
kind_in SpecialFgBg1 = orders.SpecialFgBg1
kind_in SpecialFgBg2 = orders.SpecialFgBg2
kind_in White = orders.White
kind_in Black = orders.Black
kind_in NoOrder = orders.NoOrder

-- its number in the definition's table of kinds
abbrev pub number_of : CodeKind → ℕ
number_of BgRun = 0
number_of FgRun = 1
number_of FgBgImage = 2
number_of ColorRun = 3
number_of ColorImage = 4
number_of SetFgRun = 5
number_of SetFgBgImage = 6
number_of DitheredRun = 7
number_of SpecialFgBg1 = 8
number_of SpecialFgBg2 = 9
number_of White = 10
number_of Black = 11
number_of NoOrder = 12

-- the numbers of a table of kinds with a row for each upper half of a header byte
abbrev pub numbers_in : List (List CodeKind) → List ℕ
numbers_in table = tabulate (λ h. number_of (get_or (get_or table (h / 16) []) (h % 16) BgRun)) 0 256

-- whether the first of its operands is a foreground
abbrev pub sets_foreground : CodeKind → Bool
sets_foreground BgRun = false
sets_foreground FgRun = false
sets_foreground FgBgImage = false
sets_foreground ColorRun = false
sets_foreground ColorImage = false
sets_foreground SetFgRun = true
sets_foreground SetFgBgImage = true
sets_foreground DitheredRun = false
sets_foreground SpecialFgBg1 = false
sets_foreground SpecialFgBg2 = false
sets_foreground White = false
sets_foreground Black = false
sets_foreground NoOrder = false

-- the run length of an order that says n: special fg/bg images have eight pixels; white, black and no order one
abbrev pub length_by : CodeKind → ℕ → ℕ
length_by BgRun n = n
length_by FgRun n = n
length_by FgBgImage n = n
length_by ColorRun n = n
length_by ColorImage n = n
length_by SetFgRun n = n
length_by SetFgBgImage n = n
length_by DitheredRun n = n
length_by SpecialFgBg1 n = 8
length_by SpecialFgBg2 n = 8
length_by White n = 1
length_by Black n = 1
length_by NoOrder n = 1

-- n is a run length that an order of this kind may have
abbrev pub fixed_length : CodeKind → ℕ → Type 0
fixed_length k n = n ≡ length_by k n
