-- What the plain decoder's painting asks of the stream: the operands that the pixels are painted with.
use Rattle.std.specs.Prelude.{◌≡◌, ℕ, ◌-◌, ◌*◌, ◌≤◌, ◌<◌}
use Rattle.rle.specs.declared.kind.Kind.{Kind as CodeKind}
use Rattle.rle.specs.declared.kind.Kind.TheVariants.{BgRun, FgRun, FgBgImage, ColorRun, ColorImage, SetFgRun, SetFgBgImage, DitheredRun, SpecialFgBg1, SpecialFgBg2, White, Black, NoOrder}

-- n pixels of D bytes of an order of this kind have their operands in the a bytes that are left; no order has no pixels
abbrev pub HasOperands : CodeKind → ℕ → ℕ → ℕ → Type 0
HasOperands BgRun D n a = Unit {0}
HasOperands FgRun D n a = Unit {0}
HasOperands FgBgImage D n a = n ≤ a * 8
HasOperands ColorRun D n a = 0 < n → D ≤ a
HasOperands ColorImage D n a = n * D ≤ a
HasOperands SetFgRun D n a = Unit {0}
HasOperands SetFgBgImage D n a = n ≤ (a - D) * 8
HasOperands DitheredRun D n a = 0 < n → 2 * D ≤ a
HasOperands SpecialFgBg1 D n a = Unit {0}
HasOperands SpecialFgBg2 D n a = Unit {0}
HasOperands White D n a = Unit {0}
HasOperands Black D n a = Unit {0}
HasOperands NoOrder D n a = n ≡ 0
