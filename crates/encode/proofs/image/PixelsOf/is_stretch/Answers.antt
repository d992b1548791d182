-- `is_stretch` meets its contract. Assumes nothing.
use mathlib.Core.Path.{◌≡◌, ◌∙◌}
use Prim.Native.Nat.{◌+◌, ◌-◌, ◌*◌}
use native.Mathlib.Omega.{arith}
use Rattle.encode.proofs.PixelStretches.{whole-stretch}
use Rattle.encode.proofs.image.PixelsOf.is_stretch.Goals as goal

pub returns : goal.returns
returns g c =
    let a = c.args in
    let here : (a.k + a.n) * g.row.D - a.k * g.row.D ≡ a.n * g.row.D = omega arith in
    let back : (a.k - a.row + a.n) * g.row.D - (a.k - a.row) * g.row.D ≡ a.n * g.row.D = omega arith in
    rw (here, back, ← a.self.bytes) at c.same_bytes.ensures
    ∙ whole-stretch a.self.pixels a.row a.k a.n c.requires.0 c.requires.1
