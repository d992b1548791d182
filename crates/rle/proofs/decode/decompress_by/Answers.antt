-- `decompress_by` meets its contract: refused before the stream, or decoded. Assumes nothing.
use native.Mathlib.Omega.{arith}
use Rattle.std.proofs.lemmas.Result.{err_from_is_err_and}
use Rattle.rle.proofs.Calls.{reports_refused, spaced, reports_decoded}
use Rattle.rle.proofs.decode.decompress_by.Goals as goal

pub returns-in_err-f : goal.returns-in_err-f
returns-in_err-f g c =
    let e = err_from_is_err_and c.from_residual.result c.from_residual.ensures.1 in
    rw (e.1, e.2) (reports_refused _ _ c.args.bpp c.args.width c.args.height c.in_err-f.ensures)

pub decode-r-requires : goal.decode-r-requires
decode-r-requires g c = (spaced _ _ c.in_ok-f.ensures).1

pub returns : goal.returns
returns g c =
    reports_decoded c.args.bpp c.args.width c.args.height c.in_ok-f.f _ _ _ c.in_ok-f.ensures c.decode-r.result c.decode-r.auto.dst (λ i. omega (arith, c.type_inv.src i))
    c.decode-r.ensures _ c.new.ensures
