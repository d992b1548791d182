-- `extract_run_length` meets its contract: a law for each place where a length stands. Assumes nothing.
use mathlib.Core.Path.{sym}
use native.Mathlib.Omega.{arith}
use Rattle.definition.proofs.Headers.{mega_range, by_header}
use Rattle.rle.specs.Kinds.{number_of}
use Rattle.rle.proofs.Numbers.{mega_numbered}
use Rattle.rle.proofs.Lengths.{own_read, reads_as, own_stands, byte_stands, two_stand}
use Rattle.rle.proofs.reader.Reader.extract_run_length.Goals as goal

pub returns-in-Some : goal.returns-in-Some
returns-in-Some c =
    let byte = c.ranges.header.fits in
    let l = by_header c.args.header byte _ in
    rw (c.in-Some.ensures, c.own_place.ensures)
    (reads_as (own_stands c.args.header byte c.args.kind c.requires (omega (arith, c.in-Some.own.some))) (sym (l.0 (omega (arith, c.in-Some.own.some))))
    (own_read c.args.self.at.inner.now c.args.self.at.pos c.args.self.inside _ _ (omega arith) l.3))

pub extract_run_length_mega-requires : goal.extract_run_length_mega-requires
extract_run_length_mega-requires c =
    let m = mega_range (number_of c.args.kind) in
    rw (c.mega.ensures, ← mega_numbered c.args.kind) (m.0, m.1)

pub returns-in-None : goal.returns-in-None
returns-in-None c =
    let byte = c.ranges.header.fits in
    reads_as (byte_stands c.args.header byte c.in-None.ensures c.if-header-lt240.true)
    (sym ((by_header c.args.header byte _).1 c.in-None.ensures c.if-header-lt240.true))
    (rw (c.mega.ensures, ← mega_numbered c.args.kind, c.requires) at c.extract_run_length_mega.ensures)

pub returns-in-None-2 : goal.returns-in-None-2
returns-in-None-2 c =
    let byte = c.ranges.header.fits in
    reads_as (two_stand c.args.header byte c.in-None.ensures c.if-header-lt240.false)
    (sym ((by_header c.args.header byte _).2 c.in-None.ensures c.if-header-lt240.false))
    c.extract_run_length_mega_mega.ensures
