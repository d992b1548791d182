-- Laws of heads: the kind and the run length that were read are the definition's. Assumes nothing.
use mathlib.Core.Path.{◌≡◌}
use mathlib.Core.List.{List}
use Prim.Native.Nat.{ℕ, ◌+◌, ◌≤◌, ◌<◌}
use native.Mathlib.Nat.{add-zero}
use native.Mathlib.Omega.{arith}
use lib.ListN.{get_or, drop}
use lib.Seq.{drop-drop, get_or-drop}
use Rattle.std.specs.Prelude.{Result, Ok, Err}
use Rattle.rle.specs.declared.head.RunLength.{RunLength as CodeLength}
use Rattle.rle.specs.declared.head.NoLength.{NoLength}
use Rattle.rle.specs.declared.kind.Kind.{Kind as CodeKind}
use Rattle.definition.specs.Orders.{row_of, place_of, length_of, headed, head_of}
use Rattle.definition.specs.Codes.{kind_number, kind_of}
use Rattle.definition.proofs.Headers.{row_is}
use Rattle.rle.specs.Heads.{length_in, ReadsLength, HeadAt, RefusedAt}
use Rattle.rle.specs.Kinds.{kind_in, number_of}
use Rattle.rle.proofs.Numbers.{kind_numbered, fixed_read}

module _ (src : List ℕ) (pos h : ℕ) (k : CodeKind) (at : h ≡ get_or src pos 0) (known : number_of k ≡ kind_number h) where
  head-is : (x : Result CodeLength NoLength) → length_in src x ≡ length_of (row_of h) h (drop (pos + 1) src)
      → head_of (drop pos src) ≡ headed (kind_in k) (length_in src x)
  unfolding head_of kind_of
  head-is x e = rw (← kind_numbered k) (rw (e, known, get_or-drop, add-zero, drop-drop, ← at, row_is))

  pub head_read : (l : CodeLength) (some : 1 ≤ l.pixels) (few : l.pixels ≤ 65536) → h < 256
      → ReadsLength src (pos + 1) (place_of (row_of h) h) (Ok l) (length_of (row_of h) h (drop (pos + 1) src))
      → HeadAt src pos (record { header = h; place = l.place; kind = k; run_length = record { pixels = l.pixels; some = some; few = few }; next = l.next })
  unfolding headed
  head_read l some few byte reads =
      record {
        is = head-is (Ok l) reads.is;
        header = at;
        stands = reads.stands;
        reads = omega (arith, reads.fits.2);
        place = reads.fits.3;
        fixed = fixed_read k l byte known reads;
      }

  pub head-refused : (r : NoLength) → ReadsLength src (pos + 1) (place_of (row_of h) h) (Err r) (length_of (row_of h) h (drop (pos + 1) src))
      → RefusedAt src pos r
  unfolding headed
  head-refused r reads = record { is = head-is (Err r) reads.is; reads = omega (arith, reads.fits.0); place = reads.fits.1 }
