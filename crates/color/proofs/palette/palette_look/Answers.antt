-- `palette_look` meets its contract: what the search over the entries gives is the one answer that is right. Assumes nothing.
use mathlib.Core.Path.{◌≡◌, ◌∙◌}
use mathlib.Core.List.{List}
use mathlib.Core.Bool.{true, false}
use Prim.Native.Nat.{ℕ, ◌≤◌, ◌<◌}
use native.Mathlib.Omega.{arith}
use lib.ListN.{length, get_or, take}
use lib.Seq.{take_all}
use Rattle.std.proofs.Common.{rules, tests}
use Rattle.std.proofs.lemmas.Iterator.{YieldsList-from_slice, IsFirst-from_position}
use Rattle.std.specs.Str.{bytes_eq}
use Rattle.std.specs.Prelude.{Option, MatchOption}
use Rattle.std.specs.List.{AllWithin, HoldsAt}
use Rattle.color.specs.Colors.{Triple, entry}
use Rattle.color.specs.Look.{lowest_index}
use Rattle.color.proofs.Entries.{cut_entries, entry-take}
use Rattle.color.proofs.Lowest.{looked_first, looked_lowest}
use Rattle.color.proofs.palette.palette_look.Goals as goal

-- what is searched are the entries, and what is found is the answer
answered : (p : List ℕ) (t : Triple) → length t ≡ 3 → 768 ≤ length p → (entries searched : List Triple) → searched ≡ entries → length entries ≡ 256
    → ((i : ℕ) (d : Triple) → i < 256 → get_or entries i d ≡ entry p i) → (answer found : Option ℕ) → answer ≡ found
    → MatchOption found (AllWithin (λ e. bytes_eq e t ≡ false) searched 0 (length searched))
    (λ i. (i < length searched) × HoldsAt (λ e. bytes_eq e t ≡ true) searched i × AllWithin (λ e. bytes_eq e t ≡ false) searched 0 i) → answer ≡ lowest_index p t
answered p t three long entries searched same count are answer found is first =
    is ∙ looked_lowest p t three found (looked_first p t long searched (rw same count) (λ i d h. rw same (are i d h)) found first)

pub returns : goal.returns
returns c =
    let p = c.args.palette.now in
    let t = c.args.triple in
    let entries = c.as_chunks.result.0.now in
    let bytes : c.in_ok-get.field-0.now ≡ take 768 p = search (rules, tests) in
    let long : 768 ≤ length p = search (rules, tests) in
    let count : length entries ≡ 256 = rw c.as_chunks.ensures.front_len (search (rules, tests)) in
    let are : (i : ℕ) (d : Triple) → i < 256 → get_or entries i d ≡ entry p i =
    λ i d h. cut_entries c.in_ok-get.field-0.now _ c.as_chunks.ensures.front (search (rules, tests)) i d h ∙ rw bytes (entry-take p i h) in
    let first = IsFirst-from_position _ _ c.position.result (λ e. bytes_eq e t ≡ true) (λ e. bytes_eq e t ≡ false) c.position.ensures.ran (YieldsList-from_slice _ c.iter.ensures.rest) (λ x q k. search (rules, tests)) (λ x q k. search (rules, tests)) in
    let all : take 256 entries ≡ entries = take_all 256 entries (omega (arith, count)) in
    answered p t (omega arith) long entries _ (search (rules, tests, all)) count are _ c.position.result (search (rules, tests)) first
