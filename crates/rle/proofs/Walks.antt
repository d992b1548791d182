-- Laws of a walk without a target: an order's progress and record are its plan's, and the orders from each state that the walk stands
-- for are those of the definition. Assumes nothing.
use mathlib.Core.Path.{◌≡◌, refl, ap, sym, ◌∙◌}
use mathlib.Core.List.{List}
use Prim.Native.Nat.{ℕ, ◌+◌, ◌-◌, ◌≤◌, ◌<◌, zero-le}
use native.Mathlib.Nat.{le_refl, add-zero, sub-zero}
use native.Mathlib.Omega.{arith}
use lib.ListN.{length, drop, length-drop, drop_of_length-le}
use lib.Seq.{drop-drop, get_or-drop}
use Rattle.rle.specs.declared.head.OrderHead.{OrderHead}
use Rattle.std.specs.Prelude.{Some, None, Ok, Err}
use Rattle.rle.specs.declared.head.NoLength.{NoLength}
use Rattle.rle.specs.declared.plan.Plan.{Plan as CodePlan}
use Rattle.rle.specs.declared.record.OrderRecord.{OrderRecord}
use Rattle.rle.specs.declared.frame.Frame.{Frame as CodeFrame}
use Rattle.rle.specs.declared.walk.Walk.{Walk}
use Rattle.picture.specs.declared.outcome.RleError.{RleError}
use Rattle.picture.specs.Sizes.{Frame}
use Rattle.picture.specs.Outcomes.{refusal_of}
use Rattle.rle.specs.Kinds.{kind_in}
use Rattle.definition.specs.Decode.{State, then_run, step, run}
use Rattle.definition.specs.Plan.{Ending, complete, counts_of, leaves_insert, insert_after, orders_after, Progress, progress, progress_of, plan_by, plan_from, past_first_row, plan_of, plan_record, end_with, plan_state, plan_step}
use Rattle.definition.specs.Records.{orders_from, nth}
use Rattle.definition.specs.Runs.{Continues}
use Rattle.definition.proofs.Planned.{step_planned, progress_planned, Within, kind-within}
use Rattle.definition.proofs.Records.{meant_end, meant_refused, meant_next, meant_later, record_planned}
use Rattle.definition.proofs.Runs.{continues-first, continues_end, continues-refused, continues_on}
use Rattle.rle.specs.Heads.{HeadAt, RefusedAt}
use Rattle.rle.specs.Planning.{counts_in, ending_in}
use Rattle.rle.specs.Records.{record_in}
use Rattle.rle.specs.States.{frame_of}
use Rattle.rle.specs.Walking.{row_ended, record_at, ReachesOrder, RunsOut, WalksOrders}
use Rattle.rle.specs.Walks.{StandsFor}

-- ---- progress

-- the definition's progress that a walk stands for, with k orders completed
abbrev pub progress_in : List ℕ → ℕ → Walk → Progress
progress_in src k w = progress (drop w.pos src) w.pixels w.insert w.first_row k

stands-progress : {src : List ℕ} {w : Walk} {s : State} → StandsFor src w s → progress_in src s.orders w ≡ progress_of s
unfolding progress_of
stands-progress {s = s} is = sym (λ i. progress (is.left i) (is.pixels i) (is.insert i) (is.mark i) s.orders)

progress-stands : (src : List ℕ) (w : Walk) (s : State) → progress_in src s.orders w ≡ progress_of s → StandsFor src w s
unfolding progress_of
progress-stands src w s e =
    record {
      left = ap (λ (m : Progress). m.left) (sym e);
      pixels = ap (λ (m : Progress). m.pixels) (sym e);
      insert = ap (λ (m : Progress). m.insert) (sym e);
      mark = ap (λ (m : Progress). m.first_row) (sym e);
    }

-- ---- one order

-- it is refused as planned, with so many pixels painted by then
pub record RefusesOrder (f : Frame) (src : List ℕ) (w : Walk) (e : RleError) (pixels : ℕ) : Type 0 where
  pub ending : (k : ℕ) → Ending.refused (refusal_of e) ≡ (plan_of f (progress_in src k w)).ending
  pub painted : (k : ℕ) → pixels ≡ (plan_of f (progress_in src k w)).after.pixels
  pub kept : (k : ℕ) → k ≡ (plan_of f (progress_in src k w)).after.orders
  pub more : w.pos < length src
  pub within : pixels ≤ f.total

-- it is completed as planned, and the walk v stands behind it
pub record CompletesOrder (f : Frame) (src : List ℕ) (w v : Walk) : Type 0 where
  pub ending : (k : ℕ) → complete ≡ (plan_of f (progress_in src k w)).ending
  pub after : (k : ℕ) → progress_in src (k + 1) v ≡ (plan_of f (progress_in src k w)).after
  pub reads : w.pos < v.pos
  pub place : v.pos ≤ length src
  pub some : w.pixels < v.pixels
  pub within : v.pixels ≤ f.total

-- the walk stands before an order of head o, and p is the plan of it in the room that the picture has left
pub record PlannedAt (f : CodeFrame) (src : List ℕ) (w : Walk) (o : OrderHead) (p : CodePlan) : Type 0 where
  pub within : w.pixels ≤ f.total
  pub at : HeadAt src w.pos o
  pub counts : counts_in p ≡ counts_of f.depth.bytes (kind_in o.kind) o.run_length.pixels (length src - o.next) (f.total - w.pixels)

module _ {f : CodeFrame} {src : List ℕ} {w : Walk} {o : OrderHead} {p : CodePlan} (planned : PlannedAt f src w o p) where
  abbrev at : HeadAt src w.pos o
  at = planned.at

  enough : Within (length src - o.next) (f.total - w.pixels) (counts_in p)
  enough = rw planned.counts (kind-within f.depth.bytes (kind_in o.kind) o.run_length.pixels (length src - o.next) (f.total - w.pixels) o.run_length.some)

  has_room : w.pixels + p.pixels ≤ f.total
  has_room = omega (arith, enough.pixels, planned.within)

  pub few_behind : w.pixels + p.pixels ≤ 67108864
  few_behind = omega (arith, has_room, f.few)

  pub place_behind : o.next + p.read ≤ length src
  place_behind = omega (arith, enough.read, at.place)

  pub order-refused : (e : RleError) → p.ending ≡ Err e → RefusesOrder (frame_of f) src w e (w.pixels + p.pixels)
  unfolding plan_of plan_from plan_by past_first_row orders_after
  order-refused e is =
      record {
        ending = λ k. rw (at.is, length-drop, ← planned.counts) (ap ending_in (sym is));
        painted = λ k. rw (at.is, length-drop, ← planned.counts);
        kept = λ k. rw (at.is, length-drop, ← planned.counts, is);
        more = omega (arith, at.reads, at.place);
        within = has_room;
      }

  pub order-completed : p.ending ≡ Ok tt
      → CompletesOrder (frame_of f) src w
      (record { pos = o.next + p.read; pixels = w.pixels + p.pixels; insert = leaves_insert (kind_in o.kind); first_row = (row_ended f.width w).first_row })
  unfolding plan_of plan_from plan_by past_first_row insert_after orders_after
  order-completed is =
      record {
        ending = λ k. rw (at.is, length-drop, ← planned.counts) (ap ending_in (sym is));
        after = λ k. rw (at.is, length-drop, ← planned.counts, is, drop-drop);
        reads = omega (arith, at.reads);
        place = place_behind;
        some = omega (arith, enough.some (ap ending_in is));
        within = has_room;
      }

  -- its record is the plan's
  pub record_walked : (k : ℕ) → record_in (record_at o (row_ended f.width w) p.pixels) ≡ plan_record (plan_of (frame_of f) (progress_in src k w))
  unfolding plan_record plan_of plan_from plan_by past_first_row
  record_walked k = rw (at.is, length-drop, ← planned.counts, get_or-drop, add-zero, ← at.header, at.stands)

-- the head behind the walk is refused
pub head-refused : {f : Frame} {src : List ℕ} {w : Walk} {r : NoLength} → w.pixels ≤ f.total → RefusedAt src w.pos r → RefusesOrder f src w r.error w.pixels
unfolding plan_of plan_from plan_by past_first_row orders_after
head-refused within at =
    record {
      ending = λ k. rw at.is;
      painted = λ k. rw (at.is, add-zero);
      kept = λ k. rw at.is;
      more = omega (arith, at.reads, at.place);
      within = within;
    }

-- ---- orders from a state on

-- from the state `first` k orders led to the walk w, which stands for a state with the same orders to come; number n of all of them is
-- meant
pub record Leads (f : Frame) (src : List ℕ) (first : State) (n k : ℕ) (w : Walk) : Type 0 where
  pub state : State
  pub reached : progress_in src state.orders w ≡ progress_of state
  pub counted : first.orders + k ≡ state.orders
  pub continues : Continues f (run f (length first.left) first) state
  pub fuel : ℕ
  pub enough : length state.left ≤ fuel
  pub meant : nth (orders_from f fuel state) (n - k) ≡ nth (orders_from f (length first.left) first) n

left_is : (src : List ℕ) (w : Walk) (t : State) → progress_in src t.orders w ≡ progress_of t → t.left ≡ drop w.pos src
unfolding progress_of
left_is src w t e = ap (λ (m : Progress). m.left) (sym e)

module _ {f : Frame} {src : List ℕ} {first : State} {n k : ℕ} {w : Walk} (leads : Leads f src first n k w) where
  here : leads.state.left ≡ drop w.pos src
  here = left_is src w leads.state leads.reached

  pixels_here : w.pixels ≡ length leads.state.painted
  unfolding progress_of
  pixels_here = ap (λ (m : Progress). m.pixels) leads.reached

  leads_end : length src ≤ w.pos → RunsOut f first n (Ok tt) w.pixels k
  unfolding then_run end_with
  leads_end h =
      let e = here ∙ drop_of_length-le src h in
      record {
        none = sym leads.meant ∙ meant_end f leads.state leads.fuel leads.enough (n - k) e;
        state = leads.state;
        is = continues_end leads.continues e;
        painted = pixels_here;
        counted = leads.counted;
      }

  abbrev next : State
  next = plan_state f leads.state (plan_of f (progress_of leads.state))

  -- the next order's ending and what it leaves, by the plan from the walk's progress
  next-is : (e : Ending) → e ≡ (plan_of f (progress_in src leads.state.orders w)).ending → end_with e next ≡ step f leads.state
  unfolding plan_step
  next-is e ends = rw (ends, leads.reached, step_planned)

  more_here : w.pos < length src → 0 < length leads.state.left
  more_here more = rw (here, length-drop) (omega arith)

  leads_refused : {e : RleError} {pixels : ℕ} → RefusesOrder f src w e pixels → RunsOut f first n (Err e) pixels k
  unfolding progress_of plan_state
  leads_refused {e} refuses =
      let is = next-is (Ending.refused (refusal_of e)) (refuses.ending leads.state.orders) in
      let more = more_here refuses.more in
      let after = progress_planned f leads.state in
      record {
        none = sym leads.meant ∙ meant_refused f leads.state leads.fuel leads.enough (n - k) more (Ending.refused (refusal_of e)) next is refl;
        state = next;
        is = continues-refused leads.continues more (Ending.refused (refusal_of e)) next is refl;
        painted = (rw leads.reached at (refuses.painted leads.state.orders)) ∙ ap (λ (m : Progress). m.pixels) after;
        counted = leads.counted ∙ (rw leads.reached at (refuses.kept leads.state.orders)) ∙ ap (λ (m : Progress). m.orders) after;
      }

  module _ {v : Walk} (completes : CompletesOrder f src w v) where
    more : 0 < length leads.state.left
    more = more_here (omega (arith, completes.reads, completes.place))

    done-is : end_with complete next ≡ step f leads.state
    done-is = next-is complete (completes.ending leads.state.orders)

    next-progress : progress_in src (leads.state.orders + 1) v ≡ progress_of next
    next-progress = rw (completes.after leads.state.orders, leads.reached) (progress_planned f leads.state)

    next-orders : leads.state.orders + 1 ≡ next.orders
    unfolding progress_of
    next-orders = ap (λ (m : Progress). m.orders) next-progress

    next_reached : progress_in src next.orders v ≡ progress_of next
    next_reached = ap (λ (o : ℕ). progress_in src o v) (sym next-orders) ∙ next-progress

    leads_order : k ≡ n → (x : OrderRecord) → record_in x ≡ plan_record (plan_of f (progress_in src leads.state.orders w)) → ReachesOrder f src first n x v (k + 1)
    leads_order now x told =
        record {
          order = record { before = leads.state; after = next };
          is =
              sym leads.meant
              ∙ meant_next f leads.state leads.fuel leads.enough (n - k) more complete next done-is refl (omega arith);
          told =
              rw (told, leads.reached)
              (sym (record_planned f leads.state (sym (rw leads.reached at (completes.ending leads.state.orders)))));
          stands = progress-stands src v next next_reached;
          counted = omega arith;
        }

    leads_on : k < n → Leads f src first n (k + 1) v
    leads_on later =
        let l : length next.left < length leads.state.left =
        rw (left_is src v next next_reached, here) (simp length-drop (omega (arith, completes.reads, completes.place))) in
        record {
          state = next;
          reached = next_reached;
          counted = omega (arith, leads.counted, next-orders);
          continues = continues_on leads.continues more complete next done-is refl l;
          fuel = leads.fuel - 1;
          enough = omega (arith, leads.enough);
          meant =
              sym (meant_later f leads.state leads.fuel leads.enough (n - k) more complete next done-is refl (n - (k + 1)) (omega arith))
              ∙ leads.meant;
        }

-- ---- the walk

-- what holds between two orders of a walk, of which k are completed
pub record WalkedTo (f : Frame) (src : List ℕ) (from : Walk) (n k : ℕ) (w : Walk) : Type 0 where
  pub within : w.pixels ≤ f.total
  pub counted : k ≤ w.pixels
  pub few : k ≤ n
  pub leads : (first : State) → StandsFor src from first → Leads f src first n k w

pub walked_start : (f : Frame) (src : List ℕ) (n : ℕ) (w : Walk) → w.pixels ≤ f.total → WalkedTo f src w n 0 w
walked_start f src n w within =
    record {
      within = within;
      counted = zero-le;
      few = zero-le;
      leads = λ first is.
          record {
            state = first;
            reached = stands-progress is;
            counted = add-zero first.orders;
            continues = continues-first f first;
            fuel = length first.left;
            enough = le_refl _;
            meant = rw sub-zero;
          };
    }

module _ {f : Frame} {src : List ℕ} {from : Walk} {n k : ℕ} {w : Walk} (walked : WalkedTo f src from n k w) where
  pub walked_end : length src ≤ w.pos → WalksOrders f src from n (record { stop = Ok None; walk = w; orders = k })
  walked_end h =
      record {
        within = omega (arith, walked.within, walked.counted);
        stops = λ first is. leads_end (walked.leads first is) h;
      }

  pub walked_refused : {e : RleError} {v : Walk} → RefusesOrder f src w e v.pixels
      → WalksOrders f src from n (record { stop = Err e; walk = v; orders = k })
  walked_refused refuses =
      record {
        within = omega (arith, walked.within, walked.counted);
        stops = λ first is. leads_refused (walked.leads first is) refuses;
      }

  module _ {v : Walk} (completes : CompletesOrder f src w v) where
    pub walked_order : n < k + 1 → (x : OrderRecord) → ((j : ℕ) → record_in x ≡ plan_record (plan_of f (progress_in src j w)))
        → WalksOrders f src from n (record { stop = Ok (Some x); walk = v; orders = k + 1 })
    walked_order now x told =
        record {
          within = omega (arith, walked.counted, completes.some, completes.within);
          stops = λ first is. let l = walked.leads first is in leads_order l completes (omega (arith, walked.few)) x (told l.state.orders);
        }

    pub walked_on : k + 1 ≤ n → WalkedTo f src from n (k + 1) v
    walked_on later =
        record {
          within = completes.within;
          counted = omega (arith, walked.counted, completes.some);
          few = later;
          leads = λ first is. leads_on (walked.leads first is) completes (omega arith);
        }
