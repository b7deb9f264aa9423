-- Delays, and a report with its delivery. Assumes nothing.
use Prim.Native.Nat.{ℕ, max}
use mathlib.Core.Path.{◌≡◌, refl, ap, ◌∙◌}
use Rattle.std.specs.Prelude.{Option, Some, None, Result, Err, ok_or}
use Rattle.numbers.specs.Choice.{on_some}
use Rattle.lists.specs.Lists.{put_of, pushed}
use Rattle.lists.specs.declared.Counted.{Counted}
use Rattle.lists.specs.declared.Full.{Full}
use Rattle.book.specs.Capacities.{deliveries_capacity}
use Rattle.book.specs.declared.Delivery.{Delivery}
use Rattle.book.specs.declared.FillRec.{FillRec}
use Rattle.book.specs.declared.ReportRec.{ReportRec}
use Rattle.deliveries.specs.Rows.{Deliveries}
use Rattle.state.specs.With.{with_rng_latency, with_clock, with_deliveries, clock_last_delivery_ns}
use Rattle.book.specs.declared.config.Config.{Config}
use Rattle.state.specs.declared.HaltReason.{HaltReason}
use Rattle.state.specs.declared.HaltReason.TheVariants.{TimeOverflow}
use Rattle.state.specs.declared.KernelEvent.TheVariants.{Report}
use Rattle.state.specs.declared.KernelState.{KernelState}
use Rattle.rules.specs.Run.{Run, halt_at, raised}
use Rattle.rules.specs.Report.{delay, delayed, reported, push_delivery, queue_delivery}
use Rattle.reports.specs.Log.{Logged, append_event, expected, actual, halting}
use Rattle.reports.specs.Report.{at_time}
use Rattle.reports.specs.declared.Stop.TheVariants as stop
use Rattle.reports.proofs.Then.{quiet, quiet_stop, then_on, raise_here, full_halts, put_run}

-- the generator has moved, and there is a time or not
pub delayed_by : (c : Config) (from base : ℕ) (s : KernelState) (k : ℕ → KernelState → Run) (g : ℕ) (t : Option ℕ) (r : Result ℕ HaltReason)
    → record { rng = g; time = t } ≡ delay c s.rng_latency from base → r ≡ ok_or t TimeOverflow → at_time r (with_rng_latency s g) k ≡ delayed c from base s k
unfolding delayed on_some
delayed_by c from base s k g None r e h = rw (← e, h)
delayed_by c from base s k g (Some x) r e h = rw (← e, h)

module _ (c : Config) (r : ReportRec) (f : Option FillRec) (s : KernelState) (t : KernelState) (l : Logged) where
  -- there is no time: nothing is told
  pub report_late : {h : HaltReason} → ((k : ℕ → KernelState → Run) → halt_at h t ≡ delayed c r.ts_ns c.ack_q s k) → actual (Err (stop.Halt h)) t l ≡ expected l (queue_delivery c r f s)
  unfolding queue_delivery reported
  report_late e = quiet_stop l _ _ (e _)

  -- the report is told, and its delivery goes to the others if there is room
  pub report_sent : {at q : ℕ} {m : Logged} {d : Deliveries} (o : Result (Unit {0}) Full) {a : Counted (Result (Unit {0}) Full)} → ((k : ℕ → KernelState → Run) → k at t ≡ delayed c r.ts_ns c.ack_q s k)
      → q ≡ max at t.clock.last_delivery_ns → m ≡ append_event l (Report r)
      → a.answer ≡ o → put_of a d ≡ pushed deliveries_capacity (record { at_ns = q; report = r; fill = f }) t.deliveries
      → actual (halting (full_halts o)) (with_deliveries (with_clock t (clock_last_delivery_ns t.clock q)) d) m ≡ expected l (queue_delivery c r f s)
  unfolding queue_delivery reported push_delivery
  report_sent {at = at} {q = q} {m = m} {d = d} o e hq hm ho hd =
      let u : KernelState = with_clock t (clock_last_delivery_ns t.clock q) in
      let x : Delivery = record { at_ns = q; report = r; fill = f } in
      then_on l (reported c r s) (λ v. push_delivery (record { at_ns = v.clock.last_delivery_ns; report = r; fill = f }) v)
      (raise_here l m (Report r) u hm ∙ ap (expected l) (ap (λ y. raised (Report r) (with_clock t (clock_last_delivery_ns t.clock y))) hq ∙ e _))
      (quiet m (full_halts o) (with_deliveries u d) (put_run deliveries_capacity t.deliveries.count x t.deliveries (λ y. with_deliveries u y) u o refl ho hd))
