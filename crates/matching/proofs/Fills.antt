-- A fill: one law for each way out. Assumes nothing.
use Prim.Native.Nat.{ℕ, ◌+◌, ◌*◌, ◌≤◌}
use mathlib.Core.Bool.{true, false}
use mathlib.Core.Path.{◌≡◌, sym, ap, ◌∙◌, subst}
use borrow.Author.Tests.{eq-eqb, ne_eqb}
use Rattle.std.specs.Prelude.{Option, Some, None, Result, Ok, Err, ok_or}
use Rattle.numbers.specs.Choice.{pick, on_some}
use Rattle.numbers.specs.Words.{fitting}
use Rattle.lists.specs.Lists.{StoredAt, entry_at, store_at, stored_of}
use Rattle.lists.proofs.Cases.{some_case, different, none_of}
use Rattle.lists.specs.declared.Full.{Full}
use Rattle.book.specs.Capacities.{orders_capacity}
use Rattle.book.specs.Entries.{blank_order, remaining}
use Rattle.orders.specs.Rows.{Orders}
use Rattle.state.specs.With.{with_seqs, with_orders, with_gate, with_counters, seqs_next_exec_id, counters_venue_fills}
use Rattle.book.specs.declared.ExecKind.{ExecKind}
use Rattle.book.specs.declared.FillRec.{FillRec}
use Rattle.book.specs.declared.ReportRec.{ReportRec}
use Rattle.book.specs.declared.VenueOrder.{VenueOrder}
use Rattle.book.specs.declared.config.Config.{Config}
use Rattle.book.specs.declared.config.KernelTick.{KernelTick}
use Rattle.state.specs.declared.GateState.{GateState}
use Rattle.state.specs.declared.HaltReason.{HaltReason}
use Rattle.state.specs.declared.HaltReason.TheVariants.{LedgerOverflow, CounterOverflow}
use Rattle.state.specs.declared.KernelEvent.TheVariants.{Fill}
use Rattle.state.specs.declared.KernelState.{KernelState}
use Rattle.rules.specs.Run.{ran, halt, Run, ran_to, halt_at}
use Rattle.rules.specs.Report.{stamp, report_at, queue_delivery}
use Rattle.rules.specs.Matching.{matches, fill_lots, gate_filled, filled_by, fill_kind, fill_record, fill_report, fill_counted, fill_event, fill_at, fills, fills_of, fills_at, match_at}
use Rattle.rules.proofs.Cases.{fits_some, fits_none}
use Rattle.rules.proofs.HeldMatching.{There, fills-there}
use Rattle.reports.specs.Log.{Logged, append_event, StepResult, expected, actual}
use Rattle.reports.specs.Report.{stamp_of}
use Rattle.reports.specs.declared.Stop.{Stop}
use Rattle.reports.specs.declared.Stop.TheVariants as stop
use Rattle.reports.specs.declared.report.Stamped.{Stamped}
use Rattle.reports.proofs.Then.{quiet_on, quiet_stop, then_on, then_stop, ran_here, halted_here, raise_here}

-- a stamp takes no execution number
stamp_exec : (s t : KernelState) → ran_to t ≡ stamp s → t.seqs.next_exec_id ≡ s.seqs.next_exec_id
unfolding stamp
stamp_exec s t = some_case (λ (r : Run). ran_to t ≡ r → t.seqs.next_exec_id ≡ s.seqs.next_exec_id) (fitting (s.seqs.stamp_seq + 1)) _ _
    (λ n _ q. ap (λ (r : Run). r.state.seqs.next_exec_id) q)
    (λ _ q. let m : ran ≡ halt CounterOverflow = ap (λ (r : Run). r.outcome) q in different cc)

-- ---- a fill up to its event: t is the state that its stamp leaves
module _ (l : Logged) (o : VenueOrder) (n : ℕ) (s t : KernelState) where
  pub event_unstamped : {h : HaltReason} → halt_at h t ≡ stamp s → actual (Err (stop.Halt h)) t l ≡ expected l (fill_event o n s)
  unfolding fill_event
  event_unstamped e = quiet_stop l _ _ e

  module _ (e : ran_to t ≡ stamp s) {g : Option GateState} (eg : g ≡ gate_filled o.side n t.gate) where
    pub event_ungated : {h : HaltReason} → Err h ≡ ok_or g CounterOverflow → actual (Err (stop.Halt h)) t l ≡ expected l (fill_event o n s)
    unfolding fill_event on_some
    event_ungated q = let w = none_of g q in quiet_on l (stamp s) _ e (rw (← eg, w.0, w.1) (halted_here l CounterOverflow t))

    module _ {kept : GateState} (k : g ≡ Some kept) {doubled : Option ℕ} (ed : doubled ≡ fitting (o.price * 2)) where
      pub event_priceless : {h : HaltReason} → Err h ≡ ok_or doubled LedgerOverflow → actual (Err (stop.Halt h)) t l ≡ expected l (fill_event o n s)
      unfolding fill_event on_some pick
      event_priceless q =
          let w = none_of doubled q in
          quiet_on l (stamp s) _ e (rw (← eg, k, fits_none (o.price * 2) (sym ed ∙ w.0), w.1) (halted_here l LedgerOverflow t))

      module _ {x : ℕ} (d : doubled ≡ Some x) {exec : Option ℕ} (ee : exec ≡ fitting (t.seqs.next_exec_id + 1)) where
        pub event_unnumbered : {h : HaltReason} → Err h ≡ ok_or exec CounterOverflow → actual (Err (stop.Halt h)) t l ≡ expected l (fill_event o n s)
        unfolding fill_event on_some pick
        event_unnumbered q =
            let w = none_of exec q in
            quiet_on l (stamp s) _ e (rw (← eg, k, fits_some (o.price * 2) (sym ed ∙ d), ← ee, w.0, w.1) (halted_here l CounterOverflow t))

        module _ {next : ℕ} (b : exec ≡ Some next) {count : Option ℕ} (ec : count ≡ fitting (t.counters.venue_fills + 1)) where
          -- the state with the gate and the execution number written
          abbrev numbered : KernelState
          numbered = with_seqs (with_gate t kept) (seqs_next_exec_id t.seqs next)

          pub event_uncounted : {h : HaltReason} → Err h ≡ ok_or count CounterOverflow → actual (Err (stop.Halt h)) numbered l ≡ expected l (fill_event o n s)
          unfolding fill_event fill_counted on_some pick
          event_uncounted q =
              let w = none_of count q in
              quiet_on l (stamp s) _ e
              (rw (← eg, k, fits_some (o.price * 2) (sym ed ∙ d), ← ee, b, ← ec, w.0, w.1) (halted_here l CounterOverflow numbered))

          pub event_told : {m : Logged} {y : ℕ} {a : Stamped} → count ≡ Some y → a ≡ stamp_of s
              → m ≡ append_event l (Fill (record { ts_ns = a.ts_ns; exec_id = t.seqs.next_exec_id; order_id = o.id; side = o.side; price = o.price; qty = n }))
              → actual (Ok tt) (with_counters numbered (counters_venue_fills t.counters y)) m ≡ expected l (fill_event o n s)
          unfolding fill_event fill_counted on_some pick
          event_told {m} {y} {a} q ea em =
              quiet_on l (stamp s) _ e
              (rw (← eg, k, fits_some (o.price * 2) (sym ed ∙ d), ← ee, b, ← ec, q)
              (raise_here l m (Fill (fill_record s o n)) (with_counters numbered (counters_venue_fills t.counters y)) (rw (ea, stamp_exec s t e) at em)))

-- what it answers
pub told_is : (o : VenueOrder) (n : ℕ) (s t : KernelState) → ran_to t ≡ stamp s → {a : Stamped} → a ≡ stamp_of s
    → ◌≡◌ {A = Stamped × FillRec} (a, record { ts_ns = a.ts_ns; exec_id = t.seqs.next_exec_id; order_id = o.id; side = o.side; price = o.price; qty = n }) (stamp_of s, fill_record s o n)
told_is o n s t e h = rw (stamp_exec s t e, h)

-- ---- the order stored, and the report: t is the state behind the event
module _ (l m : Logged) (c : Config) (i : ℕ) (o : VenueOrder) (n : ℕ) (s t : KernelState) where
  pub fill_stopped : {w : Stop} → actual (Err w) t m ≡ expected l (fill_event o n s) → actual (Err w) t m ≡ expected l (fill_at c i o n s)
  unfolding fill_at
  fill_stopped e = then_stop l _ _ e

  pub fill_reported : {a : Stamped} {rec : FillRec} {filled : VenueOrder} {kind : ExecKind} {r : ReportRec} {os : Orders} (stored : Result (Unit {0}) Full) {x : StepResult}
      → actual (Ok tt) t m ≡ expected l (fill_event o n s) → ◌≡◌ {A = Stamped × FillRec} (a, rec) (stamp_of s, fill_record s o n) → filled ≡ filled_by n o → kind ≡ fill_kind n o
      → r ≡ report_at a.ts_ns a.seq filled kind o.cancel_inflight n → stored_of stored os ≡ store_at orders_capacity i filled t.orders
      → x ≡ expected m (queue_delivery c r (Some rec) (with_orders t os)) → x ≡ expected l (fill_at c i o n s)
  unfolding fill_at fill_report
  fill_reported {a} {rec} {filled} {kind} {r} {os} stored e et ef ek er es p =
      let ea : a ≡ stamp_of s = ap (λ (z : Stamped × FillRec). z.0) et in
      let eb : rec ≡ fill_record s o n = ap (λ (z : Stamped × FillRec). z.1) et in
      let hr : r ≡ fill_report s o n = er ∙ rw (ea, ef, ek) in
      let hs : os ≡ (store_at orders_capacity i (filled_by n o) t.orders).list = ap (λ (z : StoredAt VenueOrder 8). z.list) es ∙ rw ef in
      then_on l _ _ e (rw (hr, eb, hs) at p)

-- ---- what the row fills at one place
module _ (c : Config) (row : KernelTick) (i : ℕ) (s : KernelState) {o : VenueOrder} (e : Some o ≡ entry_at orders_capacity blank_order i s.orders) (m : true ≡ matches row o)
    {lots : Option ℕ} (el : lots ≡ fill_lots c.fill row o) {n : ℕ} (k : lots ≡ Some n) (z : n ≡ 0 → ⊥) where
  fills_here : fills_at c.fill row i s.orders ≡ fills o n
  unfolding fills_at fills_of on_some pick
  fills_here = rw (← e, ← m, ← el, k, ne_eqb n 0 z)

  -- no more lots than remain
  pub few_lots : n ≤ remaining o
  few_lots = let t : There i s.orders (fills o n) = subst (There i s.orders) fills_here (fills-there c.fill row i s.orders) in t.4

-- ---- the row at one place
module _ (l : Logged) (c : Config) (row : KernelTick) (i : ℕ) (s : KernelState) where
  pub none_there : None ≡ entry_at orders_capacity blank_order i s.orders → actual (Ok tt) s l ≡ expected l (match_at c row i s)
  unfolding match_at fills_at on_some
  none_there e = rw (← e) (ran_here l s)

  module _ {o : VenueOrder} (e : Some o ≡ entry_at orders_capacity blank_order i s.orders) where
    pub unmatched : false ≡ matches row o → actual (Ok tt) s l ≡ expected l (match_at c row i s)
    unfolding match_at fills_at fills_of on_some pick
    unmatched m = rw (← e, ← m) (ran_here l s)

    module _ (m : true ≡ matches row o) {lots : Option ℕ} (el : lots ≡ fill_lots c.fill row o) where
      pub unruled : {h : HaltReason} → Err h ≡ ok_or lots CounterOverflow → actual (Err (stop.Halt h)) s l ≡ expected l (match_at c row i s)
      unfolding match_at fills_at fills_of on_some pick
      unruled q = let w = none_of lots q in rw (← e, ← m, ← el, w.0, w.1) (halted_here l CounterOverflow s)

      module _ {n : ℕ} (k : lots ≡ Some n) where
        pub no_lots : n ≡ 0 → actual (Ok tt) s l ≡ expected l (match_at c row i s)
        unfolding match_at fills_at fills_of on_some pick
        no_lots z = rw (← e, ← m, ← el, k, eq-eqb n 0 z) (ran_here l s)

        pub some_lots : (n ≡ 0 → ⊥) → {x : StepResult} → x ≡ expected l (fill_at c i o n s) → x ≡ expected l (match_at c row i s)
        unfolding match_at
        some_lots z p = rw (fills_here c row i s e m el k z) p
