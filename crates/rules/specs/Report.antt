-- 'Report': stamps, delays, and a report with its delivery.
use Rattle.numbers.specs.Choice.{pick, on_some}
use Rattle.std.specs.Prelude.{ℕ, ◌+◌, ◌*◌, min, max, Bool, eqb, Option, Some, None}
use Rattle.numbers.specs.Words.{fitting}
use Rattle.lists.specs.Lists.{pushed}
use Rattle.book.specs.Capacities.{deliveries_capacity}
use Rattle.state.specs.With.{with_seqs, with_clock, with_rng_latency, with_deliveries, seqs_stamp_seq, clock_last_delivery_ns}
use Rattle.book.specs.declared.Delivery.{Delivery}
use Rattle.book.specs.declared.ExecKind.{ExecKind}
use Rattle.book.specs.declared.Origin.TheVariants.{Venue}
use Rattle.book.specs.declared.ReportRec.{ReportRec}
use Rattle.book.specs.declared.VenueOrder.{VenueOrder}
use Rattle.book.specs.declared.config.Config.{Config}
use Rattle.state.specs.declared.HaltReason.TheVariants.{TimeOverflow, CounterOverflow}
use Rattle.state.specs.declared.KernelEvent.TheVariants.{Report}
use Rattle.state.specs.declared.KernelState.{KernelState}
use Rattle.rules.specs.Run.{Run, ran_to, halt_at, raised, and_then, putting}
use Rattle.rules.specs.Generator.{Draw, draw}
use Rattle.book.specs.declared.FillRec.{FillRec}

-- "A stamp is `now_ns` and `stamp_seq`, which then rises." The stamp is read off the state before this. "`stamp_seq` at maximum: 7"
unfoldable pub stamp : KernelState → Run
stamp s =
    on_some (fitting (s.seqs.stamp_seq + 1))
    (λ n. ran_to (with_seqs s (seqs_stamp_seq s.seqs n)))
    (halt_at CounterOverflow s)

-- "Delay is (base + jitter) times `quantum_ns`": none where "sum, product .. past 64 bits", the sum also where the quantum is 0
unfoldable pub delay_ns : ℕ → ℕ → ℕ → Option ℕ
delay_ns base jitter quantum = on_some (fitting (base + jitter)) (λ quanta. fitting (quanta * quantum)) None

-- N5: "A configured ceiling in ns bounds every delay: a longer one becomes the ceiling, and 0 .. means none. Where sum or product passes 64 bits the delay is the ceiling, if there is one"
unfoldable pub under_ceiling : ℕ → Option ℕ → Option ℕ
under_ceiling ceiling delay = pick (eqb ceiling 0) delay (Some (on_some delay (λ ns. min ns ceiling) ceiling))

-- a delay after a time: none where there is no delay, or "time past 64 bits"
unfoldable pub delayed_time : Config → ℕ → ℕ → ℕ → Option ℕ
delayed_time c from base jitter =
    on_some (under_ceiling c.ceiling_ns (delay_ns base jitter c.quantum_ns)) (λ ns. fitting (from + ns)) None

-- a delay's jitter is drawn first: the generator with the time
pub record Delay : Type 0 where
  pub rng : ℕ
  pub time : Option ℕ

-- by the configuration's jitter, quantum and ceiling
unfoldable pub delay : Config → ℕ → ℕ → ℕ → Delay
delay c rng from base =
    let d : Draw = draw rng c.jitter_q in
    record { rng = d.rng; time = delayed_time c from base d.value }

-- k at the time that is the delay after `from`; "delay, generator already moved: 6"
unfoldable pub delayed : Config → ℕ → ℕ → KernelState → (ℕ → KernelState → Run) → Run
delayed c from base s k =
    let d : Delay = delay c s.rng_latency from base in
    let t : KernelState = with_rng_latency s d.rng in
    on_some d.time (λ at. k at t) (halt_at TimeOverflow t)

-- a delivery goes behind the others
unfoldable pub push_delivery : Delivery → KernelState → Run
push_delivery d s = putting (pushed deliveries_capacity d s.deliveries) (with_deliveries s) s

-- "Delivery time is its ts plus the delay from `ack_q`, never below `last_delivery_ns`, which takes it. The report event precedes the push."
unfoldable pub reported : Config → ReportRec → KernelState → Run
reported c r s =
    delayed c r.ts_ns c.ack_q s λ at t.
    raised (Report r) (with_clock t (clock_last_delivery_ns t.clock (max at t.clock.last_delivery_ns)))

-- "A delivery holds its time, the report and, for a match only, the fill's record."
unfoldable pub queue_delivery : Config → ReportRec → Option FillRec → KernelState → Run
queue_delivery c r f s =
    and_then (reported c r s) λ t.
    push_delivery (record { at_ns = t.clock.last_delivery_ns; report = r; fill = f }) t

-- "Origin is Venue, cum the order's filled, last the fill or 0": the report on an order by its stamp, a time and a number
abbrev pub report_at : ℕ → ℕ → VenueOrder → ExecKind → Bool → ℕ → ReportRec
report_at ts seq o k pending lots = record {
  ts_ns = ts;
  seq = seq;
  order_id = o.id;
  side = o.side;
  kind = k;
  origin = Venue;
  cancel_pending = pending;
  price = o.price;
  qty = o.qty;
  last = lots;
  cum = o.filled;
}

-- stamped at s
abbrev pub report_on : KernelState → VenueOrder → ExecKind → Bool → ℕ → ReportRec
report_on s = report_at s.clock.now_ns s.seqs.stamp_seq
