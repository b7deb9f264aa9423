-- What a message does, one law for each way out. Assumes nothing.
use Prim.Native.Nat.{ℕ, ◌+◌}
use mathlib.Core.Bool.{true, false}
use mathlib.Core.Path.{◌≡◌, refl, ◌∙◌}
use Rattle.std.specs.Prelude.{Some, Result}
use Rattle.numbers.specs.Choice.{on_some}
use Rattle.numbers.specs.Words.{fitting}
use Rattle.lists.specs.Lists.{put_of, pushed, put_before}
use Rattle.lists.proofs.Cases.{on_true, on_false}
use Rattle.lists.specs.declared.Counted.{Counted}
use Rattle.lists.specs.declared.Full.{Full}
use Rattle.book.specs.Capacities.{orders_capacity, msgs_capacity}
use Rattle.book.specs.Entries.{id_above, is_later}
use Rattle.book.specs.declared.MsgKind.{MsgKind}
use Rattle.book.specs.declared.MsgKind.TheVariants.{Cancel, Activate, Expire}
use Rattle.book.specs.declared.VenueOrder.{VenueOrder}
use Rattle.msgs.specs.Rows.{Msgs}
use Rattle.orders.specs.Rows.{Orders}
use Rattle.state.specs.With.{with_seqs, with_orders, with_msgs, with_awaiting, seqs_next_msg_seq}
use Rattle.state.specs.declared.KernelState.{KernelState}
use Rattle.rules.specs.Run.{Run, ran_to}
use Rattle.rules.specs.Messages.{await, await_marked, book, schedule, on_activation}
use Rattle.reports.specs.Log.{Logged, StepResult, expected, run_of}
use Rattle.reports.proofs.Then.{full_halts, put_run}

-- ---- an order with a cancel in flight, and one without
module _ (o : VenueOrder) (s : KernelState) where
  pub awaited : {l : Orders} (r : Result (Unit {0}) Full) {a : Counted (Result (Unit {0}) Full)} → o.cancel_inflight ≡ true → a.answer ≡ r → put_of a l ≡ put_before orders_capacity (id_above o.id) o s.awaiting
      → run_of (full_halts r) (with_awaiting s l) ≡ await_marked o s
  unfolding await_marked await
  awaited r h q e = put_run orders_capacity _ o s.awaiting (with_awaiting s) s r refl q e ∙ on_true _ _ h

  pub unmarked : o.cancel_inflight ≡ false → ran_to s ≡ await_marked o s
  unfolding await_marked
  unmarked h = on_false _ _ h

-- ---- an order goes among the booked ones
pub booked_run : (o : VenueOrder) (s : KernelState) {l : Orders} (r : Result (Unit {0}) Full) {a : Counted (Result (Unit {0}) Full)} → a.answer ≡ r → put_of a l ≡ pushed orders_capacity o s.orders → run_of (full_halts r) (with_orders s l) ≡ book o s
unfolding book
booked_run o s r q h = put_run orders_capacity _ o s.orders (with_orders s) s r refl q h

-- ---- a message goes among those that are queued, with the next number
pub scheduled : (at : ℕ) (k : MsgKind) (s : KernelState) {n : ℕ} {l : Msgs} (r : Result (Unit {0}) Full) {a : Counted (Result (Unit {0}) Full)} → Some n ≡ fitting (s.seqs.next_msg_seq + 1)
    → a.answer ≡ r → put_of a l ≡ put_before msgs_capacity (is_later at s.seqs.next_msg_seq) (record { eff_ns = at; seq = s.seqs.next_msg_seq; kind = k }) s.msgs
    → run_of (full_halts r) (with_msgs (with_seqs s (seqs_next_msg_seq s.seqs n)) l) ≡ schedule at k s
unfolding schedule on_some
scheduled at k s {n = n} r h q e = let t : KernelState = with_seqs s (seqs_next_msg_seq s.seqs n) in rw (← h) (put_run msgs_capacity _ _ s.msgs (with_msgs t) t r refl q e)

-- ---- a message that is no activation
pub not_activation : (l : Logged) (m : MsgKind) (k : VenueOrder → Run) (z : Run) → ((o : VenueOrder) (life : ℕ) → m ≡ Activate o life → ⊥) → {x : StepResult} → x ≡ expected l z → x ≡ expected l (on_activation m k z)
not_activation l (Cancel i) k z h e = e
not_activation l (Activate o life) k z h e = absurd (h o life refl)
not_activation l (Expire i) k z h e = e
