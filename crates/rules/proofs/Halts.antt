-- Rows of 'Refused or halted' whose order of effects no other theorem sees. Assumes nothing.
use Rattle.std.specs.Prelude.{Some, None, eqb}
use Prim.Native.Nat.{ℕ, ◌+◌, ◌*◌}
use mathlib.Core.Bool.{false, true≢false}
use mathlib.Core.Path.{◌≡◌, refl, sym, ◌∙◌}
use Rattle.numbers.specs.Choice.{pick, on_some}
use Rattle.numbers.specs.Words.{fits, fitting}
use Rattle.lists.proofs.Cases.{pick_case, some_case}
use Rattle.state.specs.With.{with_seqs, seqs_stamp_seq}
use Rattle.book.specs.declared.VenueOrder.{VenueOrder}
use Rattle.book.specs.declared.config.Config.{Config}
use Rattle.state.specs.declared.HaltReason.{HaltReason}
use Rattle.state.specs.declared.HaltReason.TheVariants.{LedgerOverflow, CounterOverflow}
use Rattle.state.specs.declared.KernelState.{KernelState}
use Rattle.rules.specs.Run.{Run, halt, and_then}
use Rattle.rules.specs.Report.{stamp, delay_ns, under_ceiling}
use Rattle.rules.specs.Matching.{gate_filled, fill_event, fill_at}

-- "delay: sum .. past 64 bits": also where the quantum is 0 and the product would fit; and with a ceiling the delay is the ceiling, not 0
pub sum_past : (ceiling base jitter quantum : ℕ) → fits (base + jitter) ≡ false → under_ceiling ceiling (delay_ns base jitter quantum) ≡ pick (eqb ceiling 0) None (Some ceiling)
unfolding under_ceiling delay_ns fitting pick on_some
sum_past ceiling base jitter quantum h = rw h refl

-- it halts, in a state of which P is so
abbrev Halts : (KernelState → Type 0) → Run → Type 0
Halts P r = (h : HaltReason) × (r.outcome ≡ halt h) × P r.state

-- so does what halts at its stamp or behind it
stamp-halts : (P : KernelState → Type 0) (s : KernelState) (k : KernelState → Run) → P s → ((n : ℕ) → Halts P (k (with_seqs s (seqs_stamp_seq s.seqs n)))) → Halts P (and_then (stamp s) k)
unfolding stamp and_then
stamp-halts P s k g h = some_case (λ (r : Run). Halts P (and_then r k)) (fitting (s.seqs.stamp_seq + 1)) _ _ (λ n _. h n) (λ _. (CounterOverflow, refl, g))

-- and nothing comes behind a halt
halt-leaves : (P : KernelState → Type 0) (r : Run) (k : KernelState → Run) → Halts P r → P (and_then r k).state
unfolding and_then
halt-leaves P r k h = rw h.1 h.2

-- gate and exec id of t are those of s
abbrev pub Unwritten : KernelState → KernelState → Type 0
Unwritten s t = (t.gate ≡ s.gate) × (t.seqs.next_exec_id ≡ s.seqs.next_exec_id)

-- "fill, after gate: price doubled past 64 bits: 5", and gate and exec id are "written only when both and the doubled price have passed"
event_past : (o : VenueOrder) (n : ℕ) (s : KernelState) → fits (o.price * 2) ≡ false → Halts (Unwritten s) (fill_event o n s)
unfolding fill_event
event_past o n s h =
    stamp-halts (Unwritten s) s _ (refl, refl)
    (λ m. some_case (Halts (Unwritten s)) (gate_filled o.side n s.gate) _ _
    (λ g _. pick_case (Halts (Unwritten s)) (fits (o.price * 2)) _ _ (λ e. absurd (true≢false (sym e ∙ h))) (λ _. (LedgerOverflow, refl, (refl, refl))))
    (λ _. (CounterOverflow, refl, (refl, refl))))

pub price_past : (c : Config) (i : ℕ) (o : VenueOrder) (n : ℕ) (s : KernelState) → fits (o.price * 2) ≡ false → Unwritten s (fill_at c i o n s).state
unfolding fill_at
price_past c i o n s h = halt-leaves (Unwritten s) (fill_event o n s) _ (event_past o n s h)
