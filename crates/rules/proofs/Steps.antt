-- Stamps, delays, reports and orders that await: what they keep, of any property. Assumes nothing.
use Rattle.lists.proofs.Cases.{some_case}
use Prim.Native.Nat.{ℕ}
use mathlib.Core.List.{List}
use Rattle.state.specs.With.{with_seqs, with_rng_latency, with_awaiting, seqs_stamp_seq}
use Rattle.book.specs.declared.VenueMsg.{VenueMsg}
use Rattle.book.specs.declared.VenueOrder.{VenueOrder}
use Rattle.book.specs.declared.config.Config.{Config}
use Rattle.state.specs.declared.HaltReason.TheVariants.{CounterOverflow}
use Rattle.state.specs.declared.KernelState.{KernelState}
use Rattle.rules.specs.Run.{Run, and_then}
use Rattle.rules.specs.Report.{stamp, delayed}
use Rattle.rules.specs.Messages.{await, await_marked}
use Rattle.rules.proofs.Kept.{Kept, ran-kept, halt-kept, pick-kept, some-kept, putting-kept, ran_then, halt_then}
use Rattle.orders.specs.Rows.{Orders}

module _ {L : KernelState → Type 0} {E : List VenueMsg → KernelState → Type 0} {P : KernelState → Type 0} where
  pub stamp_then : (s : KernelState) (k : KernelState → Run) → ((n : ℕ) → Kept L E P (k (with_seqs s (seqs_stamp_seq s.seqs n)))) → Kept L E P (and_then (stamp s) k)
  unfolding stamp
  stamp_then s k h = some_case (λ r. Kept L E P (and_then r k)) _ _ _ (λ n _. ran_then _ k (h n)) (λ _. halt_then CounterOverflow s k)

  pub delayed-kept : (c : Config) (from base : ℕ) (s : KernelState) (k : ℕ → KernelState → Run)
      → ((at rng : ℕ) → Kept L E P (k at (with_rng_latency s rng))) → Kept L E P (delayed c from base s k)
  unfolding delayed
  delayed-kept c from base s k h = some-kept _ (λ at. h at _) halt-kept

  pub await-kept : (o : VenueOrder) (s : KernelState) → ((x : Orders) → P (with_awaiting s x)) → P s → Kept L E P (await_marked o s)
  unfolding await_marked await
  await-kept o s h p = pick-kept _ (putting-kept _ _ s (λ l _. h l)) (ran-kept p)
