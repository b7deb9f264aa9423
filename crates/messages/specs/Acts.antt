-- What is tested before a message leaves, and what follows it.
use Rattle.std.specs.Prelude.{ℕ, ◌+◌, ◌&&◌, ltb, Option, Some, None, Result, Ok, Err}
use Rattle.numbers.specs.Choice.{pick, on_some}
use Rattle.numbers.specs.Words.{fits, fitting}
use Rattle.book.specs.declared.MsgKind.{MsgKind}
use Rattle.book.specs.declared.MsgKind.TheVariants.{Cancel, Activate, Expire}
use Rattle.book.specs.declared.VenueOrder.{VenueOrder}
use Rattle.book.specs.declared.config.Config.{Config}
use Rattle.state.specs.declared.HaltReason.{HaltReason}
use Rattle.state.specs.declared.HaltReason.TheVariants.{TimeOverflow, CounterOverflow}
use Rattle.state.specs.declared.KernelState.{KernelState}
use Rattle.rules.specs.Run.{Run, halt_at}
use Rattle.rules.specs.Messages.{valid, activate, cancel, expire}

-- "before activation leaves, order valid, life set: expiry time past 64 bits 6; the same, next: `next_msg_seq` at maximum 7": what the rules' `activation` tests, by itself (`acts-tested`). It gives the time, or none where there is no expiry
abbrev pub life_of : VenueOrder → ℕ → ℕ → Result (Option ℕ) HaltReason
life_of o life next =
    pick (valid o && ltb 0 life)
    (on_some (fitting (o.active_after_ns + life))
    (λ at. pick (fits (next + 1)) (Ok (Some at)) (Err CounterOverflow))
    (Err TimeOverflow))
    (Ok None)

-- the same of a message: only an activation has an expiry
abbrev pub expiry_of : MsgKind → ℕ → Result (Option ℕ) HaltReason
expiry_of (Cancel id) next = Ok None
expiry_of (Activate o life) next = life_of o life next
expiry_of (Expire id) next = Ok None

-- k with the time of an expiry or with none, where the test does not halt in s
abbrev pub on_expiry : Result (Option ℕ) HaltReason → KernelState → (Option ℕ → Run) → Run
on_expiry (Ok at) s k = k at
on_expiry (Err h) s k = halt_at h s

-- `acts`, once the time of the expiry is known
abbrev pub acts_at : Config → MsgKind → Option ℕ → KernelState → Run
acts_at c (Cancel id) at t = cancel c id t
acts_at c (Activate o life) at t = activate c o at t
acts_at c (Expire id) at t = expire c id t
