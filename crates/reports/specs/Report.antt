-- What a stamp answers, and what follows a delay.
use Rattle.std.specs.Prelude.{ℕ, Result, Ok, Err}
use Rattle.state.specs.declared.HaltReason.{HaltReason}
use Rattle.state.specs.declared.KernelState.{KernelState}
use Rattle.rules.specs.Run.{Run, halt_at}
use Rattle.reports.specs.declared.report.Stamped.{Stamped}

-- "A stamp is `now_ns` and `stamp_seq`": read off the state before it
abbrev pub stamp_of : KernelState → Stamped
stamp_of s = record { ts_ns = s.clock.now_ns; seq = s.seqs.stamp_seq }

-- k at the time that a delay leads to, in the state that it leaves, where it does not halt
abbrev pub at_time : Result ℕ HaltReason → KernelState → (ℕ → KernelState → Run) → Run
at_time (Ok at) s k = k at s
at_time (Err h) s k = halt_at h s
