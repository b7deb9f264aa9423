-- N5, "A ceiling on delay": what is claimed of every delay, whatever the configuration, the generator, the time that it counts from and its base. The proof is proofs/Ceiling.antt.
use Rattle.std.specs.Prelude.{ℕ, ◌+◌, ◌*◌, ◌<◌, ◌≤◌, ◌≡◌, Option, Some, None}
use Rattle.numbers.specs.Choice.{on_some}
use Rattle.numbers.specs.Words.{fitting}
use Rattle.book.specs.declared.config.Config.{Config}
use Rattle.rules.specs.Generator.{draw}
use Rattle.rules.specs.Report.{delay_ns, delay}

-- document 01's delay after a time, as it was before there was a ceiling: "sum, product or time past 64 bits", and there is none
abbrev pub time_before : Config → ℕ → ℕ → ℕ → Option ℕ
time_before c from base jitter =
    on_some (fitting (base + jitter))
    (λ quanta. on_some (fitting (quanta * c.quantum_ns)) (λ ns. fitting (from + ns)) None)
    None

pub record Ceiling (c : Config) (rng from base : ℕ) : Type 0 where
  -- "With ceiling 0 the equality with the Rust reads as before": the delay is document 01's
  pub without : c.ceiling_ns ≡ 0 → (delay c rng from base).time ≡ time_before c from base (draw rng c.jitter_q).value
  -- "a longer one becomes the ceiling": one that is no longer, the ceiling itself among them, is document 01's
  pub within : (ns : ℕ) → delay_ns base (draw rng c.jitter_q).value c.quantum_ns ≡ Some ns → ns ≤ c.ceiling_ns → (delay c rng from base).time ≡ time_before c from base (draw rng c.jitter_q).value
  -- "A configured ceiling in ns bounds every delay": there is one, no longer than the ceiling, and "only adding it to the time may then halt"
  pub under : 0 < c.ceiling_ns → (ns : ℕ) × (ns ≤ c.ceiling_ns) × ((delay c rng from base).time ≡ fitting (from + ns))
  -- "delay, generator already moved": with a ceiling or without, whatever the delay is
  pub drawn : (delay c rng from base).rng ≡ (draw rng c.jitter_q).rng
