-- No delay is longer than the ceiling, and without one it is as it was. Assumes nothing.
use Rattle.std.specs.Prelude.{Option, Some, None, eqb}
use Rattle.std.proofs.Math.Nat.{min-le_right, min-eq_left}
use Rattle.std.proofs.Common.{ne_eqb}
use Prim.Native.Nat.{ℕ, ◌+◌, ◌<◌, ◌≤◌, min}
use mathlib.Core.Path.{◌≡◌, refl, ap, ◌∙◌}
use native.Mathlib.Omega.{arith}
use Rattle.numbers.specs.Choice.{pick, on_some}
use Rattle.numbers.specs.Words.{fitting}
use Rattle.lists.proofs.Cases.{pick_case}
use Rattle.book.specs.declared.config.Config.{Config}
use Rattle.rules.specs.Generator.{draw}
use Rattle.rules.specs.Report.{delay_ns, under_ceiling, delayed_time, delay}
use Rattle.rules.specs.Ceiling.{Ceiling, time_before}

-- what is done with a value is done behind the step that gives it
one_by_one : {A B C : Type 0} (q : Option A) (f : A → Option B) (g : B → Option C) → on_some (on_some q f None) g None ≡ on_some q (λ x. on_some (f x) g None) None
unfolding on_some
one_by_one None f g = refl
one_by_one (Some x) f g = refl

at_most : (ceiling : ℕ) (delay : Option ℕ) → on_some delay (λ ns. min ns ceiling) ceiling ≤ ceiling
unfolding on_some
at_most ceiling None = omega arith
at_most ceiling (Some ns) = min-le_right ns ceiling

module _ (c : Config) (rng from base : ℕ) where
  -- the delay that a ceiling is put on
  abbrev d : Option ℕ
  d = delay_ns base (draw rng c.jitter_q).value c.quantum_ns

  none : c.ceiling_ns ≡ 0 → under_ceiling c.ceiling_ns d ≡ d
  unfolding under_ceiling pick
  none h = rw h refl

  short : (ns : ℕ) → d ≡ Some ns → ns ≤ c.ceiling_ns → under_ceiling c.ceiling_ns d ≡ d
  unfolding under_ceiling on_some
  short ns e h = rw (e, min-eq_left h) (pick_case (λ q. q ≡ Some ns) (eqb c.ceiling_ns 0) _ _ (λ _. refl) (λ _. refl))

  some : 0 < c.ceiling_ns → (ns : ℕ) × (ns ≤ c.ceiling_ns) × ((delay c rng from base).time ≡ fitting (from + ns))
  unfolding delay delayed_time under_ceiling pick on_some
  some h = (on_some d (λ ns. min ns c.ceiling_ns) c.ceiling_ns, at_most c.ceiling_ns d, rw (ne_eqb c.ceiling_ns 0 (λ e. omega (arith, h, e))) refl)

  -- where the ceiling changes no delay, the time is what it was
  as_before : under_ceiling c.ceiling_ns d ≡ d → (delay c rng from base).time ≡ time_before c from base (draw rng c.jitter_q).value
  unfolding delay delayed_time delay_ns
  as_before h = ap (λ q. on_some q (λ ns. fitting (from + ns)) None) h ∙ one_by_one _ _ _

  pub ceiling : Ceiling c rng from base
  unfolding delay
  ceiling = record { without = λ h. as_before (none h); within = λ ns e h. as_before (short ns e h); under = some; drawn = refl }
