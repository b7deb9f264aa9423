-- A loop: the run of a turn, and that its fuel never runs out where its turns make a weight fall. Assumes nothing.
use Prim.Native.Nat.{ℕ, zero, suc, ◌<◌}
use mathlib.Core.Path.{◌≡◌, refl, ap}
use native.Mathlib.Omega.{arith}
use Rattle.state.specs.declared.KernelState.{KernelState}
use Rattle.rules.specs.Run.{Outcome, Run, ran, left, halt, ended, on_ran, after, and_then, Turn, again, last, on_turn, iter}

-- the run of a turn, the last or not
abbrev pub run_of : Turn → Run
run_of (again r) = r
run_of (last r) = r

-- steps that go on alike where the first ran
pub same_then : (r : Run) (k j : KernelState → Run) → (r.outcome ≡ ran → k r.state ≡ j r.state) → and_then r k ≡ and_then r j
unfolding and_then
same_then r k j h = go r.outcome refl
  where
    go : (o : Outcome) → r.outcome ≡ o → on_ran o r (after r.events (k r.state)) ≡ on_ran o r (after r.events (j r.state))
    go ran e = ap (after r.events) (h e)
    go left e = refl
    go (halt n) e = refl
    go (ended ms) e = refl

module _ (step : KernelState → Turn) (w : KernelState → ℕ) (falls : (s : KernelState) (r : Run) → step s ≡ again r → r.outcome ≡ ran → w r.state < w s) where
  pub stable : (n m : ℕ) (s : KernelState) → w s < n → w s < m → iter step n s ≡ iter step m s
  unfolding iter
  stable zero m s h k = absurd (omega arith)
  stable (suc n) zero s h k = absurd (omega arith)
  stable (suc n) (suc m) s h k = go (step s) refl (stable n m)
    where
      go : (x : Turn) → step s ≡ x → ((t : KernelState) → w t < n → w t < m → iter step n t ≡ iter step m t)
          → on_turn x (λ r. and_then r (iter step n)) ≡ on_turn x (λ r. and_then r (iter step m))
      go (again r) e ih = same_then r (iter step n) (iter step m) (λ q. let l : w r.state < w s = falls s r e q in ih r.state (omega arith) (omega arith))
      go (last r) e ih = refl

  -- from here it is what this turn gives, and then what it is from there
  pub run-again : (s : KernelState) (r : Run) → step s ≡ again r → iter step (suc (w s)) s ≡ and_then r (λ t. iter step (suc (w t)) t)
  unfolding iter
  run-again s r e = rw e (same_then r (iter step (w s)) (λ t. iter step (suc (w t)) t) (λ q. let l : w r.state < w s = falls s r e q in stable (w s) (suc (w r.state)) r.state l (omega arith)))

  pub run-last : (s : KernelState) (r : Run) → step s ≡ last r → iter step (suc (w s)) s ≡ r
  unfolding iter
  run-last s r e = rw e
