-- `lists::Arr::store` meets its contract, by the laws of `Exits`. Assumes nothing.
use native.Mathlib.Omega.{arith}
use Rattle.lists.proofs.Exits.{store_over, store_past, store_in}
use Rattle.lists.proofs.Arr.store.Goals as goal
use Rattle.lists.proofs.Arr.store.Goals.{then-self-via-then-self, then-self-via-else-self+then-at-self}

pub returns-then-self : goal.returns-then-self
returns-then-self g c = elim c.then-self.branch [ then-self-via-then-self w ↦ store_over _ _ _ _ (omega arith) | then-self-via-else-self+then-at-self w ↦ store_past _ _ _ _ (omega arith) (omega arith) ]

pub returns : goal.returns
returns g c = store_in _ _ _ _ (omega arith) (omega arith)
