-- `lists::Arr::as_slice` meets its contract. Assumes nothing.
use native.Mathlib.Omega.{arith}
use Rattle.lists.proofs.Totals.{live_lent}
use Rattle.lists.proofs.Arr.as_slice.Goals as goal

pub returns : goal.returns
returns g c = live_lent _ _ _ _ (omega arith) c.get.ensures.lookup c.unwrap_or_default.ensures
