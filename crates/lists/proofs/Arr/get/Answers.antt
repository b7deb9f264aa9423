-- `lists::Arr::get` meets its contract, by the laws of `Exits`. Assumes nothing.
use mathlib.Core.Path.{◌∙◌}
use native.Mathlib.Omega.{arith}
use Rattle.lists.proofs.Exits.{entry_read}
use Rattle.lists.proofs.Arr.get.Goals as goal

pub returns : goal.returns
returns g c = c.copied.ensures ∙ entry_read _ _ _ _ _ (omega arith) c.as_slice.ensures c.get.ensures.lookup
