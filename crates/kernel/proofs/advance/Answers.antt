-- `kernel::advance` meets its contract. Assumes nothing.
use Prim.Native.Nat.{◌/◌}
use lib.ListN.{length}
use Rattle.kernel.proofs.CallsExits.{advance-is}
use Rattle.kernel.proofs.advance.Goals as goal

pub returns : goal.returns
returns c = advance-is c.args.cfg.now c.args.rows.now c.args.log.now _ (length c.args.log.now / 12) c.args.state c.run.result c.run.ensures
