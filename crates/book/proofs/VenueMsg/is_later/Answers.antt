-- `book::VenueMsg::is_later` meets its contract. Assumes nothing.
use Rattle.std.proofs.Common.{◌∙◌}
use Rattle.book.proofs.Pairs.{pair_above}
use Rattle.book.proofs.VenueMsg.is_later.Goals as goal

pub returns : goal.returns
returns c = let m = c.args.self.now in c.gt.ensures ∙ pair_above m.eff_ns m.seq c.args.eff_ns c.args.seq
