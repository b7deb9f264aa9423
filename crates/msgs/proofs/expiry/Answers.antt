-- `msgs::expiry` meets its contract: std's search finds the place of the rule. Assumes nothing.
use borrow.Author.Tests.{tests}
use Rattle.std.proofs.Common.{rules}
use Rattle.lists.proofs.Search.{found_from}
use Rattle.book.specs.Entries.{is_expiry}
use Rattle.msgs.proofs.expiry.Goals as goal

pub returns : goal.returns
returns c = found_from (is_expiry c.args.id) c.position.ensures.ran c.iter.ensures.rest c.as_slice.ensures (λ x b q k. search (rules, tests))
