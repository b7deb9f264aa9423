-- `orders::position` meets its contract: std's search finds the place of the rule. Assumes nothing.
use borrow.Author.Tests.{tests}
use Rattle.std.proofs.Common.{rules}
use Rattle.lists.proofs.Search.{found_from}
use Rattle.book.specs.Entries.{has_id}
use Rattle.orders.proofs.position.Goals as goal

pub returns : goal.returns
returns c = found_from (has_id c.args.id) c.position.ensures.ran c.iter.ensures.rest c.as_slice.ensures (λ x b q k. search (rules, tests))
