-- `orders::insert_by_id` meets its contract: std's search finds the place of the rule. Assumes nothing.
use mathlib.Core.Path.{◌∙◌}
use borrow.Author.Tests.{tests}
use Rattle.std.proofs.Common.{rules}
use Rattle.lists.proofs.Search.{found_from, before_from}
use Rattle.book.specs.Entries.{id_above}
use Rattle.orders.proofs.insert_by_id.Goals as goal

pub returns : goal.returns
returns c =
    let found = found_from (id_above c.args.order.id) c.position-above.ensures.ran c.iter.ensures.rest c.as_slice-live.ensures (λ x b q k. search (rules, tests)) in
    c.insert.ensures ∙ rw (before_from _ found c.as_slice-live.ensures c.unwrap_or-at.ensures)
