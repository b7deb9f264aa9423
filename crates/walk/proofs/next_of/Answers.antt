-- `walk::next_of` meets its contract. Assumes nothing.
use Rattle.std.proofs.Common.{rules}
use borrow.Author.Tests.{tests}
use Rattle.std.proofs.lemmas.Iterator.Adapters.{YieldsList-from_once}
use Rattle.std.proofs.lemmas.Iterator.Consumers.{YieldsList-from_chain}
use Rattle.numbers.specs.Choice.{on_some}
use Rattle.rules.specs.Events.{next_of, next_msg, next_delivery, next_observation}
use Rattle.walk.proofs.Earliest.{earliest}
use Rattle.walk.proofs.next_of.Goals as goal

pub returns : goal.returns
unfolding next_of next_msg next_delivery next_observation on_some
returns c =
    let msg = c.and_then-msg.result in
    let delivery = c.and_then-delivery.result in
    let observation = c.and_then-observation.result in
    let e = earliest msg delivery observation c.min_by_key.result c.min_by_key.ensures.ran
    (YieldsList-from_chain (YieldsList-from_once msg (cc)) (YieldsList-from_chain (YieldsList-from_once delivery (cc)) (YieldsList-from_once observation (cc)) (cc) (cc)) (cc) (cc))
    (λ d n q k. search (rules, tests)) in
    search rules
