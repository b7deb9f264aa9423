-- The next event by its name in the rules.
use Rattle.std.specs.Prelude.{Option, Some, None}
use Rattle.rules.specs.Events as events
use Rattle.walk.specs.declared.Class.{Class}
use Rattle.walk.specs.declared.Class.TheVariants.{Venue, Delivery, Observation}
use Rattle.walk.specs.declared.Due.{Due}

-- a class of events
abbrev pub rule_class : Class → events.Class
rule_class Venue = events.venue
rule_class Delivery = events.delivery
rule_class Observation = events.observation

-- what is due, if anything is
abbrev pub rule_next : Option Due → events.Next
rule_next None = events.nothing
rule_next (Some d) = events.next (rule_class d.class) d.at_ns
