-- What the leaves answer, as the rules say it. A conversion only renames.
use Rattle.rules.specs.Generator.{Draw}
use Rattle.rules.specs.Delivery as rules
use Rattle.models.specs.declared.rng.Drawn.{Drawn}
use Rattle.models.specs.declared.effect.Effect.{Effect}
use Rattle.models.specs.declared.effect.Effect.TheVariants.{Stands, Closes, Awaits}

abbrev pub rule_draw : Drawn → Draw
rule_draw d = record { rng = d.rng.state; value = d.value }

abbrev pub rule_effect : Effect → rules.Effect
rule_effect Stands = rules.stands
rule_effect Closes = rules.closes
rule_effect Awaits = rules.awaits
