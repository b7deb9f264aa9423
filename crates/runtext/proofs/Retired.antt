-- N11, "Configurations must carry 0": every run text that is run does. Assumes nothing.
use Rattle.std.specs.Prelude.{Option, Some, None, IfSome}
use Prim.Native.Nat.{ℕ}
use mathlib.Core.Bool.{false}
use mathlib.Core.List.{List}
use mathlib.Core.Path.{◌≡◌}
use Rattle.lists.proofs.Cases.{pick_case, different}
use Rattle.book.specs.Modes.{has_minimum}
use Rattle.runtake.specs.Take.{Reading, take_text}
use Rattle.runtext.specs.declared.Fault.{Fault}
use Rattle.runtext.specs.declared.Fault.TheVariants.{Retired}
use Rattle.runtext.specs.Read.{script_of, Read, faultless, faulty, unless_retired, read_text}
use Rattle.runtext.proofs.EveryText.{text_case}

abbrev CarriesNone : Read → Type 0
CarriesNone q = q.fault ≡ None → has_minimum q.script.cfg.fill ≡ false

-- nothing need be so between two lines: a text is asked for its minimum at its end
abbrev Any : Reading → Type 0
Any r = Unit {0}

any_line : (o : Option Reading) → IfSome o Any
any_line None = tt
any_line (Some r) = tt

not_run : (f : Fault) (r : Reading) → CarriesNone (faulty f r)
not_run f r e = different cc

whole_carries : (r : Reading) → CarriesNone (unless_retired r)
unfolding unless_retired script_of
whole_carries r = pick_case CarriesNone (has_minimum r.cfg.fill) (faulty Retired r) (faultless r) (λ _. not_run Retired r) (λ m _. m)

pub runs_without_minimum : (text words : List ℕ) → (read_text text words).fault ≡ None → has_minimum (read_text text words).script.cfg.fill ≡ false
runs_without_minimum text words = text_case Any CarriesNone (λ n l r _. any_line (take_text n l r)) (λ f r _. not_run f r) (λ r _. whole_carries r) text words tt
