-- 'Proved examples': eleven, as one statement over one list. Of document 01's twelve Q7, both halves, went with the minimum (N11).
use Rattle.std.specs.Prelude.{ℕ, ◌-◌, ◌^◌, false, List, [], ◌∷◌, ◌≡◌, refl, Some}
use Rattle.numbers.specs.Choice.{pick, on_some}
use Rattle.book.specs.Entries.{on_side}
use Rattle.state.specs.Numbers.{halt_number}
use Rattle.book.specs.declared.OrderState.TheVariants.{Active}
use Rattle.book.specs.declared.Side.TheVariants.{Buy}
use Rattle.book.specs.declared.VenueOrder.{VenueOrder}
use Rattle.book.specs.declared.config.Config.{Config}
use Rattle.book.specs.declared.config.FillMode.{FillMode}
use Rattle.book.specs.declared.config.FillMode.TheVariants.{QueuePosition}
use Rattle.book.specs.declared.config.KernelTick.{KernelTick}
use Rattle.state.specs.declared.KernelState.{KernelState}
use Rattle.rules.specs.Run.{Outcome, ran, left, halt, ended}
use Rattle.rules.specs.Generator.{Draw, next_state, output, draw}
use Rattle.rules.specs.Matching.{matches, ahead, lots_of, queue_fill_lots, fill_lots, fills_of, filling}

-- a question, and what document 01 answers: the lots of a fill, the number of a halt, a draw, or no match
pub data Example : Type 0 where
  gives : FillMode → KernelTick → VenueOrder → ℕ → Example
  halts_with : FillMode → KernelTick → VenueOrder → ℕ → Example
  draws : ℕ → ℕ → Draw → Example
  misses : KernelTick → VenueOrder → Example

-- the number of the halt in which a step ends, 0 where it does not halt
abbrev pub halt_of : Outcome → ℕ
halt_of ran = 0
halt_of left = 0
halt_of (halt h) = halt_number h
halt_of (ended ms) = 0

-- the definition gives that answer; a halt is what the row does with the order at any place of any state
unfoldable pub Holds : Example → Type 0
Holds (gives mode row o lots) = fill_lots mode row o ≡ Some lots
Holds (halts_with mode row o number) = (c : Config) (i : ℕ) (s : KernelState) → halt_of (filling c i s (fills_of mode row o)).outcome ≡ number
Holds (draws rng most d) = draw rng most ≡ d
Holds (misses row o) = matches row o ≡ false

-- and so for each of a list
unfoldable pub All : List Example → Type 0
All [] = Unit {0}
All (e ∷ es) = Holds e × All es

-- "Buy 101, qty 10, `active_after` 0"
abbrev pub buy : ℕ → ℕ → VenueOrder
buy qty filled = record { id = 1; side = Buy; price = 101; qty = qty; filled = filled; state = Active; active_after_ns = 0; cancel_inflight = false }

-- the time, the ask and its lots; the bid plays no part
abbrev pub row : ℕ → ℕ → ℕ → KernelTick
row ts ask lots = record { ts_ns = ts; bid = 99; bid_lots = 1; ask = ask; ask_lots = lots }

-- the eleven of documents 01 and 02
unfoldable pub examples : List Example
examples =
    -- Q1 to Q3
    gives (QueuePosition 3 2 0) (row 4999999 101 6) (buy 10 0) 0
    ∷ gives (QueuePosition 3 2 0) (row 4999999 101 5) (buy 10 0) 1
    ∷ gives (QueuePosition 3 2 0) (row 4999999 100 6) (buy 10 0) 6
    -- Q4 to Q6, Q8 and Q9, "as Q3 but"
    ∷ gives (QueuePosition 3 2 0) (row 4999999 100 6) (buy 6 0) 6
    ∷ gives (QueuePosition 3 2 0) (row 4999999 100 6) (buy 10 6) 0
    ∷ gives (QueuePosition 3 2 0) (row 3999999 100 6) (buy 10 0) 4
    ∷ halts_with (QueuePosition 3 0 0) (row 4999999 100 6) (buy 10 0) 7
    ∷ gives (QueuePosition (2 ^ 64 - 1) (2 ^ 64 - 1) 0) (row 4999999 100 6) (buy 10 0) 4
    -- G1, G2, T1
    ∷ draws 1 1 (record { rng = 33554433; value = 1 })
    ∷ draws 1 0 (record { rng = 1; value = 0 })
    ∷ misses (row 0 101 6) (buy 10 0)
    ∷ []

pub examples_hold : All examples
unfolding All Holds examples queue_fill_lots lots_of ahead matches fills_of draw next_state output pick on_side on_some
examples_hold = (refl, (refl, (refl, (refl, (refl, (refl, ((λ c i s. refl), (refl, (refl, (refl, (refl, tt)))))))))))
