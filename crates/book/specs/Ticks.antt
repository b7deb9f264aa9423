-- A row of the market's data as five words, in this order.
use Rattle.std.specs.Prelude.{ℕ, List, [], ◌∷◌, get_or}
use Rattle.book.specs.declared.config.KernelTick.{KernelTick}

-- "Rows: five words each, ts_ns, bid, bid_lots, ask, ask_lots"
abbrev pub tick_of : List ℕ → KernelTick
tick_of w = record { ts_ns = get_or w 0 0; bid = get_or w 1 0; bid_lots = get_or w 2 0; ask = get_or w 3 0; ask_lots = get_or w 4 0 }

-- the same five words of a row
abbrev pub tick_words : KernelTick → List ℕ
tick_words t = t.ts_ns ∷ t.bid ∷ t.bid_lots ∷ t.ask ∷ t.ask_lots ∷ []
