-- The kinds of lines of a run file, by their fields. A line's letter is its first field; the definition of a kind is of the fields behind that.
use Rattle.std.specs.Prelude.{ℕ, Bool, false, List, [], eqb, length, get_or, drop, Option, Some, None}
use Rattle.std.specs.Str.{bytes_eq}
use Prim.Native.String.{String}
use Rattle.numbers.specs.Choice.{pick, on_some}
use Rattle.book.specs.declared.OrderState.TheVariants.{Submitted}
use Rattle.book.specs.declared.Side.{Side}
use Rattle.book.specs.declared.Side.TheVariants.{Buy, Sell}
use Rattle.book.specs.declared.config.FillMode.TheVariants.{Immediate, QueuePosition}
use Rattle.text.specs.Bytes.{bytes}
use Rattle.text.specs.Fields.{number}
use Rattle.runline.specs.declared.Line.{Line}
use Rattle.runline.specs.declared.Line.TheVariants.{Config, Fill, Order, Cancel, Row}

-- the field at place i is this word
abbrev pub is_word : List (List ℕ) → ℕ → String → Bool
is_word fs i w = bytes_eq (get_or fs i []) (bytes w)

-- k of the number at place i, or a bad line
abbrev pub number_at : List (List ℕ) → ℕ → (ℕ → Option Line) → Option Line
number_at fs i k = on_some (number (get_or fs i [])) k None

-- a line of n fields, or a bad line
abbrev pub long : List (List ℕ) → ℕ → Option Line → Option Line
long fs n l = pick (eqb (length fs) n) l None

-- "B|S"
unfoldable pub side_of : List ℕ → Option Side
side_of f = pick (bytes_eq f (bytes "B")) (Some Buy) (pick (bytes_eq f (bytes "S")) (Some Sell) None)

-- "`c` quantum observation ack jitter seed s_max". Its fill mode stands in the next line, and N5's ceiling is "0, as in replay"
unfoldable pub config_line : List (List ℕ) → Option Line
config_line fs =
    long fs 6
    (number_at fs 0 λ quantum.
    number_at fs 1 λ observation.
    number_at fs 2 λ ack.
    number_at fs 3 λ jitter.
    number_at fs 4 λ seed.
    number_at fs 5 λ most.
    Some (Config (record { quantum_ns = quantum; observation_q = observation; ack_q = ack; jitter_q = jitter; ceiling_ns = 0; s_max = most; fill = Immediate }) seed))

-- "`f queue` rate per min", from the field behind that word
unfoldable pub queue_line : List (List ℕ) → Option Line
queue_line fs = long fs 3 (number_at fs 0 λ rate. number_at fs 1 λ per. number_at fs 2 λ least. Some (Fill (QueuePosition rate per least)))

-- "`f now` or `f queue` rate per min"
unfoldable pub fill_line : List (List ℕ) → Option Line
fill_line fs =
    pick (is_word fs 0 "now") (long fs 1 (Some (Fill Immediate)))
    (pick (is_word fs 0 "queue") (queue_line (drop 1 fs))
    None)

-- "`o` eff id B|S price qty life (0 none)"; "`active_after` is eff"
unfoldable pub order_line : List (List ℕ) → Option Line
order_line fs =
    long fs 6
    (number_at fs 0 λ eff.
    number_at fs 1 λ id.
    on_some (side_of (get_or fs 2 [])) (λ side.
    number_at fs 3 λ price.
    number_at fs 4 λ qty.
    number_at fs 5 λ life.
    Some (Order (record { id = id; side = side; price = price; qty = qty; filled = 0; state = Submitted; active_after_ns = eff; cancel_inflight = false }) life))
    None)

-- "`x` eff id"
unfoldable pub cancel_line : List (List ℕ) → Option Line
cancel_line fs = long fs 2 (number_at fs 0 λ eff. number_at fs 1 λ id. Some (Cancel eff id))

-- "`r` rows": "five words each, ts_ns, bid, bid_lots, ask, ask_lots"
unfoldable pub row_line : List (List ℕ) → Option Line
row_line fs =
    long fs 5
    (number_at fs 0 λ ts.
    number_at fs 1 λ bid.
    number_at fs 2 λ bidLots.
    number_at fs 3 λ ask.
    number_at fs 4 λ askLots.
    Some (Row (record { ts_ns = ts; bid = bid; bid_lots = bidLots; ask = ask; ask_lots = askLots })))

-- what a line says, by its letter
unfoldable pub line_of : List (List ℕ) → Option Line
line_of fs =
    pick (is_word fs 0 "c") (config_line (drop 1 fs))
    (pick (is_word fs 0 "f") (fill_line (drop 1 fs))
    (pick (is_word fs 0 "o") (order_line (drop 1 fs))
    (pick (is_word fs 0 "x") (cancel_line (drop 1 fs))
    (pick (is_word fs 0 "r") (row_line (drop 1 fs))
    None))))
