-- The log of 'The call's data'.
use Rattle.std.specs.Prelude.{ℕ, List, [], ◌∷◌, ◌++◌, ltb, length, drop}
use Rattle.numbers.specs.Choice.{pick}
use Rattle.book.specs.Numbers.{side_number, exec_number, origin_number, flag_number}
use Rattle.state.specs.Numbers.{halt_number}
use Rattle.book.specs.declared.FillRec.{FillRec}
use Rattle.book.specs.declared.ReportRec.{ReportRec}
use Rattle.state.specs.declared.KernelEvent.{KernelEvent}
use Rattle.state.specs.declared.KernelEvent.TheVariants.{Report, Fill, Delivered, Observed, RowEnd, EndOfData, Halted, DroppedMsg, Expired, DroppedExpiry}

-- "1 report and 3 delivered (ts, seq, order, side, ExecKind, origin, cancel_pending, price, qty, last, cum)"
abbrev pub report_words : ℕ → ReportRec → List ℕ
report_words kind r =
    kind ∷ r.ts_ns ∷ r.seq ∷ r.order_id ∷ side_number r.side ∷ exec_number r.kind ∷ origin_number r.origin
    ∷ flag_number r.cancel_pending ∷ r.price ∷ r.qty ∷ r.last ∷ r.cum ∷ []

-- "2 fill (ts, exec, order, side, price, qty)"
abbrev pub fill_words : FillRec → List ℕ
fill_words f = 2 ∷ f.ts_ns ∷ f.exec_id ∷ f.order_id ∷ side_number f.side ∷ f.price ∷ f.qty ∷ 0 ∷ 0 ∷ 0 ∷ 0 ∷ 0 ∷ []

-- an event of two words or fewer, "unused ones 0"
abbrev pub short_words : ℕ → ℕ → ℕ → List ℕ
short_words kind a b = kind ∷ a ∷ b ∷ 0 ∷ 0 ∷ 0 ∷ 0 ∷ 0 ∷ 0 ∷ 0 ∷ 0 ∷ 0 ∷ []

-- "12 words an event, unused ones 0; word 0 is the kind, then in order: .."
unfoldable pub event_words : KernelEvent → List ℕ
event_words (Report r) = report_words 1 r
event_words (Fill f) = fill_words f
event_words (Delivered r) = report_words 3 r
event_words (Observed row at) = short_words 4 row at
event_words (RowEnd row ts) = short_words 5 row ts
event_words (EndOfData msgs obs) = short_words 6 msgs obs
event_words (Halted h) = short_words 7 (halt_number h) 0
event_words (DroppedMsg order cancel) = short_words 8 order (flag_number cancel)
event_words (Expired order at) = short_words 9 order at
event_words (DroppedExpiry order) = short_words 10 order 0

-- "The log holds the first events that fit whole, words after them stay"
unfoldable pub written : List ℕ → List KernelEvent → List ℕ
written log [] = log
written log (e ∷ es) = pick (ltb (length log) 12) log (event_words e ++ written (drop 12 log) es)
