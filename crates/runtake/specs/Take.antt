-- A line of a run file behind others: the order in which they may stand, the limits, and what each leaves. A bad line gives none, and changes nothing.
use Rattle.std.specs.Prelude.{◌≡◌, OnErr, ℕ, ◌+◌, ◌*◌, Bool, true, false, List, map, ltb, eqb, set, Option, Some, None, Result, Ok, Err}
use Rattle.numbers.specs.Choice.{pick, on_some}
use Rattle.numbers.specs.Words.{fits}
use Rattle.lists.specs.Lists.{Put, pushed, put_before}
use Rattle.lists.specs.declared.Arr.{Arr}
use Rattle.book.specs.Capacities.{msgs_capacity, account_capacity}
use Rattle.book.specs.Entries.{on_side, is_later}
use Rattle.msgs.specs.Rows.{Msgs, empty_msgs}
use Rattle.account.specs.Rows.{AgentAccount, empty_agent_account}
use Rattle.book.specs.declared.MsgKind.{MsgKind}
use Rattle.book.specs.declared.MsgKind.TheVariants.{Cancel, Activate, Expire}
use Rattle.book.specs.declared.Side.{Side}
use Rattle.book.specs.declared.VenueMsg.{VenueMsg}
use Rattle.book.specs.declared.VenueOrder.{VenueOrder}
use Rattle.book.specs.declared.config.Config.{Config}
use Rattle.book.specs.declared.config.FillMode.{FillMode}
use Rattle.book.specs.declared.config.FillMode.TheVariants.{Immediate}
use Rattle.book.specs.declared.config.KernelTick.{KernelTick}
use Rattle.text.specs.Fields.{fields}
use Rattle.runline.specs.Lines.{line_of}
use Rattle.runline.specs.declared.Line.{Line}
use Rattle.runline.specs.declared.Line.TheVariants as line
use Rattle.runtake.specs.declared.BadLine.{BadLine}
use Rattle.runtake.specs.declared.Lots.{Lots}
use Rattle.runtake.specs.declared.Reader as code

-- what the lines so far have said, and the words that the rows were read into
pub record Reading : Type 0 where
  pub cfg : Config
  pub seed : ℕ
  pub lots : Lots
  pub msgs : Msgs
  pub account : AgentAccount
  pub words : List ℕ
  pub rows : ℕ

-- the same of the code's, whose words are lent
abbrev pub reading_of : code.Reader → Reading
reading_of r = record { cfg = r.reading.cfg; seed = r.reading.seed; lots = r.reading.lots; msgs = r.reading.msgs; account = r.reading.account; words = r.words.now; rows = r.reading.rows }

-- before the first line
abbrev pub blank_reading : List ℕ → Reading
blank_reading w = record {
  cfg = record { quantum_ns = 0; observation_q = 0; ack_q = 0; jitter_q = 0; ceiling_ns = 0; s_max = 0; fill = Immediate };
  seed = 0;
  lots = record { buy = 0; sell = 0 };
  msgs = empty_msgs;
  account = empty_agent_account;
  words = w;
  rows = 0;
}

-- what the code leaves of a line that was taken
abbrev pub taken : {A : Type 0} → Result (Unit {0}) BadLine → A → Option A
taken (Ok v) x = Some x
taken (Err e) x = None

-- what the code does with a line of which o is to come: it leaves that, or on an error all as it was; and the words are those that were lent
abbrev pub Takes : Result (Unit {0}) BadLine → code.Reader → code.Reader → Option Reading → Type 0
Takes result old new o = (taken result (reading_of new) ≡ o) × OnErr result (new ≡ old) × (new.words.ghost_name ≡ old.words.ghost_name)

-- ---- the line behind n others: "First `c`"; "`f`"; "then any of `o` .. and `x`"; "then `r` rows"
-- the first line
unfoldable pub take_config : ℕ → Config → ℕ → Reading → Option Reading
take_config n cfg seed r = pick (eqb n 0) (Some (record r { cfg = cfg; seed = seed })) None

-- the second line
unfoldable pub take_fill : ℕ → FillMode → Reading → Option Reading
take_fill n f r = pick (eqb n 1) (Some (record r { cfg = record r.cfg { fill = f } })) None

-- an `o` or an `x` may stand here: behind both and before the first row
unfoldable pub is_message_due : ℕ → ℕ → Bool
is_message_due n rows = pick (ltb n 2) false (eqb rows 0)

-- "lots reserved"; "all quantities summed", of both sides, are within 64 bits
unfoldable pub reserved : Lots → Side → ℕ → Option Lots
reserved l d qty =
    pick (fits (l.buy + l.sell + qty))
    (Some (on_side d (record { buy = l.buy + qty; sell = l.sell }) (record { buy = l.buy; sell = l.sell + qty })))
    None

-- the list with the entry, or none: "one past a list"
abbrev pub put_in : {A : Type 0} {n : ℕ} → Put A n → Option (Arr A n)
put_in p = pick p.ok (Some p.list) None

-- "Messages take numbers from 0 in line order": this one takes the count of those before it
unfoldable pub queued : ℕ → MsgKind → Msgs → Option Msgs
queued eff kind l = put_in (put_before msgs_capacity (is_later eff l.count) (record { eff_ns = eff; seq = l.count; kind = kind }) l)

-- "accounts opened"
unfoldable pub take_order : ℕ → VenueOrder → ℕ → Reading → Option Reading
take_order n o life r =
    pick (is_message_due n r.rows) (
    on_some (reserved r.lots o.side o.qty) (λ lots.
    on_some (put_in (pushed account_capacity (record { order_id = o.id; awaiting_cancel_outcome = false }) r.account)) (λ account.
    on_some (queued o.active_after_ns (Activate o life) r.msgs) (λ msgs.
    Some (record r { lots = lots; msgs = msgs; account = account }))
    None) None) None) None

-- "an `x` marks each earlier `o` of its id as having a cancel in flight"
abbrev pub in_flight : VenueOrder → VenueOrder
in_flight o = record o { cancel_inflight = true }

-- the same of what a message is to do
abbrev pub marked_kind : ℕ → MsgKind → MsgKind
marked_kind id (Cancel i) = Cancel i
marked_kind id (Activate o life) = pick (eqb o.id id) (Activate (in_flight o) life) (Activate o life)
marked_kind id (Expire i) = Expire i

-- of a message
unfoldable pub marked : ℕ → VenueMsg → VenueMsg
marked id m = record m { kind = marked_kind id m.kind }

-- and of all that are queued
unfoldable pub marked_in : ℕ → Msgs → Msgs
marked_in id l = record l { slots = map (marked id) l.slots }

-- an `x` line: it marks, and is queued
unfoldable pub take_cancel : ℕ → ℕ → ℕ → Reading → Option Reading
take_cancel n eff id r =
    pick (is_message_due n r.rows)
    (on_some (queued eff (Cancel id) (marked_in id r.msgs)) (λ msgs. Some (record r { msgs = msgs })) None)
    None

-- the words w, with those of the row behind n others
abbrev pub row_stored : KernelTick → ℕ → List ℕ → List ℕ
row_stored t n w = set (set (set (set (set w (n * 5) t.ts_ns) (n * 5 + 1) t.bid) (n * 5 + 2) t.bid_lots) (n * 5 + 3) t.ask) (n * 5 + 4) t.ask_lots

-- "`r` rows, at most 512"
unfoldable pub take_row : ℕ → KernelTick → Reading → Option Reading
take_row n t r = pick (ltb n 2) None (pick (ltb r.rows 512) (Some (record r { words = row_stored t r.rows r.words; rows = r.rows + 1 })) None)

-- a line of any kind
unfoldable pub take_line : ℕ → Line → Reading → Option Reading
take_line n (line.Config cfg seed) r = take_config n cfg seed r
take_line n (line.Fill f) r = take_fill n f r
take_line n (line.Order o life) r = take_order n o life r
take_line n (line.Cancel eff id) r = take_cancel n eff id r
take_line n (line.Row t) r = take_row n t r

-- a line as the text has it
unfoldable pub take_text : ℕ → List ℕ → Reading → Option Reading
take_text n l r = on_some (line_of (fields l)) (λ line. take_line n line r) None
