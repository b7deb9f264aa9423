-- What is so of the start of every run text: what holds before the first line, and is kept by each, holds of all that was read. Assumes nothing.
use Rattle.std.specs.Prelude.{Option, None, IfSome}
use Prim.Native.Nat.{ℕ, zero, suc, ◌+◌}
use mathlib.Core.List.{List, [], ◌∷◌, map}
use mathlib.Core.Path.{◌≡◌, refl}
use native.Mathlib.Omega.{arith}
use lib.ListN.{take}
use Rattle.numbers.specs.Choice.{pick, on_some}
use Rattle.lists.specs.Lists.{below, put_at, total}
use Rattle.lists.proofs.Cases.{pick_case, some_case}
use Rattle.lists.proofs.Sums.{put_case, Added}
use Rattle.lists.specs.declared.Arr.{Arr}
use Rattle.book.specs.Capacities.{msgs_capacity}
use Rattle.book.specs.Entries.{on_side}
use Rattle.book.specs.declared.MsgKind.{MsgKind}
use Rattle.book.specs.declared.MsgKind.TheVariants.{Cancel, Activate, Expire}
use Rattle.book.specs.declared.Side.{Side}
use Rattle.book.specs.declared.Side.TheVariants.{Buy, Sell}
use Rattle.book.specs.declared.VenueMsg.{VenueMsg}
use Rattle.book.specs.declared.VenueOrder.{VenueOrder}
use Rattle.msgs.specs.Rows.{Msgs}
use Rattle.account.specs.Rows.{AgentAccount}
use Rattle.state.specs.declared.KernelState.{KernelState}
use Rattle.rules.specs.Conservation.{of_side}
use Rattle.text.specs.Fields.{fields}
use Rattle.runline.specs.Lines.{line_of}
use Rattle.runtake.specs.Take.{Reading, blank_reading, take_config, take_fill, reserved, put_in, queued, take_order, in_flight, marked_kind, marked, marked_in, take_cancel, take_row, take_line, take_text}
use Rattle.runtext.specs.Read.{start_state, script_of, Read, unless_retired, read_text}
use Rattle.runline.specs.declared.Line.{Line}
use Rattle.runline.specs.declared.Line.TheVariants as line
use Rattle.runtake.specs.declared.Lots.{Lots}
use Rattle.runtext.proofs.EveryText.{text_case}
use Rattle.runtext.proofs.Unfilled.{Unfilled, line_unfilled}

-- ---- marks: what goes by a message's kind, and not by the mark of the order that it carries, adds up to as much
-- a sum stays where each entry is rewritten to one that adds as much
total-same : {A : Type 0} (f : A → ℕ) (g : A → A) → ((x : A) → f (g x) ≡ f x) → (n : ℕ) (l : List A) → total f (take n (map g l)) ≡ total f (take n l)
unfolding total
total-same f g h zero l = refl
total-same f g h (suc n) [] = refl
total-same f g h (suc n) (x ∷ l) = let e = total-same f g h n l in omega (arith, h x)

module _ (f : MsgKind → ℕ) (id : ℕ) (h : (o : VenueOrder) (life : ℕ) → f (Activate (in_flight o) life) ≡ f (Activate o life)) where
  kind_same : (k : MsgKind) → f (marked_kind id k) ≡ f k
  kind_same (Cancel i) = refl
  kind_same (Activate o life) = pick_case (λ k. f k ≡ f (Activate o life)) _ _ _ (λ _. h o life) (λ _. refl)
  kind_same (Expire i) = refl

  marked-same : (m : VenueMsg) → f (marked id m).kind ≡ f m.kind
  unfolding marked
  marked-same m = kind_same m.kind

  pub marks_same : (ms : Msgs) → total (λ (m : VenueMsg). f m.kind) (below (marked_in id ms)) ≡ total (λ (m : VenueMsg). f m.kind) (below ms)
  unfolding marked_in
  marks_same ms = total-same (λ (m : VenueMsg). f m.kind) (marked id) marked-same ms.count ms.slots

-- ---- an order's lots
-- from the lots l to the lots m, n lots of side e have come
abbrev pub Grown : Side → ℕ → Lots → Lots → Type 0
Grown e n l m = (d : Side) → on_side d m.buy m.sell ≡ of_side d e n + on_side d l.buy l.sell

-- lots come to their side alone
grown-one : (l : Lots) (e : Side) (n : ℕ) → Grown e n l (on_side e (record { buy = l.buy + n; sell = l.sell }) (record { buy = l.buy; sell = l.sell + n }))
unfolding on_side
grown-one l Buy n Buy = omega arith
grown-one l Buy n Sell = omega arith
grown-one l Sell n Buy = omega arith
grown-one l Sell n Sell = omega arith

-- ---- the steps of a line, each of which may find it bad
module _ (P : Option Reading → Type 0) where
  -- lots are reserved
  pub reserved_case : (l : Lots) (e : Side) (n : ℕ) {k : Lots → Option Reading} → ((m : Lots) → Grown e n l m → P (k m)) → P None → P (on_some (reserved l e n) k None)
  unfolding reserved on_some
  reserved_case l e n {k} h g = pick_case (λ o. P (on_some o k None)) _ _ _ (λ _. h _ (grown-one l e n)) (λ _. g)

  -- an entry goes into a list
  pub put_in_case : {A : Type 0} {n : ℕ} (most i : ℕ) (v : A) (r : Arr A n) {k : Arr A n → Option Reading} → ((l : Arr A n) → Added most v r l → P (k l)) → P None → P (on_some (put_in (put_at most i v r)) k None)
  unfolding on_some pick
  put_in_case most i v r {k} h g = put_case most (λ p. P (on_some (put_in p) k None)) i v r h g

  -- a message is queued
  pub queued_case : (eff : ℕ) (kind : MsgKind) (ms : Msgs) {k : Msgs → Option Reading}
      → ((l : Msgs) → Added msgs_capacity (record { eff_ns = eff; seq = ms.count; kind = kind }) ms l → P (k l)) → P None → P (on_some (queued eff kind ms) k None)
  unfolding queued
  queued_case eff kind ms h g = put_in_case _ _ _ ms h g

-- ---- what each line keeps
-- only these parts of a reading matter: a line that leaves them keeps it as it stands
abbrev pub Of : (Msgs → Lots → AgentAccount → Type 0) → Reading → Type 0
Of C r = C r.msgs r.lots r.account

-- of a line that is not bad
abbrev pub Keeps : (Msgs → Lots → AgentAccount → Type 0) → Option Reading → Type 0
Keeps C o = IfSome o (Of C)

module _ (C : Msgs → Lots → AgentAccount → Type 0) (S : KernelState → Type 0)
    (starts : (r : Reading) → Of C r → S (start_state r))
    (blank : (words : List ℕ) → Of C (blank_reading words))
    (order : (n : ℕ) (o : VenueOrder) (life : ℕ) (r : Reading) → o.filled ≡ 0 → Of C r → Keeps C (take_order n o life r))
    (cancel : (n eff id : ℕ) (r : Reading) → Of C r → Keeps C (take_cancel n eff id r)) where
  -- every line; all but `o` and `x` leave messages, lots and account as they are
  line_keeps : (n : ℕ) (l : Line) (r : Reading) → Unfilled l → Of C r → Keeps C (take_line n l r)
  unfolding take_line take_config take_fill take_row Unfilled
  line_keeps n (line.Config cfg seed) r u h = pick_case (Keeps C) _ _ _ (λ _. h) (λ _. tt)
  line_keeps n (line.Fill f) r u h = pick_case (Keeps C) _ _ _ (λ _. h) (λ _. tt)
  line_keeps n (line.Order o life) r u h = order n o life r u h
  line_keeps n (line.Cancel eff id) r u h = cancel n eff id r h
  line_keeps n (line.Row t) r u h = pick_case (Keeps C) _ _ _ (λ _. tt) (λ _. pick_case (Keeps C) _ _ _ (λ _. h) (λ _. tt))

  text_keeps : (n : ℕ) (l : List ℕ) (r : Reading) → Of C r → Keeps C (take_text n l r)
  unfolding take_text
  text_keeps n l r h = some_case (Keeps C) (line_of (fields l)) _ _ (λ x e. line_keeps n x r (line_unfilled (fields l) x e) h) (λ _. tt)

  -- what was read starts so
  abbrev Starts : Read → Type 0
  Starts q = S q.script.state

  script_starts : (r : Reading) → Of C r → S (script_of r).state
  unfolding script_of
  script_starts r h = starts r h

  -- every text, bad ones included: a bad line changes nothing
  pub text_starts : (text words : List ℕ) → S (read_text text words).script.state
  unfolding unless_retired
  text_starts text words =
      text_case (Of C) Starts text_keeps (λ f r h. script_starts r h) (λ r h. pick_case Starts _ _ _ (λ _. script_starts r h) (λ _. script_starts r h)) text words (blank words)
