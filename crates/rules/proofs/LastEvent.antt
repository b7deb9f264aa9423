-- A call's last event tells what it did: event 7 where it halted, event 6 where it reached end of data, and no other event of the call is one of these. Assumes nothing.
use Rattle.std.specs.Prelude.{Option, Some, None}
use Prim.Native.Nat.{ℕ, zero, suc, ◌+◌}
use mathlib.Core.Bool.{Bool}
use mathlib.Core.List.{List, [], ◌∷◌, ◌++◌, map, append_assoc}
use mathlib.Core.Logic.{◌↔◌}
use mathlib.Core.Path.{◌≡◌, refl, sym, ap, ◌∙◌}
use Rattle.numbers.specs.Choice.{pick, on_some}
use Rattle.numbers.specs.declared.position.Position.{Position}
use Rattle.lists.specs.Lists.{Put, Taken, live}
use Rattle.lists.proofs.Cases.{pick_case, some_case, different}
use Rattle.book.specs.declared.MsgKind.{MsgKind}
use Rattle.book.specs.declared.MsgKind.TheVariants.{Cancel, Activate, Expire}
use Rattle.book.specs.declared.ReportRec.{ReportRec}
use Rattle.book.specs.declared.VenueMsg.{VenueMsg}
use Rattle.book.specs.declared.VenueOrder.{VenueOrder}
use Rattle.book.specs.declared.config.Config.{Config}
use Rattle.book.specs.declared.config.KernelTick.{KernelTick}
use Rattle.state.specs.declared.HaltReason.{HaltReason}
use Rattle.state.specs.declared.KernelEvent.{KernelEvent}
use Rattle.state.specs.declared.KernelEvent.TheVariants.{Report, Fill, Delivered, Observed, RowEnd, EndOfData, Halted, DroppedMsg, Expired, DroppedExpiry}
use Rattle.state.specs.declared.KernelState.{KernelState}
use Rattle.state.specs.declared.Phase.{Phase}
use Rattle.state.specs.declared.Phase.TheVariants.{BeforeMatch, ObsQueued, AwaitDecision, Terminal}
use Rattle.rules.specs.Run.{Outcome, Run, ran, left, halt, ended, ran_to, raised, halt_at, on_ran, after, and_then, putting, taking, Turn, again, last, on_turn, iter}
use Rattle.rules.specs.Report.{stamp, delayed, push_delivery, reported, queue_delivery}
use Rattle.rules.specs.Messages.{release, await, await_marked, book, schedule, schedule_expiry, accept, reject, activate, activation, cancel_booked, on_activation, cancel_activation, cancel_awaiting, cancel, expire_booked, expire, acts, apply_next_msg}
use Rattle.rules.specs.Matching.{fill_counted, fill_event, fill_at, Fills, no_fill, fills, fails, fills_at, filling, match_at, match_from, leave, sweep_from, sweep, match_row}
use Rattle.rules.specs.Delivery.{count_fill, move_agent, count_reject, deliver_next, deliver_all, dropped_by, dropped_event, close_data, end_of_data}
use Rattle.rules.specs.Events.{pop_observation, Class, venue, delivery, observation, Next, nothing, next, next_of, handle, turn_on, event_turn, run_events}
use Rattle.rules.specs.Phases.{queue_observation, match_phase, before_match, settle_row, settle, next_row, obs_queued, on_phase, phase_turn, phases}
use Rattle.rules.specs.Calls.{Did, refused, stays, halts, ends, Answer, answer_on, answer, advance, pass}
use Rattle.rules.specs.Conservation.{Each}
use Rattle.rules.proofs.Entry.{advance_case}
use Rattle.rules.proofs.Loop.{run_of}
use Rattle.book.specs.declared.FillRec.{FillRec}
use Rattle.lists.specs.declared.Arr.{Arr}

-- ---- the claim
-- an event that is neither 6, end of data, nor 7, halted
abbrev pub Plain : KernelEvent → Type 0
Plain (Report r) = Unit {0}
Plain (Fill f) = Unit {0}
Plain (Delivered r) = Unit {0}
Plain (Observed row at) = Unit {0}
Plain (RowEnd row ts) = Unit {0}
Plain (EndOfData msgs obs) = ⊥
Plain (Halted h) = ⊥
Plain (DroppedMsg order cancel) = Unit {0}
Plain (Expired order at) = Unit {0}
Plain (DroppedExpiry order) = Unit {0}

-- what stands behind the plain events of a call that did this
abbrev pub Behind : Did → List KernelEvent → List KernelEvent → Type 0
Behind (refused r) front es = es ≡ front
Behind stays front es = es ≡ front
Behind (halts h) front es = es ≡ front ++ Halted h ∷ []
Behind (ends dropped) front es = (m : ℕ) × (n : ℕ) × (es ≡ front ++ EndOfData m n ∷ [])

pub record LastEvent (a : Answer) : Type 0 where
  pub front : List KernelEvent
  pub plain : Each Plain front
  pub behind : Behind a.did front a.events

unfoldable pub last_in : {A : Type 0} → List A → Option A
last_in [] = None
last_in (x ∷ []) = Some x
last_in (x ∷ y ∷ l) = last_in (y ∷ l)

-- ---- of a run
abbrev SignalsAt : Outcome → List KernelEvent → Type 0
SignalsAt ran es = Each Plain es
SignalsAt left es = Each Plain es
SignalsAt (halt h) es = Each Plain es
SignalsAt (ended ms) es = (front : List KernelEvent) × Each Plain front × (m : ℕ) × (n : ℕ) × (es ≡ front ++ EndOfData m n ∷ [])

record Signals (r : Run) : Type 0 where
  signals : SignalsAt r.outcome r.events

both : (es fs : List KernelEvent) → Each Plain es → Each Plain fs → Each Plain (es ++ fs)
unfolding Each
both [] fs h k = k
both (e ∷ es) fs h k = (h.0, both es fs h.1 k)

after-signals : (es : List KernelEvent) {r : Run} → Each Plain es → Signals r → Signals (after es r)
after-signals es {r} p h = record { signals = go r.outcome h.signals }
  where
    go : (o : Outcome) → SignalsAt o r.events → SignalsAt o (es ++ r.events)
    go ran g = both es _ p g
    go left g = both es _ p g
    go (halt n) g = both es _ p g
    go (ended ms) g = (es ++ g.0, both es _ p g.1, g.2, g.3, ap (λ fs. es ++ fs) g.4 ∙ sym (append_assoc es g.0 _))

ran-signals : {s : KernelState} → Signals (ran_to s)
ran-signals = record { signals = unfold Each in tt }

raised-signals : {e : KernelEvent} {s : KernelState} → Plain e → Signals (raised e s)
raised-signals h = record { signals = unfold Each in (h, tt) }

halt-signals : {h : HaltReason} {s : KernelState} → Signals (halt_at h s)
halt-signals = record { signals = unfold Each in tt }

left-signals : {s : KernelState} {es : List KernelEvent} → Each Plain es → Signals (record { outcome = left; state = s; events = es })
left-signals h = record { signals = h }

then_signals : {a : Run} {k : KernelState → Run} → Signals a → ((s : KernelState) → Signals (k s)) → Signals (and_then a k)
unfolding and_then
then_signals {a} {k} h f = go a.outcome refl
  where
    go : (o : Outcome) → a.outcome ≡ o → Signals (on_ran o a (after a.events (k a.state)))
    go ran e = after-signals a.events (rw e at h.signals) (f a.state)
    go left e = h
    go (halt n) e = h
    go (ended ms) e = h

pick-signals : (b : Bool) {x y : Run} → Signals x → Signals y → Signals (pick b x y)
pick-signals b h k = pick_case Signals b _ _ (λ _. h) (λ _. k)

some-signals : {A : Type 0} (o : Option A) {k : A → Run} {z : Run} → ((x : A) → Signals (k x)) → Signals z → Signals (on_some o k z)
some-signals o h g = some_case Signals o _ _ (λ x _. h x) (λ _. g)

moved-signals : (m : Option Position) {k : Position → Run} {z : Run} → ((p : Position) → Signals (k p)) → Signals z → Signals (on_some m k z)
unfolding on_some
moved-signals None h g = g
moved-signals (Some p) h g = h p

taking-signals : {A : Type 0} {size : ℕ} (t : Taken A size) {k : A → Arr A size → Run} {z : Run} → ((x : A) (l : Arr A size) → Signals (k x l)) → Signals z → Signals (taking t k z)
unfolding taking
taking-signals t h g = some-signals t.got (λ x. h x t.list) g

putting-signals : {A : Type 0} {size : ℕ} (p : Put A size) (k : Arr A size → KernelState) (s : KernelState) → Signals (putting p k s)
unfolding putting
putting-signals p k s = pick-signals _ ran-signals halt-signals

iter-signals : (step : KernelState → Turn) → ((s : KernelState) → Signals (run_of (step s))) → (n : ℕ) (s : KernelState) → Signals (iter step n s)
unfolding iter
iter-signals step h zero s = ran-signals
iter-signals step h (suc n) s = go (step s) (h s) (iter-signals step h n)
  where
    go : (x : Turn) → Signals (run_of x) → ((t : KernelState) → Signals (iter step n t)) → Signals (on_turn x (λ r. and_then r (iter step n)))
    go (again r) g ih = then_signals g ih
    go (last r) g ih = g

-- ---- reports
stamp-signals : (s : KernelState) → Signals (stamp s)
unfolding stamp
stamp-signals s = some-signals _ (λ n. ran-signals) halt-signals

delayed-signals : (c : Config) (from base : ℕ) (s : KernelState) {k : ℕ → KernelState → Run} → ((at : ℕ) (t : KernelState) → Signals (k at t)) → Signals (delayed c from base s k)
unfolding delayed
delayed-signals c from base s h = some-signals _ (λ at. h at _) halt-signals

report_signals : (c : Config) (r : ReportRec) (f : Option FillRec) (s : KernelState) → Signals (queue_delivery c r f s)
unfolding queue_delivery reported push_delivery
report_signals c r f s = then_signals (delayed-signals c _ _ s (λ at t. raised-signals tt)) (λ u. putting-signals _ _ u)

-- ---- messages
release-signals : (o : VenueOrder) (s : KernelState) → Signals (release o s)
unfolding release
release-signals o s = some-signals _ (λ g. ran-signals) halt-signals

await-signals : (o : VenueOrder) (s : KernelState) → Signals (await_marked o s)
unfolding await_marked await
await-signals o s = pick-signals _ (putting-signals _ _ s) ran-signals

accept-signals : (c : Config) (o : VenueOrder) (expiry : Option ℕ) (s t : KernelState) → Signals (accept c o expiry s t)
unfolding accept book schedule_expiry schedule
accept-signals c o expiry s t =
    then_signals (report_signals c _ _ t) (λ u. then_signals (putting-signals _ _ u) (λ v. some-signals _ (λ at. some-signals _ (λ n. putting-signals _ _ _) halt-signals) ran-signals))

reject-signals : (c : Config) (o : VenueOrder) (s t : KernelState) → Signals (reject c o s t)
unfolding reject
reject-signals c o s t = then_signals (release-signals o t) (λ u. then_signals (report_signals c _ _ u) (await-signals o))

activate-signals : (c : Config) (o : VenueOrder) (expiry : Option ℕ) (s : KernelState) → Signals (activate c o expiry s)
unfolding activate
activate-signals c o expiry s = then_signals (stamp-signals s) (λ t. pick-signals _ (accept-signals c _ expiry s t) (reject-signals c _ s t))

cancel-signals : (c : Config) (id : ℕ) (s : KernelState) → Signals (cancel c id s)
unfolding cancel cancel_booked cancel_activation cancel_awaiting
cancel-signals c id s = then_signals (stamp-signals s) (λ t.
    some-signals _ (λ i. taking-signals _ (λ o l. then_signals (release-signals o _) (λ u. report_signals c _ _ _)) ran-signals)
    (some-signals _ (λ i. taking-signals _ (λ m l. go m.kind _ _ (λ o. then_signals (release-signals o _) (report_signals c _ _)) ran-signals) ran-signals)
    (some-signals _ (λ i. taking-signals _ (λ o l. report_signals c _ _ _) ran-signals) ran-signals)))
  where
    go : (m : MsgKind) (k : VenueOrder → Run) (z : Run) → ((o : VenueOrder) → Signals (k o)) → Signals z → Signals (on_activation m k z)
    go (Cancel i) k z h g = g
    go (Activate o life) k z h g = h o
    go (Expire i) k z h g = g

expire-signals : (c : Config) (id : ℕ) (s : KernelState) → Signals (expire c id s)
unfolding expire expire_booked
expire-signals c id s = some-signals _ (λ i. then_signals (stamp-signals s) (λ t.
    taking-signals _ (λ o l. then_signals (release-signals o _) (λ u. then_signals (raised-signals tt) (λ v. then_signals (report_signals c _ _ v) (await-signals _)))) ran-signals))
    ran-signals

acts-signals : (c : Config) (k : MsgKind) (s t : KernelState) → Signals (acts c k s t)
unfolding activation
acts-signals c (Cancel id) s t = cancel-signals c id t
acts-signals c (Activate o life) s t = pick-signals _ (some-signals _ (λ at. pick-signals _ (activate-signals c o _ t) halt-signals) halt-signals) (activate-signals c o _ t)
acts-signals c (Expire id) s t = expire-signals c id t

-- ---- matching
fill_signals : (c : Config) (i : ℕ) (o : VenueOrder) (n : ℕ) (s : KernelState) → Signals (fill_at c i o n s)
unfolding fill_at fill_event fill_counted
fill_signals c i o n s = then_signals (then_signals (stamp-signals s) (λ t.
    some-signals _ (λ g. pick-signals _ (some-signals _ (λ e. some-signals _ (λ k. raised-signals tt) halt-signals) halt-signals) halt-signals) halt-signals)) (λ t. report_signals c _ _ _)

filling-signals : (c : Config) (i : ℕ) (s : KernelState) (f : Fills) → Signals (filling c i s f)
filling-signals c i s no_fill = ran-signals
filling-signals c i s (fills o n) = fill_signals c i o n s
filling-signals c i s fails = halt-signals

match_signals : (c : Config) (row : KernelTick) (k i : ℕ) (s : KernelState) → Signals (match_from c row k i s)
unfolding match_from match_at
match_signals c row zero i s = ran-signals
match_signals c row (suc k) i s = then_signals (filling-signals c i s (fills_at c.fill row i s.orders)) (match_signals c row k (i + 1))

sweep-signals : (k i : ℕ) (s : KernelState) → Signals (sweep_from k i s)
unfolding sweep_from leave
sweep-signals zero i s = ran-signals
sweep-signals (suc k) i s = then_signals (pick-signals _ (taking-signals _ (λ o l. await-signals o _) ran-signals) ran-signals) (sweep-signals k _)

row-signals : (c : Config) (row : KernelTick) (s : KernelState) → Signals (match_row c row s)
unfolding match_row sweep
row-signals c row s = some-signals _ (λ mid2. then_signals (match_signals c row _ 0 _) (λ t. sweep-signals _ 0 t)) halt-signals

-- ---- deliveries
move_signals : (f : Option FillRec) (s : KernelState) → Signals (move_agent f s)
unfolding count_fill
move_signals None s = ran-signals
move_signals (Some f) s = moved-signals _ (λ p. some-signals _ (λ n. ran-signals) halt-signals) halt-signals

deliver-signals : (s : KernelState) → Signals (deliver_next s)
unfolding deliver_next count_reject
deliver-signals s = taking-signals _
    (λ d l. then_signals (raised-signals tt) (λ t. then_signals (move_signals d.fill t) (λ u. then_signals (pick-signals _ (pick-signals _ (some-signals _ (λ n. ran-signals) halt-signals) ran-signals) ran-signals) (λ v. ran-signals))))
    ran-signals

all-signals : (n : ℕ) (s : KernelState) → Signals (deliver_all n s)
unfolding deliver_all
all-signals zero s = ran-signals
all-signals (suc n) s = then_signals (deliver-signals s) (all-signals n)

dropped_plain : (ms : List VenueMsg) → Each Plain (map dropped_event ms)
unfolding Each
dropped_plain [] = tt
dropped_plain (m ∷ ms) = (go m.kind, dropped_plain ms)
  where
    go : (k : MsgKind) → Plain (dropped_by k)
    go (Cancel id) = tt
    go (Activate o life) = tt
    go (Expire id) = tt

-- here the data end
ended-signals : (ms : List VenueMsg) (s : KernelState) (m n : ℕ) → Signals (record { outcome = ended ms; state = s; events = EndOfData m n ∷ [] })
ended-signals ms s m n = record { signals = ([], (unfold Each in tt), m, n, refl) }

end_signals : (s : KernelState) → Signals (end_of_data s)
unfolding end_of_data close_data
end_signals s = then_signals (all-signals _ s)
    (λ t. let dropped : List VenueMsg = live 16 t.msgs in
    after-signals (map dropped_event dropped) (dropped_plain dropped) (some-signals _ (λ m. some-signals _ (λ n. ended-signals _ _ _ _) halt-signals) halt-signals))

-- ---- the walk and the phases
handle-signals : (c : Config) (k : Class) (s : KernelState) → Signals (handle c k s)
unfolding apply_next_msg pop_observation
handle-signals c venue s = taking-signals _ (λ m l. acts-signals c m.kind s _) ran-signals
handle-signals c delivery s = deliver-signals s
handle-signals c observation s = taking-signals _ (λ e l. pick-signals _ (left-signals (unfold Each in tt)) (left-signals (unfold Each in (tt, tt)))) ran-signals

turn-signals : (c : Config) (n : Next) (s : KernelState) → Signals (run_of (turn_on c n s))
turn-signals c nothing s = ran-signals
turn-signals c (next k t) s = handle-signals c k _

walk_signals : (c : Config) (limit : ℕ) (s : KernelState) → Signals (run_events c limit s)
unfolding run_events event_turn
walk_signals c limit s = iter-signals (event_turn c limit) (λ t. turn-signals c (next_of limit t) t) _ s

before-signals : (c : Config) (rows : List ℕ) (s : KernelState) → Signals (before_match c rows s)
unfolding before_match match_phase queue_observation
before-signals c rows s = some-signals _ (λ i. some-signals _ (λ row.
    then_signals (walk_signals c _ s) (λ t. then_signals (row-signals c row _) (λ u. delayed-signals c _ _ u (λ at v. putting-signals _ _ _)))) halt-signals) halt-signals

settle-signals : (c : Config) (rows : List ℕ) (s : KernelState) → Signals (obs_queued c rows s)
unfolding obs_queued settle settle_row next_row
settle-signals c rows s = then_signals
    (some-signals _ (λ i. some-signals _ (λ row. then_signals (walk_signals c _ s) (λ t. pick-signals _ (raised-signals tt) halt-signals)) halt-signals) ran-signals)
    (λ t. pick-signals _ (pick-signals _ ran-signals ran-signals) (end_signals t))

phase_signals : (p : Phase) (c : Config) (rows : List ℕ) (s : KernelState) → Signals (run_of (on_phase p c rows s))
phase_signals BeforeMatch c rows s = before-signals c rows s
phase_signals ObsQueued c rows s = settle-signals c rows s
phase_signals AwaitDecision c rows s = ran-signals
phase_signals Terminal c rows s = ran-signals

phases-signals : (c : Config) (rows : List ℕ) (s : KernelState) → Signals (phases c rows s)
unfolding phases phase_turn
phases-signals c rows s = iter-signals (phase_turn c rows) (λ t. phase_signals t.control.phase c rows t) _ s

-- ---- the calls
answer_last_event : (r : Run) → Signals r → LastEvent (answer r)
unfolding answer
answer_last_event r h = go r.outcome h.signals
  where
    go : (o : Outcome) → SignalsAt o r.events → LastEvent (answer_on o r.state r.events)
    go ran g = record { front = r.events; plain = g; behind = refl }
    go left g = record { front = r.events; plain = g; behind = refl }
    go (halt n) g = record { front = r.events; plain = g; behind = refl }
    go (ended ms) g = record { front = g.0; plain = g.1; behind = (g.2, g.3, g.4) }

-- a call without events
silent : {d : Did} {s : KernelState} → Behind d [] [] → LastEvent (record { did = d; state = s; events = [] })
silent h = record { front = []; plain = unfold Each in tt; behind = h }

pub advance_last_event : (c : Config) (rows : List ℕ) (s : KernelState) → LastEvent (advance c rows s)
advance_last_event c rows s = advance_case LastEvent c rows s (λ _. answer_last_event _ (phases-signals c rows s)) (λ _. silent refl)

pub pass_last_event : (s : KernelState) → LastEvent (pass s)
unfolding pass
pass_last_event s =
    pick_case LastEvent _ _ _
    (λ _. pick_case LastEvent _ _ _ (λ _. pick_case LastEvent _ _ _ (λ _. some_case LastEvent _ _ _ (λ n _. silent refl) (λ _. silent refl)) (λ _. silent refl)) (λ _. silent refl))
    (λ _. silent refl)

-- ---- both ways, by the last event
last-behind : {A : Type 0} (l : List A) (x : A) → last_in (l ++ x ∷ []) ≡ Some x
unfolding last_in
last-behind [] x = refl
last-behind (y ∷ []) x = refl
last-behind (y ∷ z ∷ l) x = last-behind (z ∷ l) x

last-plain : (l : List KernelEvent) → Each Plain l → (e : KernelEvent) → last_in l ≡ Some e → Plain e
unfolding last_in Each
last-plain [] h e p = different cc
last-plain (x ∷ []) h e p = let q : x ≡ e = cc in rw q at h.0
last-plain (x ∷ y ∷ l) h e p = last-plain (y ∷ l) h.1 e p

-- "halts h" exactly where the last event is `Halted h`
pub halted-last : (a : Answer) → LastEvent a → (h : HaltReason) → (a.did ≡ halts h) ↔ (last_in a.events ≡ Some (Halted h))
halted-last a t h = go a.did a.events t.behind
  where
    go : (d : Did) (es : List KernelEvent) → Behind d t.front es → (d ≡ halts h) ↔ (last_in es ≡ Some (Halted h))
    go (refused r) es q = ((λ p. different cc), (λ p. absurd (last-plain t.front t.plain (Halted h) (rw q at p))))
    go stays es q = ((λ p. different cc), (λ p. absurd (last-plain t.front t.plain (Halted h) (rw q at p))))
    go (halts k) es q = ((λ p. rw (q, last-behind t.front (Halted k)) (cc)), (λ p. let e : Some (Halted k) ≡ Some (Halted h) = rw (q, last-behind t.front (Halted k)) at p in cc))
    go (ends dropped) es q =
        ((λ p. different cc), (λ p. let e : Some (EndOfData q.0 q.1) ≡ Some (Halted h) = rw (q.2, last-behind t.front (EndOfData q.0 q.1)) at p in different cc))

-- "ends" exactly where the last event is `EndOfData`
pub ended-last : (a : Answer) → LastEvent a → ((dropped : List VenueMsg) × (a.did ≡ ends dropped)) ↔ ((m : ℕ) × (n : ℕ) × (last_in a.events ≡ Some (EndOfData m n)))
ended-last a t = go a.did a.events t.behind
  where
    go : (d : Did) (es : List KernelEvent) → Behind d t.front es → ((dropped : List VenueMsg) × (d ≡ ends dropped)) ↔ ((m : ℕ) × (n : ℕ) × (last_in es ≡ Some (EndOfData m n)))
    go (refused r) es q = ((λ p. let e = p.1 in different cc), (λ p. absurd (last-plain t.front t.plain (EndOfData p.0 p.1) (rw q at p.2))))
    go stays es q = ((λ p. let e = p.1 in different cc), (λ p. absurd (last-plain t.front t.plain (EndOfData p.0 p.1) (rw q at p.2))))
    go (halts k) es q =
        ((λ p. let e = p.1 in different cc), (λ p. let e : Some (Halted k) ≡ Some (EndOfData p.0 p.1) = rw (q, last-behind t.front (Halted k)) at p.2 in different cc))
    go (ends dropped) es q = ((λ p. (q.0, q.1, rw q.2 (last-behind t.front (EndOfData q.0 q.1)))), (λ p. (dropped, refl)))
