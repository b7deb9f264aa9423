-- A batch: what its calls leave, one by one, is what the rules give for it. Assumes nothing.
use Prim.Native.Nat.{ℕ, zero, suc, ◌+◌, ◌-◌, ◌/◌, ◌^◌, ◌<◌, ◌≤◌}
use mathlib.Core.Bool.{Bool, true, false, ◌&&◌}
use mathlib.Core.List.{List, [], ◌++◌}
use mathlib.Core.Path.{◌≡◌, refl, sym, ap, ◌∙◌, subst}
use native.Mathlib.Omega.{arith}
use borrow.Author.Tests.{leb-true}
use lib.Dec.{leb}
use lib.ListN.{length, length-append}
use Rattle.std.specs.Prelude.{None, Ok, Err}
use Rattle.numbers.specs.Choice.{pick, on_some}
use Rattle.book.specs.declared.config.Config.{Config}
use Rattle.state.specs.Numbers.{refusal_number}
use Rattle.state.specs.declared.KernelEvent.{KernelEvent}
use Rattle.state.specs.declared.KernelState.{KernelState}
use Rattle.state.specs.declared.Refusal.{Refusal}
use Rattle.rules.specs.Run as rules
use Rattle.rules.specs.Run.{Run}
use Rattle.rules.specs.Log.{written}
use Rattle.rules.specs.Phases.{phases}
use Rattle.rules.specs.Calls as calls
use Rattle.rules.specs.Calls.{refuse, refusal_of, answer_on, answer, counts_fit, entry_refusal, advance, pass}
use Rattle.rules.specs.Batch.{call_records, ending, is_stay, goes_on, run_from, run, returned_run}
use Rattle.rules.proofs.Entry.{runs_fit, runs_again}
use Rattle.rules.proofs.HowFar.{few-events}
use Rattle.reports.specs.Log.{Logged, append_events}
use Rattle.reports.proofs.Append.{appended_append, appended_all, length-written}
use Rattle.entry.specs.Entry.{refused_with}
use Rattle.batch.specs.Batch.{Called, called, told, actual_run}
use Rattle.batch.proofs.Calls.{pass_fits}

-- ---- a batch that is refused is its first call, which is refused
pub run_refused : (c : Config) (rows w : List ℕ) (records passes : ℕ) (s : KernelState) (r : Refusal) → refused_with (Err r) ≡ entry_refusal c (length rows) s
    → actual_run (record { answer = Err r; state = s; events = 0; last = 0 }) w ≡ returned_run w (run c rows records passes s)
unfolding advance run_from goes_on pick on_some written
run_refused c rows w records passes s r e = go passes
  where
    call_is : advance c rows s ≡ refuse (refusal_number r) s
    call_is = rw (← e)

    go : (n : ℕ) → actual_run (record { answer = Err r; state = s; events = 0; last = 0 }) w ≡ returned_run w (run c rows records n s)
    go zero = rw call_is
    go (suc k) = rw call_is

-- ---- what follows a call a
module _ (c : Config) (rows : List ℕ) (records : ℕ) (es : List KernelEvent) (s : KernelState) (a : calls.Answer) (e : advance c rows s ≡ a) where
  run_none : run_from c rows records 0 es s ≡ ending es a
  unfolding run_from
  run_none = rw e

  run_stops : goes_on records es a ≡ false → (n : ℕ) → run_from c rows records n es s ≡ ending es a
  unfolding run_from pick
  run_stops h zero = rw e
  run_stops h (suc k) = rw (e, h)

  run_goes : goes_on records es a ≡ true → (n : ℕ) → (n ≡ 0 → ⊥) → run_from c rows records n es s ≡ run_from c rows records (n - 1) (es ++ a.events) (pass a.state).state
  unfolding run_from pick
  run_goes h zero some = absurd (some refl)
  run_goes h (suc k) some = let less : suc k - 1 ≡ k = omega arith in rw (e, h, less)

-- ---- the calls
module _ (c : Config) (rows w : List ℕ) (name passes : ℕ) (s₀ : KernelState) where
  abbrev records : ℕ
  records = length w / 12

  -- the log that was lent, no event raised yet
  abbrev pub lent : Logged
  lent = record { words = w; count = 0; lender = name }

  -- the calls before this one raised these events, and those from s on are the rest of the batch
  pub record Sofar (left : ℕ) (s : KernelState) (l : Logged) : Type 0 where
    pub events : List KernelEvent
    pub log : l ≡ append_events lent events
    pub few : length events < 2 ^ 60
    pub fit : counts_fit s ≡ true
    pub rest : run_from c rows records left events s ≡ run c rows records passes s₀

  pub sofar_none : entry_refusal c (length rows) s₀ ≡ None → Sofar passes s₀ lent
  sofar_none runs = record { events = []; log = unfold append_events in refl; few = omega arith; fit = runs_fit c (length rows) s₀ runs; rest = refl }

  -- behind these calls one was made, with so many passes left for the calls after it: b, t and m are what the code left of it, and before is how many events were raised when it began
  pub record Made (left before : ℕ) (b : Bool) (t : KernelState) (m : Logged) : Type 0 where
    pub from : KernelState
    pub log_from : Logged
    pub calls : Sofar left from log_from
    pub call : called b t m ≡ told log_from (answer (phases c rows from))
    pub counted : before ≡ log_from.count

  pub made : {left before : ℕ} {s : KernelState} {l : Logged} {b : Bool} {t : KernelState} {m : Logged} → Sofar left s l → called b t m ≡ told l (answer (phases c rows s)) → before ≡ l.count
      → Made left before b t m
  made {s = s} {l = l} S e h = record { from = s; log_from = l; calls = S; call = e; counted = h }

  -- a call from s, and what the code left of it
  module _ (runs : entry_refusal c (length rows) s₀ ≡ None) (short : length w < 2 ^ 60) {left : ℕ} {s : KernelState} {l : Logged} (S : Sofar left s l)
      {b : Bool} {t : KernelState} {m : Logged} (e : called b t m ≡ told l (answer (phases c rows s))) where
    abbrev given : calls.Answer
    given = answer (phases c rows s)

    abbrev all : List KernelEvent
    all = S.events ++ given.events

    call_is : advance c rows s ≡ given
    unfolding advance on_some
    call_is = rw (runs_again c (length rows) s₀ runs s S.fit)

    all_few : length all < 2 ^ 64 - 1
    all_few = let g : length given.events ≤ 522 = rw call_is at (few-events c rows s).most in omega (arith, S.few, g, length-append S.events given.events)

    stays_is : b ≡ is_stay given.did
    unfolding told
    stays_is = ap (λ (x : Called). x.stays) e

    state_is : t ≡ given.state
    unfolding told
    state_is = ap (λ (x : Called). x.state) e

    log_is : m ≡ append_events lent all
    unfolding told
    log_is = ap (λ (x : Called). x.log) e ∙ ap (λ x. append_events x given.events) S.log ∙ appended_append lent S.events given.events

    written_is : m ≡ record { words = written w all; count = length all; lender = name }
    written_is = log_is ∙ appended_all name w all (omega (arith, all_few))

    before_is : l.count ≡ length S.events
    before_is = ap (λ (x : Logged). x.count) (S.log ∙ appended_all name w S.events (omega (arith, S.few)))

    count_is : m.count ≡ length all
    count_is = ap (λ (x : Logged). x.count) written_is

    room_is : leb (m.count + call_records) (length m.words / 12) ≡ leb (length all + call_records) records
    room_is = ap (λ (x : Logged). leb (x.count + call_records) (length x.words / 12)) written_is ∙ ap (λ n. leb (length all + call_records) (n / 12)) (length-written w all)

    pub raised_more : l.count ≤ m.count
    raised_more = omega (arith, before_is, count_is, length-append S.events given.events)

    pub lender_is : m.lender ≡ name
    lender_is = ap (λ (x : Logged). x.lender) written_is

    no_refusal : (r : Run) → refusal_of (answer r).did ≡ 0
    unfolding answer
    no_refusal r = go r.outcome
      where
        go : (o : rules.Outcome) → refusal_of (answer_on o r.state r.events).did ≡ 0
        go rules.ran = refl
        go rules.left = refl
        go (rules.halt h) = refl
        go (rules.ended ms) = refl

    -- no call follows: before is how many events were raised when this one began, u is the state that is handed back, and x are the words
    module _ {before : ℕ} (counted : before ≡ l.count) {u : KernelState} (kept : u ≡ t) {x : List ℕ} (words_are : x ≡ m.words) where
      ended : run_from c rows records left S.events s ≡ ending S.events given
          → actual_run (record { answer = Ok tt; state = u; events = m.count; last = m.count - before }) x ≡ returned_run w (run c rows records passes s₀)
      ended h =
          rw (words_are, written_is, counted, before_is, kept, state_is, ← no_refusal (phases c rows s)) refl
          ∙ ap (returned_run w) (sym h ∙ S.rest)

      stopped : goes_on records S.events given ≡ false
          → actual_run (record { answer = Ok tt; state = u; events = m.count; last = m.count - before }) x ≡ returned_run w (run c rows records passes s₀)
      stopped h = ended (run_stops c rows records S.events s given call_is h left)

      -- no pass is left
      pub last_pass : left ≡ 0 → actual_run (record { answer = Ok tt; state = u; events = m.count; last = m.count - before }) x ≡ returned_run w (run c rows records passes s₀)
      last_pass h = ended (rw h (run_none c rows records S.events s given call_is))

      -- the call halted, or ended the data
      pub last_over : b ≡ false → actual_run (record { answer = Ok tt; state = u; events = m.count; last = m.count - before }) x ≡ returned_run w (run c rows records passes s₀)
      unfolding goes_on
      last_over h = stopped (rw (← stays_is, h))

      -- the log has no room
      pub last_full : false ≡ leb (m.count + call_records) (length m.words / 12)
          → actual_run (record { answer = Ok tt; state = u; events = m.count; last = m.count - before }) x ≡ returned_run w (run c rows records passes s₀)
      unfolding goes_on
      last_full h = let f = h ∙ room_is in stopped (rw (← f) (none_with (is_stay given.did) (is_stay (pass given.state).did)))
        where
          none_with : (p q : Bool) → (p && q && false) ≡ false
          none_with true true = refl
          none_with true false = refl
          none_with false q = refl

      -- the pass is refused
      pub last_refused : is_stay (pass t).did ≡ false
          → actual_run (record { answer = Ok tt; state = u; events = m.count; last = m.count - before }) x ≡ returned_run w (run c rows records passes s₀)
      unfolding goes_on
      last_refused h = let g : is_stay (pass given.state).did ≡ false = rw (← state_is) h in stopped (rw g (none_with (is_stay given.did) _))
        where
          none_with : (p q : Bool) → (p && false && q) ≡ false
          none_with true q = refl
          none_with false q = refl

    -- the pass behind it, and the calls that follow
    pub sofar_more : b ≡ true → true ≡ leb (m.count + call_records) (length m.words / 12) → is_stay (pass t).did ≡ true → 0 < left → {u : KernelState} → u ≡ (pass t).state → Sofar (left - 1) u m
    unfolding goes_on
    sofar_more stays fits passed some {u} hu = record {
      events = all;
      log = log_is;
      few = omega (arith, room);
      fit = rw left_is (pass_fits given.state passes_on);
      rest = rw left_is (sym (run_goes c rows records S.events s given call_is goes left (omega arith)) ∙ S.rest);
    }
      where
        room : length all + call_records ≤ records
        room = leb-true _ _ (sym (fits ∙ room_is))

        passes_on : is_stay (pass given.state).did ≡ true
        passes_on = rw (← state_is) passed

        goes : goes_on records S.events given ≡ true
        goes = let f = fits ∙ room_is in rw (← stays_is, stays, passes_on, ← f)

        left_is : u ≡ (pass given.state).state
        left_is = rw (hu, state_is)

-- the calls and the last of them, where its log has this name
pub named : {c : Config} {rows w : List ℕ} {name passes left before : ℕ} {s₀ : KernelState} {b : Bool} {t : KernelState} {m : Logged} {n : ℕ} → n ≡ name
    → Made c rows w name passes s₀ left before b t m → Made c rows w n passes s₀ left before b t m
named {c} {rows} {w} {name} {passes} {left} {before} {s₀} {b} {t} {m} {n} h M = subst (λ (x : ℕ). Made c rows w x passes s₀ left before b t m) (sym h) M
