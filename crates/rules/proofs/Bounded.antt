-- Runs that raise no more than so many events, and what holds where they ran to their end, and where they did not. Assumes nothing.
use Rattle.std.specs.Prelude.{Option}
use Prim.Native.Nat.{ℕ, zero, suc, ◌+◌, ◌≤◌}
use mathlib.Core.Bool.{Bool}
use mathlib.Core.List.{List}
use mathlib.Core.Path.{◌≡◌, refl}
use native.Mathlib.Omega.{arith}
use lib.ListN.{length, length-append}
use Rattle.numbers.specs.Choice.{pick, on_some}
use Rattle.lists.specs.Lists.{put_at, taken_at}
use Rattle.lists.proofs.Cases.{pick_case, some_case}
use Rattle.lists.proofs.Sums.{Added, Took, put_case, take_case}
use Rattle.book.specs.declared.VenueMsg.{VenueMsg}
use Rattle.state.specs.declared.HaltReason.{HaltReason}
use Rattle.state.specs.declared.HaltReason.TheVariants.{CounterOverflow}
use Rattle.state.specs.declared.KernelEvent.{KernelEvent}
use Rattle.state.specs.declared.KernelState.{KernelState}
use Rattle.rules.specs.Run.{Outcome, Run, ran, left, halt, ended, ran_to, raised, halt_at, on_ran, after, and_then, putting, taking, Turn, again, last, on_turn, iter}
use Rattle.rules.proofs.Loop.{run_of}
use Rattle.lists.specs.declared.Arr.{Arr}

-- P of the state where it ran to its end, H where it did not
abbrev pub EndsAt : (KernelState → Type 0) → (KernelState → Type 0) → Outcome → KernelState → Type 0
EndsAt H P ran s = P s
EndsAt H P left s = H s
EndsAt H P (halt h) s = H s
EndsAt H P (ended ms) s = H s

-- r raised no more than n events; where it ran, P holds of how many may follow and of the state, else H of the state
pub record Within (H : KernelState → Type 0) (n : ℕ) (P : ℕ → KernelState → Type 0) (r : Run) : Type 0 where
  pub rest : ℕ
  pub few : length r.events + rest ≤ n
  pub ends : EndsAt H (P rest) r.outcome r.state

module _ {H : KernelState → Type 0} {P : ℕ → KernelState → Type 0} {n : ℕ} where
  pub ran_in : {s : KernelState} → P n s → Within H n P (ran_to s)
  ran_in h = record { rest = n; few = omega arith; ends = h }

  pub raised_in : {e : KernelEvent} {s : KernelState} (m : ℕ) → m + 1 ≤ n → P m s → Within H n P (raised e s)
  raised_in m w h = record { rest = m; few = omega arith; ends = h }

  pub halted_in : {h : HaltReason} {s : KernelState} {es : List KernelEvent} → length es ≤ n → H s → Within H n P (record { outcome = halt h; state = s; events = es })
  halted_in w g = record { rest = 0; few = omega arith; ends = g }

  pub halt_in : {h : HaltReason} {s : KernelState} → H s → Within H n P (halt_at h s)
  halt_in g = halted_in (omega arith) g

  pub left_in : {s : KernelState} {es : List KernelEvent} → length es ≤ n → H s → Within H n P (record { outcome = left; state = s; events = es })
  left_in w g = record { rest = 0; few = omega arith; ends = g }

  pub ended_in : {ms : List VenueMsg} {s : KernelState} {es : List KernelEvent} → length es ≤ n → H s → Within H n P (record { outcome = ended ms; state = s; events = es })
  ended_in w g = record { rest = 0; few = omega arith; ends = g }

  pub pick_in : (b : Bool) {x y : Run} → Within H n P x → Within H n P y → Within H n P (pick b x y)
  pick_in b h k = pick_case (Within H n P) b _ _ (λ _. h) (λ _. k)

  pub some_in : {A : Type 0} (o : Option A) {k : A → Run} {z : Run} → ((x : A) → Within H n P (k x)) → Within H n P z → Within H n P (on_some o k z)
  some_in o h g = some_case (Within H n P) o _ _ (λ x _. h x) (λ _. g)

  pub taking_in : {A : Type 0} {size : ℕ} {cap : ℕ} {d : A} {i : ℕ} {r : Arr A size} {k : A → Arr A size → Run} {z : Run}
      → ((x : A) (l : Arr A size) → Took cap d i r x l → Within H n P (k x l)) → ((r.count ≤ cap → r.count ≤ i) → Within H n P z) → Within H n P (taking (taken_at cap d i r) k z)
  unfolding taking on_some
  taking_in {k = k} {z = z} h g = take_case _ (λ t. Within H n P (on_some t.got (λ x. k x t.list) z)) _ _ _ h g

  pub putting_in : {A : Type 0} {size : ℕ} {cap : ℕ} (i : ℕ) {v : A} {r : Arr A size} (k : Arr A size → KernelState) (s : KernelState)
      → ((l : Arr A size) → Added cap v r l → P n (k l)) → H s → Within H n P (putting (put_at cap i v r) k s)
  unfolding putting pick
  putting_in i k s h g =
      put_case _ (λ p. Within H n P (pick p.ok (ran_to (k p.list)) (halt_at CounterOverflow s))) _ _ _ (λ l a. ran_in (h l a)) (halt_in g)

  -- where it ran, what is so of what may follow
  pub ran_out : {r : Run} (g : Within H n P r) → r.outcome ≡ ran → P g.rest r.state
  ran_out g e = rw e at g.ends

  -- whatever is so of both ways to end is so at the end
  pub end_out : {r : Run} {Q : KernelState → Type 0} → ((s : KernelState) → H s → Q s) → ((m : ℕ) (s : KernelState) → P m s → Q s) → Within H n P r → Q r.state
  end_out {r} {Q} h p g = go r.outcome g.ends
    where
      go : (o : Outcome) → EndsAt H (P g.rest) o r.state → Q r.state
      go ran x = p _ _ x
      go left x = h _ x
      go (halt w) x = h _ x
      go (ended ms) x = h _ x

module _ {H J : KernelState → Type 0} {P Q : ℕ → KernelState → Type 0} {n : ℕ} where
  -- less is asked where it stopped, and where it ran
  pub map_in : {r : Run} → ((s : KernelState) → H s → J s) → ((m : ℕ) (s : KernelState) → P m s → Q m s) → Within H n P r → Within J n Q r
  map_in {r = r} i f h = record { rest = h.rest; few = h.few; ends = go r.outcome h.ends }
    where
      go : (o : Outcome) → EndsAt H (P h.rest) o r.state → EndsAt J (Q h.rest) o r.state
      go ran x = f h.rest r.state x
      go left x = i r.state x
      go (halt w) x = i r.state x
      go (ended ms) x = i r.state x

module _ {H : KernelState → Type 0} {P Q : ℕ → KernelState → Type 0} {n : ℕ} where
  pub then_in : {a : Run} {k : KernelState → Run} → Within H n P a → ((m : ℕ) (s : KernelState) → P m s → Within H m Q (k s)) → Within H n Q (and_then a k)
  unfolding and_then
  then_in {a = a} {k = k} h f = go a.outcome refl h.ends
    where
      go : (o : Outcome) → a.outcome ≡ o → EndsAt H (P h.rest) o a.state → Within H n Q (on_ran o a (after a.events (k a.state)))
      go ran e x =
          let g : Within H h.rest Q (k a.state) = f h.rest a.state x in
          record { rest = g.rest; few = omega (arith, h.few, g.few, length-append a.events (k a.state).events); ends = g.ends }
      go left e x = record { rest = h.rest; few = h.few; ends = rw e x }
      go (halt w) e x = record { rest = h.rest; few = h.few; ends = rw e x }
      go (ended ms) e x = record { rest = h.rest; few = h.few; ends = rw e x }

-- ---- a loop keeps what each turn keeps, whatever its fuel
pub iter_in : {H : KernelState → Type 0} {P : ℕ → KernelState → Type 0} (step : KernelState → Turn) → ((n : ℕ) (s : KernelState) → P n s → Within H n P (run_of (step s)))
    → (fuel n : ℕ) (s : KernelState) → P n s → Within H n P (iter step fuel s)
unfolding iter
iter_in step h zero n s p = ran_in p
iter_in {H = H} {P = P} step h (suc fuel) n s p = go (step s) (h n s p) (iter_in step h fuel)
  where
    go : (x : Turn) → Within H n P (run_of x) → ((m : ℕ) (t : KernelState) → P m t → Within H m P (iter step fuel t)) → Within H n P (on_turn x (λ r. and_then r (iter step fuel)))
    go (again r) g ih = then_in g ih
    go (last r) g ih = g
