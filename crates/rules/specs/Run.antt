-- What a step of a call gives: how it went, the state, and the events that it raised, in their order. A step that did not run to its end ends what follows it.
use Rattle.std.specs.Prelude.{ℕ, zero, suc, List, [], ◌∷◌, ◌++◌}
use Rattle.numbers.specs.Choice.{pick, on_some}
use Rattle.lists.specs.Lists.{Put, Taken}
use Rattle.book.specs.declared.VenueMsg.{VenueMsg}
use Rattle.state.specs.declared.HaltReason.{HaltReason}
use Rattle.state.specs.declared.HaltReason.TheVariants.{CounterOverflow}
use Rattle.state.specs.declared.KernelEvent.{KernelEvent}
use Rattle.state.specs.declared.KernelState.{KernelState}
use Rattle.lists.specs.declared.Arr.{Arr}

-- how a step went
pub data Outcome : Type 0 where
  -- it ran to its end
  ran : Outcome
  -- an observation paused the walk, or truncated the run: the walk is left
  left : Outcome
  halt : HaltReason → Outcome
  -- end of data, with the messages that were dropped there
  ended : List VenueMsg → Outcome

-- what a step gives
pub record Run : Type 0 where
  pub outcome : Outcome
  pub state : KernelState
  pub events : List KernelEvent

-- a step that leaves s and raises nothing
abbrev pub ran_to : KernelState → Run
ran_to s = record { outcome = ran; state = s; events = [] }

-- a step that leaves s and raises one event
abbrev pub raised : KernelEvent → KernelState → Run
raised e s = record { outcome = ran; state = s; events = e ∷ [] }

-- a step that halts in s; its event is raised by the call
abbrev pub halt_at : HaltReason → KernelState → Run
halt_at h s = record { outcome = halt h; state = s; events = [] }

-- k where a step ran to its end, else that step
abbrev pub on_ran : Outcome → Run → Run → Run
on_ran ran r k = k
on_ran left r k = r
on_ran (halt h) r k = r
on_ran (ended ms) r k = r

-- r, behind events that were raised before it
abbrev pub after : List KernelEvent → Run → Run
after es r = record { outcome = r.outcome; state = r.state; events = es ++ r.events }

-- k from the state that r leaves, if r ran
unfoldable pub and_then : Run → (KernelState → Run) → Run
and_then r k = on_ran r.outcome r (after r.events (k r.state))

-- an entry that goes into a list of the state, which k puts back; "list: full" halts 7
unfoldable pub putting : {A : Type 0} {size : ℕ} → Put A size → (Arr A size → KernelState) → KernelState → Run
putting p k s = pick p.ok (ran_to (k p.list)) (halt_at CounterOverflow s)

-- k of the entry that came out of a list, and of the rest; z where none came out
unfoldable pub taking : {A : Type 0} {size : ℕ} → Taken A size → (A → Arr A size → Run) → Run → Run
taking t k z = on_some t.got (λ x. k x t.list) z

-- a turn of a loop: the loop goes on from where the turn's run leaves, or this run is the last
pub data Turn : Type 0 where
  again : Run → Turn
  last : Run → Turn

-- k of a turn that is not the last
abbrev pub on_turn : Turn → (Run → Run) → Run
on_turn (again r) k = k r
on_turn (last r) k = r

-- at most so many turns; a law shows that those a loop is given always suffice
unfoldable pub iter : (KernelState → Turn) → ℕ → KernelState → Run
iter step zero s = ran_to s
iter step (suc n) s = on_turn (step s) (λ r. and_then r (iter step n))
