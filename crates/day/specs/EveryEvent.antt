-- Every event of a replay is printed, and no `cut`: what is claimed of every run text that is run. The proof is proofs/EveryEvent.antt.
use Rattle.std.specs.Prelude.{ℕ, zero, suc, ◌*◌, List, [], ◌∷◌, ◌++◌, ◌≡◌, take, replicate, None}
use Rattle.numbers.specs.Choice.{pick}
use Rattle.book.specs.declared.config.Config.{Config}
use Rattle.state.specs.declared.KernelEvent.{KernelEvent}
use Rattle.state.specs.declared.KernelState.{KernelState}
use Rattle.rules.specs.Calls.{Answer, advance}
use Rattle.rules.specs.Log.{event_words}
use Rattle.logline.specs.Record.{event_line}
use Rattle.runtext.specs.Read.{Read, read_text}
use Rattle.day.specs.Replay.{has_more, passed_on, last_of, replayed}

-- a line for each event
unfoldable pub lines_of : List KernelEvent → List ℕ
lines_of [] = []
lines_of (e ∷ es) = event_line (event_words e) ++ lines_of es

-- the events of a run of at most so many turns: those of each call, all of them
unfoldable pub raised_events : ℕ → Config → List ℕ → KernelState → List KernelEvent
raised_events zero c rows s = []
raised_events (suc n) c rows s =
    let a : Answer = advance c rows s in
    a.events ++ pick (has_more a.state) (raised_events n c rows (passed_on a.state)) []

-- what is printed of a text that is run: a line for each event of its run, in their order, and the last line. Nothing is left out, and no call adds `cut`
abbrev pub EveryEvent : ℕ → List ℕ → Type 0
EveryEvent turns text =
    let r : Read = read_text text (replicate 2560 0) in
    r.fault ≡ None
    → (end : KernelState) × (filled : ℕ) × (replayed turns text ≡ lines_of (raised_events turns r.script.cfg (take (r.script.rows * 5) r.words) r.script.state) ++ last_of end filled)
