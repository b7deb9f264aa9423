-- Of a replay that reaches end of data: the calls before that one. The theorems about every run text that is run are proofs/Start.antt.
use Rattle.std.specs.Prelude.{List, [], ◌∷◌, ◌≡◌}
use Rattle.state.specs.declared.KernelState.{KernelState}
use Rattle.rules.specs.Calls.{Did, refused, stays, halts, ends}
use Rattle.rules.specs.Conservation.{Call, answer_to, result}

-- a call that did this neither halted nor reached end of data
abbrev pub GoesOn : Did → Type 0
GoesOn (refused r) = Unit {0}
GoesOn stays = Unit {0}
GoesOn (halts h) = ⊥
GoesOn (ends dropped) = ⊥

-- from s none of these calls halts or reaches end of data, and t is the state that they leave
unfoldable pub GoOn : List Call → KernelState → KernelState → Type 0
GoOn [] s t = s ≡ t
GoOn (c ∷ cs) s t = GoesOn (answer_to c s).did × GoOn cs (result c s).state t
