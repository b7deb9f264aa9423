-- What acts, by the expiry that was tested before: the rules' `acts` is that. Assumes nothing.
use Prim.Native.Nat.{ℕ, ◌+◌}
use mathlib.Core.Bool.{Bool, true, false, ◌&&◌}
use mathlib.Core.Path.{◌≡◌, refl}
use lib.Dec.{ltb}
use Rattle.std.specs.Prelude.{Option, Some, None, Ok, Err}
use Rattle.numbers.specs.Choice.{pick, on_some}
use Rattle.numbers.specs.Words.{fits, fitting}
use Rattle.book.specs.declared.MsgKind.{MsgKind}
use Rattle.book.specs.declared.MsgKind.TheVariants.{Cancel, Activate, Expire}
use Rattle.book.specs.declared.config.Config.{Config}
use Rattle.state.specs.declared.HaltReason.TheVariants.{TimeOverflow, CounterOverflow}
use Rattle.state.specs.declared.KernelState.{KernelState}
use Rattle.rules.specs.Run.{halt_at}
use Rattle.rules.specs.Messages.{valid, activate, activation, acts}
use Rattle.messages.specs.Acts.{expiry_of, on_expiry, acts_at}

pub acts-tested : (c : Config) (k : MsgKind) (s t : KernelState) → acts c k s t ≡ on_expiry (expiry_of k s.seqs.next_msg_seq) s (λ at. acts_at c k at t)
unfolding activation
acts-tested c (Cancel id) s t = refl
acts-tested c (Expire id) s t = refl
acts-tested c (Activate o life) s t = go (valid o && ltb 0 life) (fitting (o.active_after_ns + life)) (fits (s.seqs.next_msg_seq + 1))
  where
    go : (b : Bool) (x : Option ℕ) (f : Bool)
        → pick b (on_some x (λ at. pick f (activate c o (Some at) t) (halt_at CounterOverflow s)) (halt_at TimeOverflow s)) (activate c o None t)
        ≡ on_expiry (pick b (on_some x (λ at. pick f (Ok (Some at)) (Err CounterOverflow)) (Err TimeOverflow)) (Ok None)) s (λ at. activate c o at t)
    go false x f = unfold pick in refl
    go true None f = unfold pick on_some in refl
    go true (Some at) false = unfold pick on_some in refl
    go true (Some at) true = unfold pick on_some in refl
