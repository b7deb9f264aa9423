-- The two exits of `turns`, and what it prints. Assumes nothing.
use Prim.Native.Nat.{ℕ, ◌+◌, ◌*◌, ◌/◌, ◌≤◌, ◌<◌}
use mathlib.Core.Bool.{Bool, true, false}
use mathlib.Core.List.{List, [], ◌++◌}
use mathlib.Core.Path.{◌≡◌, sym, ap, ◌∙◌}
use native.Mathlib.Omega.{arith}
use lib.ListN.{length, take, drop, get_or}
use lib.Seq.{take-append_seam}
use Rattle.std.specs.Prelude.{is_ok}
use Rattle.numbers.specs.Choice.{pick}
use Rattle.state.specs.Numbers.{is_terminal_phase}
use Rattle.book.specs.declared.config.Config.{Config}
use Rattle.rules.specs.Calls as calls
use Rattle.rules.specs.Batch.{BatchResult, run, returned_run}
use Rattle.entry.specs.Entry.{passed}
use Rattle.entry.proofs.Answered.{ran_by}
use Rattle.batch.specs.Batch.{actual_run}
use Rattle.batch.specs.declared.Advanced.{Advanced}
use Rattle.kernel.specs.declared.Passed.{Passed}
use Rattle.write.specs.declared.Writer.{Writer}
use Rattle.write.specs.Write.{Text, text_at, texted, text_of, written}
use Rattle.lines.specs.Print.{call_text, filled_after}
use Rattle.lines.proofs.Whole.{Words, printed-whole}
use Rattle.day.specs.Replay.{has_more, passed_on}
use Rattle.day.specs.Day.{TurnsResult, batch_passes, turned, actual_turns, PrintsTurns}
use Rattle.day.specs.declared.Progress.{Progress}
use Rattle.day.proofs.Batches.{printed_by, whole_batch}

-- a is what `run` gave, w the log that it left, v the text with its lines, m the lots filled
module _ (c : Config) (rows : List ℕ) (from : Progress) (log : List ℕ) (text : Writer)
    (a : Advanced) (w : List ℕ) (e : actual_run a w ≡ returned_run log (run c rows (length log / 12) batch_passes from.state))
    (v : Writer) (g : v ≡ written text (call_text w a.events a.last))
    (m : ℕ) (h : m ≡ filled_after from.filled w a.events a.last) where
  -- what is left, by the state that the batch left and what it raised
  whole : turned c rows from log text
      ≡ record { more = has_more a.state; progress = record { state = passed_on a.state; filled = m }; log = w; text = v }
  unfolding turned
  whole =
      ap (λ (b : BatchResult). record { more = has_more b.state; progress = record { state = passed_on b.state; filled = filled_after from.filled b.log b.count b.last }; log = b.log; text = written text (call_text b.log b.count b.last) }) (sym e)
      ∙ rw (h, g)

  -- more and to are what is left
  module _ (more : Bool) (to : Progress) (i : actual_turns more to w v ≡ turned c rows from log text) where
    -- it prints what its turns print
    pub prints : ((i : ℕ) → get_or w i 0 < 18446744073709551616) → length w ≡ length log → length log ≡ 12276 → text.len ≡ 0 → length text.out.now ≡ 131072
        → PrintsTurns c rows from more to (take v.len v.out.now)
    unfolding Words
    prints words kept few front room =
        let r : length w / 12 * 110 + 4 ≤ length text.out.now = rw (kept, few, room) (omega arith) in
        let f : text_of text ≡ text_at text.out.now 0 = ap (text_at text.out.now) front in
        let z : text_of v ≡ text_at (call_text w a.events a.last ++ drop (length (call_text w a.events a.last)) text.out.now) (length (call_text w a.events a.last))
        = ap text_of g ∙ ap (λ (t : Text). texted t (call_text w a.events a.last)) f ∙ printed-whole w a.events a.last words text.out.now r in
        let p : take v.len v.out.now ≡ call_text w a.events a.last
        = rw (ap (λ (x : Text). x.next) z, ap (λ (x : Text). x.bytes) z) (take-append_seam (call_text w a.events a.last) (drop (length (call_text w a.events a.last)) text.out.now)) in
        let o : actual_turns more to w v ≡ record { more = has_more a.state; progress = record { state = passed_on a.state; filled = m }; log = w; text = v } = i ∙ whole in
        let b = whole_batch c rows log few from.filled batch_passes from.state in (
          b.0,
          λ k. rw
              (p, ap (λ (x : TurnsResult). x.more) o, ap (λ (x : TurnsResult). x.progress) o, h)
              (ap (printed_by c rows log few from.filled k) e ∙ b.1 k),
        )

  -- k: whether the run has ended
  module _ (k : Bool) (i : k ≡ is_terminal_phase a.state.control.phase) where
    pub ends : k ≡ true → actual_turns false (record { state = a.state; filled = m }) w v ≡ turned c rows from log text
    unfolding has_more passed_on pick
    ends z = rw (whole, ← i, z)

    pub goes_on_lem : k ≡ false → (p : Passed) → passed p.answer p.state ≡ calls.returned [] (calls.pass a.state)
        → (o : Bool) → o ≡ is_ok p.answer
        → actual_turns o (record { state = p.state; filled = m }) w v ≡ turned c rows from log text
    unfolding has_more passed_on pick
    goes_on_lem z p q o r = rw (whole, ← i, z, r, ran_by p.answer, ap (λ (x : calls.Result). x.answer) q, ap (λ (x : calls.Result). x.state) q)
