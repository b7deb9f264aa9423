-- What `day::Progress::turns` leaves: a batch of calls, its lines, and a pass.
use Rattle.std.specs.Prelude.{ℕ, suc, ◌+◌, ◌/◌, Bool, List, ◌++◌, ◌≡◌, length}
use Rattle.numbers.specs.Choice.{pick}
use Rattle.book.specs.declared.config.Config.{Config}
use Rattle.rules.specs.Batch.{BatchResult, run, returned_run}
use Rattle.write.specs.declared.Writer.{Writer}
use Rattle.write.specs.Write.{written}
use Rattle.lines.specs.Print.{call_text, filled_after}
use Rattle.day.specs.Replay.{has_more, passed_on, last_of, turns_from}
use Rattle.day.specs.declared.Progress.{Progress}

-- what turns leave: whether the run goes on, how far it has come, the log, and the text with what they print
pub record TurnsResult : Type 0 where
  pub more : Bool
  pub progress : Progress
  pub log : List ℕ
  pub text : Writer

-- the passes of a batch: as many as a run file has rows
abbrev pub batch_passes : ℕ
batch_passes = 512

-- a batch, its lines and, unless it ended the run, a pass
unfoldable pub turned : Config → List ℕ → Progress → List ℕ → Writer → TurnsResult
turned c rows p log text =
    let b : BatchResult = returned_run log (run c rows (length log / 12) batch_passes p.state) in
    record {
      more = has_more b.state;
      progress = record { state = passed_on b.state; filled = filled_after p.filled b.log b.count b.last };
      log = b.log;
      text = written text (call_text b.log b.count b.last);
    }

-- what the code hands back, with what it was lent
abbrev pub actual_turns : Bool → Progress → List ℕ → Writer → TurnsResult
actual_turns more p log text = record { more = more; progress = p; log = log; text = text }

-- the batch stands for one turn of document 01 or more: what it printed, and what n turns behind it print, is what they print together
abbrev pub PrintsTurns : Config → List ℕ → Progress → Bool → Progress → List ℕ → Type 0
PrintsTurns c rows from more to out =
    (turns : ℕ) × ((n : ℕ) → out ++ pick more (turns_from n c rows to.state to.filled) (last_of to.state to.filled) ≡ turns_from (suc (turns + n)) c rows from.state from.filled)
