-- What `replay` prints, joined from the text to the last line: document 01's sample, whole, and texts that are not run. Assumes nothing.
use Rattle.std.specs.Prelude.{Some}
use Prim.Native.Nat.{ℕ, suc, ◌<◌}
use mathlib.Core.List.{List}
use mathlib.Core.Path.{◌≡◌, refl}
use lib.ListN.{length, replicate}
use Rattle.rules.specs.Log.{event_words, written}
use Rattle.rules.proofs.Sample as rules
use Rattle.text.specs.Bytes.{bytes}
use Rattle.write.specs.Write.{digits, decimal, signed}
use Rattle.logline.specs.Record.{all, kind_name, report_line, fill_line, short_line, one_line, line_on, event_line}
use Rattle.lines.specs.Print.{printed, call_text, filled_lots, filled_from, filled_after, last_line, bad_line, retired_line}
use Rattle.runtext.specs.declared.Fault.{Fault}
use Rattle.runtext.specs.declared.Fault.TheVariants.{TooLong, Line, Retired}
use Rattle.runtext.specs.Read.{read_text}
use Rattle.runtext.proofs.Examples as runtext
use Rattle.day.specs.Replay.{has_more, passed_on, turns_from, fault_line, unless_faulty, replayed}

-- "prints whole:". It has two turns, and no further one changes anything
pub sample : (n : ℕ) → replayed (suc (suc n)) (bytes "c 1000 0 1 0 7 9\nf now\no 10 1 B 101 5 0\nr 20 99 4 101 6\n")
    ≡ bytes "report 10 0 1 accepted 0\nfill 20 0 1 5 101\nreport 20 1 1 fill 5\nobserved 0 20\nrowend 0 20\ndelivered 10 0 1 accepted 0\ndelivered 20 1 1 fill 5\neod 0 0\nposition 5 live 0 0 filled 5\n"
unfolding unless_faulty replayed
sample n = rw runtext.sample (unfold rules.third event_words written digits decimal signed all kind_name report_line fill_line short_line one_line line_on event_line printed call_text filled_lots filled_from filled_after last_line has_more passed_on turns_from in refl)

-- "The first bad line .. prints `bad N` .. and nothing else."; "prints `retired N` with the line number and nothing runs"
pub fault_alone : (n : ℕ) (f : Fault) (text : List ℕ) → (read_text text (replicate 2560 0)).fault ≡ Some f → replayed n text ≡ fault_line f
unfolding unless_faulty replayed
fault_alone n f text h = rw h

-- a text that is empty, one whose third line has no side, and one that is too long; one whose fill mode has a minimum, and the same with a bad line behind it
faulty-texts : (n : ℕ)
    → (replayed n (bytes "") ≡ bytes "bad 1\n")
    × (replayed n (bytes "c 1000 0 1 0 7 9\nf now\no 10 1 101 5 0\nr 20 99 4 101 6\n") ≡ bytes "bad 3\n")
    × ((text : List ℕ) → 65536 < length text → replayed n text ≡ bytes "bad 0\n")
    × (replayed n (bytes "c 1000 0 1 0 7 9\nf queue 3 2 1\nr 20 99 4 101 6\n") ≡ bytes "retired 2\n")
    × (replayed n (bytes "c 1000 0 1 0 7 9\nf queue 3 2 1\nr 20 99 4 101\n") ≡ bytes "bad 3\n")
unfolding runtext.fault_of digits decimal all bad_line retired_line fault_line
faulty-texts n =
    let e : runtext.fault_of "c 1000 0 1 0 7 9\nf now\no 10 1 101 5 0\nr 20 99 4 101 6\n" ≡ Some (Line 3) = refl in
    let m : runtext.fault_of "c 1000 0 1 0 7 9\nf queue 3 2 1\nr 20 99 4 101 6\n" ≡ Some Retired = refl in
    let b : runtext.fault_of "c 1000 0 1 0 7 9\nf queue 3 2 1\nr 20 99 4 101\n" ≡ Some (Line 3) = refl in
    (fault_alone n (Line 1) _ refl, fault_alone n (Line 3) _ e, (λ text h. fault_alone n TooLong text (runtext.too_long text _ h)), fault_alone n Retired _ m, fault_alone n (Line 3) _ b)
