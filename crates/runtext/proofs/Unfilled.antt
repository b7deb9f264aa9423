-- The order of a line has no lots filled. Assumes nothing.
use Rattle.std.specs.Prelude.{Option, Some, None, IfSome}
use Rattle.std.proofs.lemmas.Option.{MatchOption-at_some}
use Prim.Native.Nat.{ℕ}
use mathlib.Core.Bool.{Bool}
use mathlib.Core.List.{List}
use mathlib.Core.Path.{◌≡◌, refl}
use Rattle.numbers.specs.Choice.{pick, on_some}
use Rattle.lists.proofs.Cases.{pick_case, some_case}
use Rattle.runline.specs.Lines.{config_line, queue_line, fill_line, order_line, cancel_line, row_line, line_of}
use Rattle.runline.specs.declared.Line.{Line}
use Rattle.runline.specs.declared.Line.TheVariants as line

unfoldable pub Unfilled : Line → Type 0
Unfilled (line.Config cfg seed) = Unit {0}
Unfilled (line.Fill f) = Unit {0}
Unfilled (line.Order o life) = o.filled ≡ 0
Unfilled (line.Cancel eff id) = Unit {0}
Unfilled (line.Row t) = Unit {0}

-- a bad line has no order
abbrev Reads : Option Line → Type 0
Reads l = IfSome l Unfilled

-- a line by a test, else a bad one
test_reads : (b : Bool) (l : Option Line) → Reads l → Reads (pick b l None)
test_reads b l h = pick_case Reads b l _ (λ _. h) (λ _. tt)

-- a line by a number or a side, else a bad one
some_reads : {A : Type 0} (o : Option A) (k : A → Option Line) → ((x : A) → Reads (k x)) → Reads (on_some o k None)
some_reads o k h = some_case Reads o k _ (λ x _. h x) (λ _. tt)

-- each kind of line: `c`
config_reads : (fs : List (List ℕ)) → Reads (config_line fs)
unfolding config_line Unfilled
config_reads fs =
    test_reads _ _ (some_reads _ _ λ _. some_reads _ _ λ _. some_reads _ _ λ _. some_reads _ _ λ _. some_reads _ _ λ _. some_reads _ _ λ _. tt)

-- `f`
fill_reads : (fs : List (List ℕ)) → Reads (fill_line fs)
unfolding fill_line queue_line Unfilled
fill_reads fs =
    pick_case Reads _ _ _ (λ _. test_reads _ _ tt)
    (λ _. test_reads _ _ (test_reads _ _ (some_reads _ _ λ _. some_reads _ _ λ _. some_reads _ _ λ _. tt)))

-- `o`: here `filled` is 0
order_reads : (fs : List (List ℕ)) → Reads (order_line fs)
unfolding order_line Unfilled
order_reads fs =
    test_reads _ _ (some_reads _ _ λ _. some_reads _ _ λ _. some_reads _ _ λ _. some_reads _ _ λ _. some_reads _ _ λ _. some_reads _ _ λ _. refl)

-- `x`
cancel_reads : (fs : List (List ℕ)) → Reads (cancel_line fs)
unfolding cancel_line Unfilled
cancel_reads fs = test_reads _ _ (some_reads _ _ λ _. some_reads _ _ λ _. tt)

-- `r`
row_reads : (fs : List (List ℕ)) → Reads (row_line fs)
unfolding row_line Unfilled
row_reads fs = test_reads _ _ (some_reads _ _ λ _. some_reads _ _ λ _. some_reads _ _ λ _. some_reads _ _ λ _. some_reads _ _ λ _. tt)

-- whatever the fields say
line_reads : (fs : List (List ℕ)) → Reads (line_of fs)
unfolding line_of
line_reads fs =
    pick_case Reads _ _ _ (λ _. config_reads _)
    (λ _. pick_case Reads _ _ _ (λ _. fill_reads _)
    (λ _. pick_case Reads _ _ _ (λ _. order_reads _)
    (λ _. pick_case Reads _ _ _ (λ _. cancel_reads _)
    (λ _. test_reads _ _ (row_reads _)))))

pub line_unfilled : (fs : List (List ℕ)) (l : Line) → line_of fs ≡ Some l → Unfilled l
line_unfilled fs l e = MatchOption-at_some _ Unfilled l e (line_reads fs)
