-- Each kind of line by the numbers that were read of it. Assumes nothing.
use Rattle.std.specs.Prelude.{Option, Some, None, slice_get}
use Rattle.std.specs.Option.{option_map}
use Prim.Native.Nat.{ℕ, zero, suc}
use mathlib.Core.Path.{◌≡◌, refl, ap, ◌∙◌}
use mathlib.Core.Bool.{Bool, true, false}
use mathlib.Core.List.{List, [], ◌∷◌}
use native.Mathlib.Numerals.{add-one}
use native.Mathlib.Nat.{add-zero}
use native.Mathlib.Omega.{arith}
use lib.Dec.{eqb}
use lib.ListN.{length, get_or, drop, length-drop}
use lib.Seq.{drop-drop, get_or-drop}
use Rattle.std.proofs.lemmas.Bool.Decides.{nat_tests}
use Rattle.numbers.specs.Choice.{pick, on_some}
use Rattle.book.specs.declared.OrderState.TheVariants.{Submitted}
use Rattle.book.specs.declared.Side.{Side}
use Rattle.book.specs.declared.config.FillMode.TheVariants.{Immediate, QueuePosition}
use Rattle.book.specs.Ticks.{tick_of}
use Rattle.text.specs.Fields.{number}
use Rattle.text.proofs.CursorLaws.{first_some, first_none}
use Rattle.runline.specs.Lines.{number_at, side_of, config_line, queue_line, order_line, cancel_line, row_line}
use Rattle.runline.specs.Numbers.{numbers, only_numbers}
use Rattle.runline.specs.declared.Line.{Line}
use Rattle.runline.specs.declared.Line.TheVariants.{Config, Fill, Order, Cancel, Row}

-- k of n numbers from place i on
abbrev reads : ℕ → ℕ → List (List ℕ) → (List ℕ → Option Line) → Option Line
reads zero i fs k = k []
reads (suc n) i fs k = number_at fs i (λ x. reads n (suc i) fs (λ w. k (x ∷ w)))

reads_are : (n i : ℕ) (fs : List (List ℕ)) (k : List ℕ → Option Line) → reads n i fs k ≡ on_some (numbers n (drop i fs)) k None
unfolding numbers on_some
reads_are zero i fs k = refl
reads_are (suc n) i fs k = rw (get_or-drop i fs 0 [], add-zero, drop-drop, add-one) (cases (number (get_or fs i [])) (λ x. reads_are n (suc i) fs (λ w. k (x ∷ w))))
  where
    tail : (x : ℕ) (o : Option (List ℕ)) → on_some o (λ w. k (x ∷ w)) None ≡ on_some (option_map (λ w. x ∷ w) o) k None
    tail x None = refl
    tail x (Some w) = refl

    cases : (o : Option ℕ) → ((x : ℕ) → reads n (suc i) fs (λ w. k (x ∷ w)) ≡ on_some (numbers n (drop (suc i) fs)) (λ w. k (x ∷ w)) None)
        → on_some o (λ x. reads n (suc i) fs (λ w. k (x ∷ w))) None ≡ on_some (on_some o (λ x. option_map (λ w. x ∷ w) (numbers n (drop (suc i) fs))) None) k None
    cases None h = refl
    cases (Some x) h = h x ∙ tail x (numbers n (drop (suc i) fs))

-- a test of all fields, on some of them
inside : {A : Type 0} (t : Bool) (o : Option A) (k : A → Option Line) → pick t (on_some o k None) None ≡ on_some o (λ x. pick t (k x) None) None
unfolding pick on_some
inside true o k = refl
inside false None k = refl
inside false (Some x) k = refl

around : {A : Type 0} (t : Bool) (o : Option A) (k : A → Option Line) → pick t (on_some o k None) None ≡ on_some (pick t o None) k None
unfolding pick on_some
around true o k = refl
around false o k = refl

each : {A : Type 0} (o : Option A) {k m : A → Option Line} → ((x : A) → k x ≡ m x) → on_some o k None ≡ on_some o m None
unfolding on_some
each None h = refl
each (Some x) h = h x

-- a field that is not there writes no side
pub no_side : (fs : List (List ℕ)) → None ≡ slice_get fs 0 → None ≡ side_of (get_or fs 0 [])
unfolding side_of pick
no_side fs e = rw (first_none fs e)

module _ (fs : List (List ℕ)) where
  all_of : (n : ℕ) (k : List ℕ → Option Line) → pick (eqb (length fs) n) (reads n 0 fs k) None ≡ on_some (only_numbers n fs) k None
  unfolding only_numbers
  all_of n k = rw reads_are (around (eqb (length fs) n) (numbers n fs) k)

  pub config_is : config_line fs
      ≡ on_some (only_numbers 6 fs) (λ w. Some (Config (record { quantum_ns = get_or w 0 0; observation_q = get_or w 1 0; ack_q = get_or w 2 0; jitter_q = get_or w 3 0; ceiling_ns = 0; s_max = get_or w 5 0; fill = Immediate }) (get_or w 4 0))) None
  unfolding config_line
  config_is = all_of 6 _

  pub queue_is : queue_line fs ≡ on_some (only_numbers 3 fs) (λ w. Some (Fill (QueuePosition (get_or w 0 0) (get_or w 1 0) (get_or w 2 0)))) None
  unfolding queue_line
  queue_is = all_of 3 _

  pub cancel_is : cancel_line fs ≡ on_some (only_numbers 2 fs) (λ w. Some (Cancel (get_or w 0 0) (get_or w 1 0))) None
  unfolding cancel_line
  cancel_is = all_of 2 _

  pub row_is : row_line fs ≡ on_some (only_numbers 5 fs) (λ w. Some (Row (tick_of w))) None
  unfolding row_line
  row_is = all_of 5 _

  abbrev order_of : List ℕ → Side → List ℕ → Option Line
  order_of v side w = Some (Order (record { id = get_or v 1 0; side = side; price = get_or w 0 0; qty = get_or w 1 0; filled = 0; state = Submitted; active_after_ns = get_or v 0 0; cancel_inflight = false }) (get_or w 2 0))

  -- all fields are six where those behind the side are three
  six : eqb (length (drop 3 fs)) 3 ≡ eqb (length fs) 6
  six = rw length-drop (grind (arith, nat_tests))

  -- the numbers behind the side
  back : (v : List ℕ) (side : Side) → pick (eqb (length fs) 6) (reads 3 3 fs (order_of v side)) None ≡ on_some (only_numbers 3 (drop 3 fs)) (order_of v side) None
  unfolding only_numbers
  back v side = rw (reads_are, six) (around (eqb (length fs) 6) (numbers 3 (drop 3 fs)) (order_of v side))

  pub order_is : order_line fs
      ≡ on_some (numbers 2 fs) (λ v. on_some (side_of (get_or (drop 2 fs) 0 [])) (λ side. on_some (only_numbers 3 (drop 1 (drop 2 fs))) (order_of v side) None) None) None
  unfolding order_line
  order_is =
      let t : Bool = eqb (length fs) 6 in
      let side : Option Side = side_of (get_or fs 2 []) in
      rw (get_or-drop 2 fs 0 [], drop-drop)
      (ap (λ (x : Option Line). pick t x None) (reads_are 2 0 fs (λ v. on_some side (λ d. reads 3 3 fs (order_of v d)) None))
      ∙ inside t (numbers 2 fs) (λ v. on_some side (λ d. reads 3 3 fs (order_of v d)) None)
      ∙ each (numbers 2 fs) (λ v. inside t side (λ d. reads 3 3 fs (order_of v d)) ∙ each side (λ d. back v d)))

-- for code that reads an order
pub ruleset order = (order_is, first_some, no_side)
