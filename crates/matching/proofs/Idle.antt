-- A sweep that finds no terminal order changes nothing. Assumes nothing.
use Prim.Native.Nat.{ℕ}
use mathlib.Core.Bool.{Bool, true, false}
use mathlib.Core.List.{List}
use mathlib.Core.Path.{◌≡◌, refl, sym, ap, ◌∙◌}
use native.Mathlib.Omega.{arith}
use lib.Dec.{leb, ltb}
use lib.ListN.{length, get_or, take}
use lib.Seq.{get_or-take}
use borrow.Author.Tests.{ltb-true, ltb-false}
use Rattle.std.specs.Prelude.{Option, Some, None, not, cond}
use Rattle.std.proofs.lemmas.Bool.{not-true}
use Rattle.std.proofs.lemmas.List.{get_or_past}
use Rattle.std.proofs.lemmas.List.Sums.{prefix_len_passes}
use Rattle.numbers.specs.Choice.{pick, on_some}
use Rattle.lists.specs.Lists.{before, found_in, live, entry_at}
use Rattle.lists.proofs.Cases.{pick_case, some_case, different}
use Rattle.book.specs.Capacities.{orders_capacity}
use Rattle.book.specs.Entries.{blank_order, is_terminal}
use Rattle.orders.specs.Rows.{Orders}
use Rattle.book.specs.declared.VenueOrder.{VenueOrder}
use Rattle.state.specs.declared.KernelState.{KernelState}
use Rattle.rules.specs.Run.{ran_to}
use Rattle.rules.specs.Matching.{terminal_at, sweep}
use Rattle.matching.proofs.Passes.{sweep_idle}

-- whether a live order is terminal
unfoldable pub any_terminal : Orders → Bool
any_terminal os = on_some (found_in (λ o. is_terminal o.state) (live orders_capacity os)) (λ i. true) false

-- ---- a search that finds none: no entry fits
module _ {A : Type 0} (p : A → Bool) (d : A) (z : p d ≡ false) where
  none_found : (l : List A) → found_in p l ≡ None → (i : ℕ) → p (get_or l i d) ≡ false
  unfolding found_in before
  none_found l h i = go (ltb (before p l) (length l)) (ltb i (length l)) refl refl h
    where
      go : (b c : Bool) → ltb (before p l) (length l) ≡ b → ltb i (length l) ≡ c → cond b (Some (before p l)) None ≡ None → p (get_or l i d) ≡ false
      go true c e f k = different cc
      go false true e f k = not-true _ (prefix_len_passes (λ x. not (p x)) l i d (omega (arith, ltb-false _ _ e, ltb-true _ _ f)))
      go false false e f k = rw (get_or_past l i d (ltb-false _ _ f)) z

-- ---- no live order is terminal
module _ (os : Orders) (h : any_terminal os ≡ false) where
  abbrev ends : VenueOrder → Bool
  ends o = is_terminal o.state

  found_none : found_in ends (live 8 os) ≡ None
  unfolding any_terminal
  found_none = some_case (λ (b : Bool). b ≡ false → found_in ends (live 8 os) ≡ None) (found_in ends (live 8 os)) (λ _. true) false
      (λ _ _ e. different cc) (λ e _. e) h

  live-is : leb os.count 8 ≡ true → live 8 os ≡ take os.count os.slots
  unfolding live pick
  live-is a = rw a

  still-at : (i : ℕ) → on_some (entry_at 8 blank_order i os) ends false ≡ false
  unfolding entry_at on_some
  still-at i =
      let P : Option VenueOrder → Type 0 = λ x. on_some x ends false ≡ false in
      pick_case P (leb os.count 8) _ _ (λ a. pick_case P (ltb i os.count) _ _
      (λ b. ap ends (sym (get_or-take os.count os.slots i blank_order (ltb-true _ _ b)) ∙ ap (λ (l : List VenueOrder). get_or l i blank_order) (sym (live-is a))) ∙ none_found ends blank_order refl _ found_none i)
      (λ _. refl)) (λ _. refl)

pub none_terminal : (s : KernelState) → any_terminal s.orders ≡ false → sweep s ≡ ran_to s
unfolding sweep terminal_at
none_terminal s h = sweep_idle s (still-at s.orders h) s.orders.count 0
