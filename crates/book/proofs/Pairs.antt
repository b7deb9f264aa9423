-- Pairs of numbers are compared by the first, and at an equal first by the second. Assumes nothing.
use Rattle.std.proofs.Common.{Some, Ordering, Less, Equal, Greater, ◌≡◌, ℕ, ◌<◌, Bool, sym, ltb, eqb, le-ltb, lt-ltb, arith}
use borrow.Author.Tests.{eq-eqb, ne_eqb}
use Rattle.std.specs.Cmp.{ranks}
use Rattle.std.specs.Ordering.{nat_cmp, partial_ordering_then, is_some_and, is_gt, MatchOrdering}
use Rattle.numbers.specs.Choice.{pick}

above_second : (b q : ℕ) (r : Ordering) → MatchOrdering r (b < q) (b ≡ q) (q < b) → is_gt r ≡ ltb q b
above_second b q Less h = sym (le-ltb q b (omega (arith, h)))
above_second b q Equal h = sym (le-ltb q b (omega (arith, h)))
above_second b q Greater h = sym (lt-ltb q b h)

above_first : (a t : ℕ) (r s : Ordering) (later : Bool) → MatchOrdering r (a < t) (a ≡ t) (t < a) → is_gt s ≡ later → is_some_and is_gt (partial_ordering_then (Some r) (Some s)) ≡ pick (eqb a t) later (ltb t a)
unfolding pick
above_first a t Less s later h e = simp (ne_eqb a t (λ k. omega (arith, h, k)), le-ltb t a (omega (arith, h)))
above_first a t Equal s later h e = simp (eq-eqb a t h, e)
above_first a t Greater s later h e = simp (ne_eqb a t (λ k. omega (arith, h, k)), lt-ltb t a h)

pub pair_above : (a b t q : ℕ) → is_some_and is_gt (partial_ordering_then (Some (nat_cmp a t)) (Some (nat_cmp b q))) ≡ pick (eqb a t) (ltb q b) (ltb t a)
pair_above a b t q = above_first a t (nat_cmp a t) (nat_cmp b q) (ltb q b) (ranks a t) (above_second b q (nat_cmp b q) (ranks b q))
