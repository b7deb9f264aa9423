-- `min_by_key` over three optional events in a row takes the one that the rules take. Assumes nothing.
use Prim.Native.Nat.{ℕ}
use mathlib.Core.List.{List, [], ◌∷◌, ◌++◌}
use mathlib.Core.Path.{◌≡◌, ap, subst, ◌∙◌}
use native.Mathlib.Omega.{arith}
use denote.Param.Members.{Mut}
use denote.Ref.{Bor}
use Rattle.std.proofs.Common.{Ordering}
use Rattle.std.specs.Prelude.{Option, Some, None}
use Rattle.std.specs.Fn.{CalledAt}
use Rattle.std.specs.Iterator.{Drains, KeyTurn, PicksMinByKey}
use Rattle.std.specs.List.{FoldsTo, reduce}
use Rattle.std.specs.Option.{MatchOption, option_to_list}
use Rattle.std.specs.Ordering.{nat_cmp, min_by_ordering}
use Rattle.std.proofs.lemmas.Iterator.{YieldsList}
use Rattle.std.proofs.lemmas.Iterator.Consumers.{reduce_from_yields_List}
use Rattle.numbers.specs.Choice.{pick}
use Rattle.rules.specs.Events.{sooner}
use Rattle.walk.specs.Events.{rule_next}
use Rattle.walk.specs.declared.Due.{Due}

-- the earlier of two, at equal times the first
abbrev earlier : Due → Due → Due
earlier d e = min_by_ordering (nat_cmp d.at_ns e.at_ns) d e

key-earlier : (o : Ordering) (d e : Due) → min_by_ordering o d.at_ns e.at_ns ≡ (min_by_ordering o d e).at_ns
key-earlier o d e = grind arith

-- ---- the calls of `min_by_key`, whose key is the time
module _ {F : Type 0} {g : Mut F (Bor Due × Unit {0}) ℕ} {f : F} (key : (d : Due) (n : ℕ) (q : F) → CalledAt g f d n q → (q ≡ f) × (n ≡ d.at_ns)) where
  turns : (ds : List Due) (p q : (F × ℕ) × Due) → p.0.0 ≡ f → p.0.1 ≡ p.1.at_ns
      → FoldsTo {P = (F × ℕ) × Due} (KeyTurn min_by_ordering min_by_ordering g nat_cmp) p ds q → FoldsTo (λ d e c. c ≡ earlier d e) p.1 ds q.1
  turns [] p q same at h = ap (λ w. w.1) h
  turns (e ∷ ds) p q same at h =
      let m = key e h.1.0 h.0.0.0 (subst (λ w. CalledAt g w e h.1.0 h.0.0.0) same h.1.2) in
      (h.0.1, cc (at, m.1, h.1.3, h.1.5), turns ds h.0 q m.0 (cc (at, m.1, h.1.4, h.1.5, key-earlier h.1.1 p.1 e)) h.2)

  picks : {S : Type 0} (steps : S → Option Due → S → Type 0) (s : S) (r : Option Due) → PicksMinByKey steps g nat_cmp s f r
      → MatchOption r (Drains steps s []) (λ y. (x : Due) × (xs : List Due) × Drains steps s (x ∷ xs) × FoldsTo (λ d e c. c ≡ earlier d e) x xs y)
  picks steps s None h = h
  picks steps s (Some y) h = let m = key h.0 h.2 h.3 h.6 in (h.0, h.1, h.5, turns h.1 ((h.3, h.2), h.0) (h.4, y) m.0 m.1 h.7)

-- what the rules choose
least : (a b c : Option Due) → rule_next (reduce earlier (option_to_list a ++ (option_to_list b ++ option_to_list c))) ≡ sooner (rule_next a) (sooner (rule_next b) (rule_next c))
unfolding sooner pick
least a b c = grind arith

pub earliest : {S F : Type 0} {steps : S → Option Due → S → Type 0} {s : S} {g : Mut F (Bor Due × Unit {0}) ℕ} {f : F} (a b c r : Option Due) → PicksMinByKey steps g nat_cmp s f r
    → YieldsList steps (λ d. d) s (option_to_list a ++ (option_to_list b ++ option_to_list c))
    → ((d : Due) (n : ℕ) (q : F) → CalledAt g f d n q → (q ≡ f) × (n ≡ d.at_ns))
    → rule_next r ≡ sooner (rule_next a) (sooner (rule_next b) (rule_next c))
earliest {steps = steps} {s} a b c r ran road key = ap rule_next (reduce_from_yields_List earlier s r (picks key steps s r ran) road) ∙ least a b c
