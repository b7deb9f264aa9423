-- The two positions: the venue's with what is sold and undelivered is the agent's with what is bought and undelivered. Assumes nothing.
use Prim.Native.Nat.{ℕ, ◌+◌}
use mathlib.Core.Path.{◌≡◌, sym, ap, ◌∙◌, subst₂}
use native.Mathlib.Nat.{zero-add}
use lib.IntN.{ℤ, pos, ◌+ℤ◌, ◌-ℤ◌, neg_ℤ, +ℤ_assoc, +ℤ_comm, +ℤ_invr, +ℤ_idr}
use Rattle.book.specs.Entries.{on_side}
use Rattle.book.specs.declared.Side.{Side}
use Rattle.book.specs.declared.Side.TheVariants.{Buy, Sell}
use Rattle.rules.specs.Conservation.{of_side}
use Rattle.rules.proofs.Cases.{moved_by}

-- ---- in any group where the order of a sum is free
module _ {G : Type 0} (plus : G → G → G) (neg : G → G) (nil : G) (assoc : (a b c : G) → plus (plus a b) c ≡ plus a (plus b c)) (comm : (a b : G) → plus a b ≡ plus b a) (inv : (a : G) → plus a (neg a) ≡ nil) (idr : (a : G) → plus a nil ≡ a) where
  swap : (a b c : G) → plus (plus a b) c ≡ plus (plus a c) b
  swap a b c = assoc a b c ∙ ap (plus a) (comm b c) ∙ sym (assoc a c b)

  back : (a n : G) → plus (plus a n) (neg n) ≡ a
  back a n = assoc a n (neg n) ∙ ap (plus a) (inv n) ∙ idr a

  forth : (a n : G) → plus (plus a (neg n)) n ≡ a
  forth a n = swap a (neg n) n ∙ back a n

  g_buy : (v a b s n : G) → plus v s ≡ plus a b → plus (plus v n) s ≡ plus a (plus n b)
  g_buy v a b s n h = swap v n s ∙ ap (λ x. plus x n) h ∙ assoc a b n ∙ ap (plus a) (comm b n)

  g_sell : (v a b s n : G) → plus v s ≡ plus a b → plus (plus v (neg n)) (plus n s) ≡ plus a b
  g_sell v a b s n h = sym (assoc (plus v (neg n)) n s) ∙ ap (λ x. plus x s) (forth v n) ∙ h

  g_bought : (v a b s n : G) → plus v s ≡ plus a (plus n b) → plus v s ≡ plus (plus a n) b
  g_bought v a b s n h = h ∙ sym (assoc a n b)

  g_sold : (v a b s n : G) → plus v (plus n s) ≡ plus a b → plus v s ≡ plus (plus a (neg n)) b
  g_sold v a b s n h = sym (back (plus v s) n) ∙ ap (λ x. plus x (neg n)) (assoc v s n ∙ ap (plus v) (comm s n) ∙ h) ∙ swap a b (neg n)

  g_apart : (v a b s : G) → plus v s ≡ plus a b → plus v (neg a) ≡ plus b (neg s)
  g_apart v a b s h =
      ap (λ x. plus x (neg a)) (sym (back v s)) ∙ swap (plus v s) (neg s) (neg a) ∙ ap (λ x. plus (plus x (neg a)) (neg s)) (h ∙ comm a b) ∙ ap (λ x. plus x (neg s)) (back b a)

  g_joined : (v a b s : G) → plus v (neg a) ≡ plus b (neg s) → plus v s ≡ plus a b
  g_joined v a b s h =
      ap (λ x. plus x s) (sym (forth v a)) ∙ swap (plus v (neg a)) a s ∙ ap (λ x. plus (plus x s) a) h ∙ ap (λ x. plus x a) (forth b s) ∙ comm b a

-- ---- of positions
-- venue v and agent a, with b lots bought and s lots sold that are not delivered
unfoldable pub Balanced : ℤ → ℤ → ℕ → ℕ → Type 0
Balanced v a b s = v +ℤ pos s ≡ a +ℤ pos b

pub balanced-same : (v a : ℤ) (b c s r : ℕ) → b ≡ c → s ≡ r → Balanced v a b s → Balanced v a c r
balanced-same v a b c s r p q h = subst₂ (λ x y. Balanced v a x y) p q h

pub balanced-apart : (v a : ℤ) (b s : ℕ) → Balanced v a b s → v -ℤ a ≡ pos b -ℤ pos s
unfolding Balanced
balanced-apart v a b s h = g_apart ◌+ℤ◌ neg_ℤ (pos 0) +ℤ_assoc +ℤ_comm +ℤ_invr +ℤ_idr v a (pos b) (pos s) h

pub balanced-joined : (v a : ℤ) (b s : ℕ) → v -ℤ a ≡ pos b -ℤ pos s → Balanced v a b s
unfolding Balanced
balanced-joined v a b s h = g_joined ◌+ℤ◌ neg_ℤ (pos 0) +ℤ_assoc +ℤ_comm +ℤ_invr +ℤ_idr v a (pos b) (pos s) h

pub balanced_equal : (v a : ℤ) → Balanced v a 0 0 → v ≡ a
unfolding Balanced
balanced_equal v a h = sym (+ℤ_idr v) ∙ h ∙ +ℤ_idr a

-- the venue's position moves: a fill is undelivered
pub balanced-venue : (d : Side) (n : ℕ) (v a : ℤ) (b s : ℕ) → Balanced v a b s → Balanced (moved_by d n v) a (of_side Buy d n + b) (of_side Sell d n + s)
unfolding Balanced on_side
balanced-venue Buy n v a b s h = rw zero-add (g_buy ◌+ℤ◌ neg_ℤ (pos 0) +ℤ_assoc +ℤ_comm +ℤ_invr +ℤ_idr v a (pos b) (pos s) (pos n) h)
balanced-venue Sell n v a b s h = rw zero-add (g_sell ◌+ℤ◌ neg_ℤ (pos 0) +ℤ_assoc +ℤ_comm +ℤ_invr +ℤ_idr v a (pos b) (pos s) (pos n) h)

-- the agent's position moves: a fill is delivered
pub balanced_agent : (d : Side) (n : ℕ) (v a : ℤ) (b s : ℕ) → Balanced v a (of_side Buy d n + b) (of_side Sell d n + s) → Balanced v (moved_by d n a) b s
unfolding Balanced on_side
balanced_agent Buy n v a b s h = g_bought ◌+ℤ◌ neg_ℤ (pos 0) +ℤ_assoc +ℤ_comm +ℤ_invr +ℤ_idr v a (pos b) (pos s) (pos n) (rw zero-add at h)
balanced_agent Sell n v a b s h = g_sold ◌+ℤ◌ neg_ℤ (pos 0) +ℤ_assoc +ℤ_comm +ℤ_invr +ℤ_idr v a (pos b) (pos s) (pos n) (rw zero-add at h)
