-- N3, "Fewer copies in the lists": what is claimed of every insertion and every removal, of any kind of entry. The number of stores is part of what they give (Lists `put_at`, `taken_at`). The proof is proofs/Stores.antt.
use Rattle.std.specs.Prelude.{ℕ, ◌+◌, ◌-◌, ◌≤◌, ◌≡◌, List, length, take, drop, is_some}
use Rattle.numbers.specs.Choice.{pick}
use Rattle.lists.specs.declared.Arr.{Arr}
use Rattle.lists.specs.Lists.{put_at, taken_at}

-- the slots l are the slots k but, at most, for the m from place i on
pub record Window {A : Type 0} (i m : ℕ) (k l : List A) : Type 0 where
  pub before : take i l ≡ take i k
  pub behind : drop (i + m) l ≡ drop (i + m) k

pub record Stores {A : Type 0} {n : ℕ} (cap i : ℕ) (v blank : A) (r : Arr A n) : Type 0 where
  -- "for an insertion the entries from the place on and one more", "and 0 where nothing is done"
  pub inserted : (put_at cap i v r).stores ≡ pick (put_at cap i v r).ok (r.count - i + 1) 0
  -- "for a removal the entries from its place on, the blank counted"
  pub removed : (taken_at cap blank i r).stores ≡ pick (is_some (taken_at cap blank i r).got) (r.count - i) 0
  -- "store only to the slots from its place onwards", and to no more than it says: of every list with as many slots as its capacity, which each list of the code has
  pub inserting : cap ≤ length r.slots → Window i (put_at cap i v r).stores r.slots (put_at cap i v r).list.slots
  pub removing : cap ≤ length r.slots → Window i (taken_at cap blank i r).stores r.slots (taken_at cap blank i r).list.slots
