-- "Every list is a count beside a fixed row of slots": the operations, of any kind of entry. Each is said of the live entries, then of what stands after them.
-- A count above the capacity, a place past the end and a full list leave the list as it is.
use Rattle.std.specs.Prelude.{ℕ, suc, ◌+◌, ◌-◌, Bool, true, false, List, [], ◌∷◌, ◌++◌, ltb, leb, take, drop, get_or, set, replicate, is_ok, Option, Some, None, Result}
use Rattle.std.specs.List.{position, position_or_len}
use Rattle.lists.specs.declared.Arr.{Arr}
use Rattle.lists.specs.declared.Counted.{Counted}
use Rattle.lists.specs.declared.Full.{Full}
use Rattle.numbers.specs.Choice.{pick}

-- what putting an entry in answers: ok is false where it does not go in, and stores says how many slots were stored to
pub record Put (A : Type 0) (n : ℕ) : Type 0 where
  pub ok : Bool
  pub stores : ℕ
  pub list : Arr A n

-- what taking an entry out answers
pub record Taken (A : Type 0) (n : ℕ) : Type 0 where
  pub got : Option A
  pub stores : ℕ
  pub list : Arr A n

-- what storing over an entry answers
pub record StoredAt (A : Type 0) (n : ℕ) : Type 0 where
  pub ok : Bool
  pub list : Arr A n

-- what the code's answers say, beside the list that they leave
abbrev pub put_of : {A : Type 0} {n : ℕ} → Counted (Result (Unit {0}) Full) → Arr A n → Put A n
put_of r l = record { ok = is_ok r.answer; stores = r.stores; list = l }

-- and of one that takes an entry out
abbrev pub taken_of : {A : Type 0} {n : ℕ} → Counted (Option A) → Arr A n → Taken A n
taken_of r l = record { got = r.answer; stores = r.stores; list = l }

-- and of one that stores over an entry
abbrev pub stored_of : {A : Type 0} {n : ℕ} → Result (Unit {0}) Full → Arr A n → StoredAt A n
stored_of r l = record { ok = is_ok r; list = l }

-- no entry, and n blank slots
abbrev pub empty : {A : Type 0} (n : ℕ) → A → Arr A n
empty n blank = record { slots = replicate n blank; count = 0 }

module _ {A : Type 0} where
  -- l with v at place i: what stood there and after it stands one place later
  unfoldable pub insert_at : ℕ → A → List A → List A
  insert_at i v l = take i l ++ v ∷ drop i l

  -- l without the entry at place i
  unfoldable pub remove_at : ℕ → List A → List A
  remove_at i l = take i l ++ drop (suc i) l

  -- the place before the first that fits: how many entries stand there, all of them where none fits
  unfoldable pub before : (A → Bool) → List A → ℕ
  before p l = position_or_len p l

  -- the place of the first that fits
  unfoldable pub found_in : (A → Bool) → List A → Option ℕ
  found_in p l = position p l

module _ {A : Type 0} {n : ℕ} where
  -- the slots below the count
  abbrev pub below : Arr A n → List A
  below r = take r.count r.slots

  -- the live entries of a list of capacity cap: a count above it has none
  unfoldable pub live : ℕ → Arr A n → List A
  live cap r = pick (leb r.count cap) (below r) []

  -- v stands at place i, and the slot at the count is overwritten
  unfoldable pub placed : ℕ → A → Arr A n → Arr A n
  placed i v r = record { slots = insert_at i v (below r) ++ drop (r.count + 1) r.slots; count = r.count + 1 }

  -- the entry at place i is gone, and the last live slot has become blank
  unfoldable pub without : A → ℕ → Arr A n → Arr A n
  without blank i r = record { slots = remove_at i (below r) ++ blank ∷ drop r.count r.slots; count = r.count - 1 }

  -- nothing went in
  abbrev pub not_put : Arr A n → Put A n
  not_put r = record { ok = false; stores = 0; list = r }

  -- v goes in at place i, where there is room and i is no further than the first free slot: the entries from there on are stored, and one more
  unfoldable pub put_at : ℕ → ℕ → A → Arr A n → Put A n
  put_at cap i v r =
      pick (ltb r.count cap)
      (pick (leb i r.count) (record { ok = true; stores = r.count - i + 1; list = placed i v r }) (not_put r))
      (not_put r)

  -- v goes in behind the last
  abbrev pub pushed : ℕ → A → Arr A n → Put A n
  pushed cap v r = put_at cap r.count v r

  -- v goes in before the first that fits, else behind the last
  abbrev pub put_before : ℕ → (A → Bool) → A → Arr A n → Put A n
  put_before cap p v r = put_at cap (before p (live cap r)) v r

  -- nothing came out
  abbrev pub not_taken : Arr A n → Taken A n
  not_taken r = record { got = None; stores = 0; list = r }

  -- the entry at place i comes out: the entries behind it are stored, and a blank
  unfoldable pub taken_at : ℕ → A → ℕ → Arr A n → Taken A n
  taken_at cap blank i r =
      pick (leb r.count cap)
      (pick (ltb i r.count) (record { got = Some (get_or r.slots i blank); stores = r.count - i; list = without blank i r }) (not_taken r))
      (not_taken r)

  -- the first comes out
  abbrev pub popped : ℕ → A → Arr A n → Taken A n
  popped cap blank r = taken_at cap blank 0 r

  -- the live entry at place i
  unfoldable pub entry_at : ℕ → A → ℕ → Arr A n → Option A
  entry_at cap blank i r = pick (leb r.count cap) (pick (ltb i r.count) (Some (get_or r.slots i blank)) None) None

  -- the live entry at place i becomes v
  unfoldable pub store_at : ℕ → ℕ → A → Arr A n → StoredAt A n
  store_at cap i v r =
      pick (leb r.count cap)
      (pick (ltb i r.count) (record { ok = true; list = record { slots = set r.slots i v; count = r.count } }) (record { ok = false; list = r }))
      (record { ok = false; list = r })

  -- no entry is live, and the slots below the count have become blank
  unfoldable pub emptied : ℕ → A → Arr A n → Arr A n
  emptied cap blank r = pick (leb r.count cap) (record { slots = replicate r.count blank ++ drop r.count r.slots; count = 0 }) r

-- the sum of f over the entries
unfoldable pub total : {A : Type 0} → (A → ℕ) → List A → ℕ
total f [] = 0
total f (x ∷ l) = f x + total f l
