-- Text written into a lent row of bytes, and numbers as text.
use Rattle.std.specs.Prelude.{ℕ, zero, suc, ◌+◌, ◌/◌, ◌%◌, List, [], ◌∷◌, ◌++◌, ltb, ℤ, pos, negsuc, length, set}
use Rattle.numbers.specs.Choice.{pick}
use Rattle.write.specs.declared.Writer.{Writer}

-- the bytes, and the place of the next one
pub record Text : Type 0 where
  pub bytes : List ℕ
  pub next : ℕ

-- bytes of which those before a place are written
abbrev pub text_at : List ℕ → ℕ → Text
text_at bs n = record { bytes = bs; next = n }

-- a byte past the end is not written
unfoldable pub put : Text → ℕ → Text
put t b = pick (ltb t.next (length t.bytes)) (text_at (set t.bytes t.next b) (t.next + 1)) t

-- bytes one by one
unfoldable pub texted : Text → List ℕ → Text
texted t [] = t
texted t (b ∷ l) = texted (put t b) l

-- what a writer has written
abbrev pub text_of : Writer → Text
text_of w = text_at w.out.now w.len

-- a writer that has written t, to the same reference
abbrev pub with_text : Writer → Text → Writer
with_text w t = record { out = record w.out { now = t.bytes }; len = t.next }

-- a writer with these bytes behind its own
abbrev pub written : Writer → List ℕ → Writer
written w l = with_text w (texted (text_of w) l)

-- the last digit
abbrev pub digit : ℕ → ℕ
digit n = 48 + n % 10

-- the digits of n: the last behind those of n / 10. There are no more of them than the fuel, if that is above n
unfoldable pub digits : ℕ → ℕ → List ℕ
digits zero n = []
digits (suc k) n = pick (ltb n 10) (digit n ∷ []) (digits k (n / 10) ++ (digit n ∷ []))

unfoldable pub decimal : ℕ → List ℕ
decimal n = digits (suc n) n

-- with a minus where it is below 0
unfoldable pub signed : ℤ → List ℕ
signed (pos n) = decimal n
signed (negsuc n) = 45 ∷ decimal (n + 1)
