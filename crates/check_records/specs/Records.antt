-- What the programs that compare go by: the numbers in the files of data, the count of comparisons, and nominal codes.
-- Definitions only.
use Rattle.std.specs.Prelude.{ℕ, zero, suc, ◌+◌, ◌*◌, ◌-◌, ◌/◌, ◌%◌, ◌^◌, ◌≤◌, ◌<◌, min, ◌≡◌, Bool, true, false, ◌&&◌, cond, List, eqb, leb, length, get_or, Result, Ok, Err}
use Rattle.check_records.specs.declared.tally.Tally.{Tally}

-- the 16-bit number at a place, low byte first
abbrev pub u16_at : List ℕ → ℕ → ℕ
u16_at bs i = get_or bs i 0 + 256 * get_or bs (i + 1) 0

-- the 32-bit number at a place, low byte first
abbrev pub u32_at : List ℕ → ℕ → ℕ
u32_at bs i = u16_at bs i + 65536 * u16_at bs (i + 2)

-- what is due: the values of a record, or the number of the refusal where that is not 0
abbrev pub due : {A : Type 0} → ℕ → A → Result A ℕ
due n a = cond (eqb n 0) (Ok a) (Err n)

-- the first n bytes of two buffers are there and the same
unfoldable pub same_to : List ℕ → List ℕ → ℕ → Bool
same_to a b zero = true
same_to a b (suc n) = same_to a b n && eqb (get_or a n 0) (get_or b n 0)

abbrev pub begin_alike : List ℕ → List ℕ → ℕ → Bool
begin_alike a b n = leb n (length a) && leb n (length b) && same_to a b n

-- one more than a count; the greatest count stays, so that none begins anew at 0
abbrev pub more : ℕ → ℕ
more n = min (n + 1) (2 ^ 64 - 1)

abbrev pub none : Tally
none = record { compared = 0; differ = 0 }

-- a tally after one comparison more, which was the same or not
unfoldable pub tallied : Tally → Bool → Tally
tallied t true = record { compared = more t.compared; differ = t.differ }
tallied t false = record { compared = more t.compared; differ = more t.differ }

-- the tally of the first n cases
unfoldable pub tally_to : (ℕ → Bool) → ℕ → Tally
tally_to same zero = none
tally_to same (suc n) = tallied (tally_to same n) (same n)

-- a tally at the end of its data, of which so many bytes are left: they are a case that is cut off, and it differs
unfoldable pub ended : Tally → ℕ → Tally
ended t left = cond (eqb left 0) t (tallied t false)

-- of so many bytes in records of a size: what is told of the place of each is `same` of its number
abbrev pub TellsEach : (ℕ → Bool → Type 0) → ℕ → ℕ → (ℕ → Bool) → Type 0
TellsEach Told bytes size same = (i : ℕ) (told : Bool) → i < bytes / size → Told (size * i) told → told ≡ same i

-- their tally
abbrev pub tally_by : ℕ → ℕ → (ℕ → Bool) → Tally
tally_by bytes size same = ended (tally_to same (bytes / size)) (bytes % size)

-- the tally of data in records of a size
abbrev pub tally_of : ℕ → (List ℕ → ℕ → Bool) → List ℕ → Tally
tally_of size same bs = tally_by (length bs) size (same bs)

-- ---- records of any size, one behind the other; size has the bytes of the one at a place

-- the place of record n
unfoldable pub place : (ℕ → ℕ) → ℕ → ℕ
place size zero = 0
place size (suc n) = place size n + size (place size n)

-- the state after the first n records, by what the one at a place makes of a state
unfoldable pub state_to : {S : Type 0} → (ℕ → ℕ) → (ℕ → S → S) → S → ℕ → S
state_to size step s zero = s
state_to size step s (suc n) = step (place size n) (state_to size step s n)

-- t is the tally that the records which are there whole leave; bytes that are left are a record that is cut off, and it differs
pub record Compared {S : Type 0} (size : ℕ → ℕ) (step : ℕ → S → S) (s : S) (tally : S → Tally) (bytes : ℕ) (t : Tally) : Type 0 where
  pub count : ℕ
  pub whole : place size count ≤ bytes
  pub no_more : bytes < place size (suc count)
  pub is : t ≡ ended (tally (state_to size step s count)) (bytes - place size count)

-- s of a system's number: 1, 4, 4 and, from 4 on, 16
abbrev pub scale_of : ℕ → ℕ
scale_of n = cond (eqb n 1) 1 (cond (eqb n 2) 4 (cond (eqb n 3) 4 16))
