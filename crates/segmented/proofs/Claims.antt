-- What is claimed of calls that move rows, whoever makes them (request 2026-01).
-- Definitions only.
use Prim.Native.Nat.{ℕ, ◌+◌, ◌*◌, ◌/◌, ◌<◌, ◌≤◌}
use mathlib.Core.Path.{◌≡◌}
use mathlib.Core.List.{List}
use lib.ListN.{length}
use Rattle.exact.specs.Outcome.{Outcome, accepted, refused}
use Rattle.segmented.specs.declared.Order.{Order}
use Rattle.segmented.specs.declared.Order.TheVariants.{Segmented, Progressive}
use Rattle.segmented.specs.Segmented.{total_line, source, byte_row}

-- calls, by what they do: the order into which rows are brought, the bytes lent to read and those lent to write; the answer, and the second buffer as it was left
abbrev pub Calls : Type 1
Calls = Order → List ℕ → List ℕ → Outcome (Unit {0}) → List ℕ → Type 0

-- the order that undoes another
abbrev pub other : Order → Order
other Segmented = Progressive
other Progressive = Segmented

-- two buffers of 1080 rows of n bytes, at least one each
pub record Rows (n : ℕ) (bs out : List ℕ) : Type 0 where
  pub some : 1 ≤ n
  pub first : length bs ≡ n * 1080
  pub second : length out ≡ n * 1080

-- row r of a buffer of 1080 rows
abbrev pub row_of : List ℕ → ℕ → List ℕ
row_of bs r = byte_row (length bs / 1080) bs r

-- row r comes to one place and to no other
pub record Once (o : Order) (r : ℕ) : Type 0 where
  pub place : ℕ
  pub within : place < 1080
  pub there : source o place ≡ r
  pub only : (k : ℕ) → k < 1080 → source o k ≡ r → k ≡ place

-- the rows of bs have come to out in an order, whole and each of them once
pub record Arranged (o : Order) (bs out : List ℕ) : Type 0 where
  pub long : length out ≡ length bs
  pub rows : (k : ℕ) → k < 1080 → row_of out k ≡ row_of bs (source o k)
  pub once : (r : ℕ) → r < 1080 → Once o r

pub record Claimed (Call : Calls) : Type 0 where
  -- along the segmented order total lines rise; row r is active line r + 1
  pub rises : (p q : ℕ) → p < q → q < 1080 → total_line (source Segmented p + 1) < total_line (source Segmented q + 1)
  -- an accepted call brings the rows into the order
  pub arranges : {o : Order} {bs out left : List ℕ} → Call o bs out (accepted tt) left → Arranged o bs left
  -- each way undoes the other
  pub undoes : {o : Order} {bs mid mid' out out' : List ℕ} → Call o bs mid (accepted tt) mid' → Call (other o) mid' out (accepted tt) out' → out' ≡ bs
  -- two such buffers are accepted, and no others; a refusal has the number 31 and writes nothing
  pub accepts : {o : Order} {bs out left : List ℕ} {answer : Outcome (Unit {0})} (n : ℕ) → Rows n bs out → Call o bs out answer left → answer ≡ accepted tt
  pub only : {o : Order} {bs out left : List ℕ} → Call o bs out (accepted tt) left → Rows (length bs / 1080) bs out
  pub refuses : {o : Order} {bs out left : List ℕ} {n : ℕ} → Call o bs out (refused n) left → (n ≡ 31) × (left ≡ out)
  -- any two buffers come to something, in either order
  pub happens : (o : Order) (bs out : List ℕ) → (answer : Outcome (Unit {0})) × (left : List ℕ) × Call o bs out answer left
