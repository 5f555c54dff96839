-- The decimal digits of a number, by its tenth and its last digit, and how many there are.
-- Assumes nothing.
use mathlib.Core.Path.{◌≡◌, sym, ap, ◌∙◌}
use mathlib.Core.List.{[], ◌∷◌, ◌++◌}
use Prim.Native.Nat.{ℕ, suc, ◌+◌, ◌/◌, ◌%◌, ◌^◌, ◌≤◌, ◌<◌}
use native.Mathlib.Omega.{arith}
use lib.ListN.{length, length-append}
use Rattle.std.proofs.Common.{rules}
use Rattle.std.specs.Fmt as formats
use Rattle.std.proofs.lemmas.Fmt.{AppendsLastDigit, decimal_from_appends, decimal_digit, decimal_step, length-decimal-le, length-decimal-le_succ}
use Rattle.listing.specs.Listing.{glyph, digits_to, decimal}

last_behind : AppendsLastDigit digits_to
unfolding digits_to
last_behind = search rules

-- the library's decimal text of a number
pub as_written : (n : ℕ) → n < 2 ^ 64 → formats.decimal n ≡ decimal n
as_written n h = sym (decimal_from_appends digits_to last_behind (suc n) n h (omega (arith, length-decimal-le_succ n h)))

pub below_ten : (n : ℕ) → n < 10 → decimal n ≡ glyph n ∷ []
below_ten n h = rw (← as_written n (omega arith)) (decimal_digit n h)

pub from_ten : (n : ℕ) → 10 ≤ n → n < 2 ^ 64 → decimal n ≡ decimal (n / 10) ++ glyph (n % 10) ∷ []
from_ten n h l = rw (← as_written n l, ← as_written (n / 10) (omega arith)) (decimal_step n h l)

pub one_more_digit : (n : ℕ) → 10 ≤ n → n < 2 ^ 64 → length (decimal n) ≡ length (decimal (n / 10)) + 1
one_more_digit n h l = ap length (from_ten n h l) ∙ length-append (decimal (n / 10)) (glyph (n % 10) ∷ [])

pub code_digits : (n : ℕ) → n < 65536 → length (decimal n) ≤ 5
code_digits n h = rw (← as_written n (omega arith)) (length-decimal-le 5 n (omega arith) (omega arith) (omega arith))

pub word_digits : (n : ℕ) → n < 2 ^ 32 → length (decimal n) ≤ 10
word_digits n h = rw (← as_written n (omega arith)) (length-decimal-le 10 n (omega arith) (omega arith) (omega arith))
