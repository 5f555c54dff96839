-- The listing that document 01 gives as its example ('Bench values'), in the form of request 2026-07.
-- Assumes nothing.
use mathlib.Core.Path.{◌≡◌, refl}
use mathlib.Core.List.{List, [], ◌∷◌, ◌++◌}
use Prim.Native.Nat.{ℕ}
use Rattle.exact.specs.Signed.{rounded}
use Rattle.matrix.specs.Triples.{codes_at}
use Rattle.block.specs.Read.{sections, walk, within_to, judge, codes_to, clips_to, header_of}
use Rattle.listing.specs.Listing.{digits_to, system_word, row_word, samples_word, low_word, high_word, line_end, clips_end, header_line, line, lines_to, listing}

-- 01 00 00 01 00 EB 00 01 00 80 00 01 00 80 00
abbrev grey : List ℕ
grey = 1 ∷ 0 ∷ 0 ∷ 1 ∷ 0 ∷ 235 ∷ 0 ∷ 1 ∷ 0 ∷ 128 ∷ 0 ∷ 1 ∷ 0 ∷ 128 ∷ 0 ∷ []

-- '235'
abbrev white : List ℕ
white = 50 ∷ 51 ∷ 53 ∷ []

-- 'system 1 row 0 samples 1 low 0 high 0', '235 235 235'
pub grey_listed : listing grey ≡ system_word ++ 49 ∷ row_word ++ 48 ∷ samples_word ++ 49 ∷ low_word ++ 48 ∷ high_word ++ 48 ∷ line_end ++ white ++ 32 ∷ white ++ 32 ∷ white ++ line_end
unfolding rounded codes_at sections walk within_to judge codes_to clips_to header_of digits_to clips_end header_line line lines_to
grey_listed = refl
