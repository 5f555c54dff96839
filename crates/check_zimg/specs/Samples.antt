-- The samples of the files that reference/zimg_rows.c makes, and how near the conversion is to them. Definitions only.
use Rattle.std.specs.Prelude.{ℕ, zero, suc, ◌+◌, ◌*◌, ◌-◌, ◌/◌, ◌%◌, Bool, false, ◌&&◌, cond, List, eqb, leb, length}
use Rattle.exact.specs.Outcome.{Outcome, accepted, refused}
use Rattle.systems.specs.declared.Codes.{Codes}
use Rattle.matrix.specs.declared.Clipped.{Clipped}
use Rattle.matrix.specs.declared.Encoding.TheVariants.{Plain}
use Rattle.matrix.specs.declared.Limited.{Limited}
use Rattle.matrix.specs.declared.Words.{Words}
use Rattle.matrix.specs.Triples.{words_of_codes, codes_of_words}
use Rattle.check_records.specs.Records.{none, tallied, scale_of}
use Rattle.check_samples.specs.Samples.{words_in, codes_in}
use Rattle.check_zimg.specs.declared.comparison.Comparison.{Comparison}
use Rattle.check_zimg.specs.declared.nearness.Nearness.{Nearness}
use Rattle.check_zimg.specs.declared.sample.Sample.{Sample}

-- the grid of 20 levels a side that zimg was given, where B' changes fastest: 16s + 219s·i/19, counted again from 0 after the last
abbrev pub level : ℕ → ℕ → ℕ
level n i = 16 * scale_of n + 219 * scale_of n * (i % 20) / 19

abbrev pub grid_codes : ℕ → ℕ → Codes
grid_codes n i = record { r = level n (i / 400); g = level n (i / 20); b = level n i }

-- sample i: the codes that zimg was given, its words, and its codes of these words
abbrev pub sample_at : ℕ → List ℕ → ℕ → Sample
sample_at n bs i = record { given = grid_codes n i; words = words_in bs (12 * i); codes = codes_in bs (12 * i + 6) }

-- one comparison more: whether two numbers are the same, and whether they are one apart at most
abbrev pub apart : ℕ → ℕ → ℕ
apart a b = (a - b) + (b - a)

unfoldable pub nearer : Nearness → ℕ → ℕ → Nearness
nearer f a b = record { same = tallied f.same (eqb (apart a b) 0); near = tallied f.near (leb (apart a b) 1) }

-- three comparisons more that differ
unfoldable pub off : Nearness → Nearness
off f = record { same = tallied (tallied (tallied f.same false) false) false; near = tallied (tallied (tallied f.near false) false) false }

-- our words beside zimg's
abbrev pub words_near : Outcome Limited → Nearness → Words → Nearness
words_near (accepted l) f v = nearer (nearer (nearer f l.words.y v.y) l.words.cb v.cb) l.words.cr v.cr
words_near (refused k) f v = off f

-- our codes beside zimg's
abbrev pub codes_near : Outcome Clipped → Nearness → Codes → Nearness
codes_near (accepted c) f d = nearer (nearer (nearer f c.codes.r d.r) c.codes.g d.g) c.codes.b d.b
codes_near (refused k) f d = off f

-- no code of ours is clipped
abbrev pub unclipped : Outcome Clipped → Bool
unclipped (accepted c) = eqb c.clips.low 0 && eqb c.clips.high 0
unclipped (refused k) = false

-- the comparison after one sample more
unfoldable pub compared : ℕ → Comparison → Sample → Comparison
compared n f s = record {
  words = words_near (words_of_codes n Plain s.given) f.words s.words;
  codes = codes_near (codes_of_words n s.words) f.codes s.codes;
  clipped = tallied f.clipped (unclipped (codes_of_words n s.words));
}

unfoldable pub compared_to : ℕ → List ℕ → ℕ → Comparison
compared_to n bs zero = record { words = record { same = none; near = none }; codes = record { same = none; near = none }; clipped = none }
compared_to n bs (suc i) = compared n (compared_to n bs i) (sample_at n bs i)

-- a sample that is cut off differs
unfoldable pub ended : Comparison → ℕ → Comparison
ended f left = cond (eqb left 0) f (record { words = off f.words; codes = off f.codes; clipped = tallied f.clipped false })

-- the comparison of a system's file, in records of 12 bytes
abbrev pub comparison_of : ℕ → List ℕ → Comparison
comparison_of n bs = ended (compared_to n bs (length bs / 12)) (length bs % 12)
