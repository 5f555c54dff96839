-- Inner definitions: the way that words go, and what inner functions say to each other. Nothing here has to be believed.
-- Definitions only.
use Rattle.std.specs.Prelude.{ℕ, ◌+◌, ◌*◌, ◌-◌, ◌<◌, ◌≤◌, cond, List, ◌++◌, ltb, length, take}
use Rattle.exact.specs.Whole.{INT}
use Rattle.systems.specs.declared.Range.{Range}
use Rattle.systems.specs.declared.System.{System}
use Rattle.systems.specs.Systems.{bits, video_data}
use Rattle.block.specs.Block.{tabulate}
use Rattle.block.specs.Read.{field_at}
use Rattle.depth.specs.declared.Way.{Way}
use Rattle.depth.specs.declared.Way.TheVariants.{Up, Down}
use Rattle.depth.specs.Depth.{over}

-- the way from y to z
abbrev pub way_to : System → System → Way
way_to y z = cond (ltb (bits y) (bits z)) Up Down

-- a word that goes a way
abbrev pub word_by : Way → ℕ → ℕ
word_by Up w = 4 * w
word_by Down w = INT w 4

-- the words of y that give none of the timing codes: upward all of video data, downward all but the two greatest
abbrev pub passing : Way → System → Range
passing Up y = video_data y
passing Down y = record { low = (video_data y).low; high = (video_data y).high - 2 }

-- the words of n fields from a place on, after they went a way
abbrev pub words_by : Way → List ℕ → ℕ → ℕ → List ℕ
words_by way bs at n = tabulate (λ i. word_by way (field_at bs (at + 2 * i))) n

-- n fields from a place on of 12 bits at most, and room for as many in a buffer of so many bytes
pub record Movable (bs : List ℕ) (at n room : ℕ) : Type 0 where
  pub there : at + 2 * n ≤ length bs
  pub near : at ≤ 65536
  pub few : n ≤ 7680
  pub narrow : (i : ℕ) → i < n → field_at bs (at + 2 * i) < 4096
  pub fits : at + 2 * n ≤ room

-- d with p from a place on
unfoldable pub over_at : ℕ → List ℕ → List ℕ → List ℕ
over_at at p d = over (take at d ++ p) d
