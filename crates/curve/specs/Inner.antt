-- Inner definitions: what the lookup needs of a table of boundary lights and of an index into it. Nothing here has to be believed.
-- Definitions only.
use Rattle.std.specs.Prelude.{◌≡◌, List, ℕ, suc, ◌+◌, ◌*◌, ◌/◌, ◌^◌, ◌≤◌, ◌<◌, length, get_or}
use Rattle.systems.specs.declared.System.{System}
use Rattle.systems.specs.Systems.{bits, scale}
use Rattle.curve.specs.Curve.{full_light, code}

-- the lights 0 to `full`, and each one's code: `first` or one of the `above` codes after it
pub record Quantiser : Type 0 where
  pub full : ℕ
  pub first : ℕ
  pub above : ℕ
  pub code : ℕ → ℕ

-- the quantiser of a system
abbrev pub quantiser_of : System → Quantiser
quantiser_of y = record { full = full_light; first = 16 * scale y; above = 219 * scale y; code = code y }

-- entry j is the least light whose code is at least the first + j + 1
pub record Boundaries (q : Quantiser) (t : List ℕ) : Type 0 where
  pub size : length t ≡ q.above
  pub from : (j k : ℕ) → j < length t → get_or t j 0 ≤ k → q.first + suc j ≤ q.code k
  pub before : (j k : ℕ) → j < length t → k < get_or t j 0 → q.code k < q.first + suc j

-- the index has an entry n for each bucket of w lights, and the bucket's codes run from the first + n to the first + n + 2; a
-- bucket is no wider than the lights
pub record Index (q : Quantiser) (w : ℕ) (x : List ℕ) : Type 0 where
  pub width : w ≤ q.full
  pub size : (k : ℕ) → k ≤ q.full → k / w < length x
  pub room : (k : ℕ) → k ≤ q.full → get_or x (k / w) 0 + 2 ≤ q.above
  pub from : (k : ℕ) → k ≤ q.full → q.first + get_or x (k / w) 0 ≤ q.code k
  pub to : (k : ℕ) → k ≤ q.full → q.code k ≤ q.first + get_or x (k / w) 0 + 2

-- a table and its index, ready for the lookup of codes
pub record Ready (q : Quantiser) (w : ℕ) (t x : List ℕ) : Type 0 where
  pub boundaries : Boundaries q t
  pub index : Index q w x

-- ready for a system's codes, the light's bits above the lowest h being its place in the index
abbrev pub ReadyFor : System → ℕ → List ℕ → List ℕ → Type 0
ReadyFor y h t x = Ready (quantiser_of y) (2 ^ h) t x

-- boundaries, and such an index, for every system of n bits
abbrev pub BoundariesAt : ℕ → List ℕ → Type 0
BoundariesAt n t = (y : System) → bits y ≡ n → Boundaries (quantiser_of y) t

abbrev pub IndexAt : ℕ → ℕ → List ℕ → Type 0
IndexAt n h x = (y : System) → bits y ≡ n → Index (quantiser_of y) (2 ^ h) x
