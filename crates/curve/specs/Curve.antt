-- Light to code (document 01, 'Light to code'). A light k of u means L = k/u; a system has the scale s, and its α and β are
-- a and b of 10000. Definitions only.
use Rattle.std.specs.Prelude.{ℕ, ◌+◌, ◌*◌, ◌-◌, ◌^◌, Bool, true, false, leb, ltb, eqb}
use Rattle.exact.specs.Whole.{INT, greatest, least}
use Rattle.systems.specs.declared.System.{System}
use Rattle.systems.specs.Systems.{scale, transfer}

-- L < β
unfoldable pub dark : ℕ → ℕ → ℕ → Bool
dark u b k = ltb (k * 10000) (b * u)

-- below β: V = 4.5·L, and the code is INT((219·V + 16)·s) = INT((219·9·k + 32·u)·s / (2·u))
unfoldable pub linear : ℕ → ℕ → ℕ → ℕ
linear u s k = INT ((219 * 9 * k + 32 * u) * s) (2 * u)

-- from β on, the code is at least D: L^9 ≥ ((v + α - 1)/α)^20 with v = (2D - 1 - 32s)/(438s). The right side is
-- (((2D - 1 - 32s)·10000 + 438s·(a - 10000)) / (438s·a))^20; both sides are multiplied by u^9·(438s·a)^20
unfoldable pub reaches : ℕ → ℕ → ℕ → ℕ → ℕ → Bool
reaches u s a k D = leb (u ^ 9 * ((2 * D - 1 - 32 * s) * 10000 + 438 * s * (a - 10000)) ^ 20) (k ^ 9 * (438 * s * a) ^ 20)

-- from β on: the greatest D from 16s + 1 to 235s that the light reaches, or 16s
unfoldable pub curved : ℕ → ℕ → ℕ → ℕ → ℕ
curved u s a k = 16 * s + greatest (λ d. reaches u s a k (16 * s + d)) (219 * s)

unfoldable pub code_of : ℕ → ℕ → ℕ → ℕ → ℕ → ℕ
code_of u s a b k = elim (dark u b k) [ true ↦ linear u s k | false ↦ curved u s a k ]

-- the greatest light
abbrev pub full_light : ℕ
full_light = 65535

-- a light's code D in a system: its exact quantised value
unfoldable pub code : System → ℕ → ℕ
code y k = code_of full_light (scale y) (transfer y).alpha (transfer y).beta k

-- the span of a code: the least and the greatest light that have it
unfoldable pub least_light : System → ℕ → ℕ
least_light y d = least (λ k. eqb (code y k) d) full_light

unfoldable pub greatest_light : System → ℕ → ℕ
greatest_light y d = greatest (λ k. eqb (code y k) d) full_light
