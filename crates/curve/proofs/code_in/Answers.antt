-- `curve::code_in`: a bucket is no wider than the lights, so the shift is below 16.
use Rattle.std.proofs.Common.{inl, inr, ℕ, ◌^◌, ◌≤◌, ◌<◌, arith, rules}
use Rattle.std.proofs.Math.Nat.{pow-le-pow_right}
use Rattle.exact.proofs.Order.{below_or_not}
use Rattle.curve.proofs.code_in.Goals as goal

shift_small : (h : ℕ) → 2 ^ h ≤ 65535 → h < 16
shift_small h w = elim (below_or_not h 16) [ inl l ↦ l | inr l ↦ absurd (omega (arith, pow-le-pow_right {n = 2} (omega arith) l)) ]

pub overflow_cast-n : goal.overflow_cast-n
overflow_cast-n c = search (rules, shift_small c.args.shift c.requires.index.width)

pub overflow_shr-n : goal.overflow_shr-n
overflow_shr-n c = shift_small c.args.shift c.requires.index.width
