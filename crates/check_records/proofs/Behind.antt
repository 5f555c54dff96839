-- The tally of records of any size, each behind the one before it.
-- Assumes nothing.
use Prim.Native.Nat.{ℕ, suc, ◌+◌, ◌-◌, ◌≤◌, ◌<◌}
use mathlib.Core.Path.{◌≡◌, refl}
use native.Mathlib.Omega.{arith}
use Rattle.check_records.specs.declared.tally.Tally.{Tally}
use Rattle.check_records.specs.Records.{ended, place, state_to, Compared}

module _ {S : Type 0} (size : ℕ → ℕ) (step : ℕ → S → S) (s : S) (bytes : ℕ) where
  -- the state after the records before a place
  pub record SoFar (at : ℕ) (x : S) : Type 0 where
    pub within : at ≤ bytes
    pub count : ℕ
    pub here : at ≡ place size count
    pub state : x ≡ state_to size step s count

  pub none_yet : SoFar 0 s
  unfolding place state_to
  none_yet = record { within = omega arith; count = 0; here = refl; state = refl }

module _ {S : Type 0} {size : ℕ → ℕ} {step : ℕ → S → S} {s : S} {bytes at : ℕ} {x : S} (f : SoFar size step s bytes at x) where
  pub one_more : {y : S} (n : ℕ) → at + n ≤ bytes → n ≡ size at → y ≡ step at x → SoFar size step s bytes (at + n) y
  unfolding place state_to
  one_more {y} n w z e = record {
    within = w;
    count = suc f.count;
    here = rw (z, ← f.here);
    state = rw (← f.here, ← f.state) e;
  }

  pub all_counted : (tally : S → Tally) {u : Tally} → bytes < at + size at → u ≡ ended (tally x) (bytes - at) → Compared size step s tally bytes u
  unfolding place
  all_counted tally {u} n e = record {
    count = f.count;
    whole = rw (← f.here) f.within;
    no_more = rw (← f.here) n;
    is = rw (← f.here, ← f.state) e;
  }
