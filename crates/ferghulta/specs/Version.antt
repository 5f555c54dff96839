-- The version of the interface: major for what breaks a caller, minor for what is added, patch for the rest.
-- Definitions only.
use Rattle.std.specs.Prelude.{ℕ, ◌+◌, ◌*◌}

-- a version as one number to compare
abbrev pub numbered : ℕ → ℕ → ℕ → ℕ
numbered major minor patch = 10000 * major + 100 * minor + patch

-- the version of this interface
abbrev pub version : ℕ
version = numbered 5 3 0
