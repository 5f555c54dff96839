-- Lent bytes for a call's postcondition: where they lie and how long they are lent, no contract asks.
-- Definitions only.
use Prim.Native.Nat.{ℕ}
use mathlib.Core.List.{List, []}
use contract.Lifetimes.{Lfts}
use denote.Ref.{Bor}
use denote.MutBor.{MutBor}

-- a reference to l
abbrev pub lend : List ℕ → Bor (List ℕ)
lend l = record { ref_ptr = (0, 0); now = l }

-- a reference to l that may be written through
abbrev pub lend_mut : List ℕ → MutBor (List ℕ)
lend_mut l = record { ref_ptr = (0, 0); ghost_name = 0; now = l }

-- the lifetimes of two
abbrev pub lifetimes : Lfts 2
lifetimes = ([], ([], tt))
