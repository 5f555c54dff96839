-- The book's sum is that of the lengths of the blocks since the last accepted open.
-- Assumes nothing.
use Prim.Native.Nat.{ℕ, ◌+◌}
use mathlib.Core.Path.{◌≡◌, refl, ap, ◌∙◌}
use mathlib.Core.Bool.{true, false}
use mathlib.Core.List.{List, [], ◌∷◌, ◌++◌}
use native.Mathlib.Nat.{zero-add}
use native.Mathlib.Omega.{arith}
use Rattle.picture.specs.Book.{Call, opens, rows, closes, State, fresh, Entry, accepts, enters, choose, next, next_sum, entries_from, sum_from}
use Rattle.picture.proofs.Agreement.{split}
use Rattle.picture.proofs.Claims.{state_from, lengths, is_opening, NoOpening, LastOpening, nowhere, at_call, SumSince}

lengths_append : (es fs : List Entry) → lengths (es ++ fs) ≡ lengths es + lengths fs
unfolding lengths
lengths_append [] fs = omega arith
lengths_append (e ∷ es) fs = omega (arith, lengths_append es fs)

-- a call that is no accepted open adds its entry's block
adds : (b : ℕ) (st : State) (c : Call) → is_opening st c ≡ false → next_sum b st c ≡ b + lengths (choose (accepts st c) (enters st c) [])
unfolding lengths
adds b st (opens n w h) e = simp e (omega arith)
adds b st (rows lights room) e = split (accepts st (rows lights room)) (λ t. simp t (omega arith)) (λ t. simp t (omega arith))
adds b st closes e = split (accepts st closes) (λ t. simp t (omega arith)) (λ t. simp t (omega arith))

sum_adds : (b : ℕ) (st : State) (cs : List Call) → NoOpening st cs → sum_from b st cs ≡ b + lengths (entries_from st cs)
unfolding sum_from entries_from NoOpening lengths
sum_adds b st [] none = omega arith
sum_adds b st (c ∷ cs) none = omega (arith, adds b st c none.0, sum_adds (next_sum b st c) (next st c) cs none.1, lengths_append (choose (accepts st c) (enters st c) []) (entries_from (next st c) cs))

-- an accepted open has the sum at 0
opens_at_0 : (b : ℕ) (st : State) (c : Call) → is_opening st c ≡ true → next_sum b st c ≡ 0
opens_at_0 b st (opens n w h) e = simp e
opens_at_0 b st (rows lights room) e = cc
opens_at_0 b st closes e = cc

-- and so begins anew, whatever was there before
begins_anew : (b : ℕ) (st : State) (before : List Call) (c : Call) (cs : List Call) → is_opening (state_from st before) c ≡ true
    → sum_from b st (before ++ c ∷ cs) ≡ sum_from 0 (next (state_from st before) c) cs
unfolding sum_from state_from
begins_anew b st [] c cs e = ap (λ (n : ℕ). sum_from n (next st c) cs) (opens_at_0 b st c e)
begins_anew b st (d ∷ before) c cs e = begins_anew (next_sum b st d) (next st d) before c cs e

stays_0 : (cs : List Call) → NoOpening fresh cs → sum_from 0 fresh cs ≡ 0
unfolding sum_from NoOpening
stays_0 [] none = refl
stays_0 (opens n w h ∷ cs) none = simp none.0 (stays_0 cs (simp none.0 at none.1))
stays_0 (rows lights room ∷ cs) none = stays_0 cs none.1
stays_0 (closes ∷ cs) none = stays_0 cs none.1

-- a call, and then a list whose last accepted open is found
found_on : (st : State) (c : Call) {cs : List Call} → LastOpening (next st c) cs → LastOpening st (c ∷ cs)
unfolding NoOpening state_from
found_on st c (at_call before d cs last) = at_call (c ∷ before) d cs last
found_on st c (nowhere cs none) = split (is_opening st c) (λ t. at_call [] c cs (t, none)) (λ t. nowhere (c ∷ cs) (t, none))

found : (st : State) (cs : List Call) → LastOpening st cs
unfolding NoOpening
found st [] = nowhere [] tt
found st (c ∷ cs) = found_on st c (found (next st c) cs)

pub sum_since : SumSince
sum_since = record {
  before_any = stays_0;
  since_last = λ b st before c cs last. begins_anew b st before c cs last.0 ∙ sum_adds 0 (next (state_from st before) c) cs last.1 ∙ zero-add _;
  either = found;
}
