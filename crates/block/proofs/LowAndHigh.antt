-- Clips low and high of a block (request 2026-07): both sums, and that together they are the former total.
-- Assumes nothing.
use mathlib.Core.Path.{◌≡◌, refl, ap}
use mathlib.Core.List.{List}
use mathlib.Core.Bool.{Bool, true, false}
use Prim.Native.Nat.{ℕ, zero, suc, ◌+◌, ◌*◌, ◌≤◌}
use native.Mathlib.Omega.{arith}
use lib.Dec.{leb}
use Rattle.exact.specs.Outcome.{Outcome, accepted, refused}
use Rattle.systems.specs.declared.System.{System}
use Rattle.matrix.specs.declared.Words.{Words}
use Rattle.matrix.proofs.Claims.{Alike, former_total}
use Rattle.matrix.proofs.LowAndHigh.{triple_clips, triple-sum}
use Rattle.block.specs.declared.Judged.{Judged}
use Rattle.block.specs.Read.{sample_at, judge, decoded, clips_to, header_of}
use Rattle.block.proofs.Claims.{sum_to, formerly_read, Split}
use Rattle.block.proofs.Reading.{judged_sound}

module _ (y : System) (row : ℕ → Words) where
  -- a row's clips, each sum by itself
  sums : (n : ℕ) → let k = clips_to (decoded y row) n in (k.low ≡ sum_to (λ i. (decoded y row i).clips.low) n) × (k.high ≡ sum_to (λ i. (decoded y row i).clips.high) n)
  unfolding clips_to sum_to
  sums zero = (refl, refl)
  sums (suc n) = let before = sums n in (ap (λ (k : ℕ). k + (decoded y row n).clips.low) before.0, ap (λ (k : ℕ). k + (decoded y row n).clips.high) before.1)

  -- and together
  total : (n : ℕ) → let k = clips_to (decoded y row) n in (k.low + k.high ≡ sum_to (λ i. former_total y (row i)) n) × (k.low + k.high ≤ 3 * n)
  unfolding clips_to sum_to
  total zero = (refl, omega arith)
  total (suc n) =
      let before = total n in
      let here = triple-sum y (row n) in
      (omega (arith, before.0, here.0), omega (arith, before.1, here.1))

-- every answer, refusals included
pub clips_split : (bs : List ℕ) (room : ℕ) → Alike (Split bs) (formerly_read bs room) (header_of bs room)
unfolding formerly_read header_of
clips_split bs room = by_judgement (judge bs) refl
  where
    by_room : (b : Judged) (t : Bool) → leb (3 * b.samples) room ≡ t → judge bs ≡ accepted b → Alike (Split bs) (formerly_read bs room) (header_of bs room)
    by_room b true f e =
        let row = sample_at bs b.samples in
        let each = sums b.system row b.samples in
        let both = total b.system row b.samples in
        rw (e, f) record {
          system = refl;
          row = refl;
          samples = refl;
          clips = record { sample = λ i. (decoded b.system row i).clips; counts = λ i. triple_clips b.system (row i); low = each.0; high = each.1 };
          sum = both.0;
          most = omega (arith, both.1, (judged_sound bs b e).shape.most);
        }
    by_room b false f e = rw (e, f)

    by_judgement : (o : Outcome Judged) → judge bs ≡ o → Alike (Split bs) (formerly_read bs room) (header_of bs room)
    by_judgement (accepted b) e = by_room b (leb (3 * b.samples) room) refl e
    by_judgement (refused n) e = rw e
