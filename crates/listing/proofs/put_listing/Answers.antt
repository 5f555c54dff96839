use Rattle.std.proofs.Common.{◌≡◌, ℕ, List, length, ap, sym, arith}
use lib.ListN.{replicate, length-replicate}
use Rattle.block.proofs.Reading.{accepted_has_its_length, slice_keeps_its_length}
use Rattle.listing.proofs.Listed.{row_listed, refusal_listed}
use Rattle.listing.proofs.put_listing.Goals as goal

-- the slice that the codes are read into
abbrev zeros : List ℕ
zeros = replicate 23040 0

all_zeros : length zeros ≡ 23040
all_zeros = length-replicate {A = ℕ} 23040 0

pub put_row-requires-clause-room : goal.put_row-requires-clause-room
put_row-requires-clause-room c =
    let bounds = accepted_has_its_length _ _ _ (sym c.in-Ok.ensures.result_value) in
    omega (arith, bounds.shape.most)

pub put_row-requires-clause-codes : goal.put_row-requires-clause-codes
put_row-requires-clause-codes c =
    let read = c.in-Ok.ensures in
    let bounds = accepted_has_its_length _ _ _ (sym read.result_value) in
    omega (arith, bounds.fits, ap length read.codes_after, slice_keeps_its_length c.args.bytes.now zeros)

pub returns-in-Ok : goal.returns-in-Ok
returns-in-Ok c = rw (← row_listed c.args.bytes.now zeros all_zeros c.in-Ok.ensures.result_value c.in-Ok.ensures.codes_after) c.put_row.ensures

pub returns-in-Err : goal.returns-in-Err
returns-in-Err c = rw (← refusal_listed c.args.bytes.now zeros all_zeros c.in-Err.ensures.result_value) c.put_refusal.ensures
