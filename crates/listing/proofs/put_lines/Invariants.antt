use Rattle.std.proofs.Common.{◌≡◌, ◌+◌, ◌*◌, ◌≤◌, ◌++◌}
use Rattle.arrayvec.specs.ArrayVec.{array_vec_len}
use Rattle.listing.specs.Listing.{lines_to}
use Rattle.listing.specs.Inner.{triple_at}
use Rattle.listing.proofs.put_lines.Given as goal

abbrev pub invariant-loop-i : goal.invariant-loop-i
invariant-loop-i l = record {
  items : l.text.items ≡ l.fn.text.items ++ lines_to (triple_at l.codes) l.i;
  short : array_vec_len l.text ≤ array_vec_len l.fn.text + 18 * l.i;
}
