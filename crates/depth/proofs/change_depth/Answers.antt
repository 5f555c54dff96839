use Rattle.depth.proofs.Changing.{for_decodable}
use Rattle.std.proofs.Common.{sym, arith}
use Rattle.depth.proofs.change_depth.Goals as goal

pub write-requires : goal.write-requires
write-requires c = (for_decodable _ _ _ (sym c.in_ok-b.ensures), omega arith)
