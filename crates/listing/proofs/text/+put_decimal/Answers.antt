use Rattle.std.proofs.Common.{length, ap, arith, append_assoc}
use Rattle.listing.proofs.Digits.{below_ten, from_ten, one_more_digit}
use Rattle.listing.proofs.text.+put_decimal.Goals as goal

pub put_digit-requires-clause-room : goal.put_digit-requires-clause-room
put_digit-requires-clause-room t c = omega (arith, ap length (below_ten c.args.number c.if-number-lt10.true))

pub returns-then-number-lt10 : goal.returns-then-number-lt10
returns-then-number-lt10 t c = record {
  items = rw (below_ten c.args.number c.if-number-lt10.true) c.put_digit.ensures.items;
  len = omega (arith, ap length (below_ten c.args.number c.if-number-lt10.true));
}

pub put_decimal-requires : goal.put_decimal-requires
put_decimal-requires t c = (omega arith, omega (arith, one_more_digit c.args.number c.if-number-lt10.false (omega arith)))

pub put_digit-requires-else-number-lt10-clause-room : goal.put_digit-requires-else-number-lt10-clause-room
put_digit-requires-else-number-lt10-clause-room t c = omega (arith, one_more_digit c.args.number c.if-number-lt10.false (omega arith))

pub returns-else-number-lt10 : goal.returns-else-number-lt10
returns-else-number-lt10 t c = record {
  items = rw (c.put_digit-else-number-lt10.ensures.items, c.put_decimal.ensures.items, from_ten c.args.number c.if-number-lt10.false (omega arith)) (simp append_assoc);
  len = omega (arith, one_more_digit c.args.number c.if-number-lt10.false (omega arith));
}
