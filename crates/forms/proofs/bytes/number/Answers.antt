-- What W bytes say fits.
use Rattle.std.proofs.Common.{lit<, arith}
use Rattle.std.proofs.Math.Nat.{min-le_right}
use Rattle.forms.proofs.ByteLaws.{number_fits}
use Rattle.forms.proofs.bytes.number.Goals as goal

pub overflow_mul-n : goal.overflow_mul-n
overflow_mul-n g c = omega (arith, number_fits c.min-i-end.result c.loop-i.i c.loop-i.n 0 (rw c.min-i-end.ensures (min-le_right g.row.W 8)) c.loop-i-test.true c.loop-i.invariant.1 (lit< tt))

pub overflow_add-n : goal.overflow_add-n
overflow_add-n g c = omega (arith, c.from.ensures, number_fits c.min-i-end.result c.loop-i.i c.loop-i.n c.at.result (rw c.min-i-end.ensures (min-le_right g.row.W 8)) c.loop-i-test.true c.loop-i.invariant.1 c.at.type_inv)
