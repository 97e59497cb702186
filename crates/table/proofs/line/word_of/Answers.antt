use Rattle.std.proofs.Common.{refl, arith}
use Rattle.table.proofs.line.word_of.Goals as goal

pub returns-in-None : goal.returns-in-None
returns-in-None c = rw c.in-None.is (refl, omega arith)

pub returns-in-Monitor : goal.returns-in-Monitor
returns-in-Monitor c = rw c.in-Monitor.is (refl, omega arith)

pub returns-in-Control : goal.returns-in-Control
returns-in-Control c = rw c.in-Control.is (refl, omega arith)
