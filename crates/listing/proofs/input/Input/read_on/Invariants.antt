-- The feeder holds more bytes with each turn, of which there is room for 65.
use Rattle.std.proofs.Common.{◌-◌, length}
use Rattle.forms.specs.Feeder.{bytes_of}
use Rattle.listing.proofs.input.Input.read_on.Given as goal

abbrev pub decreases-loop-feeder : goal.decreases-loop-feeder
decreases-loop-feeder l = 66 - length (bytes_of l.feeder.held)
