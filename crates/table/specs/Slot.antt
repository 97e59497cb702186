-- Document 01, The call table: the slots of the table. "each free or owned by one call"; "A free record is blank".
use Rattle.std.specs.Prelude.{ℕ, None, Some}
use Rattle.call.specs.Record.{blank}
use Rattle.call.specs.Range.{record_in_range, is_blank}
use Rattle.table.specs.Types.{Record, Slot}
use Rattle.table.specs.Table.{Slots}

abbrev pub owned_by : ℕ → Record → Slot
owned_by k r = record { owner = Some k; body = r }

unfoldable pub blank_slot : Slot
blank_slot = record { owner = None; body = blank }

abbrev pub our_slots : Slots Record
our_slots =
    record {
      Slot = Slot;
      owner = λ s. s.owner;
      body = λ s. s.body;
      own = owned_by;
      blank = blank_slot;
      is_blank = λ s. is_blank s.body;
      in_range = record_in_range;
    }
