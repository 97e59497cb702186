use Rattle.std.proofs.Common.{◌≡◌, ◌≤◌, length}
use Rattle.table.specs.Feed.{is_sound_table}
use Rattle.table.proofs.CheckLaws.{check_from}
use Rattle.table.proofs.check.is_sound.Given as goal

-- the calls collected so far, and the slots that are left
abbrev pub invariant-loop-slot : goal.invariant-loop-slot
invariant-loop-slot l = record { few : l.n ≤ l.slot-index; size : length l.calls ≡ 64; left : is_sound_table l.table ≡ check_from l.table l.calls l.n l.slot-index }
