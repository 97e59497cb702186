use Rattle.std.proofs.Common.{◌≡◌, ◌≤◌, ◌+◌, ◌-◌, ◌*◌, get_or}
use Rattle.forms.specs.Profile.{end_in_range}
use Rattle.forms.proofs.profile.numbers_end.Given as goal

-- the numbers that are left decide the answer
abbrev pub invariant-loop : goal.invariant-loop
invariant-loop l = (l.q + 257 * (l.end - l.counter) ≤ 65542) × (end_in_range (l.end - l.counter) l.s l.q ≡ end_in_range (get_or l.s 6 0) l.s 7)
