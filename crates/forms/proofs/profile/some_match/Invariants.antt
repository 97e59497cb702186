use Rattle.std.proofs.Common.{◌≡◌, ◌≤◌, ◌+◌, ◌-◌, ◌*◌}
use Rattle.forms.specs.Profile.{some_matches, numbers_at, profile_of}
use Rattle.forms.proofs.profile.some_match.Given as goal

-- the numbers that are left decide the answer
abbrev pub invariant-loop : goal.invariant-loop
invariant-loop l =
    (l.q + 257 * (l.end - l.counter) ≤ 65542) × (some_matches (numbers_at (l.end - l.counter) l.s l.q) l.nature l.dialled ≡ some_matches (profile_of l.s).numbers l.nature l.dialled)
