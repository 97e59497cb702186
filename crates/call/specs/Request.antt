-- Document 01, Request report (RequestReportBCSMEvent): "all entries or none; each overwrites its point".
use Rattle.std.specs.Prelude.{ℕ, zero, suc, Bool, true, false, not, cond, ◌&&◌, ◌||◌, List, [], ◌∷◌, leb, eqb, get_or, set, drop, replicate, Option, Some, None}
use Rattle.forms.specs.Item.{entry_of}
use Rattle.forms.specs.Units.{is_timer}
use Rattle.call.specs.Types.{Entry, Seconds, Tenths, Role, PointSet, Record, Stepped}
use Rattle.call.specs.declared.roles.Role.TheVariants.{Moved, NoAnswer}
use Rattle.call.specs.Roles.{place_of, is_role, occurs_from}
use Rattle.call.specs.Armings.{mode_of}
use Rattle.call.specs.Points.{role_in}
use Rattle.call.specs.Record.{is_present, timed, armed_as}
use Rattle.call.specs.Answers.{quietly}

-- the n entries that the bytes are
unfoldable pub entries_of : ℕ → List ℕ → List Entry
entries_of zero t = []
entries_of (suc n) t = entry_of t ∷ entries_of n (drop 5 t)

-- the role that the entry names in the point set
abbrev pub named : PointSet → Entry → Option Role
named dp e = role_in dp e.leg e.point

-- ---- 11: "entry with unknown leg and point, bad mode or timer, or a pair named twice"

-- "Modes: 0 interrupted, 1 notify and continue, 2 transparent (disarms). Point 50 never takes mode 0."
abbrev pub is_mode_for : Role → ℕ → Bool
is_mode_for p m = leb m 2 && not (is_role p Moved && eqb m 0)

-- "Timer is 0 (none) except for point 6 with mode 0 or 1, where it is 0..2047"
abbrev pub is_timer_for : Role → ℕ → Seconds → Bool
is_timer_for p m t = is_timer t && (eqb t.0 0 || (is_role p NoAnswer && leb m 1))

-- `seen` says of each role whether an entry before has named it
abbrev pub is_good : Option Role → List Bool → Entry → Bool
is_good None seen e = false
is_good (Some p) seen e = is_mode_for p e.mode && is_timer_for p e.mode e.timer && not (get_or seen (place_of p) false)

abbrev pub seen_after : Option Role → List Bool → List Bool
seen_after None seen = seen
seen_after (Some p) seen = set seen (place_of p) true

unfoldable pub are_good : PointSet → List Bool → List Entry → Bool
are_good dp seen [] = true
are_good dp seen (e ∷ es) = is_good (named dp e) seen e && are_good dp (seen_after (named dp e) seen) es

abbrev pub none_seen : List Bool
none_seen = replicate 10 false

-- ---- 12: "Modes 0 and 1 need a point that can still occur"

-- "none once leg 1 is absent; with leg 2 absent, any (a Connect may follow); else 4 and 19 in analysing, …"
abbrev pub can_occur : Record → Role → Bool
can_occur r p = is_present r.leg1 && (not (is_present r.leg2) || occurs_from p r.stage)

abbrev pub is_possible : Record → Option Role → ℕ → Bool
is_possible r None m = true
is_possible r (Some p) m = not (leb m 1) || can_occur r p

unfoldable pub are_possible : PointSet → Record → List Entry → Bool
are_possible dp r [] = true
are_possible dp r (e ∷ es) = is_possible r (named dp e) e.mode && are_possible dp r es

-- ---- the record after

-- "a nonzero one is kept, 0 changes nothing kept"
abbrev pub kept_after : Seconds → Seconds → Seconds
kept_after timer kept = cond (eqb timer.0 0) kept timer

-- "each overwrites its point"
abbrev pub armed_by : Record → Option Role → Entry → Record
armed_by r None e = r
armed_by r (Some p) e = armed_as r (set r.armings (place_of p) (record { mode = mode_of e.mode })) (kept_after e.timer r.kept)

unfoldable pub armed_with : PointSet → Record → List Entry → Record
armed_with dp r [] = r
armed_with dp r (e ∷ es) = armed_with dp (armed_by r (named dp e) e) es

abbrev pub request_report : PointSet → Record → ℕ → List ℕ → Tenths → Stepped
request_report dp r n entries t = quietly dp (armed_with dp (timed r t) (entries_of n entries))
