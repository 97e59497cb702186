-- Document 01, One call, and T-04 (document 02): the point set of a call, which of its roles are armable and by which pair of leg and detection point, and the rules that go by it.
-- The rules take any point set; `is_point_set` says what makes a description a good one, and the laws hold of each that passes (proofs/PointLaws.antt). `set_of` has the two: document 01's, and T-04's.
use Rattle.std.specs.Prelude.{ℕ, List, [], ◌∷◌, map, Bool, not, cond, ◌&&◌, ◌||◌, eqb, ltb, get_or, Option, Some, None}
use Rattle.forms.specs.Fields.{leg_number}
use Rattle.call.specs.Types.{Bcsm, Leg, Role, Point, RolePoints, PointSet}
use Rattle.forms.specs.declared.item.Bcsm.TheVariants.{Originating, Terminating}
use Rattle.forms.specs.declared.item.Leg.TheVariants.{One, Two}
use Rattle.call.specs.declared.roles.Role.TheVariants.{MidCall, Disconnect1, Abandon, Moved, RouteFailure, Busy, NoAnswer, Answer, Disconnect2, Seized}
use Rattle.call.specs.Roles.{loses_leg, roles, place_of, is_role, every}

-- ---- points

abbrev pub at : Leg → ℕ → Point
at leg number = record { leg = leg; number = number }

-- no detection point has the number 0: a role that is not armable has it
abbrev pub no_point : Point
no_point = at Two 0

-- a role's point in each kind of call
abbrev pub each : Point → Point → RolePoints
each originating terminating = record { originating = originating; terminating = terminating }

-- document 01: "Armable: leg 1: 8 Mid-call, 9 Disconnect, 10 Abandon, 50 Moved. Leg 2: 4 Route failure, 5 Busy, 6 No answer, 7 Answer, 9 Disconnect, 19 Seized."
-- (O_Mid_Call, O_Disconnect, O_Abandon, O_Change_Of_Position; Route_Select_Failure, O_Busy, O_No_Answer, O_Answer, O_Disconnect, O_Term_Seized)
-- T-04: "Armable: leg 1: 17 Disconnect, 18 Abandon; leg 2: 13 Busy, 14 No answer, 15 Answer, 16 Mid-call, 17 Disconnect, 27 Call accepted, 51 Moved"; "13, 14, 15, 18 and 27 taking the parts of 5, 6, 7, 10 and 19"
-- (T_Disconnect, T_Abandon; T_Busy, T_No_Answer, T_Answer, T_Mid_Call, T_Disconnect, Call_Accepted, T_Change_Of_Position)
abbrev pub points_of : Role → RolePoints
points_of MidCall = each (at One 8) (at Two 16)
points_of Disconnect1 = each (at One 9) (at One 17)
points_of Abandon = each (at One 10) (at One 18)
points_of Moved = each (at One 50) (at Two 51)
points_of RouteFailure = each (at Two 4) no_point
points_of Busy = each (at Two 5) (at Two 13)
points_of NoAnswer = each (at Two 6) (at Two 14)
points_of Answer = each (at Two 7) (at Two 15)
points_of Disconnect2 = each (at Two 9) (at Two 17)
points_of Seized = each (at Two 19) (at Two 27)

-- the points stand in the order of the roles; "held at point 2 and an interrupting report for 2, leg 1" (Collected_Info), "at 12, leg 1" (Terminating_Attempt_Authorised)
abbrev pub set_of : Bcsm → PointSet
set_of Originating = record { trigger = at One 2; points = map (λ p. (points_of p).originating) roles }
set_of Terminating = record { trigger = at One 12; points = map (λ p. (points_of p).terminating) roles }

abbrev pub is_point : Point → Bool
is_point q = ltb 0 q.number

-- the numbers are those of the point
abbrev pub is_pair : Point → ℕ → ℕ → Bool
is_pair q leg number = is_point q && (eqb leg (leg_number q.leg) && eqb number q.number)

abbrev pub is_leg : Leg → Leg → Bool
is_leg k l = eqb (leg_number k) (leg_number l)

-- the first role of the list that passes the test
abbrev pub first_role : (Role → Bool) → List Role → Option Role
first_role f [] = None
first_role f (p ∷ ps) = cond (f p) (Some p) (first_role f ps)

-- the roles of the list that pass the test
abbrev pub picked : (Role → Bool) → List Role → List Role
picked f [] = []
picked f (p ∷ ps) = cond (f p) (p ∷ picked f ps) (picked f ps)

-- ---- a role's point, and the role of a pair

module _ (dp : PointSet) where
  abbrev pub point_in : Role → Point
  point_in p = get_or dp.points (place_of p) no_point

  abbrev pub is_in : Role → Bool
  is_in p = is_point (point_in p)

  -- the role that has the numbers of a leg and a point, if there is one
  abbrev pub role_in : ℕ → ℕ → Option Role
  role_in leg number = first_role (λ p. is_pair (point_in p) leg number) roles

  abbrev pub is_on_leg : Role → Leg → Bool
  is_on_leg p l = is_in p && is_leg (point_in p).leg l

  -- the leg l becomes absent when the role is met
  abbrev pub leaves : Role → Leg → Bool
  leaves p l = loses_leg p && is_on_leg p l

  -- ---- what a met role disarms (implicit disarming, 000)

  abbrev pub on_leg : Leg → List Role
  on_leg l = picked (λ p. is_on_leg p l) roles

  -- the table 'met, disarms'; the row of Answer as T-01 (document 02) has it. T-04: "Answer disarms 13, 14, 15, 18 and 27; the other rows are the same in kind"
  abbrev pub disarms : Role → List Role
  disarms RouteFailure = on_leg Two
  disarms Busy = on_leg Two
  disarms NoAnswer = on_leg Two
  disarms Disconnect2 = on_leg Two
  disarms Answer = RouteFailure ∷ Busy ∷ NoAnswer ∷ Answer ∷ Abandon ∷ Seized ∷ []
  disarms MidCall = MidCall ∷ []
  disarms Seized = Seized ∷ []
  disarms Moved = Moved ∷ []
  disarms Abandon = on_leg One
  disarms Disconnect1 = on_leg One

  -- ---- what makes a description a point set

  -- the leg of which a role speaks, if it speaks of one: the clearing, failing and answering roles. All but Route failure are armable
  abbrev pub leg_fits : Role → Bool
  leg_fits MidCall = is_in MidCall
  leg_fits Disconnect1 = is_on_leg Disconnect1 One
  leg_fits Abandon = is_on_leg Abandon One
  leg_fits Moved = is_in Moved
  leg_fits RouteFailure = not (is_on_leg RouteFailure One)
  leg_fits Busy = is_on_leg Busy Two
  leg_fits NoAnswer = is_on_leg NoAnswer Two
  leg_fits Answer = is_on_leg Answer Two
  leg_fits Disconnect2 = is_on_leg Disconnect2 Two
  leg_fits Seized = is_on_leg Seized Two

  -- a number fits a byte, and is not the trigger's
  abbrev pub number_fits : Role → Bool
  number_fits p = ltb (point_in p).number 256 && not (eqb (point_in p).number dp.trigger.number)

  -- no other role has the pair
  abbrev pub has_own_pair : Role → Bool
  has_own_pair p = every (λ q. is_role p q || not (is_pair (point_in p) (leg_number (point_in q).leg) (point_in q).number)) roles

  abbrev pub is_point_set : Bool
  is_point_set = every leg_fits roles && every number_fits roles && every has_own_pair roles
