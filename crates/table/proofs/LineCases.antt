-- Computed cases of a listing line: document 01's example, and what the example does not show.
use Prim.Native.Nat.{ℕ, suc}
use mathlib.Core.Path.{◌≡◌, refl}
use mathlib.Core.Bool.{Bool, true, false}
use mathlib.Core.List.{List, [], ◌∷◌, ◌++◌, map}
use lib.ListN.{replicate}
use Rattle.std.specs.Prelude.{Option, None, Some, Ok, Err}
use Rattle.forms.specs.declared.units.Tenths.{Tenths}
use Rattle.forms.specs.declared.refusal.Refusal.TheVariants.{CallNotOpen, PeriodNotOver}
use Rattle.forms.specs.declared.item.Leg.{Leg}
use Rattle.forms.specs.declared.item.Leg.TheVariants.{One, Two}
use Rattle.call.specs.declared.relationship.Relationship.{Relationship}
use Rattle.call.specs.declared.relationship.Relationship.TheVariants as L
use Rattle.call.specs.declared.answers.Report.{Report}
use Rattle.call.specs.declared.answers.Report.TheVariants.{Interrupting, Notification}
use Rattle.call.specs.declared.points.Point.{Point}
use Rattle.call.specs.Answers.{values_of, values_by}
use Rattle.table.specs.Types.{Answer}
use Rattle.table.specs.Line.{text, digits, decimal, line_of, header, printed}

-- a detection point, as the listing shows it
infixr 75 ◌╱◌
abbrev ◌╱◌ : ℕ → Leg → Point
number ╱ leg = record { leg = leg; number = number }

abbrev ok : Relationship → Option Point → Option Report → Option Tenths → Option Tenths → Option Tenths → Bool → Answer
ok relationship suspension event charge1 charge2 deadline over =
    Ok (record { relationship = relationship; suspension = suspension; reports = record { event = event; charge1 = charge1; charge2 = charge2 }; deadline = deadline; over = over })

abbrev tenths : ℕ → Tenths
tenths n = record { 0 = n }

-- the lines of a run of answers, each with its number
abbrev lines_from : ℕ → List Answer → List ℕ
lines_from n [] = []
lines_from n (a ∷ l) = line_of n (values_of a) ++ lines_from (suc n) l

-- "ok control 2 r2/1", of a terminating call "ok control 12 r12/1"; and "ok none - over"
abbrev triggered_at : ℕ → Answer
triggered_at n = ok L.Control (Some (n ╱ One)) (Some (Interrupting (n ╱ One))) None None None false

abbrev pub triggered : Answer
triggered = triggered_at 2

abbrev pub triggered_at12 : Answer
triggered_at12 = triggered_at 12

abbrev pub ended : Answer
ended = ok L.None None None None None None true

-- the answers of the example, and its listing
abbrev answers : List Answer
answers =
    triggered
    ∷ ok L.Control (Some (2 ╱ One)) None None None None false
    ∷ ok L.Control None None None None (Some (tenths 1300)) false
    ∷ ok L.Control (Some (6 ╱ Two)) (Some (Interrupting (6 ╱ Two))) None None None false
    ∷ ended
    ∷ Err CallNotOpen
    ∷ []

pub example : header ++ lines_from 1 answers
    ≡ text "item answer\n1 ok control 2 r2/1\n2 ok control 2\n3 ok control - d1300\n4 ok control 6 r6/2\n5 ok none - over\n6 refused 4\n"
unfolding header line_of decimal digits
example = refl

-- every part of a line: a notification, both charges, a deadline and the end
pub all_parts : line_of 18446744073709551615 (values_of (ok L.Monitor (Some (50 ╱ One)) (Some (Notification (19 ╱ Two))) (Some (tenths 0)) (Some (tenths 123)) (Some (tenths 281474976710665)) true))
    ≡ text "18446744073709551615 ok monitor 50 n19/2 c1=0 c2=123 d281474976710665 over\n"
unfolding line_of decimal digits
all_parts = refl

-- reports for leg 1; one charge alone
pub one_charge : lines_from 9 (ok L.Monitor None (Some (Notification (50 ╱ One))) (Some (tenths 36000)) None None false ∷ ok L.Control (Some (10 ╱ One)) (Some (Interrupting (10 ╱ One))) None (Some (tenths 600)) None false ∷ Err PeriodNotOver ∷ [])
    ≡ text "9 ok monitor - n50/1 c1=36000\n10 ok control 10 r10/1 c2=600\n11 refused 14\n"
unfolding line_of decimal digits
one_charge = refl

-- a refusal told by any number, also one that the papers do not give
pub any_number : map (λ n. line_of 1 (values_by (λ m. m) (Err n))) (0 ∷ 16 ∷ 255 ∷ []) ≡ text "1 refused 0\n" ∷ text "1 refused 16\n" ∷ text "1 refused 255\n" ∷ []
unfolding line_of decimal digits
any_number = refl

-- a text stored from place 1 on, where there is room for the longest line, and where one byte is missing
pub storing : map (λ n. printed (text "ab") (replicate n 46) 1) (129 ∷ 128 ∷ []) ≡ (Some 3, 46 ∷ 97 ∷ 98 ∷ replicate 126 46) ∷ (None, replicate 128 46) ∷ []
unfolding printed
storing = refl
