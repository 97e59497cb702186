-- Document 01, Forms: the profile (the standards' CAMEL Subscription Information, O-CSI). `fields_of` has its fields in the paper's order; reading has no rules of its own, as with items.
use Rattle.std.specs.Prelude.{ℕ, zero, suc, ◌+◌, List, [], ◌∷◌, ◌++◌, Bool, true, false, ◌&&◌, ◌||◌, cond, length, get_or, leb, eqb, Option, Some, None, Result, Ok, Err}
use Rattle.forms.specs.Bytes.{within, part, all, leads, same}
use Rattle.forms.specs.Units.{is_default_timer}
use Rattle.forms.specs.Fields.{Field, byte, run, nature, is_digit_count, digit_count, digits, bytes_in, all_in_range, framed}
use Rattle.forms.specs.declared.units.Seconds.{Seconds}
use Rattle.forms.specs.declared.profile.Handling.{Handling}
use Rattle.forms.specs.declared.profile.Handling.TheVariants as H
use Rattle.forms.specs.declared.profile.Criterion.{Criterion}
use Rattle.forms.specs.declared.profile.Criterion.TheVariants as C
use Rattle.forms.specs.declared.profile.ProfileView.{ProfileView}
use Rattle.forms.specs.declared.refusal.Refusal.{Refusal}
use Rattle.forms.specs.declared.refusal.Refusal.TheVariants.{MalformedProfile}

-- ---- the value

-- a stored number (destination number string)
pub record Number : Type 0 where
  pub nature : ℕ
  pub digits : List ℕ

-- Default Call Handling; default TNRy; the destination number criterion with its sense, numbers and lengths; basic service codes; whether the call is subject to forwarding
pub record Profile : Type 0 where
  pub handling : Handling
  pub timer : Seconds
  pub sense : Criterion
  pub numbers : List Number
  pub lengths : List ℕ
  pub services : List ℕ
  pub forwarding : Criterion

-- "default handling (0 continue, 1 release)"
abbrev pub handling_number : Handling → ℕ
handling_number H.Continue = 0
handling_number H.Release = 1

-- "0 absent, 1 enabling, 2 inhibiting"
abbrev pub criterion_number : Criterion → ℕ
criterion_number C.Absent = 0
criterion_number C.Enabling = 1
criterion_number C.Inhibiting = 2

abbrev pub is_release : Handling → Bool
is_release H.Continue = false
is_release H.Release = true

-- ---- the written form

-- a count of at most n
abbrev pub up_to : ℕ → ℕ → Field
up_to n count = byte count (within 0 n count)

-- "each nature, digit count and digits as in Setup"
abbrev pub number_fields : List Number → List Field
number_fields [] = []
number_fields (n ∷ ns) = nature n.nature ∷ digit_count (length n.digits) ∷ digits n.digits ∷ number_fields ns

-- "length count 0..3, each 1..15; service count 0..5, each one byte; forwarding"
abbrev pub list_fields : Profile → List Field
list_fields p =
    up_to 3 (length p.lengths) ∷ run p.lengths (all is_digit_count p.lengths)
    ∷ up_to 5 (length p.services) ∷ run p.services true
    ∷ byte (criterion_number p.forwarding) true
    ∷ []

-- "default handling, default timer 10..180 seconds, number sense, number count 0..10, each …", and those
unfoldable pub fields_of : Profile → List Field
fields_of p =
    byte (handling_number p.handling) true
    ∷ byte p.timer.0 (is_default_timer p.timer)
    ∷ byte (criterion_number p.sense) true
    ∷ up_to 10 (length p.numbers)
    ∷ number_fields p.numbers ++ list_fields p

unfoldable pub profile_bytes : Profile → List ℕ
profile_bytes p = framed (bytes_in (fields_of p))

-- "Sense 0 goes with both counts 0; sense 1 or 2 with at least one number or length."
abbrev pub sense_in_range : Criterion → ℕ → Bool
sense_in_range C.Absent total = eqb total 0
sense_in_range C.Enabling total = leb 1 total
sense_in_range C.Inhibiting total = leb 1 total

unfoldable pub profile_in_range : Profile → Bool
profile_in_range p = all_in_range (fields_of p) && sense_in_range p.sense (length p.numbers + length p.lengths)

-- ---- reading: the values at their places

abbrev pub handling_of : Bool → Handling
handling_of release = cond release H.Release H.Continue

abbrev pub criterion_of : Bool → Bool → Criterion
criterion_of enabling inhibiting = cond enabling C.Enabling (cond inhibiting C.Inhibiting C.Absent)

abbrev pub criterion_at : List ℕ → ℕ → Criterion
criterion_at s q = criterion_of (eqb (get_or s q 0) 1) (eqb (get_or s q 0) 2)

-- the list whose count stands at place q, and the place after it
abbrev pub list_at : List ℕ → ℕ → List ℕ
list_at s q = part s (q + 1) (get_or s q 0)

abbrev pub list_end : List ℕ → ℕ → ℕ
list_end s q = q + 1 + get_or s q 0

-- the stored number at place q; the n stored numbers from place q on, and the place after them
abbrev pub number_at : List ℕ → ℕ → Number
number_at s q = record { nature = get_or s q 0; digits = list_at s (q + 1) }

unfoldable pub numbers_at : ℕ → List ℕ → ℕ → List Number
numbers_at zero s q = []
numbers_at (suc n) s q = number_at s q ∷ numbers_at n s (list_end s (q + 1))

unfoldable pub numbers_end : ℕ → List ℕ → ℕ → ℕ
numbers_end zero s q = q
numbers_end (suc n) s q = numbers_end n s (list_end s (q + 1))

-- the values of the single fields and the places of the lists of lengths and of services, which follow the numbers at l
unfoldable pub view_at : List ℕ → ℕ → ProfileView
view_at s l =
    let v = list_end s l in
    record { handling = handling_of (eqb (get_or s 3 0) 1); timer = record { 0 = get_or s 4 0 }; sense = criterion_at s 5; lengths = l; services = v; forwarding = criterion_at s (list_end s v) }

abbrev pub view_of : List ℕ → ProfileView
view_of s = view_at s (numbers_end (get_or s 6 0) s 7)

unfoldable pub profile_of : List ℕ → Profile
profile_of s =
    let w = view_of s in
    record { handling = w.handling; timer = w.timer; sense = w.sense; numbers = numbers_at (get_or s 6 0) s 7; lengths = list_at s w.lengths; services = list_at s w.services; forwarding = w.forwarding }

-- s is the written form of the profile p, and p is in range
unfoldable pub is_profile : Profile → List ℕ → Bool
is_profile p s = same (profile_bytes p) s && profile_in_range p

-- what the bytes say: the profile that is written so, else refusal 2
unfoldable pub read_profile : List ℕ → Result ProfileView Refusal
read_profile s = cond (is_profile (profile_of s) s) (Ok (view_of s)) (Err MalformedProfile)

-- only for the code's shape: the place after the n stored numbers from place q on, where all are in range
abbrev pub end_in_range : ℕ → List ℕ → ℕ → Option ℕ
end_in_range n s q = cond (all_in_range (number_fields (numbers_at n s q))) (Some (numbers_end n s q)) None

-- ---- Triggering (004): "A stored number matches if natures are equal and its digits are the leading digits of the dialled number, which is at least as long."

abbrev pub matches : Number → ℕ → List ℕ → Bool
matches n nature dialled = eqb n.nature nature && leads n.digits dialled

unfoldable pub some_matches : List Number → ℕ → List ℕ → Bool
some_matches [] nature dialled = false
some_matches (n ∷ ns) nature dialled = matches n nature dialled || some_matches ns nature dialled
