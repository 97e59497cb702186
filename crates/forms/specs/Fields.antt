-- Document 01, Forms: the fields that items and profiles are made of, each with its width and its range, said once.
use Rattle.std.specs.Prelude.{ℕ, ◌+◌, List, [], ◌∷◌, ◌++◌, Bool, true, false, ◌&&◌, length}
use Rattle.forms.specs.Bytes.{to_bytes, within, all}
use Rattle.forms.specs.Units.{is_period}
use Rattle.forms.specs.declared.units.Tenths.{Tenths}
use Rattle.forms.specs.declared.item.Leg.{Leg}
use Rattle.forms.specs.declared.item.Leg.TheVariants.{One, Two}

-- what is written of a field, and whether its value is in range
pub record Field : Type 0 where
  pub bytes : List ℕ
  pub in_range : Bool

abbrev pub run : List ℕ → Bool → Field
run bytes in_range = record { bytes = bytes; in_range = in_range }

-- "a field whose width isn't given is one byte"
abbrev pub byte : ℕ → Bool → Field
byte b = run (b ∷ [])

-- nature 0..127 (nature of address)
abbrev pub nature : ℕ → Field
nature n = byte n (within 0 127 n)

-- service (basic service code)
abbrev pub service : ℕ → Field
service n = byte n true

-- forwarded 0/1 (call subject to call forwarding)
abbrev pub flag : Bool → ℕ
flag false = 0
flag true = 1

abbrev pub forwarded : Bool → Field
forwarded b = byte (flag b) true

-- digit count 1..15, one byte per digit 0..14
abbrev pub most_digits : ℕ
most_digits = 15

abbrev pub is_digit_count : ℕ → Bool
is_digit_count = within 1 most_digits

abbrev pub digit_count : ℕ → Field
digit_count n = byte n (is_digit_count n)

abbrev pub is_digit : ℕ → Bool
is_digit = within 0 14

abbrev pub digits : List ℕ → Field
digits ds = run ds (all is_digit ds)

abbrev pub digit : ℕ → Field
digit d = byte d (is_digit d)

-- cause 0..127 (ISUP cause value)
abbrev pub cause : ℕ → Field
cause n = byte n (within 0 127 n)

-- leg 1/2 (legID)
abbrev pub leg_number : Leg → ℕ
leg_number One = 1
leg_number Two = 2

abbrev pub leg : Leg → Field
leg l = byte (leg_number l) true

-- count 1..10 (of entries)
abbrev pub entry_count : ℕ → Field
entry_count n = byte n (within 1 10 n)

-- period (4 bytes) 1..864000 (maxCallPeriodDuration)
abbrev pub period : Tenths → Field
period p = run (to_bytes 4 p.0) (is_period p)

-- the fields one after the other, and all of them in range
abbrev pub bytes_in : List Field → List ℕ
bytes_in [] = []
bytes_in (f ∷ fs) = f.bytes ++ bytes_in fs

abbrev pub all_in_range : List Field → Bool
all_in_range [] = true
all_in_range (f ∷ fs) = f.in_range && all_in_range fs

-- "Two bytes total length, equal to the bytes handed over, and one version byte 1"
abbrev pub frame : ℕ → List ℕ
frame n = to_bytes 2 n ++ (1 ∷ [])

abbrev pub framed : List ℕ → List ℕ
framed b = frame (3 + length b) ++ b
