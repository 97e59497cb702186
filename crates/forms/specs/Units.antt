-- Document 01, Units: tenths of a second and whole seconds, each with its ceiling, and the one way across.
use Rattle.std.specs.Prelude.{ℕ, ◌*◌, Bool, cond, leb, ltb, Result, Ok, Err}
use Rattle.forms.specs.Bytes.{within}
use Rattle.forms.specs.declared.units.Tenths.{Tenths}
use Rattle.forms.specs.declared.units.Seconds.{Seconds}
use Rattle.forms.specs.declared.refusal.Refusal.{Refusal}
use Rattle.forms.specs.declared.refusal.Refusal.TheVariants.{MalformedItem, BadEntry}

-- "tenths 864000 for a period, seconds 2047 for a timer"
abbrev pub longest_period : ℕ
longest_period = 864000

abbrev pub longest_timer : ℕ
longest_timer = 2047

-- a clock reading is six bytes long: below 2^48
abbrev pub clock_end : ℕ
clock_end = 281474976710656

abbrev pub is_clock_reading : Tenths → Bool
is_clock_reading t = ltb t.0 clock_end

-- a charged period (maxCallPeriodDuration), 1..864000, else refusal 1
abbrev pub is_period : Tenths → Bool
is_period p = within 1 longest_period p.0

abbrev pub period_of : ℕ → Result Tenths Refusal
period_of n = let p : Tenths = record { 0 = n } in cond (is_period p) (Ok p) (Err MalformedItem)

-- a no-answer timer (TNRy), 0..2047, 0 for none, else refusal 11
abbrev pub is_timer : Seconds → Bool
is_timer t = leb t.0 longest_timer

abbrev pub timer_of : ℕ → Result Seconds Refusal
timer_of n = let t : Seconds = record { 0 = n } in cond (is_timer t) (Ok t) (Err BadEntry)

-- a profile's default timer, "10..180 seconds"
abbrev pub is_default_timer : Seconds → Bool
is_default_timer t = within 10 180 t.0

-- "the only way across is seconds × 10 = tenths"
abbrev pub tenths_of : Seconds → Tenths
tenths_of s = record { 0 = s.0 * 10 }
