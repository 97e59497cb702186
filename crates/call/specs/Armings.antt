-- Document 01, One call: monitor modes, and the armings (EDPs), one for each role.
use Rattle.std.specs.Prelude.{ℕ, List, [], ◌∷◌, Bool, true, false, cond, ◌&&◌, ◌||◌, eqb, ltb, get_or, set, replicate}
use Rattle.call.specs.Types.{Role, Mode, Arming}
use Rattle.call.specs.declared.armings.Mode.TheVariants as mode
use Rattle.call.specs.Roles.{place_of}

-- "Modes: 0 interrupted, 1 notify and continue, 2 transparent (disarms)." (monitorMode)
abbrev pub mode_number : Mode → ℕ
mode_number mode.Interrupted = 0
mode_number mode.Notify = 1
mode_number mode.None = 2

abbrev pub mode_of : ℕ → Mode
mode_of m = cond (eqb m 0) mode.Interrupted (cond (eqb m 1) mode.Notify mode.None)

abbrev pub is_mode : Mode → Mode → Bool
is_mode m n = eqb (mode_number m) (mode_number n)

abbrev pub unarmed : Arming
unarmed = record { mode = mode.None }

abbrev pub no_armings : List Arming
no_armings = replicate 10 unarmed

abbrev pub mode_at : Role → List Arming → Mode
mode_at p l = (get_or l (place_of p) unarmed).mode

-- some point is armed in the mode m
unfoldable pub some_armed : Mode → List Arming → Bool
some_armed m [] = false
some_armed m (a ∷ l) = is_mode a.mode m || some_armed m l

-- every arming's mode is none
unfoldable pub nothing_armed : List Arming → Bool
nothing_armed [] = true
nothing_armed (a ∷ l) = is_mode a.mode mode.None && nothing_armed l

abbrev pub disarmed : List Role → List Arming → List Arming
disarmed [] l = l
disarmed (p ∷ ps) l = disarmed ps (set l (place_of p) unarmed)

-- ---- only for the code's shape: one pass says which modes are armed, since interrupted goes before notify, and that before none

abbrev pub strength : Mode → ℕ
strength mode.None = 0
strength mode.Notify = 1
strength mode.Interrupted = 2

abbrev pub stronger : Mode → Mode → Mode
stronger m n = cond (ltb (strength m) (strength n)) n m

-- of m and the modes of the armings
unfoldable pub strongest : Mode → List Arming → Mode
strongest m [] = m
strongest m (a ∷ l) = strongest (stronger m a.mode) l
