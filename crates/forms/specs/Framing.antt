-- Where a form ends in a run of bytes. Document 01, Forms: "Two bytes total length". Said once, for items and profiles.
use Rattle.std.specs.Prelude.{ℕ, Bool, true, false, leb, ltb}
use Rattle.forms.specs.Bytes.{within}
use Rattle.forms.specs.declared.framing.Framing.{Framing}
use Rattle.forms.specs.declared.framing.Framing.TheVariants as F

-- a run of bytes begins with too few for a length; with a length that no form has; with a form that is not whole yet; with a whole one
abbrev pub framing_as : Bool → Bool → Bool → ℕ → Framing
framing_as true in_bounds whole n = F.Short
framing_as false false whole n = F.Bad
framing_as false true false n = F.Short
framing_as false true true n = F.Whole n

-- `total` bytes whose first two are the number n, where forms have low..high bytes
unfoldable pub framing_of : ℕ → ℕ → ℕ → ℕ → Framing
framing_of low high total n = framing_as (ltb total 2) (within low high n) (leb n total) n

abbrev pub is_short : Framing → Bool
is_short F.Short = true
is_short F.Bad = false
is_short (F.Whole n) = false

-- the shortest and the longest of each: no item and no profile is lost by it (`ItemTheorems.item-framed`, `ProfileTheorems.profile-framed`)
abbrev pub item_framing : ℕ → ℕ → Framing
item_framing = framing_of 14 65

abbrev pub profile_framing : ℕ → ℕ → Framing
profile_framing = framing_of 10 188
