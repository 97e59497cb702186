-- Only for the code's shape: 'one call twice' over the calls that own slots, which are collected once. (`Table.once` says it for the reader; CheckLaws proves them equal.)
use Rattle.std.specs.Prelude.{ℕ, Bool, true, false, cond, List, [], ◌∷◌, eqb, Option, None, Some}
use Rattle.std.specs.List.{list_any}
use Rattle.table.specs.Types.{Slot}

-- the calls that own slots, in the slots' order
abbrev pub cons_call : Option ℕ → List ℕ → List ℕ
cons_call None l = l
cons_call (Some k) l = k ∷ l

unfoldable pub calls : List Slot → List ℕ
calls [] = []
calls (e ∷ t) = cons_call e.owner (calls t)

abbrev pub among : ℕ → List ℕ → Bool
among k l = list_any (λ (n : ℕ). eqb n k) l

unfoldable pub is_once : List ℕ → Bool
is_once [] = true
is_once (k ∷ l) = cond (among k l) false (is_once l)
