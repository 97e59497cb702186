-- Document 02, T-03: the digit comparison. "Compare the last digit of a stored number before the leading ones …. Every answer stays as it is": the law `ComparisonLaws.as_before`.
use Rattle.std.specs.Prelude.{ℕ, suc, ◌-◌, List, [], ◌∷◌, ◌++◌, Bool, true, false, cond, length, take, drop, eqb, ltb}
use Rattle.forms.specs.declared.comparison.Comparison.{Comparison}

-- the stored digits lead the dialled number, or do not; n digit pairs were compared
abbrev pub leading : ℕ → Comparison
leading n = record { leads = true; pairs = n }

abbrev pub not_leading : ℕ → Comparison
not_leading n = record { leads = false; pairs = n }

-- the digit pairs: of the stored and the dialled digit at each place, whether they agree
unfoldable pub pairs_of : List ℕ → List ℕ → List Bool
pairs_of [] dialled = []
pairs_of (x ∷ stored) [] = []
pairs_of (x ∷ stored) (y ∷ dialled) = eqb x y ∷ pairs_of stored dialled

-- "the last, and … those from the front, none twice"
abbrev pub last_first : List Bool → List Bool
last_first pairs =
    let last = length pairs - 1 in
    drop last pairs ++ take last pairs

-- "while all agree": the pairs that are left, when n were compared and agreed
unfoldable pub compare_on : ℕ → List Bool → Comparison
compare_on n [] = leading n
compare_on n (true ∷ rest) = compare_on (suc n) rest
compare_on n (false ∷ rest) = not_leading (suc n)

-- "none if the dialled number is shorter, else" these
unfoldable pub comparison : List ℕ → List ℕ → Comparison
comparison stored dialled = cond (ltb (length dialled) (length stored)) (not_leading 0) (compare_on 0 (last_first (pairs_of stored dialled)))
