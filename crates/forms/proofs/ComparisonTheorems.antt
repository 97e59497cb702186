-- Document 02, T-03: what the count of digit pairs tells, in terms of the digits. Each case has its count: a shorter dialled number (`ComparisonLaws.shorter`), a stored one without digits (`no-digits`), last digits that differ (`last-differs`), a match (`full`), a difference further in front (`stops`).
use Prim.Native.Nat.{ℕ, zero, suc, ◌+◌, ◌-◌, ◌≤◌, ◌<◌}
use mathlib.Core.Path.{◌≡◌, ◌∙◌}
use mathlib.Core.List.{List, [], ◌∷◌}
use mathlib.Core.Bool.{Bool, true, false, false≢true}
use mathlib.Core.Logic.{⊎_elim}
use native.Mathlib.Omega.{arith}
use lib.ListN.{length, get_or, take}
use lib.Dec.{eqb}
use lib.Seq.{length-take-le, get_or-take, take-take}
use borrow.Author.Tests.{ne_eqb}
use Rattle.forms.specs.Bytes.{leads}
use Rattle.forms.specs.Comparison.{not_leading, pairs_of, last_first, compare_on, comparison}
use Rattle.forms.proofs.ByteLaws.{below_or_past, and_left, and_right}
use Rattle.forms.proofs.ComparisonLaws.{shorter, compared, length_order, last_agrees, as_before}

-- ---- of pairs in the order in which they are compared, when n were

pairs_at_most : (n : ℕ) (ps : List Bool) → (compare_on n ps).pairs ≤ n + length ps
unfolding compare_on
pairs_at_most n [] = omega arith
pairs_at_most n (true ∷ ps) = omega (arith, pairs_at_most (suc n) ps)
pairs_at_most n (false ∷ ps) = omega arith

pairs_full : (n : ℕ) (ps : List Bool) → (compare_on n ps).leads ≡ true → (compare_on n ps).pairs ≡ n + length ps
unfolding compare_on
pairs_full n [] e = omega arith
pairs_full n (true ∷ ps) e = omega (arith, pairs_full (suc n) ps e)
pairs_full n (false ∷ ps) e = absurd (false≢true e)

-- of two numbers, where those before place i agree and those at i do not
pairs_stop : (n : ℕ) (a d : List ℕ) (i : ℕ) → i < length a → i < length d → leads (take i a) d ≡ true → (get_or a i 0 ≡ get_or d i 0 → ⊥) → compare_on n (pairs_of a d) ≡ not_leading (n + i + 1)
unfolding pairs_of compare_on leads
pairs_stop n [] d i h l e f = absurd (omega arith)
pairs_stop n (x ∷ a) [] i h l e f = absurd (omega arith)
pairs_stop n (x ∷ a) (y ∷ d) zero h l e f =
    let m : suc n ≡ n + 0 + 1 = omega arith in
    rw (ne_eqb x y f, m)
pairs_stop n (x ∷ a) (y ∷ d) (suc i) h l e f =
    let m : suc n + i + 1 ≡ n + suc i + 1 = omega arith in
    rw (and_left (eqb x y) (leads (take i a) d) e, ← m) (pairs_stop (suc n) a d i (omega arith) (omega arith) (and_right (eqb x y) (leads (take i a) d) e) f)

-- ---- of two numbers

-- at most the stored number's length
pub at_most : (a d : List ℕ) → (comparison a d).pairs ≤ length a
at_most a d =
    ⊎_elim
    (λ s. rw (shorter a d s) (omega arith))
    (λ l. rw (compared a d l) (omega (arith, pairs_at_most 0 (last_first (pairs_of a d)), length_order a d l)))
    (below_or_past (length d) (length a))

-- the full length where it matches
pub full : (a d : List ℕ) → leads a d ≡ true → (comparison a d).pairs ≡ length a
full a d e =
    let t : (comparison a d).leads ≡ true = as_before a d ∙ e in
    ⊎_elim
    (λ s. absurd (false≢true (rw (shorter a d s) at t)))
    (λ l. rw (compared a d l) (omega (arith, pairs_full 0 (last_first (pairs_of a d)) (rw (compared a d l) at t), length_order a d l)))
    (below_or_past (length d) (length a))

-- where the last digits agree and those at place i are the first that differ: the last, and those from the front up to place i
pub stops : (a d : List ℕ) (i : ℕ)
    → suc i < length a → length a ≤ length d
    → get_or a (length a - 1) 0 ≡ get_or d (length a - 1) 0
    → leads (take i a) d ≡ true → (get_or a i 0 ≡ get_or d i 0 → ⊥)
    → comparison a d ≡ not_leading (i + 2)
stops a d i h l same e f =
    let last = length a - 1 in
    let n : length (take last a) ≡ last = length-take-le last a (omega arith) in
    let m : 1 + i + 1 ≡ i + 2 = omega arith in
    rw (last_agrees a d (omega arith) l same, ← m)
    (pairs_stop 1 (take last a) d i (omega (arith, n)) (omega arith) (rw (take-take i last a (omega arith)) e) (rw (get_or-take last a i 0 (omega arith)) f))
