-- Laws of the digit comparison: for the proof of `compare`, and that what it answers is what `leads` says.
use Prim.Native.Nat.{ℕ, zero, suc, ◌+◌, ◌-◌, ◌≤◌, ◌<◌}
use mathlib.Core.Path.{◌≡◌, refl, sym, ap, ◌∙◌, subst}
use mathlib.Core.List.{List, [], ◌∷◌, ◌++◌}
use mathlib.Core.Bool.{Bool, true, false, ◌&&◌, not, cond, and-false, and_comm}
use mathlib.Core.Logic.{⊎_elim}
use native.Mathlib.Numerals.{add-one}
use native.Mathlib.Nat.{add-zero}
use native.Mathlib.Omega.{arith}
use lib.ListN.{length, get_or, take, drop, drop_of_length-le, length-append, length-drop, take-append-drop}
use lib.Dec.{eqb, ltb}
use lib.Seq.{drop-cons, length-take-le}
use borrow.Author.Tests.{eq-eqb, ne_eqb, le-ltb, lt-ltb}
use Rattle.std.specs.Prelude.{Option, Some, None, zip}
use Rattle.std.specs.List.{position_or_len}
use Rattle.forms.specs.Bytes.{leads}
use Rattle.forms.specs.Comparison.{leading, not_leading, pairs_of, last_first, compare_on, comparison}
use Rattle.forms.proofs.ByteLaws.{below_or_past}

-- ---- the pairs, and their order

length_pairs : (a d : List ℕ) → length a ≤ length d → length (pairs_of a d) ≡ length a
unfolding pairs_of
length_pairs [] d h = refl
length_pairs (x ∷ a) [] h = omega arith
length_pairs (x ∷ a) (y ∷ d) h = rw (length_pairs a d (omega arith))

pair_at : (a d : List ℕ) (i : ℕ) → i < length a → i < length d → get_or (pairs_of a d) i false ≡ eqb (get_or a i 0) (get_or d i 0)
unfolding pairs_of
pair_at [] d i h l = absurd (omega arith)
pair_at (x ∷ a) [] i h l = absurd (omega arith)
pair_at (x ∷ a) (y ∷ d) zero h l = refl
pair_at (x ∷ a) (y ∷ d) (suc i) h l = pair_at a d i (omega arith) (omega arith)

take_pairs : (n : ℕ) (a d : List ℕ) → take n (pairs_of a d) ≡ pairs_of (take n a) d
unfolding pairs_of
take_pairs zero a d = refl
take_pairs (suc n) [] d = refl
take_pairs (suc n) (x ∷ a) [] = refl
take_pairs (suc n) (x ∷ a) (y ∷ d) = rw (take_pairs n a d)

-- ---- the comparison by cases: a shorter dialled number, a stored one without digits, last digits that differ, last digits that agree

pub shorter : (a d : List ℕ) → length d < length a → comparison a d ≡ not_leading 0
unfolding comparison
shorter a d h = rw (lt-ltb _ _ h)

pub no_digits : (a d : List ℕ) → length a ≡ 0 → comparison a d ≡ leading 0
unfolding comparison pairs_of compare_on
no_digits [] d e = rw (le-ltb (length d) 0 (omega arith))
no_digits (x ∷ a) d e = absurd (omega arith)

-- a dialled number that is not shorter: every pair has its place in the order
pub compared : (a d : List ℕ) → length a ≤ length d → comparison a d ≡ compare_on 0 (last_first (pairs_of a d))
unfolding comparison
compared a d l = rw (le-ltb (length d) (length a) l)

pub length_order : (a d : List ℕ) → length a ≤ length d → length (last_first (pairs_of a d)) ≡ length a
length_order a d l =
    let ps = pairs_of a d in
    let last = length ps - 1 in
    rw (length-append (drop last ps) (take last ps), length-drop last ps, length-take-le last ps (omega arith)) (omega (arith, length_pairs a d l))

-- the pair compared first, and those from the front
module _ (a d : List ℕ) (h : 0 < length a) (l : length a ≤ length d) where
  abbrev last : ℕ
  last = length a - 1

  in_order : comparison a d ≡ compare_on 0 (eqb (get_or a last 0) (get_or d last 0) ∷ pairs_of (take last a) d)
  in_order =
      let n = length_pairs a d l in
      rw (
        compared a d l,
        n,
        drop-cons (pairs_of a d) last false (omega (arith, n)),
        drop_of_length-le (pairs_of a d) {i = suc last} (omega (arith, n)),
        pair_at a d last (omega arith) (omega arith),
        take_pairs last a d,
      )

  pub last_differs : (get_or a last 0 ≡ get_or d last 0 → ⊥) → comparison a d ≡ not_leading 1
  unfolding compare_on
  last_differs e = rw (in_order, ne_eqb _ _ e)

  pub last_agrees : get_or a last 0 ≡ get_or d last 0 → comparison a d ≡ compare_on 1 (pairs_of (take last a) d)
  unfolding compare_on
  last_agrees e = rw (in_order, eq-eqb _ _ e)

-- ---- the pairs from the front, n of which were compared before: the first that differs, or none

abbrev pub differs : ℕ × ℕ → Bool
differs p = not (eqb p.0 p.1)

front : (n : ℕ) (a d : List ℕ) → length a ≤ length d
    → let k = position_or_len differs (zip a d) in compare_on n (pairs_of a d) ≡ cond (ltb k (length (zip a d))) (not_leading (n + k + 1)) (leading (n + length a))
unfolding pairs_of compare_on
front n [] d h = rw add-zero
front n (x ∷ a) [] h = absurd (omega arith)
front n (x ∷ a) (y ∷ d) h = go (eqb x y) (front (suc n) a d (omega arith))
  where
    k : ℕ
    k = position_or_len differs (zip a d)

    m : ℕ
    m = length (zip a d)

    -- where the first two agree, one more was compared
    later : compare_on (suc n) (pairs_of a d) ≡ cond (ltb k m) (not_leading (suc n + k + 1)) (leading (suc n + length a)) → compare_on (suc n) (pairs_of a d) ≡ cond (ltb (1 + k) (suc m)) (not_leading (n + (1 + k) + 1)) (leading (n + suc (length a)))
    later e =
        let p : suc n + k + 1 ≡ n + (1 + k) + 1 = omega arith in
        let q : suc n + length a ≡ n + suc (length a) = omega arith in
        ⊎_elim
        (λ (l : k < m). rw (lt-ltb (1 + k) (suc m) (omega arith), ← p) (e ∙ rw (lt-ltb k m l)))
        (λ (l : m ≤ k). rw (le-ltb (1 + k) (suc m) (omega arith), ← q) (e ∙ rw (le-ltb k m l)))
        (below_or_past k m)

    go : (b : Bool) → compare_on (suc n) (pairs_of a d) ≡ cond (ltb k m) (not_leading (suc n + k + 1)) (leading (suc n + length a))
        → let j = cond (not (not b)) (1 + k) 0 in compare_on n (b ∷ pairs_of a d) ≡ cond (ltb j (suc m)) (not_leading (n + j + 1)) (leading (n + suc (length a)))
    go true e = later e
    go false e = rw (lt-ltb 0 (suc m) (omega arith), add-zero, add-one)

-- what `position` answers decides the comparison
abbrev pub Front : List ℕ → List ℕ → Option ℕ → Type 0
Front a d None = compare_on 1 (pairs_of a d) ≡ leading (length a + 1)
Front a d (Some i) = compare_on 1 (pairs_of a d) ≡ not_leading (i + 2)

pub front_is : (a d : List ℕ) → length a ≤ length d → (r : Option ℕ) → r ≡ (let k = position_or_len differs (zip a d) in cond (ltb k (length (zip a d))) (Some k) None) → Front a d r
front_is a d h r e = subst (Front a d) (sym e) (go (ltb k (length (zip a d))) (front 1 a d h))
  where
    k : ℕ
    k = position_or_len differs (zip a d)

    go : (b : Bool) → compare_on 1 (pairs_of a d) ≡ cond b (not_leading (1 + k + 1)) (leading (1 + length a)) → Front a d (cond b (Some k) None)
    go true p = let q : 1 + k + 1 ≡ k + 2 = omega arith in rw q at p
    go false p = let q : 1 + length a ≡ length a + 1 = omega arith in rw q at p

-- ---- "Every answer stays as it is"

-- they lead where all agree, however many were compared before, and in whatever order
same_leads : (n m : ℕ) (ps : List Bool) → (compare_on n ps).leads ≡ (compare_on m ps).leads
unfolding compare_on
same_leads n m [] = refl
same_leads n m (true ∷ ps) = same_leads (suc n) (suc m) ps
same_leads n m (false ∷ ps) = refl

leads_append : (n m : ℕ) (ps qs : List Bool) → (compare_on n (ps ++ qs)).leads ≡ ((compare_on n ps).leads && (compare_on m qs).leads)
unfolding compare_on
leads_append n m [] qs = same_leads n m qs
leads_append n m (true ∷ ps) qs = leads_append (suc n) m ps qs
leads_append n m (false ∷ ps) qs = refl

turned : (k : ℕ) (ps : List Bool) → (compare_on 0 (drop k ps ++ take k ps)).leads ≡ (compare_on 0 ps).leads
turned k ps =
    leads_append 0 0 (drop k ps) (take k ps) ∙ and_comm (compare_on 0 (drop k ps)).leads (compare_on 0 (take k ps)).leads
    ∙ sym (leads_append 0 0 (take k ps) (drop k ps)) ∙ ap (λ (qs : List Bool). (compare_on 0 qs).leads) (take-append-drop k ps)

pairs_lead : (n : ℕ) (a d : List ℕ) → length a ≤ length d → (compare_on n (pairs_of a d)).leads ≡ leads a d
unfolding pairs_of compare_on leads
pairs_lead n [] d h = refl
pairs_lead n (x ∷ a) [] h = absurd (omega arith)
pairs_lead n (x ∷ a) (y ∷ d) h = go (eqb x y) (pairs_lead (suc n) a d (omega arith))
  where
    go : (p : Bool) → (compare_on (suc n) (pairs_of a d)).leads ≡ leads a d → (compare_on n (p ∷ pairs_of a d)).leads ≡ (p && leads a d)
    go true e = e
    go false e = refl

shorter_leads : (a d : List ℕ) → length d < length a → leads a d ≡ false
unfolding leads
shorter_leads [] d h = absurd (omega arith)
shorter_leads (x ∷ a) [] h = refl
shorter_leads (x ∷ a) (y ∷ d) h = rw (shorter_leads a d (omega arith)) (simp and-false)

-- what the comparison answers is what it was before
pub as_before : (a d : List ℕ) → (comparison a d).leads ≡ leads a d
as_before a d =
    ⊎_elim
    (λ s. rw (shorter a d s, shorter_leads a d s))
    (λ l. rw (compared a d l) (turned (length (pairs_of a d) - 1) (pairs_of a d) ∙ pairs_lead 0 a d l))
    (below_or_past (length d) (length a))
