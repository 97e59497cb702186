-- Laws of the profile's written form, for the proofs of reading and for the theorems.
use Prim.Native.Nat.{ℕ, zero, suc, ◌+◌, ◌-◌, ◌≤◌, ◌<◌}
use mathlib.Core.Path.{◌≡◌, refl, sym, ap, ◌∙◌}
use mathlib.Core.List.{List, [], ◌∷◌, ◌++◌, append_assoc}
use mathlib.Core.Bool.{Bool, true, false, ◌&&◌, cond, and-true, and-false, and_assoc}
use mathlib.Core.Logic.{⊎_elim}
use native.Mathlib.Numerals.{add-one}
use native.Mathlib.Nat.{add-zero, le_of_lt}
use native.Mathlib.Omega.{arith}
use borrow.Author.Tests.{eq-eqb, ne_eqb, lt-leb}
use lib.ListN.{length, get_or, take, drop, drop_of_length-le}
use lib.Seq.{drop-cons, drop-drop, get_or-drop, length-take-le, take_all}
use lib.Dec.{leb, eqb, leb-zero}
use Rattle.std.specs.Prelude.{Some, None, Err}
use Rattle.forms.specs.declared.refusal.Refusal.TheVariants.{MalformedProfile}
use Rattle.forms.specs.Bytes.{part, all, leads, same}
use Rattle.forms.specs.Units.{is_default_timer}
use Rattle.forms.specs.Fields.{Field, is_digit_count, bytes_in, all_in_range, frame}
use Rattle.forms.specs.Profile.{Number, handling_number, criterion_number, number_fields, list_fields, fields_of, profile_bytes, sense_in_range, profile_in_range, handling_of, criterion_of, list_at, list_end, number_at, numbers_at, numbers_end, view_at, view_of, profile_of, is_profile, read_profile, end_in_range}
use Rattle.forms.specs.declared.profile.ProfileView.{ProfileView}
use Rattle.forms.proofs.ByteLaws.{below_or_past, framed_same}

-- ---- fields, one list of them after another

pub bytes_both : (a b : List Field) → bytes_in (a ++ b) ≡ bytes_in a ++ bytes_in b
bytes_both [] b = refl
bytes_both (f ∷ a) b = rw (bytes_both a b, append_assoc)

pub in_range_both : (a b : List Field) → all_in_range (a ++ b) ≡ (all_in_range a && all_in_range b)
in_range_both [] b = refl
in_range_both (f ∷ a) b = rw (in_range_both a b, and_assoc)

pub counts : (n : ℕ) (s : List ℕ) (q : ℕ) → length (numbers_at n s q) ≡ n
unfolding numbers_at
counts zero s q = refl
counts (suc n) s q = ap suc (counts n s (list_end s (q + 1)))

-- ---- a list at a place, in the bytes from there on

pub head_at : (s : List ℕ) (q : ℕ) → get_or (drop q s) 0 0 ≡ get_or s q 0
head_at s q = get_or-drop q s 0 0 ∙ ap (λ (n : ℕ). get_or s n 0) (add-zero q)

-- Cited by no proof any more; docs/PORT.md names it.
pub list_from : (s : List ℕ) (q : ℕ) → part (drop q s) 1 (get_or (drop q s) 0 0) ≡ list_at s q
list_from s q = rw (head_at s q, drop-drop 1 q s)

-- ---- what is written of the values at a place is the same as the bytes there; w, which follows, is written of something

same_none : (a w : List ℕ) → same w [] ≡ false → same (a ++ w) [] ≡ false
unfolding same
same_none [] w e = e
same_none (x ∷ a) w e = refl

same_taken : (n : ℕ) (s w : List ℕ) → same (take n s ++ w) s ≡ same w (drop n s)
unfolding same
same_taken zero s w = refl
same_taken (suc n) [] w = refl
same_taken (suc n) (x ∷ s) w = rw (eq-eqb x x refl) (same_taken n s w)

module _ (s : List ℕ) (w : List ℕ) (e : same w [] ≡ false) where
  cell : (q x : ℕ) → same (x ∷ w) (drop q s) ≡ (eqb x (get_or s q 0) && same w (drop (q + 1) s))
  unfolding same
  cell q x =
      ⊎_elim
      (λ (h : q < length s). rw (drop-cons s q 0 h, add-one))
      (λ (h : length s ≤ q). let g : length s ≤ q + 1 = omega arith in rw (drop_of_length-le s h, drop_of_length-le s g, e, and-false))
      (below_or_past q (length s))

  list_inside : (q : ℕ) → q < length s → same (length (list_at s q) ∷ (list_at s q ++ w)) (drop q s) ≡ same w (drop (list_end s q) s)
  unfolding same
  list_inside q h =
      let c = get_or s q 0 in
      let r = drop (q + 1) s in
      ⊎_elim
      (λ (g : length r < c). rw (drop-cons s q 0 h, ← add-one q, take_all c r (le_of_lt g), ne_eqb (length r) c (λ (x : length r ≡ c). omega arith), ← drop-drop c (q + 1) s, drop_of_length-le r (le_of_lt g)) (sym e))
      (λ (g : c ≤ length r). rw (drop-cons s q 0 h, ← add-one q, same_taken c r w, length-take-le c r g, eq-eqb c c refl, drop-drop))
      (below_or_past (length r) c)

  pub list_same : (q : ℕ) → same (length (list_at s q) ∷ (list_at s q ++ w)) (drop q s) ≡ same w (drop (list_end s q) s)
  unfolding same
  list_same q =
      ⊎_elim
      (list_inside q)
      (λ (h : length s ≤ q). let g : length s ≤ list_end s q = omega arith in rw (drop_of_length-le s h, drop_of_length-le s g) (sym e))
      (below_or_past q (length s))

numbers_same : (s w : List ℕ) → same w [] ≡ false → (n q : ℕ) → same (bytes_in (number_fields (numbers_at n s q)) ++ w) (drop q s) ≡ same w (drop (numbers_end n s q) s)
unfolding same numbers_at numbers_end
numbers_same s w e zero q = refl
numbers_same s w e (suc n) q =
    let d = list_at s (q + 1) in
    let b = bytes_in (number_fields (numbers_at n s (list_end s (q + 1)))) in
    rw (append_assoc d b w, cell s (length d ∷ (d ++ (b ++ w))) refl q (get_or s q 0), eq-eqb (get_or s q 0) (get_or s q 0) refl, list_same s (b ++ w) (same_none b w e) (q + 1)) (numbers_same s w e n (list_end s (q + 1)))

last_same : (x : ℕ) (s : List ℕ) (q : ℕ) → same (x ∷ []) (drop q s) ≡ (eqb x (get_or s q 0) && eqb (length (drop q s)) 1)
unfolding same
last_same x s q = rw (← head_at s q) (go (drop q s))
  where
    go : (r : List ℕ) → same (x ∷ []) r ≡ (eqb x (get_or r 0 0) && eqb (length r) 1)
    go [] = rw and-false
    go (y ∷ []) = refl
    go (y ∷ z ∷ r) = rw (ne_eqb (suc (suc (length r))) 1 (λ (h : suc (suc (length r)) ≡ 1). omega arith), and-false)

-- ---- a choice is written as it was read where its byte is in range

apart : (m n : ℕ) → n < m → eqb m n ≡ false
apart m n l = ne_eqb m n (λ (h : m ≡ n). omega arith)

handling_is : (n : ℕ) → eqb (handling_number (handling_of (eqb n 1))) n ≡ leb n 1
handling_is zero = refl
handling_is (suc zero) = refl
handling_is (suc (suc n)) = let k = suc (suc n) in rw (apart k 1 (omega arith), ne_eqb 0 k (λ (h : 0 ≡ k). omega arith), lt-leb k 1 (omega arith))

criterion_is : (n : ℕ) → eqb (criterion_number (criterion_of (eqb n 1) (eqb n 2))) n ≡ leb n 2
criterion_is zero = refl
criterion_is (suc zero) = refl
criterion_is (suc (suc zero)) = refl
criterion_is (suc (suc (suc n))) = let k = suc (suc (suc n)) in rw (apart k 1 (omega arith), apart k 2 (omega arith), ne_eqb 0 k (λ (h : 0 ≡ k). omega arith), lt-leb k 2 (omega arith))

-- ---- what the code tests is what makes the bytes a profile

module _ (s : List ℕ) (p : ProfileView) (e : p ≡ view_of s) where
  abbrev n : ℕ
  n = get_or s 6 0

  pub profile_same : same (profile_bytes (profile_of s)) s
      ≡ (leads (frame (length s)) s && leb (get_or s 3 0) 1 && leb (get_or s 5 0) 2 && leb (get_or s (list_end s p.services) 0) 2 && eqb (length (drop (list_end s p.services) s)) 1)
  unfolding profile_bytes fields_of profile_of view_at same
  profile_same =
      let l = numbers_end n s 7 in
      let v = list_end s l in
      let f = list_end s v in
      let h = handling_number (profile_of s).handling in
      let c = criterion_number (profile_of s).sense in
      let fs = number_fields (numbers_at n s 7) in
      let w₄ = criterion_number (profile_of s).forwarding ∷ [] in
      let w₃ = length (list_at s v) ∷ (list_at s v ++ w₄) in
      let w₂ = length (list_at s l) ∷ (list_at s l ++ w₃) in
      let w₁ = bytes_in fs ++ w₂ in
      rw (e, framed_same (bytes_in (fields_of (profile_of s))) s, bytes_both fs (list_fields (profile_of s)), counts n s 7)
      (rw (cell s (get_or s 4 0 ∷ c ∷ n ∷ w₁) refl 3 h, cell s (c ∷ n ∷ w₁) refl 4 (get_or s 4 0), eq-eqb (get_or s 4 0) (get_or s 4 0) refl, cell s (n ∷ w₁) refl 5 c, cell s w₁ (same_none (bytes_in fs) w₂ refl) 6 n, eq-eqb n n refl)
      (rw (numbers_same s w₂ refl n 7, list_same s w₃ refl l, list_same s w₄ refl v, last_same (criterion_number (profile_of s).forwarding) s f, handling_is (get_or s 3 0), criterion_is (get_or s 5 0), criterion_is (get_or s f 0)) (simp and_assoc)))

  pub profile_in_range_lem : profile_in_range (profile_of s)
      ≡ ((is_default_timer p.timer && leb n 10 && all_in_range (number_fields (numbers_at n s 7)) && leb (length (list_at s p.lengths)) 3 && all is_digit_count (list_at s p.lengths) && leb (length (list_at s p.services)) 5)
      && sense_in_range p.sense (n + length (list_at s p.lengths)))
  unfolding profile_in_range fields_of profile_of view_at
  profile_in_range_lem = rw (e, in_range_both (number_fields (numbers_at n s 7)) (list_fields (profile_of s)), counts n s 7) (simp (leb-zero, and_assoc, and-true))

  -- so where the stored numbers are in range, the code has the rest to test
  pub in_range_where_numbers : all_in_range (number_fields (numbers_at n s 7)) ≡ true → profile_in_range (profile_of s)
      ≡ ((is_default_timer p.timer && leb n 10 && leb (length (list_at s p.lengths)) 3 && all is_digit_count (list_at s p.lengths) && leb (length (list_at s p.services)) 5)
      && sense_in_range p.sense (n + length (list_at s p.lengths)))
  in_range_where_numbers r = rw (profile_in_range_lem, r) (simp and-true)

-- ---- the loops over the n numbers, i of which are done: one more, and none left

module _ (s : List ℕ) (q n i : ℕ) where
  left_one : i < n → n - i ≡ suc (n - (i + 1))
  left_one h = omega arith

  left_none : n ≤ i → n - i ≡ 0
  left_none h = omega arith

  pub numbers_next : i < n → numbers_at (n - i) s q ≡ number_at s q ∷ numbers_at (n - (i + 1)) s (list_end s (q + 1))
  unfolding numbers_at
  numbers_next h = rw (left_one h)

  pub numbers_none : n ≤ i → numbers_at (n - i) s q ≡ []
  unfolding numbers_at
  numbers_none h = rw (left_none h)

  one_more : (m : ℕ) → all_in_range (number_fields (numbers_at (suc m) s q)) ≡ (all_in_range (number_fields (number_at s q ∷ [])) && all_in_range (number_fields (numbers_at m s (list_end s (q + 1)))))
  unfolding numbers_at
  one_more m = simp (and_assoc, and-true)

  pub end_next : i < n → all_in_range (number_fields (number_at s q ∷ [])) ≡ true → end_in_range (n - (i + 1)) s (list_end s (q + 1)) ≡ end_in_range (n - i) s q
  unfolding numbers_end
  end_next h e = rw (left_one h, one_more (n - (i + 1)), e)

  pub end_stop : i < n → all_in_range (number_fields (number_at s q ∷ [])) ≡ false → end_in_range (n - i) s q ≡ None
  end_stop h e = rw (left_one h, one_more (n - (i + 1)), e)

  pub end_none : n ≤ i → end_in_range (n - i) s q ≡ Some q
  unfolding numbers_at numbers_end
  end_none h = rw (left_none h)

-- where a stored number is out of range, the bytes are no profile
pub no_end : (s : List ℕ) → end_in_range (get_or s 6 0) s 7 ≡ None → read_profile s ≡ Err MalformedProfile
unfolding read_profile is_profile profile_in_range fields_of profile_of
no_end s h = go (all_in_range (number_fields ns)) refl h
  where
    ns : List Number
    ns = numbers_at (get_or s 6 0) s 7

    go : (b : Bool) → all_in_range (number_fields ns) ≡ b → cond b (Some (numbers_end (get_or s 6 0) s 7)) None ≡ None → read_profile s ≡ Err MalformedProfile
    go true e h = absurd cc
    go false e h = rw (in_range_both (number_fields ns) (list_fields (profile_of s)), e) (simp and-false)
