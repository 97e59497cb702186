-- Where a call stands: what std's `position` gives is what `find` finds.
use Prim.Native.Nat.{ℕ, suc, ◌+◌, ◌≤◌, ◌<◌}
use native.Mathlib.Omega.{arith}
use native.Mathlib.Numerals.{add-one}
use mathlib.Core.Path.{◌≡◌, refl, sym, ap, ◌∙◌}
use mathlib.Core.Bool.{Bool, true, false, cond}
use mathlib.Core.List.{List, [], ◌∷◌}
use mathlib.Core.Logic.{⊎_elim}
use lib.Dec.{eqb, ltb}
use lib.ListN.{length, get_or, drop, drop_of_length-le}
use lib.Seq.{drop-cons}
use borrow.Author.Tests.{lt-ltb, le-ltb}
use Rattle.std.specs.Prelude.{Option, None, Some, position}
use Rattle.std.specs.List.{position_or_len}
use Rattle.std.specs.Option.{option_eq}
use Rattle.forms.proofs.ByteLaws.{below_or_past}
use Rattle.table.specs.Types.{Slot}
use Rattle.table.specs.declared.lookup.Spot.TheVariants.{Nowhere, Free, Own}
use Rattle.table.specs.Table.{next, find, is_free, owns}
use Rattle.table.specs.Slot.{our_slots, blank_slot}
use Rattle.table.specs.Lookup.{is_of, locate_of}
use Rattle.table.proofs.Lists.{Found, found}

-- one place further on
behind : (k n : ℕ) → cond (ltb (1 + k) (suc n)) (Some (1 + k)) None ≡ next false (cond (ltb k n) (Some k) None)
unfolding next
behind k n =
    ⊎_elim (λ s. rw (lt-ltb k n s, lt-ltb (1 + k) (suc n) (omega arith)) (ap Some (omega arith))) (λ m. rw (le-ltb k n m, le-ltb (1 + k) (suc n) (omega arith))) (below_or_past k n)

-- the derived comparison of owners is the one that is looked for
same_owner : (wanted : Option ℕ) (s : Slot) → option_eq eqb s.owner wanted ≡ is_of wanted s
same_owner wanted s = go wanted s.owner refl
  where
    go : (w o : Option ℕ) → s.owner ≡ o → option_eq eqb s.owner w ≡ is_of w s
    go None None e = rw e
    go None (Some j) e = rw e
    go (Some k) None e = rw e
    go (Some k) (Some j) e = rw e

pub found_place : (wanted : Option ℕ) (t : List Slot) → position (λ (s : Slot). option_eq eqb s.owner wanted) t ≡ find (is_of wanted) t
unfolding find next
found_place wanted [] = refl
found_place wanted (s ∷ t) = go (is_of wanted s) (same_owner wanted s) (found_place wanted t)
  where
    go : (b : Bool) → option_eq eqb s.owner wanted ≡ b → position (λ (s : Slot). option_eq eqb s.owner wanted) t ≡ find (is_of wanted) t
        → position (λ (s : Slot). option_eq eqb s.owner wanted) (s ∷ t) ≡ next b (find (is_of wanted) t)
    go true e q = rw (e, lt-ltb 0 (suc (length t)) (omega arith))
    go false e q = rw e (behind (position_or_len (λ (s : Slot). option_eq eqb s.owner wanted) t) (length t) ∙ ap (next false) q)

-- ---- the spot, by the two places

module _ (t : List Slot) (k : ℕ) where
  pub own_located : (i : ℕ) → find (owns our_slots k) t ≡ Some i → Own i ≡ locate_of k t
  own_located i e = rw e

  -- "Setup takes the lowest free slot"
  pub free_located : (j : ℕ) → find (owns our_slots k) t ≡ None → find (is_free our_slots) t ≡ Some j → Free j ≡ locate_of k t
  free_located j e f = rw (e, f)

  pub not_located : find (owns our_slots k) t ≡ None → find (is_free our_slots) t ≡ None → Nowhere ≡ locate_of k t
  not_located e f = rw (e, f)

-- ---- a pass by places: the first that passes the test stands at place i or behind it
-- Cited by no proof any more; docs/PORT.md names them.

-- the place that was found, or else d
abbrev pub place_or : ℕ → Option ℕ → ℕ
place_or d None = d
place_or d (Some i) = i

-- a place in the rest from i on, as a place in the whole
abbrev at : ℕ → Option ℕ → Option ℕ
at i None = None
at i (Some j) = Some (i + j)

at_zero : (o : Option ℕ) → at 0 o ≡ o
at_zero None = refl
at_zero (Some j) = ap Some (omega arith)

at_next : (i : ℕ) (o : Option ℕ) → at i (next false o) ≡ at (suc i) o
unfolding next
at_next i None = refl
at_next i (Some j) = ap Some (omega arith)

module _ (p : Slot → Bool) (t : List Slot) where
  abbrev pub Ahead : ℕ → Type 0
  Ahead i = find p t ≡ at i (find p (drop i t))

  pub ahead_start : Ahead 0
  ahead_start = sym (at_zero (find p t))

  -- d is what a place past the end would give: any will do
  head : (i : ℕ) (d : Slot) → i < length t → find p (drop i t) ≡ next (p (get_or t i d)) (find p (drop (suc i) t))
  unfolding find
  head i d h = rw (drop-cons t i d h)

  pub ahead_on : (i : ℕ) (d : Slot) → i < length t → p (get_or t i d) ≡ false → Ahead i → Ahead (i + 1)
  ahead_on i d h e a = a ∙ ap (at i) (head i d h ∙ ap (λ b. next b (find p (drop (suc i) t))) e) ∙ at_next i (find p (drop (suc i) t)) ∙ rw add-one

  pub ahead_here : (i : ℕ) (d : Slot) → i < length t → p (get_or t i d) ≡ true → Ahead i → i ≡ place_or 64 (find p t)
  unfolding next
  ahead_here i d h e a = rw (a ∙ ap (at i) (head i d h ∙ ap (λ b. next b (find p (drop (suc i) t))) e)) (omega arith)

  pub ahead_end : (i : ℕ) → length t ≤ i → Ahead i → 64 ≡ place_or 64 (find p t)
  unfolding find
  ahead_end i h a = rw (a ∙ ap (λ l. at i (find p l)) (drop_of_length-le t h))

-- the lowest free slot by two such places, which `free_located` gives
module _ (t : List Slot) (h : length t ≡ 64) where
  -- what is found stands in the table, so a place behind it says that nothing was found
  nothing : (p : Slot → Bool) (i : ℕ) → i ≡ place_or 64 (find p t) → 64 ≤ i → find p t ≡ None
  nothing p i e g = go (find p t) (found p blank_slot t) e
    where
      go : (o : Option ℕ) → Found p blank_slot t o → i ≡ place_or 64 o → o ≡ None
      go None f e = refl
      go (Some j) f e = absurd (omega (arith, f.0, h, e, g))

  pub free_located_by_place : (k i : ℕ) → i ≡ place_or 64 (find (owns our_slots k) t) → 64 ≤ i → (j : ℕ) → j ≡ place_or 64 (find (is_free our_slots) t) → j < 64 → Free j ≡ locate_of k t
  free_located_by_place k i e g j f l = free_located t k j (nothing (owns our_slots k) i e g) (go (find (is_free our_slots) t) f)
    where
      go : (o : Option ℕ) → j ≡ place_or 64 o → o ≡ Some j
      go None f = absurd (omega (arith, f, l))
      go (Some m) f = ap Some (sym f)
