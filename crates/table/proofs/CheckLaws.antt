-- The check for refusal 3: 'one call twice' over the calls that own slots, and what the passes over calls and slots have found out so far.
use Prim.Native.Nat.{ℕ, zero, suc, ◌+◌, ◌-◌, ◌%◌, ◌≤◌, ◌<◌}
use native.Mathlib.Omega.{arith}
use native.Mathlib.Nat.{add-zero}
use native.Mathlib.Numerals.{add-one}
use mathlib.Core.Path.{◌≡◌, refl, sym, ◌∙◌, ap}
use mathlib.Core.Bool.{Bool, true, false, cond, not, ◌&&◌, ◌||◌, and_assoc, and-false}
use mathlib.Core.List.{List, [], ◌∷◌, ◌++◌, append_assoc, append-nil}
use Rattle.std.specs.Prelude.{Option, None, Some, is_none}
use lib.Dec.{eqb}
use lib.ListN.{length, length-set, get_or, set, take, drop, drop_of_length-le}
use Rattle.std.proofs.lemmas.List.{length-drop}
use lib.Seq.{drop-length, drop-cons, take-length, get_or-set_same, get_or-set_other, take-set-le, take-suc-set}
use borrow.Author.Tests.{eq-eqb, ne_eqb, eqb-true, eqb-false}
use Rattle.table.specs.Types.{Slot}
use Rattle.table.specs.Table.{next, find, all, is_call, owns, is_sound_slot, absent, once, is_sound}
use Rattle.table.specs.Slot.{our_slots}
use Rattle.table.specs.Check.{cons_call, calls, among, is_once}

-- ---- the calls, from a place on

not_and : (a b : Bool) → not a && b ≡ cond a false b
not_and true b = refl
not_and false b = refl

-- a call that stands twice from place i on
once_from : (l : List ℕ) (i : ℕ) → is_once (drop i l) ≡ false → is_once l ≡ false
unfolding is_once
once_from l zero e = e
once_from [] (suc i) e = e
once_from (k ∷ l) (suc i) e = rw (once_from l i e, ← not_and (among k l) false) (and-false (not (among k l)))

-- from the last call of l to the first: of those from place i on each has its mark in m, and none stands twice
pub record Searched (l : List ℕ) (m : List Bool) (i : ℕ) : Type 0 where
  pub within : i ≤ length l
  pub size : length m ≡ 256
  pub unmarked : (k : ℕ) → get_or m (k % 256) false ≡ false → among k (drop i l) ≡ false
  pub once : is_once (drop i l) ≡ true

pub searched_none : (l : List ℕ) (m : List Bool) → length m ≡ 256 → Searched l m (length l)
unfolding is_once
searched_none l m h = record { within = omega arith; size = h; unmarked = λ k e. rw (drop-length l); once = rw (drop-length l) }

module _ {l : List ℕ} {m : List Bool} {i : ℕ} (s : Searched l m i) (p : 0 < i) where
  here : drop (i - 1) l ≡ get_or l (i - 1) 0 ∷ drop i l
  here = let e : suc (i - 1) ≡ i = omega arith in rw e at (drop-cons l (i - 1) 0 (omega arith))

  -- the calls behind place i - 1, as the code's range has them
  pub among_behind : (k : ℕ) → among k (drop i l) ≡ among k (take (length l - (i - 1 + 1)) (drop (i - 1 + 1) l))
  among_behind k = let e : i - 1 + 1 ≡ i = omega arith in rw e (ap (among k) (sym (rw length-drop at (take-length (drop i l)))))

  pub searched_twice : among (get_or l (i - 1) 0) (drop i l) ≡ true → is_once l ≡ false
  unfolding is_once
  searched_twice e = once_from l (i - 1) (rw (here, e))

  pub searched_on : among (get_or l (i - 1) 0) (drop i l) ≡ false → Searched l (set m (get_or l (i - 1) 0 % 256) true) (i - 1)
  unfolding is_once
  searched_on e = record { within = omega arith; size = simp length-set s.size; unmarked = λ k. rw here (go k (eqb (k % 256) (j % 256)) refl); once = rw (here, e) s.once }
    where
      j : ℕ
      j = get_or l (i - 1) 0

      go : (k : ℕ) (b : Bool) → eqb (k % 256) (j % 256) ≡ b → get_or (set m (j % 256) true) (k % 256) false ≡ false → eqb j k || among k (drop i l) ≡ false
      go k true h f = cc (eqb-true (k % 256) (j % 256) h, get_or-set_same m (j % 256) true false (omega arith))
      go k false h f =
          let n = eqb-false (k % 256) (j % 256) h in
          rw (ne_eqb j k (λ q. n (ap (λ x. x % 256) (sym q)))) (s.unmarked k (sym (get_or-set_other m (j % 256) (k % 256) true false n) ∙ f))

-- ---- no call owns two slots exactly if none stands twice among the calls

none_next : (b : Bool) (o : Option ℕ) → is_none (next b o) ≡ not b && is_none o
unfolding next
none_next true o = refl
none_next false None = refl
none_next false (Some i) = refl

not_or : (a b : Bool) → not (a || b) ≡ not a && not b
not_or true b = refl
not_or false b = refl

-- a slot's owner before the calls of others
among_cons : (k : ℕ) (o : Option ℕ) (l : List ℕ) → not (among k (cons_call o l)) ≡ not (is_call k o) && not (among k l)
among_cons k None l = refl
among_cons k (Some j) l = not_or (eqb j k) (among k l)

absent_among : (k : ℕ) (t : List Slot) → is_none (find (owns our_slots k) t) ≡ not (among k (calls t))
unfolding find calls
absent_among k [] = refl
absent_among k (s ∷ t) = none_next (owns our_slots k s) (find (owns our_slots k) t) ∙ rw (absent_among k t) (sym (among_cons k s.owner (calls t)))

once_cons : (o : Option ℕ) (t : List Slot) → absent our_slots o t && is_once (calls t) ≡ is_once (cons_call o (calls t))
unfolding is_once
once_cons None t = refl
once_cons (Some k) t = rw (absent_among k t) (not_and (among k (calls t)) (is_once (calls t)))

once_calls : (t : List Slot) → once our_slots t ≡ is_once (calls t)
unfolding once is_once calls
once_calls [] = refl
once_calls (s ∷ t) = rw (once_calls t) (once_cons s.owner t)

-- ---- one pass: the first n of l are the calls before slot i

-- a call is added
added : (l r : List ℕ) (n k : ℕ) → n < length l → take (n + 1) (set l n k) ++ r ≡ take n l ++ (k ∷ r)
added l r n k h = rw (add-one, take-suc-set l n k h) (append_assoc (take n l) (k ∷ []) r)

module _ (t : List Slot) where
  pub short : (length t ≡ 64 → ⊥) → is_sound our_slots t ≡ false
  unfolding is_sound
  short h = rw (ne_eqb (length t) 64 h)

  pub checked : length t ≡ 64 → is_sound our_slots t ≡ all (is_sound_slot our_slots) t && is_once (calls t)
  unfolding is_sound
  checked h = rw (eq-eqb (length t) 64 h, once_calls t)

  -- what is left of the check, the slots before i being sound
  abbrev pub check_from : List ℕ → ℕ → ℕ → Bool
  check_from l n i = all (is_sound_slot our_slots) (drop i t) && is_once (take n l ++ calls (drop i t))

  -- d is what a place past the end would give: any will do
  module _ (l : List ℕ) (n i : ℕ) (d : Slot) (h : i < length t) where
    -- slot i is not sound; it is, and free, or a call's
    pub check_stop : is_sound_slot our_slots (get_or t i d) ≡ false → check_from l n i ≡ false
    unfolding all
    check_stop e = rw (drop-cons t i d h, e)

    pub check_free : is_sound_slot our_slots (get_or t i d) ≡ true → (get_or t i d).owner ≡ None → check_from l n i ≡ check_from l n (i + 1)
    unfolding all calls
    check_free e o = rw (add-one, drop-cons t i d h, e, o)

    pub check_call : (k : ℕ) → is_sound_slot our_slots (get_or t i d) ≡ true → (get_or t i d).owner ≡ Some k → n < length l → check_from l n i ≡ check_from (set l n k) (n + 1) (i + 1)
    unfolding all calls
    check_call k e o m = rw (add-one i, added l (calls (drop (suc i) t)) n k m, drop-cons t i d h, e, o)

  pub check_end : (l : List ℕ) (n i : ℕ) → length t ≤ i → check_from l n i ≡ is_once (take n l)
  unfolding all calls
  check_end l n i h = rw (drop_of_length-le t h, append-nil)

-- ---- one step of the pass, for any owner and any answer
-- Cited by no proof any more; docs/PORT.md names it.

-- the call that an owner is, 0 where it is none; and how many calls it is
abbrev pub call_of : Option ℕ → ℕ
call_of None = 0
call_of (Some k) = k

abbrev pub count_of : Option ℕ → ℕ
count_of None = 0
count_of (Some k) = 1

-- an owner is added to the calls
owner_added : (o : Option ℕ) (l r : List ℕ) (n : ℕ) → n < length l → take (n + count_of o) (set l n (call_of o)) ++ r ≡ take n l ++ cons_call o r
owner_added None l r n h = rw (add-zero n, take-set-le n l n 0 (omega arith))
owner_added (Some k) l r n h = added l r n k h

module _ (t : List Slot) (l : List ℕ) (n i : ℕ) where
  -- b: is slot i sound?
  -- d is what a place past the end would give: any will do
  pub check_on : {b : Bool} (d : Slot) → i < length t → n < length l
      → let e = get_or t i d in let o = e.owner in is_sound_slot our_slots e ≡ b → check_from t l n i ≡ b && check_from t (set l n (call_of o)) (n + count_of o) (i + 1)
  unfolding all calls
  check_on d h k s =
      let e = get_or t i d in
      let r = drop (suc i) t in
      rw (← s, add-one, owner_added e.owner l (calls r) n k, drop-cons t i d h) (and_assoc (is_sound_slot our_slots e) (all (is_sound_slot our_slots) r) _)
