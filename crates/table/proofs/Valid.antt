-- Sound tables, and what one stored slot does to them.
use Prim.Native.Nat.{ℕ, ◌≤◌, ◌<◌}
use native.Mathlib.Omega.{arith}
use mathlib.Core.Path.{◌≡◌, refl, ap, ◌∙◌}
use mathlib.Core.Bool.{Bool, true, false, ◌&&◌}
use mathlib.Core.List.{List, [], ◌∷◌}
use Rattle.std.specs.Prelude.{Option, None, Some, is_none}
use lib.Dec.{eqb}
use lib.ListN.{length, get_or, set, length-set}
use borrow.Author.Tests.{eqb-true, eq-eqb}
use Rattle.forms.proofs.ByteLaws.{and_left, and_right}
use Rattle.table.specs.Runs.{cons_if, only}
use Rattle.table.specs.Table.{Slots, all, is_call, is_free, owns, first, look, is_sound_slot, sound_as, absent, once, is_sound}
use Rattle.table.proofs.Lists.{only_one, cons_if_length, none_nil, nil_none, nil, all_at, all_set, Found, only_set, only_set_other}

module _ {Rec : Type 0} (m : Slots Rec) where
  open m use {Slot, owner, body, own, blank, in_range}

  -- the slots that call k owns
  abbrev slots_of : ℕ → List Slot → List Slot
  slots_of k = only (owns m k)

  -- `is_sound`, with "one call twice" said of each call
  pub record Valid (t : List Slot) : Type 0 where
    pub size : eqb (length t) 64 ≡ true
    pub each : all (is_sound_slot m) t ≡ true
    pub single : (k : ℕ) → length (slots_of k t) ≤ 1

  -- a slot with the owner o, put in front of t
  once_cons : (t : List Slot) (s : Slot) (o : Option ℕ) (k : ℕ) → absent m o t ≡ true → length (slots_of k t) ≤ 1 → length (cons_if (is_call k o) s (slots_of k t)) ≤ 1
  unfolding cons_if
  once_cons t s None k e h = h
  once_cons t s (Some j) k e h = go (eqb j k) refl
    where
      go : (b : Bool) → eqb j k ≡ b → length (cons_if (eqb j k) s (slots_of k t)) ≤ 1
      go true q = rw (q, ← eqb-true j k q, none_nil (owns m j) s t e) (omega arith)
      go false q = rw q h

  once_single : (t : List Slot) → once m t ≡ true → (k : ℕ) → length (slots_of k t) ≤ 1
  unfolding once only
  once_single [] e k = omega arith
  once_single (s ∷ t) e k =
      once_cons t s (owner s) k (and_left (absent m (owner s) t) (once m t) e) (once_single t (and_right (absent m (owner s) t) (once m t) e) k)

  cons_once : (t : List Slot) (s : Slot) (o : Option ℕ) → ((k : ℕ) → length (cons_if (is_call k o) s (slots_of k t)) ≤ 1) → absent m o t ≡ true
  unfolding cons_if
  cons_once t s None h = refl
  cons_once t s (Some k) h =
      nil_none (owns m k) s t (nil (slots_of k t) (omega (arith, rw (eq-eqb k k refl) at (h k))))

  single_once : (t : List Slot) → ((k : ℕ) → length (slots_of k t) ≤ 1) → once m t ≡ true
  unfolding once only
  single_once [] h = refl
  single_once (s ∷ t) h =
      rw (cons_once t s (owner s) h) (single_once t (λ k. omega (arith, h k, cons_if_length (owns m k s) s (slots_of k t))))

  pub valid_sound : {t : List Slot} → Valid t → is_sound m t ≡ true
  unfolding is_sound
  valid_sound {t} v = rw (v.size, v.each, single_once t v.single)

  pub sound_valid : (t : List Slot) → is_sound m t ≡ true → Valid t
  unfolding is_sound
  sound_valid t e =
      let n = eqb (length t) 64 in
      let a = all (is_sound_slot m) t in
      let b = and_left (n && a) (once m t) e in
      record { size = and_left n a b; each = and_right n a b; single = once_single t (and_right (n && a) (once m t) e) }

  -- ---- a slot, and what it holds for call k

  -- slot s is no other call's than k's, and holds v for k
  pub record Holds (k : ℕ) (v : Option Rec) (s : Slot) : Type 0 where
    pub near : (j : ℕ) → eqb k j ≡ false → owns m j s ≡ false
    pub its : first m (slots_of k (s ∷ [])) ≡ v

  pub holds_some : (k : ℕ) (s : Slot) → owner s ≡ Some k → Holds k (Some (body s)) s
  unfolding first only cons_if
  holds_some k s e = record { near = λ j f. rw e f; its = rw e (rw (eq-eqb k k refl)) }

  pub holds_none : (k : ℕ) (s : Slot) → owner s ≡ None → Holds k None s
  unfolding first only cons_if
  holds_none k s e = record { near = λ j f. rw e; its = rw e }

  -- slot i of t holds v for k, and no other slot is k's
  pub record Spot (t : List Slot) (k i : ℕ) (v : Option Rec) : Type 0 where
    pub inside : i < length t
    pub holds : Holds k v (get_or t i blank)
    pub lone : length (slots_of k t) ≤ length (slots_of k (get_or t i blank ∷ []))

  pub owner_is : (k : ℕ) (o : Option ℕ) → is_call k o ≡ true → o ≡ Some k
  owner_is k None e = cc
  owner_is k (Some j) e = ap Some (eqb-true j k e)

  owner_none : (o : Option ℕ) → is_none o ≡ true → o ≡ None
  owner_none None e = refl
  owner_none (Some j) e = cc

  pub spot_own : {t : List Slot} → Valid t → (k i : ℕ) → Found (owns m k) blank t (Some i) → Spot t k i (Some (body (get_or t i blank)))
  unfolding only cons_if
  spot_own {t} v k i f =
      let s = get_or t i blank in
      record { inside = f.0; holds = holds_some k s (owner_is k (owner s) f.1); lone = rw f.1 (v.single k) }

  pub spot_free : (t : List Slot) (k i : ℕ) → Found (owns m k) blank t None → Found (is_free m) blank t (Some i) → Spot t k i None
  spot_free t k i n f =
      let s = get_or t i blank in
      record { inside = f.0; holds = holds_none k s (owner_none (owner s) f.1); lone = rw n (omega arith) }

  -- it is overwritten by a slot that holds v' for k: k then has v', the others keep their records, and the table stays sound
  module _ {t : List Slot} {k i : ℕ} {v : Option Rec} (p : Spot t k i v) where
    look_was : look m k t ≡ v
    unfolding look
    look_was = ap (first m) (only_set (owns m k) t i blank blank p.inside p.lone).0 ∙ p.holds.its

    module _ {v' : Option Rec} {s : Slot} (h : Holds k v' s) where
      others : (j : ℕ) → eqb k j ≡ false → slots_of j (set t i s) ≡ slots_of j t
      others j e = only_set_other (owns m j) t i s blank p.inside (p.holds.near j e) (h.near j e)

      now : slots_of k (set t i s) ≡ slots_of k (s ∷ [])
      now = (only_set (owns m k) t i s blank p.inside p.lone).1

      pub look_other : (j : ℕ) → eqb k j ≡ false → look m j (set t i s) ≡ look m j t
      unfolding look
      look_other j e = ap (first m) (others j e)

      pub look_now : look m k (set t i s) ≡ v'
      unfolding look
      look_now = ap (first m) now ∙ h.its

      pub valid_set : Valid t → is_sound_slot m s ≡ true → Valid (set t i s)
      valid_set w e = record { size = rw length-set w.size; each = all_set (is_sound_slot m) t i s e w.each; single = λ j. go j (eqb k j) refl }
        where
          go : (j : ℕ) (b : Bool) → eqb k j ≡ b → length (slots_of j (set t i s)) ≤ 1
          go j true e = rw (← eqb-true k j e, now) (only_one (owns m k) s)
          go j false e = rw (others j e) (w.single j)

  -- ---- what is read at the place where call k is found

  abbrev pub read : List Slot → Option ℕ → Option Rec
  read t None = None
  read t (Some i) = Some (body (get_or t i blank))

  pub look_read : {t : List Slot} → Valid t → (k : ℕ) (o : Option ℕ) → Found (owns m k) blank t o → look m k t ≡ read t o
  unfolding look first
  look_read {t} w k None f = ap (first m) f
  look_read {t} w k (Some i) f = look_was (spot_own w k i f)

  used_range : (s : Slot) (k : ℕ) (o : Option ℕ) → is_call k o ≡ true → sound_as m o s ≡ true → in_range (body s) ≡ true
  used_range s k None e h = cc
  used_range s k (Some j) e h = h

  pub read_range : {t : List Slot} → Valid t → (k i : ℕ) → Found (owns m k) blank t (Some i) → in_range (body (get_or t i blank)) ≡ true
  read_range {t} w k i f = used_range (get_or t i blank) k (owner (get_or t i blank)) f.1 (all_at (is_sound_slot m) t i blank f.0 w.each)
