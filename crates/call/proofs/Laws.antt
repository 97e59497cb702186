-- Laws of tests and of the loops, for the proofs of the functions and for the theorems.
use Prim.Native.Nat.{ℕ, zero, suc, ◌+◌, ◌-◌, ◌*◌, ◌≤◌, ◌<◌}
use mathlib.Core.Path.{◌≡◌, refl, sym, ap, ◌∙◌}
use mathlib.Core.Bool.{Bool, true, false, not, cond, ◌&&◌, ◌||◌, and-true, and-false, and_assoc, false≢true}
use mathlib.Core.List.{List, [], ◌∷◌}
use native.Mathlib.Numerals.{add-one}
use native.Mathlib.Nat.{sub-eq-zero_of_le}
use native.Mathlib.Omega.{arith}
use denote.Enum.Bare.{sameb}
use lib.Dec.{ltb, eqb, eqb-suc-suc}
use lib.ListN.{length, get_or, drop, set, drop_of_length-le}
use lib.Seq.{drop-cons, drop-drop}
use borrow.Author.Tests.{ltb-true, ltb-false, lt-ltb, le-ltb, ne_eqb}
use Rattle.std.specs.Prelude.{Option, Some, None, Ok, Err}
use Rattle.forms.specs.Fields.{is_digit, all_in_range}
use Rattle.forms.specs.Item.{form_of, rest_in_range, item_in_range, entry_of}
use Rattle.forms.specs.Units.{clock_end}
use Rattle.forms.specs.declared.item.Leg.TheVariants.{One, Two}
use Rattle.call.specs.Types.{Entry, Item, Leg, Seconds, Tenths, PointSet, Mode, Charge, Arming, Role, Record, Reports, Refusal, Relationship, Check, Stepped}
use Rattle.forms.proofs.ByteLaws.{and_left, and_right}
use Rattle.call.specs.contracts.armings.Mode.{the_type}
use Rattle.call.specs.declared.armings.Mode.TheVariants as mode
use Rattle.forms.specs.declared.refusal.Refusal.TheVariants.{MalformedItem}
use Rattle.call.specs.declared.relationship.Relationship.TheVariants as relationship
use Rattle.call.specs.Armings.{unarmed, is_mode, some_armed, nothing_armed, stronger, strongest}
use Rattle.call.specs.Record.{is_pending, is_held, armed_as}
use Rattle.call.specs.Relationship.{relationship_of}
use Rattle.call.specs.Points.{set_of}
use Rattle.call.specs.Answers.{Row, row, first_of, goes_on, refused, guarded}
use Rattle.call.specs.Roles.{place_of}
use Rattle.call.specs.Request.{entries_of, named, is_good, are_good, is_possible, are_possible, armed_by, armed_with}
use Rattle.call.specs.Operations.{charged}
use Rattle.call.specs.Range.{places_in_range}

-- ---- what holds of both holds of whichever is taken

pub on_cond : {A : Type 0} (P : A → Type 0) (b : Bool) (x y : A) → P x → P y → P (cond b x y)
on_cond P true x y h g = h
on_cond P false x y h g = g

-- the same, where it matters which is taken
pub by_cond : {A : Type 0} (P : A → Type 0) (b : Bool) (x y : A) → (b ≡ true → P x) → (b ≡ false → P y) → P (cond b x y)
by_cond P true x y h g = h refl
by_cond P false x y h g = g refl

-- what holds of each refusal, and of what passes, holds of what is guarded
pub on_guard : (P : Stepped → Type 0) (c : Check) (r : Record) (s : Stepped) → ((n : Refusal) → P (refused r n)) → (c ≡ Ok tt → P s) → P (guarded c r s)
on_guard P (Ok tt) r s f h = h refl
on_guard P (Err n) r s f h = f n

-- ---- tests in a row

abbrev pub chain : Bool → List Bool → Bool
chain b [] = b
chain b (c ∷ l) = chain (b && c) l

-- each test of a chain that holds
pub each : (b : Bool) (l : List Bool) → chain b l ≡ true → (i : ℕ) → get_or (b ∷ l) i true ≡ true
each b [] h zero = h
each b [] h (suc i) = refl
each b (c ∷ l) h zero = and_left b c (each (b && c) l h zero)
each b (c ∷ l) h (suc zero) = and_right b c (each (b && c) l h zero)
each b (c ∷ l) h (suc (suc i)) = each (b && c) l h (suc i)

-- ---- numbers

pub same_tenths : {m n : ℕ} → m ≡ n → ◌≡◌ {A = Tenths} (record { 0 = m }) (record { 0 = n })
same_tenths e = ap (λ n. record { 0 = n }) e

-- of two tests on numbers that hold together, one decides the other
pub ltb_same : (a b c d : ℕ) → (a < b → c < d) → (c < d → a < b) → ltb a b ≡ ltb c d
ltb_same a b c d f g = go (ltb a b) refl
  where
    go : (x : Bool) → ltb a b ≡ x → x ≡ ltb c d
    go true e = sym (lt-ltb c d (f (ltb-true a b e)))
    go false e = sym (le-ltb c d (let h : b ≤ a = ltb-false a b e in not_lt h))
      where
        not_lt : b ≤ a → d ≤ c
        not_lt h = stay (ltb c d) refl
          where
            stay : (y : Bool) → ltb c d ≡ y → d ≤ c
            stay true k = absurd (let p : a < b = g (ltb-true c d k) in omega arith)
            stay false k = ltb-false c d k

-- Cited by no proof any more; docs/PORT.md names it. Less than p has passed since s exactly if t is before s + p.
pub ltb_shift : (s p t : ℕ) → s ≤ t → ltb (t - s) p ≡ ltb t (s + p)
ltb_shift s p t h = ltb_same (t - s) p t (s + p) (λ k. omega arith) (λ k. omega arith)

-- ---- refusals: a row that passes does not apply, and those after it pass

pub passes : (b : Bool) (n : Refusal) (c : Check) → cond b (Err n) c ≡ Ok tt → (b ≡ false) × (c ≡ Ok tt)
passes true n c e = absurd (let z : ◌≡◌ {A = ℕ} 0 1 = cc in omega arith)
passes false n c e = (refl, e)

-- of two rows the first passes, and the second is given
pub second_stops : (x y : Row) (then c d : Check) (n : Refusal) → c ≡ first_of (x ∷ []) → c ≡ Ok tt → d ≡ first_of (y ∷ []) → d ≡ Err n → d ≡ cond x.applies (Err x.refusal) (cond y.applies (Err y.refusal) then)
second_stops x y then c d n e h f g = go x.applies y.applies (sym e ∙ h) (sym f ∙ g)
  where
    go : (a b : Bool) → ◌≡◌ {A = Check} (cond a (Err x.refusal) (Ok tt)) (Ok tt) → ◌≡◌ {A = Check} (cond b (Err y.refusal) (Ok tt)) (Err n) → d ≡ cond a (Err x.refusal) (cond b (Err y.refusal) then)
    go true b p q = absurd (let z : ◌≡◌ {A = ℕ} 0 1 = cc in omega arith)
    go false true p q = g ∙ sym q
    go false false p q = absurd (let z : ◌≡◌ {A = ℕ} 0 1 = cc in omega arith)

-- where no refusal is given, no row applies
pub no_row : (rows : List Row) → first_of rows ≡ Ok tt → (i : ℕ) → (get_or rows i (row MalformedItem false)).applies ≡ false
no_row [] h i = refl
no_row (x ∷ xs) h zero = (passes x.applies x.refusal (first_of xs) h).0
no_row (x ∷ xs) h (suc i) = no_row xs (passes x.applies x.refusal (first_of xs) h).1 i

-- ---- the time of an item in range

pub time_fits : (i : Item) (rest : List ℕ) → item_in_range i rest ≡ true → ltb i.time.0 clock_end ≡ true
unfolding item_in_range
time_fits i rest h = and_right (all_in_range (form_of i.body).fields && rest_in_range (form_of i.body).rest rest) (ltb i.time.0 clock_end) h

-- ---- the strongest mode that is armed

-- in a loop: the strongest so far, and the armings that are left
pub strongest_step : (a : List Arming) (i : ℕ) (m : Mode) → i < length a → strongest (stronger m (get_or a i unarmed).mode) (drop (i + 1) a) ≡ strongest m (drop i a)
unfolding strongest
strongest_step a i m h = rw (add-one, drop-cons a i unarmed h)

pub strongest_end : (a : List Arming) (i : ℕ) (m : Mode) → length a ≤ i → strongest m (drop i a) ≡ m
unfolding strongest
strongest_end a i m h = rw (drop_of_length-le a h)

-- by whether some point is armed in mode 0, and in mode 1
abbrev of_armed : Bool → Bool → Mode
of_armed true notify = mode.Interrupted
of_armed false true = mode.Notify
of_armed false false = mode.None

strongest_of : (l : List Arming) (m : Mode) → strongest m l ≡ of_armed (is_mode m mode.Interrupted || some_armed mode.Interrupted l) (is_mode m mode.Notify || some_armed mode.Notify l)
unfolding strongest some_armed
strongest_of [] mode.None = refl
strongest_of [] mode.Notify = refl
strongest_of [] mode.Interrupted = refl
strongest_of (a ∷ l) m = strongest_of l (stronger m a.mode) ∙ go m a.mode (some_armed mode.Interrupted l) (some_armed mode.Notify l)
  where
    go : (m n : Mode) (i k : Bool)
        → of_armed (is_mode (stronger m n) mode.Interrupted || i) (is_mode (stronger m n) mode.Notify || k) ≡ of_armed (is_mode m mode.Interrupted || (is_mode n mode.Interrupted || i)) (is_mode m mode.Notify || (is_mode n mode.Notify || k))
    go mode.None mode.None i k = refl
    go mode.None mode.Notify i k = refl
    go mode.None mode.Interrupted i k = refl
    go mode.Notify mode.None i k = refl
    go mode.Notify mode.Notify i k = refl
    go mode.Notify mode.Interrupted i k = refl
    go mode.Interrupted mode.None i k = refl
    go mode.Interrupted mode.Notify i k = refl
    go mode.Interrupted mode.Interrupted i k = refl

-- so it tells the relationship
abbrev by_mode : Record → Mode → Relationship
by_mode r m = cond (is_held r.hold || is_mode m mode.Interrupted) relationship.Control (cond (is_mode m mode.Notify || (is_pending r.clock1 || is_pending r.clock2)) relationship.Monitor relationship.None)

pub relationship_by : (r : Record) → by_mode r (strongest mode.None r.armings) ≡ relationship_of r
relationship_by r = rw (strongest_of r.armings mode.None) (go (is_held r.hold) (some_armed mode.Interrupted r.armings) (some_armed mode.Notify r.armings) (is_pending r.clock1 || is_pending r.clock2))
  where
    go : (held i k pending : Bool)
        → cond (held || is_mode (of_armed i k) mode.Interrupted) relationship.Control (cond (is_mode (of_armed i k) mode.Notify || pending) relationship.Monitor relationship.None)
        ≡ cond (held || i) relationship.Control (cond (k || pending) relationship.Monitor relationship.None)
    go true i k pending = refl
    go false true k pending = refl
    go false false true pending = refl
    go false false false pending = refl

-- an armed point is armed in mode 0 or in mode 1
pub armed_in_lem : (l : List Arming) → nothing_armed l ≡ (not (some_armed mode.Interrupted l) && not (some_armed mode.Notify l))
unfolding nothing_armed some_armed
armed_in_lem [] = refl
armed_in_lem (a ∷ l) = go a.mode (armed_in_lem l)
  where
    go : (m : Mode) → nothing_armed l ≡ (not (some_armed mode.Interrupted l) && not (some_armed mode.Notify l))
        → (is_mode m mode.None && nothing_armed l) ≡ (not (is_mode m mode.Interrupted || some_armed mode.Interrupted l) && not (is_mode m mode.Notify || some_armed mode.Notify l))
    go mode.None h = h
    go mode.Interrupted h = refl
    go mode.Notify h = sym (and-false (not (some_armed mode.Interrupted l)))

-- and nothing is where the strongest mode is none
pub nothing_by : (l : List Arming) → is_mode (strongest mode.None l) mode.None ≡ nothing_armed l
nothing_by l = rw (strongest_of l mode.None, armed_in_lem l) (go (some_armed mode.Interrupted l) (some_armed mode.Notify l))
  where
    go : (i k : Bool) → is_mode (of_armed i k) mode.None ≡ (not i && not k)
    go true k = refl
    go false true = refl
    go false false = refl

-- The code asks both by == of modes, which is is_mode.
abbrev same_mode : Mode → Mode → Bool
same_mode m n = sameb the_type m n

same_mode_lem : (m n : Mode) → same_mode m n ≡ is_mode m n
same_mode_lem mode.None mode.None = refl
same_mode_lem mode.None mode.Notify = refl
same_mode_lem mode.None mode.Interrupted = refl
same_mode_lem mode.Notify mode.None = refl
same_mode_lem mode.Notify mode.Notify = refl
same_mode_lem mode.Notify mode.Interrupted = refl
same_mode_lem mode.Interrupted mode.None = refl
same_mode_lem mode.Interrupted mode.Notify = refl
same_mode_lem mode.Interrupted mode.Interrupted = refl

abbrev by_mode_in_code : Record → Mode → Relationship
by_mode_in_code r m = cond (is_held r.hold || same_mode m mode.Interrupted) relationship.Control (cond (same_mode m mode.Notify || (is_pending r.clock1 || is_pending r.clock2)) relationship.Monitor relationship.None)

pub relationship_by_in_code : (r : Record) → by_mode_in_code r (strongest mode.None r.armings) ≡ relationship_of r
relationship_by_in_code r = let m = strongest mode.None r.armings in rw (same_mode_lem m mode.Interrupted, same_mode_lem m mode.Notify) (relationship_by r)

pub nothing_by_in_code : (l : List Arming) → same_mode (strongest mode.None l) mode.None ≡ nothing_armed l
nothing_by_in_code l = same_mode_lem (strongest mode.None l) mode.None ∙ nothing_by l

-- ---- loops over the places of a number

place_next : (c d : ℕ) (ds : List ℕ) → places_in_range c (d ∷ ds) ≡ (cond (ltb 0 c) (is_digit d) (eqb d 0) && places_in_range (c - 1) ds)
unfolding places_in_range
place_next zero d ds = refl
place_next (suc c) d ds = let e : suc c - 1 ≡ c = omega arith in rw (lt-ltb 0 (suc c) (omega arith), e)

pub places_step : (c : ℕ) (l : List ℕ) (i : ℕ) (ok : Bool) → i < length l
    → (ok && cond (ltb i c) (is_digit (get_or l i 0)) (eqb (get_or l i 0) 0) && places_in_range (c - (i + 1)) (drop (i + 1) l)) ≡ (ok && places_in_range (c - i) (drop i l))
places_step c l i ok h =
    let e : c - (i + 1) ≡ c - i - 1 = omega arith in
    let t : ltb i c ≡ ltb 0 (c - i) = ltb_same i c 0 (c - i) (λ k. omega arith) (λ k. omega arith) in
    rw (and_assoc, e, t, drop-cons l i 0 h, add-one, place_next (c - i) (get_or l i 0) (drop (suc i) l))

pub places_end : (c : ℕ) (l : List ℕ) (i : ℕ) (ok : Bool) → length l ≤ i → (ok && places_in_range c (drop i l)) ≡ ok
unfolding places_in_range
places_end c l i ok h = rw (drop_of_length-le l h, and-true)

-- the empty places are counted: all were empty, and so are those that are left
pub empty_step : (l : List ℕ) (i e : ℕ) → i < length l → get_or l i 0 ≡ 0 → (eqb (e + 1) (i + 1) && places_in_range 0 (drop (i + 1) l)) ≡ (eqb e i && places_in_range 0 (drop i l))
unfolding places_in_range
empty_step l i e h z = rw (add-one e, add-one i, eqb-suc-suc e i, drop-cons l i 0 h, z)

pub used_step : (l : List ℕ) (i e : ℕ) → i < length l → e ≤ i → (get_or l i 0 ≡ 0 → ⊥) → (eqb e (i + 1) && places_in_range 0 (drop (i + 1) l)) ≡ (eqb e i && places_in_range 0 (drop i l))
unfolding places_in_range
used_step l i e h k z = rw (ne_eqb e (i + 1) (λ q. omega arith), drop-cons l i 0 h, ne_eqb (get_or l i 0) 0 z, and-false)

-- ---- the kind of call stays: a leg is put in, entries change armings and kept timer alone

-- Cited by no proof any more; docs/PORT.md names it: a record that a charge has left goes on by the points of the one before.
charged_keeps_kind : (r : Record) (l : Leg) (c : Charge) (t : Tenths) → (charged r l c t).bcsm ≡ r.bcsm
charged_keeps_kind r One c t = refl
charged_keeps_kind r Two c t = refl

pub charged_on : (next r : Record) (l : Leg) (c : Charge) (t : Tenths) (reports : Reports) (deadline : Option Tenths) → next ≡ charged r l c t
    → goes_on (set_of next.bcsm) next reports deadline ≡ goes_on (set_of r.bcsm) (charged r l c t) reports deadline
charged_on next r l c t reports deadline e = rw e (ap (λ b. goes_on (set_of b) (charged r l c t) reports deadline) (charged_keeps_kind r l c t))

-- what holds of a record whatever its armings and its kept timer are
pub armed_holds : (dp : PointSet) (P : Record → Type 0) → ((r : Record) (a : List Arming) (k : Seconds) → P r → P (armed_as r a k)) → (es : List Entry) (r : Record) → P r → P (armed_with dp r es)
unfolding armed_with
armed_holds dp P h [] r p = p
armed_holds dp P h (e ∷ es) r p = armed_holds dp P h es (armed_by r (named dp e) e) (go (named dp e))
  where
    go : (x : Option Role) → P (armed_by r x e)
    go None = p
    go (Some q) = h r _ _ p

pub armed_keeps : (dp : PointSet) {A : Type 0} (f : Record → A) → ((r : Record) (a : List Arming) (k : Seconds) → f (armed_as r a k) ≡ f r) → (es : List Entry) (r : Record) → f (armed_with dp r es) ≡ f r
armed_keeps dp f h es r = armed_holds dp (λ s. f s ≡ f r) (λ s a k e. h s a k ∙ e) es r refl

pub entries_keep_kind : (dp : PointSet) (r : Record) (es : List Entry) → (armed_with dp r es).bcsm ≡ r.bcsm
entries_keep_kind dp r es = armed_keeps dp (λ s. s.bcsm) (λ s a k. refl) es r

-- ---- loops over entries: those from i on begin with entry i

-- the place of the role that is named; 0 if none is
abbrev pub place_named : Option Role → ℕ
place_named None = 0
place_named (Some p) = place_of p

module _ (dp : PointSet) (n i : ℕ) (t : List ℕ) where
  abbrev from : List Entry
  from = entries_of (n - i) (drop (i * 5) t)

  abbrev next : List Entry
  next = entries_of (n - (i + 1)) (drop ((i + 1) * 5) t)

  abbrev entry : Entry
  entry = entry_of (drop (i * 5) t)

  module _ (h : i < n) where
    entries_next : from ≡ entry ∷ next
    unfolding entries_of
    entries_next =
        let e : n - i ≡ suc (n - (i + 1)) = omega arith in
        let k : i * 5 + 5 ≡ (i + 1) * 5 = omega arith in
        rw (e, drop-drop 5 (i * 5) t, k)

    pub unknown_stop : (seen : List Bool) → named dp entry ≡ None → are_good dp seen from ≡ false
    unfolding are_good
    unknown_stop seen u = rw (entries_next, u)

    pub arm_none : (r : Record) → named dp entry ≡ None → armed_with dp r next ≡ armed_with dp r from
    unfolding armed_with
    arm_none r u = rw entries_next (ap (λ x. armed_with dp (armed_by r x entry) next) (sym u))

    module _ (p : Role) (k : named dp entry ≡ Some p) where
      pub good_step : (seen : List Bool) → is_good (Some p) seen entry ≡ true → are_good dp (set seen (place_of p) true) next ≡ are_good dp seen from
      unfolding are_good
      good_step seen g = rw (entries_next, k, g)

      pub good_stop : (seen : List Bool) → is_good (Some p) seen entry ≡ false → are_good dp seen from ≡ false
      unfolding are_good
      good_stop seen g = rw (entries_next, k, g)

      pub possible_step : (r : Record) (ok : Bool) → (ok && is_possible r (Some p) entry.mode && are_possible dp r next) ≡ (ok && are_possible dp r from)
      unfolding are_possible
      possible_step r ok = rw (entries_next, k, and_assoc)

      pub arm_some : (r : Record) → armed_with dp (armed_by r (Some p) entry) next ≡ armed_with dp r from
      unfolding armed_with
      arm_some r = rw entries_next (ap (λ x. armed_with dp (armed_by r x entry) next) (sym k))

    -- the same steps, whatever role the entry names
    pub good_step_named : (seen : List Bool) → is_good (named dp entry) seen entry ≡ true → are_good dp (set seen (place_named (named dp entry)) true) next ≡ are_good dp seen from
    good_step_named seen = go (named dp entry) refl
      where
        go : (x : Option Role) → named dp entry ≡ x → is_good x seen entry ≡ true → are_good dp (set seen (place_named x) true) next ≡ are_good dp seen from
        go None k g = absurd (false≢true g)
        go (Some p) k g = good_step p k seen g

    pub good_stop_named : (seen : List Bool) → is_good (named dp entry) seen entry ≡ false → are_good dp seen from ≡ false
    unfolding are_good
    good_stop_named seen g = rw (entries_next, g)

    pub possible_step_named : (r : Record) (ok : Bool) → (ok && is_possible r (named dp entry) entry.mode && are_possible dp r next) ≡ (ok && are_possible dp r from)
    unfolding are_possible
    possible_step_named r ok = rw (entries_next, and_assoc)

  module _ (h : n ≤ i) where
    entries_end : from ≡ []
    unfolding entries_of
    entries_end = rw (sub-eq-zero_of_le h)

    pub good_end : (seen : List Bool) → are_good dp seen from ≡ true
    unfolding are_good
    good_end seen = rw entries_end

    pub possible_end : (r : Record) (ok : Bool) → (ok && are_possible dp r from) ≡ ok
    unfolding are_possible
    possible_end r ok = rw (entries_end, and-true)

    pub arm_end : (r : Record) → armed_with dp r from ≡ r
    unfolding armed_with
    arm_end r = rw entries_end
