-- The layer `call` and the slots of the table keep their promises, so demand 3 holds of them; and a sound table stays so.
use Prim.Native.Nat.{ℕ}
use mathlib.Core.Path.{◌≡◌, refl, sym, ap, ◌∙◌}
use mathlib.Core.Logic.{◌≢◌}
use mathlib.Core.Bool.{Bool, true, false, not, cond, ◌&&◌, false≢true}
use mathlib.Core.List.{List, [], ◌∷◌}
use Rattle.std.specs.Prelude.{Option, None, Some, Ok, Err}
use lib.Dec.{eqb}
use lib.ListN.{replicate}
use Rattle.forms.specs.Bytes.{all, contains, same}
use Rattle.forms.specs.Item.{item_bytes, item_in_range, rest_of, is_item}
use Rattle.forms.specs.Profile.{profile_of, is_profile}
use Rattle.forms.specs.declared.units.Tenths.{Tenths}
use Rattle.forms.specs.Refusal.{number_of}
use Rattle.forms.specs.declared.refusal.Refusal.TheVariants.{MalformedItem, MalformedProfile, DamagedTable}
use Rattle.forms.proofs.ByteLaws.{and_left, and_right}
use Rattle.call.specs.Answers.{is_accepted, remains}
use Rattle.call.specs.Kind.{is_setup}
use Rattle.call.specs.Range.{record_in_range}
use Rattle.call.specs.Step.{respond_of}
use Rattle.call.specs.Setup.{open_of}
use Rattle.call.specs.Alone.{Input, alone_step}
use Rattle.call.specs.Alone as alone
use Rattle.call.proofs.Blank.{blank_passes}
use Rattle.call.proofs.Laws.{by_cond}
use Rattle.call.proofs.SetupLaws.{setup_opens}
use Rattle.call.proofs.InRange.{is_left_well, respond_left, open_left}
use Rattle.call.proofs.CallTheorems.{is_over}
use Rattle.call.proofs.Numbers.{is_one_of, accepted_one, one_of_more, respond_numbers, respond_numbers_lem}
use Rattle.table.specs.Types.{Item, Record, Refusal, Answer, Stepped, Slot}
use Rattle.table.specs.Runs.{final}
use Rattle.table.specs.Table.{refuses, goes, ends, look, unless, fresh, Done}
use Rattle.table.specs.Slot.{blank_slot, our_slots}
use Rattle.table.specs.Feed.{item_in, rest_in, early, effect_as, our_call, is_sound_table, feed_step, feed_of, turn, Feeds}
use Rattle.table.specs.Independence.{Independence}
use Rattle.table.proofs.Promises.{Kept, keep, setup_alone, other_alone, serve_alone, alone_as, OnNext, Promises}
use Rattle.table.proofs.Independence.{independence, stays_sound, fresh_is_sound}
use Rattle.table.proofs.Reached.{reached}

-- ---- what is neither 1 nor 2: an item, and of a Setup its profile

pub item_fits : (i : Item) (s : List ℕ) → is_item i s ≡ true → item_in_range i (rest_of i.body s) ≡ true
unfolding is_item
item_fits i s h = and_right (same (item_bytes i (rest_of i.body s)) s) (item_in_range i (rest_of i.body s)) h

passed : (i s p : Bool) → cond {A = Option Refusal} (not i) (Some MalformedItem) (cond (s && not p) (Some MalformedProfile) None) ≡ None → (i ≡ true) × (s ≡ true → p ≡ true)
passed true s true e = (refl, λ h. refl)
passed true true false e = (refl, λ h. cc)
passed true false false e = (refl, λ h. cc)
passed false s p e = (cc, λ h. cc)

module _ (x : Input) (e : early x ≡ None) where
  checks : (is_item (item_in x) x.item ≡ true) × (is_setup (item_in x) ≡ true → is_profile (profile_of x.profile) x.profile ≡ true)
  checks = passed (is_item (item_in x) x.item) (is_setup (item_in x)) (is_profile (profile_of x.profile) x.profile) e

  item_in_range_lem : item_in_range (item_in x) (rest_in x) ≡ true
  item_in_range_lem = item_fits (item_in x) x.item checks.0

-- ---- what remains after an answer

-- a function of it, case by case
pub on_remains : {A B : Type 0} (f : A → B) (a : Answer) (before over next : A) → f (remains a before over next) ≡ remains a (f before) (f over) (f next)
on_remains f (Err n) before over next = refl
on_remains f (Ok o) before over next = go o.over
  where
    go : (b : Bool) → f (cond b over next) ≡ cond b (f over) (f next)
    go true = refl
    go false = refl

-- of a call that was opened: what is next
pub open_remains : {A : Type 0} (a : Answer) (before over next : A) → (is_accepted a ≡ true) × (is_over a ≡ false) → remains a before over next ≡ next
open_remains (Ok o) before over next q = rw q.1
open_remains (Err n) before over next q = absurd (false≢true q.0)

-- what holds of the next record, where there is one
on_effect : (P : Record → Type 0) (a : Answer) (next : Record) → (is_accepted a ≡ true → is_over a ≡ false → P next) → OnNext P (effect_as a next)
on_effect P (Err n) next f = tt
on_effect P (Ok o) next f = by_cond (OnNext P) o.over _ _ (λ e. tt) (f refl)

-- ---- in range in, in range out

left_in_range : (s : Stepped) (t : Tenths) → is_left_well t s ≡ true → (is_accepted s.answer ≡ true) × (is_over s.answer ≡ false) → record_in_range s.next ≡ true
left_in_range s t h q =
    let in_time = eqb s.next.last.0 t.0 in
    and_left (record_in_range s.next) in_time (sym (open_remains s.answer true true (record_in_range s.next && in_time) q) ∙ h)

-- ---- the call by itself is made of the same parts

kept_so : (r : Record) (a : Answer) (next : Record) → (a, remains a (Some r) None (Some next)) ≡ keep our_call r (effect_as a next)
unfolding keep
kept_so r a next = on_remains (λ k. (a, k)) a (Some r) None (Some next) ∙ sym (on_remains (keep our_call r) a (refuses a) (ends a) (goes a next))

-- a call by itself answers as the parts do; the numbers that it gives: neither 3 nor 6, which are the table's
abbrev alone_numbers : List ℕ
alone_numbers = 1 ∷ 2 ∷ 4 ∷ 5 ∷ 7 ∷ 8 ∷ 9 ∷ 10 ∷ 11 ∷ 12 ∷ 13 ∷ 14 ∷ []

never : (n : Refusal) (a : Answer) → contains (number_of n) alone_numbers ≡ false → is_one_of alone_numbers a ≡ true → a ≢ Err n
never n a h k e = false≢true (sym h ∙ sym (ap (is_one_of alone_numbers) e) ∙ k)

abbrev As : Kept our_call → Kept our_call → Type 0
As d o = (d ≡ o) × (is_one_of alone_numbers d.0 ≡ true)

module _ (x : Input) where
  abbrev profile_is : Bool → Type 0
  profile_is b = is_profile (profile_of x.profile) x.profile ≡ b

  as_other : (v : Option Record) → As (alone.other_alone v (item_in x) (rest_in x)) (other_alone our_call x v)
  unfolding other_alone all contains
  as_other None = (refl, refl)
  as_other (Some r) = let s = respond_of r (item_in x) (rest_in x) in (kept_so r s.answer s.next, one_of_more respond_numbers alone_numbers s.answer refl (respond_numbers_lem r (item_in x) (rest_in x)))

  module _ (o : item_in_range (item_in x) (rest_in x) ≡ true) (h : is_setup (item_in x) ≡ true) where
    abbrev opens : Stepped
    opens = open_of (item_in x) (rest_in x) x.profile

    as_setup : (v : Option Record) → profile_is true → As (alone.setup_alone v (item_in x) (rest_in x) x.profile) (setup_alone our_call x v)
    unfolding setup_alone contains
    as_setup None p =
        let q = setup_opens (item_in x) (rest_in x) x.profile o h p in
        (ap (λ k. (opens.answer, k)) (open_remains opens.answer None None (Some opens.next) q), accepted_one alone_numbers opens.answer q.0)
    as_setup (Some r) p = (refl, refl)

  alone_as_lem : (v : Option Record) → As (alone_step v x.item x.profile) (alone_as our_call v x)
  unfolding alone_step alone_as unless serve_alone contains
  alone_as_lem v = go (is_item (item_in x) x.item) (is_setup (item_in x)) (is_profile (profile_of x.profile) x.profile) refl refl refl
    where
      go : (i s p : Bool) → is_item (item_in x) x.item ≡ i → is_setup (item_in x) ≡ s → profile_is p → As (alone_step v x.item x.profile) (alone_as our_call v x)
      go true true true e f g = rw (e, f, g) (as_setup (item_fits (item_in x) x.item e) f v g)
      go true true false e f g = rw (e, f, g) (refl, refl)
      go true false p e f g = rw (e, f) (as_other v)
      go false s p e f g = rw e (refl, refl)

-- ---- the promises, and what comes of them

begin_in_range : (x : Input) → early x ≡ None → is_setup (item_in x) ≡ true → record_in_range (open_of (item_in x) (rest_in x) x.profile).next ≡ true
begin_in_range x e h =
    left_in_range (open_of (item_in x) (rest_in x) x.profile) (item_in x).time (open_left (item_in x) (rest_in x) x.profile) (setup_opens (item_in x) (rest_in x) x.profile (item_in_range_lem x e) h ((checks x e).1 h))

respond_in_range : (r : Record) (x : Input) → early x ≡ None → record_in_range r ≡ true → OnNext (λ next. record_in_range next ≡ true) (our_call.respond r x)
respond_in_range r x e h =
    let s = respond_of r (item_in x) (rest_in x) in
    on_effect (λ next. record_in_range next ≡ true) s.answer s.next (λ a o. left_in_range s (item_in x).time (respond_left r (item_in x) (rest_in x) h (item_in_range_lem x e)) (a, o))

promises : Promises our_call our_slots
unfolding blank_slot contains
promises =
    record {
      owner_own = λ k r. refl;
      body_own = λ k r. refl;
      owner_blank = refl;
      blank_blank = blank_passes;
      begin_range = begin_in_range;
      respond_range = λ r x e h o. respond_in_range r x e o;
      alone_is = λ v x. (alone_as_lem x v).0;
      alone_never_3 = λ v x. never DamagedTable _ refl (alone_as_lem x v).1;
      room_is_not_3 = λ e. cc;
    }

-- demand 3
pub ours : Independence our_call our_slots
ours = independence our_call our_slots promises

-- what holds of each call that opens and of what an item leaves, unless the call is over, holds of each call that a run reaches
pub our_reached : (P : Record → Type 0) → ((i : Item) (rest s : List ℕ) → is_accepted (open_of i rest s).answer ≡ true → P (open_of i rest s).next)
    → ((r : Record) → P r → (i : Item) (rest : List ℕ) → is_over (respond_of r i rest).answer ≡ false → P (respond_of r i rest).next)
    → (l : List Input) (k : ℕ) (r : Record) → look our_slots k (final feed_step (fresh our_slots) l) ≡ Some r → P r
our_reached P opened kept =
    reached our_call our_slots promises P
    (λ x e h. opened (item_in x) (rest_in x) x.profile (setup_opens (item_in x) (rest_in x) x.profile (item_in_range_lem x e) h ((checks x e).1 h)).0)
    (λ r x p. let s = respond_of r (item_in x) (rest_in x) in on_effect P s.answer s.next (λ a. kept r p (item_in x) (rest_in x)))

-- a sound table stays so, whatever is fed
pub stays : (t : List Slot) (item profile : List ℕ) → is_sound_table t ≡ true → is_sound_table (feed_of t item profile).1 ≡ true
stays t item profile e = stays_sound our_call our_slots promises t (record { item = item; profile = profile }) e

-- so the table that whatever keeps to `feed`'s contract leaves
pub fed_stays : (t u : List Slot) (item profile : List ℕ) (a : Answer) → is_sound_table t ≡ true → Feeds (turn t item profile a u) → Feeds (turn t item profile a u) × (is_sound_table u ≡ true)
fed_stays t u item profile a e f = (f, ap (λ (d : Done our_call our_slots). is_sound_table d.1) f ∙ stays t item profile e)

-- a fresh table is sound
pub fresh_sound : is_sound_table (replicate 64 blank_slot) ≡ true
unfolding fresh
fresh_sound = fresh_is_sound our_call our_slots promises

pub made_fresh : (t : List Slot) → t ≡ replicate 64 blank_slot → (t ≡ fresh our_slots) × (is_sound_table t ≡ true)
unfolding fresh
made_fresh t e = (e, rw e fresh_sound)
