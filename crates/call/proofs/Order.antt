-- Demand 3, last sentence: "within one call, whatever its record, two arming requests that name no pair of leg and point in common leave equal records in either order, whenever both orders are accepted".
use Prim.Native.Nat.{ℕ, ◌≤◌}
use mathlib.Core.Path.{◌≡◌, refl, sym, subst, ap, ◌∙◌}
use mathlib.Core.Logic.{◌⊎◌, inl, inr}
use mathlib.Core.Bool.{Bool, true, false, not, ◌&&◌, ◌||◌, false≢true}
use mathlib.Core.List.Memᴰ.{head as In·head}
use mathlib.Core.List.Memᴰ.{tail as In·tail}
use mathlib.Core.List.{List, [], ◌∷◌, Memᴰ as In}
use native.Mathlib.Omega.{arith}
use lib.Dec.{eqb, leb}
use lib.ListN.{get_or}
use lib.Seq.{set_comm}
use borrow.Author.Tests.{ltb-false, eqb-true, not-false}
use Rattle.std.specs.Prelude.{Option, Some, None, Ok}
use Rattle.forms.specs.Fields.{leg_number}
use Rattle.forms.specs.Units.{is_timer}
use Rattle.forms.proofs.ByteLaws.{and_left, and_right}
use Rattle.call.specs.Types.{Item, Entry, Seconds, Tenths, PointSet, Role, Record, Stepped}
use Rattle.forms.specs.declared.item.Body.TheVariants as body
use Rattle.call.specs.declared.roles.Role.TheVariants.{NoAnswer}
use Rattle.call.specs.declared.kind.Kind.TheVariants as kind
use Rattle.call.specs.Roles.{place_of, is_role}
use Rattle.call.specs.Armings.{mode_of}
use Rattle.call.specs.Points.{set_of, point_in, is_point_set}
use Rattle.call.specs.Record.{timed, armed_as}
use Rattle.call.specs.Answers.{Row, is_accepted, first_of, guarded}
use Rattle.call.specs.Request.{named, is_mode_for, is_good, seen_after, are_good, none_seen, kept_after, armed_by, armed_with, request_report}
use Rattle.call.specs.Refusals.{row1_time, rows_of}
use Rattle.call.specs.Step.{respond_in}
use Rattle.call.specs.Order.{Request, entries, Apart, Disjoint, asked, in_turn, BothAccepted}
use Rattle.call.proofs.Laws.{same_tenths, no_row}
use Rattle.call.proofs.PointLaws.{place_injective, pair_numbers, sets_fit, role_exactly}
use Rattle.call.proofs.CallTheorems.{not_refused, is_over, kind_kept}

-- ---- two entries

-- only No answer has a timer
abbrev Timed : Role → Entry → Type 0
Timed p e = (e.timer.0 ≡ 0) ⊎ (place_of p ≡ place_of NoAnswer)

-- so of two entries for different roles one at most changes the kept timer
kept_swap : (p q : Role) (e f : Entry) (k : Seconds) → Timed p e → Timed q f → (place_of p ≡ place_of q → ⊥)
    → kept_after f.timer (kept_after e.timer k) ≡ kept_after e.timer (kept_after f.timer k)
kept_swap p q e f k (inl x) y d = rw x
kept_swap p q e f k (inr x) (inl y) d = rw y
kept_swap p q e f k (inr x) (inr y) d = absurd (d (x ∙ sym y))

-- what acceptance tells of an entry
abbrev Sound : Option Role → Entry → Type 0
Sound x e = (p : Role) → x ≡ Some p → Timed p e

entry_swap : (dp : PointSet) → is_point_set dp ≡ true → (x y : Option Role) (e f : Entry) → named dp e ≡ x → named dp f ≡ y → Sound x e → Sound y f → Apart e f
    → (r : Record) → armed_by (armed_by r x e) y f ≡ armed_by (armed_by r y f) x e
entry_swap dp fit None y e f h k a b d r = refl
entry_swap dp fit (Some p) None e f h k a b d r = refl
entry_swap dp fit (Some p) (Some q) e f h k a b d r =
    let x = pair_numbers (point_in dp p) e.leg e.point ((role_exactly dp fit p e.leg e.point).0 h) in
    let y = pair_numbers (point_in dp q) f.leg f.point ((role_exactly dp fit q f.leg f.point).0 k) in
    let apart : place_of p ≡ place_of q → ⊥ = λ z. let same = ap (point_in dp) (place_injective p q z) in d (x.0 ∙ ap (λ s. leg_number s.leg) same ∙ sym y.0) (x.1 ∙ ap (λ s. s.number) same ∙ sym y.1) in
    let armings = set_comm r.armings (place_of p) (place_of q) (record { mode = mode_of e.mode }) (record { mode = mode_of f.mode }) apart in
    let kept = kept_swap p q e f r.kept (a p refl) (b q refl) apart in
    λ i. armed_as r (armings i) (kept i)

-- ---- two lists of entries

module _ (dp : PointSet) where
  -- what changes place with each entry does so with all
  past : (g : Record → Record) (es : List Entry) → ((e : Entry) → In e es → (r : Record) → armed_by (g r) (named dp e) e ≡ g (armed_by r (named dp e) e))
      → (r : Record) → armed_with dp (g r) es ≡ g (armed_with dp r es)
  unfolding armed_with
  past g [] h r = refl
  past g (e ∷ es) h r = ap (λ x. armed_with dp x es) (h e (In·head refl) r) ∙ past g es (λ f m. h f (In·tail m)) (armed_by r (named dp e) e)

  -- two lists change places where each entry of one does with each of the other
  swap : (es fs : List Entry) → ((e f : Entry) → In e es → In f fs → (r : Record) → armed_by (armed_by r (named dp e) e) (named dp f) f ≡ armed_by (armed_by r (named dp f) f) (named dp e) e)
      → (r : Record) → armed_with dp (armed_with dp r es) fs ≡ armed_with dp (armed_with dp r fs) es
  unfolding armed_with
  swap [] fs h r = refl
  swap (e ∷ es) fs h r =
      swap es fs (λ x f m. h x f (In·tail m)) (armed_by r (named dp e) e)
      ∙ ap (λ x. armed_with dp x es) (past (λ s. armed_by s (named dp e) e) fs (λ f m. h e f (In·head refl) m) r)

  -- the time changes place with them
  armed_timed : (es : List Entry) (r : Record) (t : Tenths) → armed_with dp (timed r t) es ≡ timed (armed_with dp r es) t
  armed_timed es r t = past (λ s. timed s t) es (λ e m s. go (named dp e) e s) r
    where
      go : (x : Option Role) (e : Entry) (s : Record) → armed_by (timed s t) x e ≡ timed (armed_by s x e) t
      go None e s = refl
      go (Some p) e s = refl

-- ---- what acceptance tells

entry_sound : (x : Option Role) (seen : List Bool) (e : Entry) → is_good x seen e ≡ true → Sound x e
entry_sound None seen e g p k = absurd (false≢true g)
entry_sound (Some q) seen e g p k = let same : q ≡ p = cc in rw (← same) (go (eqb e.timer.0 0) (is_role q NoAnswer) (leb e.mode 1) refl refl timer)
  where
    timer : (eqb e.timer.0 0 || (is_role q NoAnswer && leb e.mode 1)) ≡ true
    timer = and_right (is_timer e.timer) _ (and_right (is_mode_for q e.mode) _ (and_left _ (not (get_or seen (place_of q) false)) g))

    go : (a b c : Bool) → eqb e.timer.0 0 ≡ a → is_role q NoAnswer ≡ b → (a || (b && c)) ≡ true → Timed q e
    go true b c x y h = inl (eqb-true _ _ x)
    go false true c x y h = inr (eqb-true _ _ y)
    go false false c x y h = absurd (false≢true h)

-- every entry of a list that passes row 11 is sound
good_sound : (dp : PointSet) {e : Entry} {es : List Entry} → In e es → (seen : List Bool) → are_good dp seen es ≡ true → Sound (named dp e) e
unfolding are_good
good_sound dp (In·head {x = x} {xs = es} h) seen g = subst (λ y. Sound (named dp y) y) (sym h) (entry_sound (named dp x) seen x (and_left _ (are_good dp (seen_after (named dp x) seen) es) g))
good_sound dp (In·tail {x = x} m) seen g = good_sound dp m (seen_after (named dp x) seen) (and_right (is_good (named dp x) seen x) _ g)

-- a request to the call n at t, and the answer to it, of a call whose points are dp
abbrev request_to : ℕ → Request → Tenths → Item
request_to n a t = record { call = n; time = t; body = body.RequestReport a.count }

abbrev asked_in : PointSet → ℕ → Record → Request → Tenths → Stepped
asked_in dp n r a t = respond_in dp r (request_to n a t) a.bytes

-- the rows that it meets
abbrev rows : PointSet → Record → Request → Tenths → List Row
rows dp r a t = row1_time t ∷ rows_of dp r (kind.RequestReport a.count) t a.bytes

module _ (dp : PointSet) (n : ℕ) (r : Record) (a : Request) (t : Tenths) (h : is_accepted (asked_in dp n r a t).answer ≡ true) where
  none_applies : first_of (rows dp r a t) ≡ Ok tt
  unfolding respond_in
  none_applies = not_refused (first_of (rows dp r a t)) r (request_report dp r a.count a.bytes t) h

  accepted_next : (asked_in dp n r a t).next ≡ armed_with dp (timed r t) (entries a)
  unfolding respond_in
  accepted_next = ap (λ c. (guarded c r (request_report dp r a.count a.bytes t)).next) none_applies

  -- row 11 is the fourth, row 7 the second
  accepted_sound : (e : Entry) → In e (entries a) → Sound (named dp e) e
  accepted_sound e m = good_sound dp m none_seen (not-false _ (no_row (rows dp r a t) none_applies 3))

  accepted_time : r.last.0 ≤ t.0
  accepted_time = ltb-false _ _ (no_row (rows dp r a t) none_applies 1)

-- one after the other, both accepted: a at t, and then b at u
module _ (dp : PointSet) (n : ℕ) (r : Record) (a b : Request) (t u : Tenths)
    (first : is_accepted (asked_in dp n r a t).answer ≡ true) (second : is_accepted (asked_in dp n (asked_in dp n r a t).next b u).answer ≡ true) where
  both_next : (asked_in dp n (asked_in dp n r a t).next b u).next ≡ armed_with dp (armed_with dp (timed r u) (entries a)) (entries b)
  both_next =
      accepted_next dp n (asked_in dp n r a t).next b u second
      ∙ ap (λ s. armed_with dp (timed s u) (entries b)) (accepted_next dp n r a t first)
      ∙ ap (λ s. armed_with dp s (entries b)) (sym (armed_timed dp (entries a) (timed r t) u))

  both_times : t.0 ≤ u.0
  both_times =
      rw (ap (λ s. s.last) (accepted_next dp n r a t first ∙ armed_timed dp (entries a) r t)) at (accepted_time dp n (asked_in dp n r a t).next b u second)

-- ---- the theorem

-- over any point set
in_either_order : (dp : PointSet) → is_point_set dp ≡ true → (n : ℕ) (r : Record) (a b : Request) (t v u : Tenths) → Disjoint a b
    → is_accepted (asked_in dp n r a t).answer ≡ true → is_accepted (asked_in dp n (asked_in dp n r a t).next b u).answer ≡ true
    → is_accepted (asked_in dp n r b v).answer ≡ true → is_accepted (asked_in dp n (asked_in dp n r b v).next a u).answer ≡ true
    → (asked_in dp n (asked_in dp n r a t).next b u).next ≡ (asked_in dp n (asked_in dp n r b v).next a u).next
in_either_order dp fit n r a b t v u d x y z w =
    both_next dp n r a b t u x y
    ∙ swap dp (entries a) (entries b) (λ e f m k. entry_swap dp fit (named dp e) (named dp f) e f refl refl (accepted_sound dp n r a t x e m) (accepted_sound dp n r b v z f k) (d e f m k)) (timed r u)
    ∙ sym (both_next dp n r b a v u z w)

-- of any call: the second request goes by the same points, since the call's kind is kept
module _ (n : ℕ) (r : Record) (a b : Request) (t u : Tenths) (x : BothAccepted n r a t b u) where
  second_in : in_turn n r a t b u ≡ asked_in (set_of r.bcsm) n (asked n r a t).next b u
  unfolding respond_in
  second_in =
      let dp = set_of r.bcsm in
      let goes_on_lem : is_over (asked n r a t).answer ≡ false = ap (λ c. is_over (guarded c r (request_report dp r a.count a.bytes t)).answer) (none_applies dp n r a t x.first) in
      ap (λ k. asked_in (set_of k) n (asked n r a t).next b u) (kind_kept r (request_to n a t) a.bytes goes_on_lem)

  accepted_in : is_accepted (asked_in (set_of r.bcsm) n (asked n r a t).next b u).answer ≡ true
  accepted_in = ap (λ s. is_accepted s.answer) (sym second_in) ∙ x.second

-- the times go with the places in the order: the second request comes at u, the first at any time
pub either_order : (n : ℕ) (r : Record) (a b : Request) (t v u : Tenths) → Disjoint a b → BothAccepted n r a t b u → BothAccepted n r b v a u
    → (in_turn n r a t b u).next ≡ (in_turn n r b v a u).next
either_order n r a b t v u d x y =
    ap (λ s. s.next) (second_in n r a b t u x)
    ∙ in_either_order (set_of r.bcsm) (sets_fit r.bcsm) n r a b t v u d x.first (accepted_in n r a b t u x) y.first (accepted_in n r b a v u y)
    ∙ ap (λ s. s.next) (sym (second_in n r b a v u y))

-- the times go with the requests: accepted in both orders, they come at one time
pub either_order_items : (n : ℕ) (r : Record) (a b : Request) (t u : Tenths) → Disjoint a b → BothAccepted n r a t b u → BothAccepted n r b u a t
    → (in_turn n r a t b u).next ≡ (in_turn n r b u a t).next
either_order_items n r a b t u d x y =
    let dp = set_of r.bcsm in
    let same : t ≡ u = same_tenths (omega (arith, both_times dp n r a b t u x.first (accepted_in n r a b t u x), both_times dp n r b a u t y.first (accepted_in n r b a u t y))) in
    either_order n r a b t u u d x (rw same at y) ∙ ap (λ s. (in_turn n r b u a s).next) (sym same)
