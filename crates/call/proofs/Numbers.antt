-- The numbers of refusals: which of document 01's each public function of `call` that can refuse gives. (Demand 1: "Every entry point answers, or gives one of document 01's numbered refusals.")
use Prim.Native.Nat.{ℕ}
use mathlib.Core.Path.{◌≡◌, refl, sym, ap, ◌∙◌}
use mathlib.Core.Bool.{Bool, true, false, cond, ◌&&◌, ◌||◌, false≢true}
use mathlib.Core.List.{List, [], ◌∷◌, map}
use lib.Dec.{eqb}
use borrow.Author.Tests.{eqb-true}
use Rattle.std.specs.Prelude.{Ok, Err}
use Rattle.forms.specs.Bytes.{all, contains}
use Rattle.forms.specs.Refusal.{number_of as refusal_number}
use Rattle.forms.proofs.ByteLaws.{and_left, and_right}
use Rattle.call.specs.Types.{Item, Tenths, PointSet, Record, Answer, Stepped, Kind, Opening, Early}
use Rattle.call.specs.declared.kind.Kind.TheVariants as kind
use Rattle.forms.specs.Profile.{is_release}
use Rattle.call.specs.Armings.{mode_at}
use Rattle.call.specs.Points.{set_of}
use Rattle.call.specs.Record.{is_present, is_held, is_trigger, blank, number_of}
use Rattle.call.specs.Answers.{Row, is_accepted, first_of, guarded}
use Rattle.call.specs.Events.{role_of, ends_call, met}
use Rattle.call.specs.Operations.{dropped, continued, aborted}
use Rattle.call.specs.Kind.{kind_of, if_setup}
use Rattle.call.specs.Refusals.{row1, row1_time, row3, rows_of}
use Rattle.call.specs.Step.{served, respond_in, respond_of, step_of}
use Rattle.call.specs.Setup.{begun, not_open, set_up_of, opened_by, open_of}
use Rattle.call.proofs.Laws.{on_cond}
use Rattle.call.proofs.SetupLaws.{AsSetup, setup, other, as_setup, begun_opens, Comes, refuses, opens, passes, open_comes}

-- a refusal's number is one of ns
abbrev pub is_one_of : List ℕ → Answer → Bool
is_one_of ns (Err n) = contains (refusal_number n) ns
is_one_of ns (Ok o) = true

abbrev OneOf : List ℕ → Stepped → Type 0
OneOf ns s = is_one_of ns s.answer ≡ true

pub accepted_one : (ns : List ℕ) (a : Answer) → is_accepted a ≡ true → is_one_of ns a ≡ true
accepted_one ns (Ok o) h = refl
accepted_one ns (Err n) h = absurd (false≢true h)

-- what passes for each member of a list passes for the number that the list contains
contained : (p : ℕ → Bool) (ns : List ℕ) (n : ℕ) → all p ns ≡ true → contains n ns ≡ true → p n ≡ true
unfolding all contains
contained p [] n h k = absurd (false≢true k)
contained p (m ∷ ns) n h k = go (eqb m n) refl (contained p ns n (and_right (p m) (all p ns) h)) k
  where
    go : (b : Bool) → eqb m n ≡ b → (contains n ns ≡ true → p n ≡ true) → (b || contains n ns) ≡ true → p n ≡ true
    go true e below k = ap p (sym (eqb-true m n e)) ∙ and_left (p m) (all p ns) h
    go false e below k = below k

-- so with more numbers
pub one_of_more : (ns ms : List ℕ) (a : Answer) → all (λ n. contains n ms) ns ≡ true → is_one_of ns a ≡ true → is_one_of ms a ≡ true
one_of_more ns ms (Err n) h k = contained (λ m. contains m ms) ns (refusal_number n) h k
one_of_more ns ms (Ok o) h k = refl

-- ---- rows with such numbers, and what stands behind them

abbrev numbers : List Row → List ℕ
numbers = map (λ x. refusal_number x.refusal)

guarded_one : (ns : List ℕ) (rows : List Row) (r : Record) (s : Stepped) → all (λ n. contains n ns) (numbers rows) ≡ true → OneOf ns s → OneOf ns (guarded (first_of rows) r s)
unfolding all
guarded_one ns [] r s h k = k
guarded_one ns (x ∷ rows) r s h k = go x.applies (guarded_one ns rows r s (and_right (contains (refusal_number x.refusal) ns) _ h) k)
  where
    go : (b : Bool) → OneOf ns (guarded (first_of rows) r s) → OneOf ns (guarded (first_of (record { refusal = x.refusal; applies = b } ∷ rows)) r s)
    go true q = and_left (contains (refusal_number x.refusal) ns) _ h
    go false q = q

-- ---- an item for an open call: its rows, and its answer where none applies

abbrev pub respond_numbers : List ℕ
respond_numbers = 1 ∷ 5 ∷ 7 ∷ 8 ∷ 9 ∷ 10 ∷ 11 ∷ 12 ∷ 13 ∷ 14 ∷ []

abbrev pub step_numbers : List ℕ
step_numbers = 1 ∷ 3 ∷ 5 ∷ 7 ∷ 8 ∷ 9 ∷ 10 ∷ 11 ∷ 12 ∷ 13 ∷ 14 ∷ []

either : (b : Bool) (x y : Stepped) → OneOf respond_numbers x → OneOf respond_numbers y → OneOf respond_numbers (cond b x y)
either = on_cond (OneOf respond_numbers)

continued_one : (dp : PointSet) (r : Record) (t : Tenths) → OneOf respond_numbers (continued dp r t)
unfolding continued
continued_one dp r t = either (is_present r.leg1 && is_present r.leg2) _ _ (either (is_trigger r.hold) _ _ refl refl) refl

module _ (dp : PointSet) (r : Record) (t : Tenths) (rest : List ℕ) where
  served_one : (k : Kind) → (all (λ n. contains n respond_numbers) (numbers (rows_of dp r k t rest)) ≡ true) × OneOf respond_numbers (served dp r k t rest)
  unfolding all contains met aborted
  served_one (kind.Setup s) = (refl, refl)
  served_one (kind.Event e) = let p = role_of e r.stage in (refl, either (ends_call p (mode_at p r.armings) r.hold) _ _ refl refl)
  served_one (kind.PeriodOver l) = (refl, refl)
  served_one (kind.RequestReport n) = (refl, refl)
  served_one kind.Continue = (refl, continued_one dp r t)
  served_one (kind.Connect n c) = (refl, refl)
  served_one kind.Release = (refl, refl)
  served_one (kind.ApplyCharging l p) = (refl, refl)
  served_one kind.ActivityTest = (refl, refl)
  served_one kind.Abort = (refl, either (is_release r.handling) _ _ refl (either (is_held r.hold) _ _ (continued_one dp (dropped r) t) refl))

module _ (r : Record) (i : Item) (rest : List ℕ) where
  pub respond_numbers_lem : OneOf respond_numbers (respond_of r i rest)
  unfolding respond_in all contains
  respond_numbers_lem =
      let k = kind_of i.body in
      let q = served_one (set_of r.bcsm) r i.time rest k in
      guarded_one respond_numbers (row1_time i.time ∷ rows_of (set_of r.bcsm) r k i.time rest) r (served (set_of r.bcsm) r k i.time rest) q.0 q.1

  pub step_numbers_lem : OneOf step_numbers (step_of r i rest)
  unfolding step_of all contains
  step_numbers_lem = guarded_one step_numbers (row1 i rest ∷ row3 r ∷ []) r (respond_of r i rest) refl (one_of_more respond_numbers step_numbers (respond_of r i rest).answer refl respond_numbers_lem)

-- ---- any item where no call is open

abbrev pub open_numbers : List ℕ
open_numbers = 1 ∷ 2 ∷ 4 ∷ []

abbrev pub set_up_numbers : List ℕ
set_up_numbers = 1 ∷ 4 ∷ []

pub set_up_numbers_lem : (i : Item) (rest : List ℕ) (o : Opening) → OneOf set_up_numbers (set_up_of i rest o)
unfolding set_up_of all contains
set_up_numbers_lem i rest o = guarded_one set_up_numbers (row1_time i.time ∷ []) blank _ refl (go (as_setup (kind_of i.body)))
  where
    go : {k : Kind} → AsSetup k → OneOf set_up_numbers (if_setup k (λ u. begun u.bcsm o.triggered o.timer o.handling (number_of u.nature u.count rest) i.time) not_open)
    go (setup u) = accepted_one set_up_numbers (begun u.bcsm o.triggered o.timer o.handling (number_of u.nature u.count rest) i.time).answer (begun_opens u.bcsm o.triggered o.timer o.handling (number_of u.nature u.count rest) i.time).0
    go (other e) = rw (e Stepped (λ u. begun u.bcsm o.triggered o.timer o.handling (number_of u.nature u.count rest) i.time) not_open)

pub open_numbers_lem : (i : Item) (rest s : List ℕ) → OneOf open_numbers (open_of i rest s)
unfolding all contains
open_numbers_lem i rest s = open_comes i rest s (OneOf open_numbers) refl (λ o e. go)
  where
    go : {e : Early} → Comes i rest s e → OneOf open_numbers (opened_by i rest e)
    go (refuses a b) = refl
    go (opens o m a b f) = one_of_more set_up_numbers open_numbers (set_up_of i rest o).answer refl (set_up_numbers_lem i rest o)
    go (passes a) = refl
