-- What the table relies on: "each relies only on what the one below promises".
use Prim.Native.Nat.{ℕ}
use mathlib.Core.Path.{◌≡◌}
use mathlib.Core.Bool.{true, false, cond}
use Rattle.std.specs.Prelude.{Option, None, Some}
use mathlib.Core.Logic.{◌≢◌}
use Rattle.table.specs.Table.{Effect, refuses, goes, ends, OneCall, Slots, unless}

-- ---- a call by itself, put together from the same parts as the table

module _ (c : OneCall) where
  open c use {Item, Rec, Answer, refused, early, is_setup, begin, respond, CallNotOpen, CallOpen}

  abbrev pub Kept : Type 0
  Kept = Answer × Option Rec

  unfoldable pub keep : Rec → Effect Answer Rec → Kept
  keep r (refuses a) = (a, Some r)
  keep r (goes a next) = (a, Some next)
  keep r (ends a) = (a, None)

  unfoldable pub setup_alone : Item → Option Rec → Kept
  setup_alone x None = ((begin x).0, Some (begin x).1)
  setup_alone x (Some r) = (refused CallOpen, Some r)

  unfoldable pub other_alone : Item → Option Rec → Kept
  other_alone x None = (refused CallNotOpen, None)
  other_alone x (Some r) = keep r (respond r x)

  unfoldable pub serve_alone : Item → Option Rec → Kept
  serve_alone x v = cond (is_setup x) (setup_alone x v) (other_alone x v)

  unfoldable pub alone_as : Option Rec → Item → Kept
  alone_as v x = unless refused (early x) v (serve_alone x v)

-- ---- the promises

-- of the next record, if there is one
abbrev pub OnNext : {Answer Rec : Type 0} → (Rec → Type 0) → Effect Answer Rec → Type 0
OnNext P (refuses a) = Unit {0}
OnNext P (goes a r) = P r
OnNext P (ends a) = Unit {0}

pub record Promises (c : OneCall) (m : Slots c.Rec) : Type 0 where
  -- a slot holds what was put in, and a blank one is free
  pub owner_own : (k : ℕ) (r : c.Rec) → m.owner (m.own k r) ≡ Some k
  pub body_own : (k : ℕ) (r : c.Rec) → m.body (m.own k r) ≡ r
  pub owner_blank : m.owner m.blank ≡ None
  pub blank_blank : m.is_blank m.blank ≡ true
  -- in range in, in range out
  pub begin_range : (x : c.Item) → c.early x ≡ None → c.is_setup x ≡ true → m.in_range (c.begin x).1 ≡ true
  pub respond_range : (r : c.Rec) (x : c.Item) → c.early x ≡ None → c.is_setup x ≡ false → m.in_range r ≡ true → OnNext (λ next. m.in_range next ≡ true) (c.respond r x)
  -- the call by itself is made of these parts; it never answers 3, and 6 is another answer
  pub alone_is : (v : Option c.Rec) (x : c.Item) → c.alone v x ≡ alone_as c v x
  pub alone_never_3 : (v : Option c.Rec) (x : c.Item) → (c.alone v x).0 ≢ c.refused c.DamagedTable
  pub room_is_not_3 : c.refused c.TableFull ≢ c.refused c.DamagedTable
