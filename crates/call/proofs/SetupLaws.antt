-- A Setup, or anything else: by its kind, what comes early of it, and what it opens, a call of the Setup's own kind.
use Prim.Native.Nat.{ℕ}
use mathlib.Core.Path.{◌≡◌, refl, sym, ap, subst, ◌∙◌}
use mathlib.Core.Bool.{Bool, true, false, not, cond, false≢true}
use mathlib.Core.List.{List, [], ◌∷◌}
use Rattle.std.specs.Prelude.{Some, None, Result, Ok, Err}
use Rattle.forms.specs.Item.{item_in_range}
use Rattle.forms.specs.Profile.{profile_of, is_profile}
use Rattle.forms.specs.Units.{is_clock_reading}
use Rattle.call.specs.Types.{Bcsm, Item, Setup, Handling, Seconds, Tenths, Number, Refusal, Stepped, Kind, Opening, Early}
use Rattle.forms.specs.declared.refusal.Refusal.TheVariants.{MalformedItem, MalformedProfile, CallNotOpen}
use Rattle.call.specs.declared.kind.Kind.TheVariants as kind
use Rattle.call.specs.Kind.{kind_of, if_setup, is_setup}
use Rattle.call.specs.Record.{blank, number_of}
use Rattle.call.specs.Answers.{is_accepted, first_of, refused}
use Rattle.call.specs.Refusals.{row1_time}
use Rattle.call.specs.Setup.{begun, opening_of, unless_early, early_of, not_open, set_up_of, opened_by, open_of}
use Rattle.call.proofs.Laws.{on_guard, time_fits}
use Rattle.call.proofs.CallTheorems.{is_over}

-- ---- by its kind

-- a kind is a Setup's, or `if_setup` goes the other way
pub data AsSetup : Kind → Type 1 where
  setup : (u : Setup) → AsSetup (kind.Setup u)
  other : {k : Kind} → ((A : Type 0) (f : Setup → A) (x : A) → if_setup k f x ≡ x) → AsSetup k

pub as_setup : (k : Kind) → AsSetup k
as_setup (kind.Setup u) = setup u
as_setup (kind.Event e) = other (λ A f x. refl)
as_setup (kind.PeriodOver l) = other (λ A f x. refl)
as_setup (kind.RequestReport n) = other (λ A f x. refl)
as_setup kind.Continue = other (λ A f x. refl)
as_setup (kind.Connect nature count) = other (λ A f x. refl)
as_setup kind.Release = other (λ A f x. refl)
as_setup (kind.ApplyCharging l period) = other (λ A f x. refl)
as_setup kind.ActivityTest = other (λ A f x. refl)
as_setup kind.Abort = other (λ A f x. refl)

-- ---- a Setup that opens a call is accepted, and the call is not over

abbrev pub Opens : Stepped → Type 0
Opens s = (is_accepted s.answer ≡ true) × (is_over s.answer ≡ false)

pub begun_opens : (b : Bcsm) (triggered : Bool) (timer : Seconds) (handling : Handling) (number : Number) (t : Tenths) → Opens (begun b triggered timer handling number t)
begun_opens b true timer handling number t = (refl, refl)
begun_opens b false timer handling number t = (refl, refl)

-- ---- what comes early of an item that is not malformed

module _ (i : Item) (rest s : List ℕ) where
  -- what the profile of a Setup says, and what comes early by that
  abbrev read : Setup → Result Opening Refusal
  read u = cond (is_profile (profile_of s) s) (Ok (opening_of (profile_of s) u rest)) (Err MalformedProfile)

  abbrev as_early : Result Opening Refusal → Early
  as_early (Ok o) = Ok (Some o)
  as_early (Err m) = Err m

  early_setup : (u : Setup) → kind_of i.body ≡ kind.Setup u → as_early (read u) ≡ early_of false i rest s
  unfolding early_of
  early_setup u e = rw e (go (is_profile (profile_of s) s))
    where
      go : (q : Bool) → as_early (cond q (Ok (opening_of (profile_of s) u rest)) (Err MalformedProfile)) ≡ unless_early (cond (not q) (Err MalformedProfile) (Ok tt)) (Ok (Some (opening_of (profile_of s) u rest)))
      go true = refl
      go false = refl

  pub early_read : (u : Setup) → kind_of i.body ≡ kind.Setup u → (o : Opening) → read u ≡ Ok o → Ok (Some o) ≡ early_of false i rest s
  early_read u e o h = ap as_early (sym h) ∙ early_setup u e

  pub early_refused : (u : Setup) → kind_of i.body ≡ kind.Setup u → (m : Refusal) → read u ≡ Err m → Err m ≡ early_of false i rest s
  early_refused u e m h = ap as_early (sym h) ∙ early_setup u e

  pub early_other : ((A : Type 0) (f : Setup → A) (x : A) → if_setup (kind_of i.body) f x ≡ x) → Ok None ≡ early_of false i rest s
  unfolding early_of
  early_other e = rw (e Bool (λ u. true) false, e Early (λ u. Ok (Some (opening_of (profile_of s) u rest))) (Ok None))

  -- three things can come early: 2; a Setup, which then opens a call; or nothing
  pub data Comes : Early → Type 0 where
    refuses : is_setup i ≡ true → is_profile (profile_of s) s ≡ false → Comes (Err MalformedProfile)
    opens : (o : Opening) → o.timer ≡ (profile_of s).timer → is_setup i ≡ true → is_profile (profile_of s) s ≡ true → (is_clock_reading i.time ≡ true → Opens (set_up_of i rest o)) → Comes (Ok (Some o))
    passes : is_setup i ≡ false → Comes (Ok None)

  pub comes : Comes (early_of false i rest s)
  unfolding set_up_of
  comes = go (as_setup (kind_of i.body)) refl
    where
      go : {k : Kind} → AsSetup k → kind_of i.body ≡ k → Comes (early_of false i rest s)
      go (setup u) e = subst Comes (early_setup u e) (by (is_profile (profile_of s) s) refl)
        where
          by : (q : Bool) → is_profile (profile_of s) s ≡ q → Comes (as_early (cond q (Ok (opening_of (profile_of s) u rest)) (Err MalformedProfile)))
          by true p = let o = opening_of (profile_of s) u rest in opens o refl (rw e) p (λ t. rw (t, e) (begun_opens u.bcsm o.triggered o.timer o.handling (number_of u.nature u.count rest) i.time))
          by false p = refuses (rw e) p
      go (other f) e = subst Comes (early_other (λ A g x. rw e (f A g x))) (passes (rw e (f Bool (λ u. true) false)))

  -- so what is opened is 1, or goes by what comes
  pub open_comes : (P : Stepped → Type 0) → P (refused blank MalformedItem) → (item_in_range i rest ≡ true → (e : Early) → Comes e → P (opened_by i rest e)) → P (open_of i rest s)
  unfolding early_of open_of
  open_comes P h f = go (item_in_range i rest) refl
    where
      go : (b : Bool) → item_in_range i rest ≡ b → P (opened_by i rest (early_of (not b) i rest s))
      go true o = f o (early_of false i rest s) comes
      go false o = h

  pub setup_opens : item_in_range i rest ≡ true → is_setup i ≡ true → is_profile (profile_of s) s ≡ true → Opens (open_of i rest s)
  unfolding open_of
  setup_opens o h p = rw o (go comes)
    where
      go : {e : Early} → Comes e → Opens (opened_by i rest e)
      go (refuses a b) = absurd (false≢true (sym b ∙ p))
      go (opens q m a b f) = f (time_fits i rest o)
      go (passes a) = absurd (false≢true (sym a ∙ h))

-- ---- what holds of each refusal, and of the call that a Setup begins, holds of what an item opens

-- the call that a Setup of the kind b begins
abbrev Begins : (Stepped → Type 0) → Bcsm → Type 0
Begins P b = (triggered : Bool) (timer : Seconds) (handling : Handling) (number : Number) (t : Tenths) → P (begun b triggered timer handling number t)

module _ (i : Item) (rest : List ℕ) (P : Stepped → Type 0) (none : (m : Refusal) → P (refused blank m)) (begins : (u : Setup) → kind_of i.body ≡ kind.Setup u → Begins P u.bcsm) where
  pub on_set_up : (o : Opening) → P (set_up_of i rest o)
  unfolding set_up_of
  on_set_up o = on_guard P (first_of (row1_time i.time ∷ [])) blank _ none (λ e. go (as_setup (kind_of i.body)) refl)
    where
      go : {k : Kind} → AsSetup k → kind_of i.body ≡ k → P (if_setup k (λ u. begun u.bcsm o.triggered o.timer o.handling (number_of u.nature u.count rest) i.time) not_open)
      go (setup u) e = begins u e o.triggered o.timer o.handling (number_of u.nature u.count rest) i.time
      go (other f) e = rw (f Stepped (λ u. begun u.bcsm o.triggered o.timer o.handling (number_of u.nature u.count rest) i.time) not_open) (none CallNotOpen)

  pub on_open : (s : List ℕ) → P (open_of i rest s)
  on_open s = open_comes i rest s P (none MalformedItem) (λ h e. go)
    where
      go : {e : Early} → Comes i rest s e → P (opened_by i rest e)
      go (refuses a f) = none MalformedProfile
      go (opens o m a p f) = on_set_up o
      go (passes a) = none CallNotOpen

-- ---- a Setup

module _ (i : Item) (rest : List ℕ) (u : Setup) (is-setup : kind_of i.body ≡ kind.Setup u) where
  -- is of no other kind
  pub of_kind : (P : Stepped → Type 0) → Begins P u.bcsm → (v : Setup) → kind_of i.body ≡ kind.Setup v → Begins P v.bcsm
  of_kind P f v e = let same : u ≡ v = cc in subst (λ x. Begins P x.bcsm) same f

  -- the call that is opened is of that kind (T-04)
  abbrev IsKind : Stepped → Type 0
  IsKind s = is_accepted s.answer ≡ true → s.next.bcsm ≡ u.bcsm

  begun_kind : (triggered : Bool) (timer : Seconds) (handling : Handling) (number : Number) (t : Tenths) → IsKind (begun u.bcsm triggered timer handling number t)
  begun_kind true timer handling number t h = refl
  begun_kind false timer handling number t h = refl

  -- Cited by no proof any more; docs/PORT.md names it.
  pub set_up_kind : (o : Opening) → IsKind (set_up_of i rest o)
  set_up_kind = on_set_up i rest IsKind (λ m h. absurd (false≢true h)) (of_kind IsKind begun_kind)

  pub open_kind : (s : List ℕ) → IsKind (open_of i rest s)
  open_kind = on_open i rest IsKind (λ m h. absurd (false≢true h)) (of_kind IsKind begun_kind)
