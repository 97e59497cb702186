-- What the code makes of an item that was read is what the table makes of its bytes.
use Prim.Native.Nat.{ℕ, ◌^◌, ◌<◌}
use native.Mathlib.Omega.{arith}
use mathlib.Core.Path.{◌≡◌, refl, sym, ap, ◌∙◌, subst}
use mathlib.Core.Bool.{Bool, true, false, cond}
use mathlib.Core.List.{List}
use Rattle.std.specs.Prelude.{Option, None, Some, Result, Ok, Err}
use lib.ListN.{length, get_or, set, drop}
use Rattle.std.proofs.lemmas.List.{get_or_default}
use Rattle.forms.specs.Item.{item_bytes, item_in_range, rest_at, is_item, read_item}
use Rattle.forms.specs.declared.refusal.Refusal.TheVariants.{MalformedItem, CallNotOpen, CallOpen, TableFull}
use Rattle.forms.proofs.ByteLaws.{picked}
use Rattle.forms.proofs.ItemTheorems.{read_back}
use Rattle.call.specs.Answers.{refused}
use Rattle.call.specs.Points.{set_of}
use Rattle.call.specs.Record.{blank}
use Rattle.call.specs.Step.{respond_of}
use Rattle.call.specs.Setup.{early_of, set_up_of, opened_by, open_of}
use Rattle.call.specs.Alone.{Input}
use Rattle.call.proofs.Laws.{time_fits}
use Rattle.call.proofs.CallTheorems.{Remains, respond_remains}
use Rattle.call.proofs.SetupLaws.{Opens, Comes, refuses, opens, passes, comes}
use Rattle.table.specs.Types.{Item, Refusal, Answer, Record, Stepped, Opening, Early, Slot, Spot}
use Rattle.table.specs.declared.lookup.Spot.TheVariants.{Nowhere, Free, Own}
use Rattle.table.specs.Table.{Effect, find, is_free, owns, unless, store, seat, setup_at, other_at, serve, damage, table_step}
use Rattle.table.specs.Slot.{our_slots, owned_by, blank_slot}
use Rattle.table.specs.Feed.{item_in, rest_in, effect_as, our_call, is_sound_table, feed_of, feed_item_of}
use Rattle.table.specs.Lookup.{spot_of, locate_of}
use Rattle.table.specs.Serve.{stored_at, served_at, served_of, fed_by, fed_of}
use Rattle.table.proofs.Ours.{item_fits, open_remains}

-- ---- by where the call stands

module _ (t : List Slot) where
  abbrev record_at : ℕ → Record
  record_at i = (get_or t i blank_slot).body

  -- what remains of an open call's record is stored
  stores : (k i : ℕ) (s : Stepped) → Remains (record_at i) s → stored_at t i k s ≡ store our_call our_slots t k i (effect_as s.answer s.next)
  unfolding store blank_slot
  stores k i s = go s.answer s.next
    where
      over : (b : Bool) (a : Answer) (next : Record) → next ≡ cond b blank next
          → (a, set t i (record { owner = cond b None (Some k); body = next })) ≡ store our_call our_slots t k i (cond b (Effect.ends a) (Effect.goes a next))
      over true a next h = rw h
      over false a next h = refl

      go : (a : Answer) (next : Record) → Remains (record_at i) (record { answer = a; next = next }) → stored_at t i k (record { answer = a; next = next }) ≡ store our_call our_slots t k i (effect_as a next)
      go (Err n) next h = refl
      go (Ok o) next h = over o.over (Ok o) next h

  -- so is the record of a call that is opened
  seats : (k i : ℕ) (s : Stepped) → Opens s → stored_at t i k s ≡ (s.answer, set t i (owned_by k s.next))
  unfolding store
  seats k i s q =
      let a = s.answer in
      stores k i s (sym (open_remains a (record_at i) blank s.next q)) ∙ ap (store our_call our_slots t k i) (open_remains a (Effect.refuses a) (Effect.ends a) (Effect.goes a s.next) q)

  module _ (x : Input) where
    setup_at_lem : (o : Opening) → open_of (item_in x) (rest_in x) x.profile ≡ set_up_of (item_in x) (rest_in x) o → Opens (set_up_of (item_in x) (rest_in x) o) → (own free : Option ℕ) → find (is_free our_slots) t ≡ free
        → served_at (Some o) (spot_of own free) t (item_in x) (rest_in x) ≡ setup_at our_call our_slots t x own
    unfolding setup_at seat
    setup_at_lem o e q (Some j) free f = refl
    setup_at_lem o e q None None f = rw f
    setup_at_lem o e q None (Some j) f = rw (f, e) (seats (item_in x).call j (set_up_of (item_in x) (rest_in x) o) q)

    other_at_lem : (own free : Option ℕ) → served_at None (spot_of own free) t (item_in x) (rest_in x) ≡ other_at our_call our_slots t x own
    unfolding other_at
    other_at_lem None None = refl
    other_at_lem None (Some j) = refl
    other_at_lem (Some j) free = stores (item_in x).call j (respond_of (record_at j) (item_in x) (rest_in x)) (respond_remains (set_of (record_at j).bcsm) (record_at j) (item_in x) (rest_in x))

-- ---- the bytes of an item

module _ (t : List Slot) (item profile : List ℕ) where
  abbrev x : Input
  x = record { item = item; profile = profile }

  -- what came early goes before the check, and on a sound table the call is served
  module _ (e : is_item (item_in x) item ≡ true) where
    feeds : fed_of t (item_in x) (rest_in x) profile ≡ feed_of t item profile
    unfolding open_of table_step unless damage serve
    feeds = go (is_sound_table t) refl (comes (item_in x) (rest_in x) profile) (rw (item_fits (item_in x) item e))
      where
        go : (w : Bool) → is_sound_table t ≡ w → {c : Early} → Comes (item_in x) (rest_in x) profile c → open_of (item_in x) (rest_in x) profile ≡ opened_by (item_in x) (rest_in x) c → fed_by c t (item_in x) (rest_in x) ≡ feed_of t item profile
        go w d (refuses a b) q = rw (e, a, b)
        go false d (opens o m a b f) q = rw (e, a, b, d)
        go true d (opens o m a b f) q =
            rw (e, a, b, d) (setup_at_lem t x o q (f (time_fits (item_in x) (rest_in x) (item_fits (item_in x) item e))) (find (owns our_slots (item_in x).call) t) (find (is_free our_slots) t) refl)
        go false d (passes a) q = rw (e, a, d)
        go true d (passes a) q = rw (e, a, d) (other_at_lem t x (find (owns our_slots (item_in x).call) t) (find (is_free our_slots) t))

  -- ---- as they were read

  pub fed_read : (i : Item) (a : ℕ) → read_item item ≡ Ok (i, a) → fed_of t i (drop a item) profile ≡ feed_of t item profile
  unfolding read_item
  fed_read i a h =
      let p = picked (is_item (item_in x) item) (Ok (item_in x, rest_at (item_in x).body)) (Err MalformedItem) (Ok (i, a)) h (λ (e : Err MalformedItem ≡ Ok (i, a)). let z : ◌≡◌ {A = ℕ} 0 1 = cc in omega arith) in
      let k : ◌≡◌ {A = Item × ℕ} (item_in x, rest_at (item_in x).body) (i, a) = cc in
      let q : item_in x ≡ i = ap (λ (y : Item × ℕ). y.0) k in
      let m : rest_at (item_in x).body ≡ a = ap (λ (y : Item × ℕ). y.1) k in
      rw (← q, ← m) (feeds p.0)

  -- on a table that is known to be sound
  pub served_read : is_sound_table t ≡ true → (i : Item) (a : ℕ) → read_item item ≡ Ok (i, a) → (o : Option Opening) → early_of false i (drop a item) profile ≡ Ok o → served_of t i (drop a item) o ≡ feed_of t item profile
  served_read sound i a h o k = rw (k, sound) at (fed_read i a h)

  pub refused_early : (i : Item) (a : ℕ) → read_item item ≡ Ok (i, a) → (n : Refusal) → early_of false i (drop a item) profile ≡ Err n → (Err n, t) ≡ feed_of t item profile
  refused_early i a h n k = rw k at (fed_read i a h)

  pub refused_read : (n : Refusal) → read_item item ≡ Err n → (Err n, t) ≡ feed_of t item profile
  unfolding read_item table_step unless
  refused_read n h = go (is_item (item_in x) item) refl h
    where
      go : (b : Bool) → is_item (item_in x) item ≡ b → cond {A = Result (Item × ℕ) Refusal} b (Ok (item_in x, rest_at (item_in x).body)) (Err MalformedItem) ≡ Err n → (Err n, t) ≡ feed_of t item profile
      go true e h = absurd (let z : ◌≡◌ {A = ℕ} 0 1 = cc in omega arith)
      go false e h = let m : MalformedItem ≡ n = cc in rw (e, ← m)

-- an item in range is fed as its written form is
pub fed_item : (t : List Slot) (i : Item) (rest profile : List ℕ) → item_in_range i rest ≡ true → i.call < 256 ^ 4 → fed_of t i rest profile ≡ feed_item_of t i rest profile
fed_item t i rest profile h k =
    let back = read_back i rest h k in
    rw h (subst (λ r. fed_of t i r profile ≡ feed_of t (item_bytes i rest) profile) back.1 (fed_read t (item_bytes i rest) profile i (rest_at i.body) back.0))

-- ---- the step of the record that is served, by where the call stands: what the code answers and stores is this step's

-- a Setup, with what its profile says: "64 open" is 6, "call already open" 5
abbrev pub set_up_at : Spot → Item → List ℕ → Opening → Stepped
set_up_at Nowhere i rest o = refused blank TableFull
set_up_at (Free j) i rest o = set_up_of i rest o
set_up_at (Own j) i rest o = refused blank CallOpen

-- all but a Setup: "call not open" is 4
abbrev pub responded_at : Spot → Record → Item → List ℕ → Stepped
responded_at Nowhere r i rest = refused blank CallNotOpen
responded_at (Free j) r i rest = refused blank CallNotOpen
responded_at (Own j) r i rest = respond_of r i rest

abbrev pub acted_of : Early → Spot → Record → Item → List ℕ → Stepped
acted_of (Err n) s r i rest = refused blank n
acted_of (Ok (Some o)) s r i rest = set_up_at s i rest o
acted_of (Ok None) s r i rest = responded_at s r i rest

-- of a slot that stands in the table: what a place past the end would give does not matter
pub acted_at : (e : Early) (s : Spot) (t : List Slot) (k : ℕ) (x : Item) (rest : List ℕ) (d : Slot) {a : Stepped} → k < length t → a ≡ acted_of e s (get_or t k d).body x rest → a ≡ acted_of e s (get_or t k blank_slot).body x rest
acted_at e s t k x rest d l h = h ∙ ap (λ (r : Slot). acted_of e s r.body x rest) (get_or_default t k d blank_slot l)

-- the slot that is looked at; where there is none, the first, which then stays as it is
abbrev pub slot_of : Spot → ℕ
slot_of Nowhere = 0
slot_of (Free i) = i
slot_of (Own i) = i

abbrev pub acted_in : Early → Spot → List Slot → Item → List ℕ → Answer × List Slot
acted_in e s t i rest = stored_at t (slot_of s) i.call (acted_of e s (get_or t (slot_of s) blank_slot).body i rest)

pub served_acted : (o : Option Opening) (s : Spot) (t : List Slot) (i : Item) (rest : List ℕ) → served_at o s t i rest ≡ acted_in (Ok o) s t i rest
served_acted (Some o) Nowhere t i rest = refl
served_acted (Some o) (Free j) t i rest = refl
served_acted (Some o) (Own j) t i rest = refl
served_acted None Nowhere t i rest = refl
served_acted None (Free j) t i rest = refl
served_acted None (Own j) t i rest = refl

pub fed_acted : (e : Early) (t : List Slot) (i : Item) (rest : List ℕ) → is_sound_table t ≡ true → fed_by e t i rest ≡ acted_in e (locate_of i.call t) t i rest
fed_acted (Err n) t i rest w = refl
fed_acted (Ok o) t i rest w = rw w (served_acted o (locate_of i.call t) t i rest)
