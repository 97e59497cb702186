-- Document 01, The call table and Numbered refusals 3 to 6: 64 slots that serve many calls, over any layer of one call. (`Feed.antt` puts ours in.)
use Rattle.std.specs.Prelude.{ℕ, suc, Bool, true, false, cond, ◌&&◌, List, [], ◌∷◌, eqb, length, get_or, set, replicate, Option, None, Some, is_none}
use Rattle.table.specs.Runs.{only}

-- ---- what the layer of one call gives

-- what an open call's record makes of an item: an answer that refuses it, an answer and the next record, or the answer that ends the call
pub data Effect (Answer Rec : Type 0) : Type 0 where
  refuses : Answer → Effect Answer Rec
  goes : Answer → Rec → Effect Answer Rec
  ends : Answer → Effect Answer Rec

-- `Reason` is what refusals are told apart by; `early` is the refusal that comes before the table is looked at, if one applies; `begin` opens a call; `alone` is a call by itself
pub record OneCall : Type 1 where
  pub Item : Type 0
  pub Rec : Type 0
  pub Answer : Type 0
  pub Reason : Type 0
  -- refusals 3, 4, 5 and 6, which are the table's own
  pub DamagedTable : Reason
  pub CallNotOpen : Reason
  pub CallOpen : Reason
  pub TableFull : Reason
  pub refused : Reason → Answer
  pub call : Item → ℕ
  pub early : Item → Option Reason
  pub is_setup : Item → Bool
  pub begin : Item → Answer × Rec
  pub respond : Rec → Item → Effect Answer Rec
  pub alone : Option Rec → Item → Answer × Option Rec

-- does the item belong to call k?
abbrev pub of_call : (c : OneCall) → ℕ → c.Item → Bool
of_call c k x = eqb (c.call x) k

-- ---- slots: "each free or owned by one call"

-- free (`owner s` is none) or a call's, with the call's record in it
pub record Slots (Rec : Type 0) : Type 1 where
  pub Slot : Type 0
  pub owner : Slot → Option ℕ
  pub body : Slot → Rec
  pub own : ℕ → Rec → Slot
  pub blank : Slot
  pub is_blank : Slot → Bool
  pub in_range : Rec → Bool

abbrev pub is_call : ℕ → Option ℕ → Bool
is_call k None = false
is_call k (Some j) = eqb j k

-- the place of the first member that passes a test
unfoldable pub next : Bool → Option ℕ → Option ℕ
next true i = Some 0
next false None = None
next false (Some i) = Some (suc i)

unfoldable pub find : {A : Type 0} → (A → Bool) → List A → Option ℕ
find p [] = None
find p (s ∷ t) = next (p s) (find p t)

-- all members pass a test
unfoldable pub all : {A : Type 0} → (A → Bool) → List A → Bool
all p [] = true
all p (s ∷ t) = p s && all p t

module _ {Rec : Type 0} (m : Slots Rec) where
  open m use {Slot, owner, body, own, blank, is_blank, in_range}

  abbrev pub is_free : Slot → Bool
  is_free s = is_none (owner s)

  abbrev pub owns : ℕ → Slot → Bool
  owns k s = is_call k (owner s)

  -- "A call's record in the table is the one it owns, in any slot, its owner left out, or nothing."
  unfoldable pub first : List Slot → Option Rec
  first [] = None
  first (s ∷ t) = Some (body s)

  unfoldable pub look : ℕ → List Slot → Option Rec
  look k t = first (only (owns k) t)

  -- "A fresh table is 64 free records."
  unfoldable pub fresh : List Slot
  fresh = replicate 64 blank

  -- a sound table is none of what refusal 3 lists: "table not 64 records, a field out of range, a free record not blank, start later than last time, or one call twice"
  abbrev pub sound_as : Option ℕ → Slot → Bool
  sound_as None s = is_blank s
  sound_as (Some k) s = in_range (body s)

  abbrev pub is_sound_slot : Slot → Bool
  is_sound_slot s = sound_as (owner s) s

  abbrev pub absent : Option ℕ → List Slot → Bool
  absent None t = true
  absent (Some k) t = is_none (find (owns k) t)

  unfoldable pub once : List Slot → Bool
  once [] = true
  once (s ∷ t) = absent (owner s) t && once t

  unfoldable pub is_sound : List Slot → Bool
  is_sound t = eqb (length t) 64 && all is_sound_slot t && once t

-- ---- an item on the table: the answer, and the whole table afterwards

-- "the first that applies is given", "Each returns its number alone and changes nothing."
unfoldable pub unless : {R A S : Type 0} → (R → A) → Option R → S → A × S → A × S
unless refused (Some n) s d = (refused n, s)
unless refused None s d = d

module _ (c : OneCall) (m : Slots c.Rec) where
  open c use {Item, Rec, Answer, refused, call, early, is_setup, begin, respond, Reason, DamagedTable, CallNotOpen, CallOpen, TableFull}
  open m use {Slot, owner, body, own, blank}

  abbrev pub Done : Type 0
  Done = Answer × List Slot

  -- what call k's record made of an item, stored in its slot i; the slot of a call that is over is free again
  unfoldable pub store : List Slot → ℕ → ℕ → Effect Answer Rec → Done
  store t k i (refuses a) = (a, t)
  store t k i (goes a r) = (a, set t i (own k r))
  store t k i (ends a) = (a, set t i blank)

  -- "Setup takes the lowest free slot"; refusal 6: "64 open (Setup)"
  unfoldable pub seat : List Slot → Item → Option ℕ → Done
  seat t x None = (refused TableFull, t)
  seat t x (Some i) = ((begin x).0, set t i (own (call x) (begin x).1))

  -- refusal 5: "call already open (Setup)"
  unfoldable pub setup_at : List Slot → Item → Option ℕ → Done
  setup_at t x None = seat t x (find (is_free m) t)
  setup_at t x (Some i) = (refused CallOpen, t)

  -- refusal 4: "call not open (all but Setup)"
  unfoldable pub other_at : List Slot → Item → Option ℕ → Done
  other_at t x None = (refused CallNotOpen, t)
  other_at t x (Some i) = store t (call x) i (respond (body (get_or t i blank)) x)

  -- given the slot of the item's call, if it has one
  unfoldable pub serve : List Slot → Item → Option ℕ → Done
  serve t x i = cond (is_setup x) (setup_at t x i) (other_at t x i)

  -- refusal 3, of a table that is not sound
  unfoldable pub damage : List Slot → Option Reason
  damage t = cond (is_sound m t) None (Some DamagedTable)

  unfoldable pub table_step : List Slot → Item → Done
  table_step t x = unless refused (early x) t (unless refused (damage t) t (serve t x (find (owns m (call x)) t)))
