-- Start here. The three demands, each said of whatever keeps to `feed`'s contract (`Feeds`, in Feed.antt); `demands` in proofs/Demands.antt proves them.
-- The words between quotes are the demands' own and document 01's. What they rest on: `forms` (the written forms), `call` (one call), and here Table, Slot, Feed, EntryPoints, and of lists Runs and Independence.
use Rattle.std.specs.Prelude.{ℕ, ◌^◌, ◌<◌, true, not, cond, ◌&&◌, List, [], ◌∷◌, ◌++◌, map, ◌≡◌, ◌≢◌, get_or, set, take, drop, Option, None, Some, is_none, unwrap_or, Ok, Err}
use Rattle.forms.specs.Bytes.{contains}
use Rattle.forms.specs.Item.{rest_at, rest_of, item_of, read_item}
use Rattle.forms.specs.Write.{written, after}
use Rattle.forms.specs.declared.units.Tenths.{Tenths}
use Rattle.forms.specs.Refusal.{number_of}
use Rattle.forms.specs.declared.refusal.Refusal.TheVariants.{DamagedTable, CallNotOpen, CallOpen, TableFull}
use Rattle.call.specs.Answers.{Values, refusal as refusal_of, values_of, Row, row, remains}
use Rattle.call.specs.Kind.{is_setup}
use Rattle.call.specs.Refusals.{early_rows_in}
use Rattle.call.specs.Step.{respond_of}
use Rattle.call.specs.Setup.{open_of}
use Rattle.call.specs.Alone.{Input, alone_step}
use Rattle.call.specs.Order.{Request, Disjoint, BothAccepted, in_turn}
use Rattle.table.specs.Types.{Item, Record, Refusal, Answer, Stepped, Slot}
use Rattle.table.specs.Runs.{All, final, each_alone}
use Rattle.table.specs.Table.{find, is_free, owns, look, fresh, unless, of_call}
use Rattle.table.specs.Slot.{owned_by, blank_slot, our_slots}
use Rattle.table.specs.Feed.{item_in, rest_in, first_row, our_call, is_sound_table, Turn, Feeds}
use Rattle.table.specs.EntryPoints.{EntryPoint, numbers, refusal}
use Rattle.table.specs.Independence.{items_of, lines_of}

-- ---- Demand 1, anything may come in

pub record Demand1 : Type 0 where
  -- "Every entry point answers, or gives one of document 01's numbered refusals.": those that EntryPoints lists for it
  pub numbered : (e : EntryPoint) (n : ℕ) → refusal e ≡ Some n → contains n (numbers e) ≡ true
  -- "A refusal carries no reports" (it is a number alone) "and changes no byte of the table."
  pub unchanged : (f : Turn) → Feeds f → (n : Refusal) → f.answer ≡ Err n → f.after ≡ f.before

-- ---- Demand 2, the right answer

module _ (t : List Slot) (x : Input) where
  -- the slot of the item's call, if it is open, and the lowest free slot
  abbrev pub own_slot : Option ℕ
  own_slot = find (owns our_slots (item_in x).call) t

  abbrev pub free_slot : Option ℕ
  free_slot = find (is_free our_slots) t

  -- the refusals of the table, in their order; 7 to 14 are `call`'s (Refusals.antt there)
  abbrev pub rows : List Row
  rows =
      -- 1: "item malformed"; 2: "profile malformed (Setup)"
      early_rows_in x.item x.profile
      -- 3: "table not 64 records, a field out of range, a free record not blank, start later than last time, or one call twice"
      ++ (row DamagedTable (not (is_sound_table t))
      -- 4: "call not open (all but Setup)"; 5: "call already open (Setup)"; 6: "64 open (Setup)"
      ∷ row CallNotOpen (not (is_setup (item_in x)) && is_none own_slot)
      ∷ row CallOpen (is_setup (item_in x) && not (is_none own_slot))
      ∷ row TableFull (is_setup (item_in x) && is_none free_slot)
      ∷ [])

  -- the slot that may change: "Setup takes the lowest free slot", another item its call's. (Where there is none, a row applies.)
  abbrev pub slot : ℕ
  slot = cond (is_setup (item_in x)) (unwrap_or free_slot 0) (unwrap_or own_slot 0)

  -- what `call` makes of the item: of a Setup "Triggering's answer … and a record", else "the first of 7 to 14 that applies; else One call's answer and next record"
  abbrev pub made : Stepped
  made = cond (is_setup (item_in x)) (open_of (item_in x) (rest_in x) x.profile) (respond_of (get_or t slot blank_slot).body (item_in x) (rest_in x))

-- the table after what `call` made of an item of call k, whose slot is i: as it was, or the slot free again, or the next record in it
abbrev pub stored : List Slot → ℕ → ℕ → Answer → Record → List Slot
stored t k i a next = remains a t (set t i blank_slot) (set t i (owned_by k next))

-- the values of the answer, in the paper's numbers and words (`call`, Answers.antt), and the table
abbrev pub due : List Slot → Input → Values × List Slot
due t x = unless (λ n. refusal_of (number_of n)) (first_row (rows t x)) t (values_of (made t x).answer, stored t (item_in x).call (slot t x) (made t x).answer (made t x).next)

-- "Each item gets the answer and next record that document 01 defines from the published CAMEL rules", and the whole table is the one it defines
abbrev pub Demand2 : Turn → Type 0
Demand2 f = (values_of f.answer, f.after) ≡ due f.before (record { item = f.item; profile = f.profile })

-- "A written item reads back the same, and each item has one written form." (The code's calls are below 256 ^ 4: they are u32.)
pub record WrittenForms : Type 0 where
  pub reads_back : (i : Item) (rest d : List ℕ) (n : ℕ) → i.call < 256 ^ 4 → written i rest d ≡ Ok n
      → (read_item (take n (after i rest d)) ≡ Ok (i, rest_at i.body)) × (rest_of i.body (take n (after i rest d)) ≡ rest)
  pub one_form : (s r : List ℕ) (i : Item) (m n : ℕ) → read_item s ≡ Ok (i, m) → read_item r ≡ Ok (i, n) → drop m s ≡ drop n r → s ≡ r

-- ---- Demand 3, calls do not touch each other

-- "fed one after another …; each item meets the table as the one before left it, and nothing else writes it"
abbrev pub Run : List Slot → List Turn → Type 0
Run t [] = Unit {0}
Run t (f ∷ l) = (f.before ≡ t) × Feeds f × Run f.after l

abbrev pub end_of : List Slot → List Turn → List Slot
end_of t [] = t
end_of t (f ∷ l) = end_of f.after l

-- a list of turns from "a fresh table", and the table after it
abbrev pub Started : List Turn → Type 0
Started l = Run (fresh our_slots) l

abbrev pub ending : List Turn → List Slot
ending l = end_of (fresh our_slots) l

-- an item, "each Setup with its own profile" (what is handed in beside another item is no part of it), and with its answer
abbrev pub fed : Turn → Input
fed f = record { item = f.item; profile = cond (is_setup (item_of f.item)) f.profile [] }

abbrev pub line : Turn → Input × Answer
line f = (fed f, f.answer)

-- "none is refused for room", "refused for room means 6", which is `TableFull`
abbrev pub Seated : List Turn → Type 0
Seated l = All (λ e. e.1 ≢ Err TableFull) (map line l)

-- "document 01's call by itself" (`call`, Alone.antt)
abbrev pub by_itself : Option Record → Input → Answer × Option Record
by_itself kept x = alone_step kept x.item x.profile

-- "each item gets exactly the answer that document 01's call by itself gives, fed only that call's items in their order": "one statement about the whole list"
abbrev pub AnswersByItself : List Turn → Type 0
AnswersByItself l = map line l ≡ each_alone by_itself (of_call our_call) our_call.call None [] (map fed l)

-- "after the list each call's record equals the one it has by itself"
abbrev pub RecordsByItself : List Turn → Type 0
RecordsByItself l = (k : ℕ) → look our_slots k (ending l) ≡ final by_itself None (items_of our_call k (map fed l))

-- "hold the same items and profiles, those of any one call in the same order"
abbrev pub SamePerCall : List Turn → List Turn → Type 0
SamePerCall l m = (k : ℕ) → items_of our_call k (map fed l) ≡ items_of our_call k (map fed m)

-- "alike in each item's answer and in each call's final record"; "Items of two lists correspond by their place within their call."
abbrev pub Alike : List Turn → List Turn → Type 0
Alike l m = (k : ℕ) → (lines_of our_call k (map line l) ≡ lines_of our_call k (map line m)) × (look our_slots k (ending l) ≡ look our_slots k (ending m))

pub record Demand3 : Type 0 where
  -- no list of items damages the table: refusal 3 (`DamagedTable`) never arises
  pub never_3 : (l : List Turn) → Started l → All (λ e. e.1 ≢ Err DamagedTable) (map line l)
  pub sound : (l : List Turn) → Started l → is_sound_table (ending l) ≡ true
  pub answers : (l : List Turn) → Started l → Seated l → AnswersByItself l
  pub records : (l : List Turn) → Started l → Seated l → RecordsByItself l
  -- "whatever the order between calls"
  pub alike : (l m : List Turn) → Started l → Started m → Seated l → Seated m → SamePerCall l m → Alike l m
  -- "within one call, whatever its record, two arming requests that name no pair of leg and point in common leave equal records in either order, whenever both orders are accepted"
  pub either_order : (n : ℕ) (r : Record) (a b : Request) (t u : Tenths) → Disjoint a b → BothAccepted n r a t b u → BothAccepted n r b u a t
      → (in_turn n r a t b u).next ≡ (in_turn n r b u a t).next
  -- also where the times go with the places: the first request at any time, the second at u, whichever it is
  pub either_first : (n : ℕ) (r : Record) (a b : Request) (t v u : Tenths) → Disjoint a b → BothAccepted n r a t b u → BothAccepted n r b v a u
      → (in_turn n r a t b u).next ≡ (in_turn n r b v a u).next

-- ---- the three

pub record Demands : Type 0 where
  pub anything : Demand1
  pub right : (f : Turn) → Feeds f → Demand2 f
  -- the values are the whole answer
  pub told : (a b : Answer) → values_of a ≡ values_of b → a ≡ b
  pub written : WrittenForms
  pub apart : Demand3
