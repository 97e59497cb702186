-- What `feed` answers and leaves: the table of `Table.antt`, over the layer `call` and the bytes that are handed in.
use Rattle.std.specs.Prelude.{ℕ, Bool, cond, List, [], ◌∷◌, ◌≡◌, Option, None, Some, Err}
use Rattle.forms.specs.Item.{item_bytes, item_in_range, item_of, rest_of}
use Rattle.forms.specs.declared.refusal.Refusal.TheVariants.{MalformedItem, DamagedTable, CallNotOpen, CallOpen, TableFull}
use Rattle.call.specs.Answers.{Row, remains}
use Rattle.call.specs.Kind.{is_setup}
use Rattle.call.specs.Refusals.{early_rows_in}
use Rattle.call.specs.Step.{respond_of}
use Rattle.call.specs.Setup.{open_of}
use Rattle.call.specs.Alone.{Input, alone_step}
use Rattle.table.specs.Types.{Item, Record, Refusal, Answer, Slot}
use Rattle.table.specs.Table.{Effect, refuses, goes, ends, OneCall, is_sound, table_step}
use Rattle.table.specs.Slot.{our_slots}

-- the item that the bytes are, if they are one, and its digits or entries
abbrev pub item_in : Input → Item
item_in x = item_of x.item

abbrev pub rest_in : Input → List ℕ
rest_in x = rest_of (item_in x).body x.item

-- "Checked in this order; the first that applies is given and none otherwise."
abbrev pub first_row : List Row → Option Refusal
first_row [] = None
first_row (x ∷ xs) = cond x.applies (Some x.refusal) (first_row xs)

-- the refusals that come before the table is looked at: `call`'s one list of them
abbrev pub early : Input → Option Refusal
early x = first_row (early_rows_in x.item x.profile)

-- what `call` made of an item
abbrev pub effect_as : Answer → Record → Effect Answer Record
effect_as a next = remains a (refuses a) (ends a) (goes a next)

abbrev pub our_call : OneCall
our_call =
    record {
      Item = Input;
      Rec = Record;
      Answer = Answer;
      Reason = Refusal;
      DamagedTable = DamagedTable;
      CallNotOpen = CallNotOpen;
      CallOpen = CallOpen;
      TableFull = TableFull;
      refused = λ n. Err n;
      call = λ x. (item_in x).call;
      early = early;
      is_setup = λ x. is_setup (item_in x);
      begin = λ x. let s = open_of (item_in x) (rest_in x) x.profile in (s.answer, s.next);
      respond = λ r x. let s = respond_of r (item_in x) (rest_in x) in effect_as s.answer s.next;
      alone = λ k x. alone_step k x.item x.profile;
    }

-- the check for refusal 3
abbrev pub is_sound_table : List Slot → Bool
is_sound_table = is_sound our_slots

-- the answer and the whole table afterwards, of the table before and what is handed in: the item's bytes and the profile's
abbrev pub feed_step : List Slot → Input → Answer × List Slot
feed_step = table_step our_call our_slots

abbrev pub feed_of : List Slot → List ℕ → List ℕ → Answer × List Slot
feed_of t item profile = feed_step t (record { item = item; profile = profile })

-- an item that is handed in as a value, with its digits or entries, is fed as its written form is; out of range it is 1
abbrev pub feed_item_of : List Slot → Item → List ℕ → List ℕ → Answer × List Slot
feed_item_of t i rest profile = cond (item_in_range i rest) (feed_of t (item_bytes i rest) profile) (Err MalformedItem, t)

-- ---- a turn of `feed`

-- what is handed in (the table, the item's bytes, a profile's) and what comes out (the answer, the table afterwards)
pub record Turn : Type 0 where
  pub before : List Slot
  pub item : List ℕ
  pub profile : List ℕ
  pub answer : Answer
  pub after : List Slot

abbrev pub turn : List Slot → List ℕ → List ℕ → Answer → List Slot → Turn
turn before item profile answer after = record { before = before; item = item; profile = profile; answer = answer; after = after }

-- what `feed` promises, whatever is handed in; the demands (Demands.antt) follow from it
abbrev pub Feeds : Turn → Type 0
Feeds f = (f.answer, f.after) ≡ feed_of f.before f.item f.profile
