-- Document 01's edges P1 to P10 in a single statement over a list of cases, each computed: bytes as they read, and runs on the table.
-- The cases of `forms` and of `call` are taken up, those of `call` on a fresh table; the listing example, slots and damaged tables stand beside them.
use Prim.Native.Nat.{ℕ, zero, suc, ◌+◌, ◌*◌}
use mathlib.Core.Path.{◌≡◌, refl}
use mathlib.Core.Bool.{Bool, true, false}
use mathlib.Core.List.{List, [], ◌∷◌, ◌++◌, map, flatten}
use Rattle.std.specs.Prelude as std
use Rattle.std.specs.Prelude.{Option, None, Some, Err}
use lib.ListN.{get_or, set, take, drop}
use Rattle.forms.specs.Bytes as bytes
use Rattle.forms.specs.Bytes.{contains, leads, same}
use Rattle.forms.specs.Item.{item_bytes, item_in_range, rest_at, setup_of, body_from, body_of, item_of, is_item, read_item, entry_of}
use Rattle.forms.specs.Profile.{fields_of, profile_bytes, profile_in_range, numbers_at, numbers_end, view_at, profile_of, is_profile, some_matches}
use Rattle.forms.specs.declared.item.Body.{Body}
use Rattle.forms.specs.declared.item.Bcsm.TheVariants.{Originating, Terminating}
use Rattle.forms.specs.declared.item.Body.TheVariants as body
use Rattle.forms.proofs.Cases as forms
use Rattle.forms.specs.declared.refusal.Refusal.TheVariants.{MalformedItem, MalformedProfile, DamagedTable, CallNotOpen, CallOpen, TableFull}
use Rattle.forms.specs.declared.item.Leg.TheVariants.{Two}
use Rattle.call.specs.Armings.{some_armed, nothing_armed}
use Rattle.call.specs.Record.{armed_as, with_leg, leg, running}
use Rattle.call.specs.Trigger.{triggers}
use Rattle.call.specs.Request.{entries_of, are_good, are_possible, armed_with}
use Rattle.call.specs.Events.{met}
use Rattle.call.specs.Operations.{continued, aborted}
use Rattle.call.specs.Range.{places_in_range, number_in_range, in_range_of, are_fields_blank, is_blank}
use Rattle.call.specs.Step.{respond_in}
use Rattle.call.specs.Setup.{early_of, set_up_of, open_of}
use Rattle.call.specs.Alone.{Input, alone_step}
use Rattle.call.proofs.Cases as call
use Rattle.table.specs.declared.lookup.Spot.TheVariants as spot
use Rattle.table.specs.Types.{Item, Refusal, Record, Answer, Slot, Spot}
use Rattle.table.specs.Runs.{cons_if, only, log, final, each_alone}
use Rattle.table.specs.Table.{of_call, next, find, all, first, look, fresh, once, is_sound, unless, store, seat, setup_at, other_at, serve, damage, table_step}
use Rattle.table.specs.Slot.{owned_by, blank_slot, our_slots}
use Rattle.table.specs.Feed.{item_in, rest_in, our_call, feed_step, feed_item_of}
use Rattle.table.specs.Independence.{items_of, lines_of}
use Rattle.table.specs.Check.{calls, among, is_once}
use Rattle.table.specs.Lookup.{locate_of}
use Rattle.table.specs.Serve.{fed_of}
use Rattle.table.specs.Demands.{by_itself}
use Rattle.table.proofs.LineCases.{triggered, triggered_at12, ended}

-- ---- what a case is

-- what it shows: an edge of the paper; its listing example; slots used again; a damaged table (refusal 3); or another rule of one call
pub data Edge : Type 0 where
  P1 : Edge
  P2 : Edge
  P3 : Edge
  P4 : Edge
  P5 : Edge
  P6 : Edge
  P7 : Edge
  P8 : Edge
  P9 : Edge
  P10 : Edge
  Listing : Edge
  Slots : Edge
  Damage : Edge
  OneCall : Edge

-- what bytes read as: an item and the place of its digits or entries, or the refusal
abbrev pub Read : Type 0
Read = std.Result (Item × ℕ) Refusal

-- bytes and what they read as; a table, what is fed to it first, and then items with their answers; what is fed to a fresh table, and the owners of its first slots
pub data Shown : Type 0 where
  reads : List ℕ → Read → Shown
  answers : List Slot → List Input → List (Input × Answer) → Shown
  owners : List Input → List (Option ℕ) → Shown

pub record Case : Type 0 where
  pub edge : Edge
  pub shown : Shown

pub data Result : Type 0 where
  reading : Read → Result
  answered : List Answer → Result
  owned : List (Option ℕ) → Result

abbrev computed : Shown → Result
computed (reads s r) = reading (read_item s)
computed (answers t before l) = answered (map (λ (e : Input × Answer). e.1) (log feed_step (final feed_step t before) (map (λ (e : Input × Answer). e.0) l)))
computed (owners l o) = owned (map (λ (e : Slot). e.owner) (take 4 (final feed_step (fresh our_slots) l)))

abbrev wanted : Shown → Result
wanted (reads s r) = reading r
wanted (answers t before l) = answered (map (λ (e : Input × Answer). e.1) l)
wanted (owners l o) = owned o

-- each case with the edge that it shows, the last ones with `OneCall`
abbrev named : List Edge → List Shown → List Case
named es [] = []
named [] (s ∷ l) = record { edge = OneCall; shown = s } ∷ named [] l
named (e ∷ es) (s ∷ l) = record { edge = e; shown = s } ∷ named es l

-- ---- items, with the listing example's profile

abbrev plain : List ℕ
plain = 0x00 ∷ 0x0A ∷ 0x01 ∷ 0x00 ∷ 0x78 ∷ 0x00 ∷ 0x00 ∷ 0x00 ∷ 0x00 ∷ 0x00 ∷ []

abbrev item_of_call : ℕ → Body → List ℕ → Input
item_of_call k b rest = record { item = item_bytes (record { call = k; time = record { 0 = 1000 }; body = b }) rest; profile = plain }

abbrev setup : ℕ → Input
setup k = item_of_call k (body.Setup (setup_of Originating 4 0 false 1)) (4 ∷ [])

abbrev terminating : ℕ → Input
terminating k = item_of_call k (body.Setup (setup_of Terminating 4 0 false 1)) (4 ∷ [])

abbrev release : ℕ → Input
release k = item_of_call k body.Release []

-- an item with no profile beside it, which is malformed if it is a Setup
abbrev bare : Input → Input
bare x = record { item = x.item; profile = [] }

-- no item; a Setup and one byte more, with no profile either
abbrev malformed : Input
malformed = record { item = []; profile = plain }

abbrev too_long : Input
too_long = record { item = (setup 9).item ++ (0 ∷ []); profile = [] }

-- Setups of the calls n, …, 1; and of two n, of both kinds by turns
abbrev setups : ℕ → List Input
setups zero = []
setups (suc n) = setup (suc n) ∷ setups n

abbrev mixed : ℕ → List Input
mixed zero = []
mixed (suc n) = terminating (2 * n + 2) ∷ setup (2 * n + 1) ∷ mixed n

-- ---- tables: call 7 open in slot 0, with its record changed as given; and slot 1 changed

abbrev open7 : List Slot
open7 = final feed_step (fresh our_slots) (setup 7 ∷ [])

abbrev record7 : Record
record7 = (get_or open7 0 blank_slot).body

abbrev with7 : Record → List Slot
with7 r = set open7 0 (owned_by 7 r)

-- a kept timer; a charge of leg 2 started at a time (the last time is 1000)
abbrev keeps : ℕ → Record
keeps n = armed_as record7 record7.armings (record { 0 = n })

abbrev started_at : ℕ → Record
started_at n = with_leg Two record7 (leg record7.leg2 (running (record { 0 = 600 }) (record { 0 = n })))

-- refusal 3: "table not 64 records, a field out of range, a free record not blank, start later than last time, or one call twice"
abbrev damaged : List (List Slot)
damaged =
    drop 1 (fresh our_slots) ∷ (blank_slot ∷ fresh our_slots) ∷ with7 (keeps 2048) ∷ set open7 1 (record { owner = None; body = record7 })
    ∷ with7 (started_at 1001) ∷ set open7 1 (owned_by 7 record7) ∷ []

-- beside them, still in range
abbrev sound : List (List Slot)
sound = open7 ∷ with7 (keeps 2047) ∷ with7 (started_at 1000) ∷ set open7 1 (owned_by 8 record7) ∷ []

-- ---- the cases

abbrev shown : List Case
shown =
    named (P1 ∷ P2 ∷ P7 ∷ P7 ∷ P7 ∷ []) (map (λ (c : forms.Case). reads c.bytes c.says) forms.edges)
    ++ named
    (Listing ∷ P2 ∷ P3 ∷ Listing ∷ Listing ∷ Listing ∷ P3 ∷ P4 ∷ P4 ∷ P5 ∷ P5 ∷ P6 ∷ P6 ∷ P6 ∷ P7 ∷ P7 ∷ P7 ∷ P8 ∷ P8 ∷ P8 ∷ P9 ∷ P9 ∷ P9 ∷ P9 ∷ P10 ∷ P10 ∷ P10
    -- of terminating calls
    ∷ P3 ∷ P4 ∷ P4 ∷ P5 ∷ P5 ∷ P9 ∷ P9 ∷ P9 ∷ P9 ∷ P10 ∷ P10 ∷ P10 ∷ OneCall ∷ OneCall ∷ P3 ∷ [])
    (map (λ (c : call.Case). answers (fresh our_slots) c.before ((c.last, c.answer) ∷ [])) call.runs)
    -- the listing as one run: its six answers
    ++ named (Listing ∷ []) (answers (fresh our_slots) [] (map (λ (c : call.Case). (c.last, c.answer)) (take 6 call.runs)) ∷ [])
    -- P8 with 64 open, originating ones and of both kinds: a new Setup is 6, one for an open call 5, of either kind; 2 comes before both
    ++ named (P8 ∷ P8 ∷ [])
    (answers (fresh our_slots) (setups 64) ((bare (setup 65), Err MalformedProfile) ∷ (bare (setup 1), Err MalformedProfile) ∷ (setup 65, Err TableFull) ∷ (setup 64, Err CallOpen) ∷ (setup 1, Err CallOpen) ∷ [])
    ∷ answers (fresh our_slots) (mixed 32) ((bare (terminating 65), Err MalformedProfile) ∷ (setup 65, Err TableFull) ∷ (terminating 65, Err TableFull) ∷ (setup 2, Err CallOpen) ∷ (terminating 1, Err CallOpen) ∷ (terminating 2, Err CallOpen) ∷ [])
    ∷ [])
    -- "Setup takes the lowest free slot. Freed slots are used again."
    ++ named (Slots ∷ Slots ∷ [])
    (owners (setup 7 ∷ setup 8 ∷ setup 9 ∷ release 9 ∷ release 7 ∷ setup 10 ∷ []) (Some 10 ∷ Some 8 ∷ None ∷ None ∷ [])
    ∷ owners (setups 64 ++ (release 62 ∷ setup 65 ∷ [])) (Some 64 ∷ Some 63 ∷ Some 65 ∷ Some 61 ∷ [])
    ∷ [])
    -- refusal 3 comes after 1 and 2, and before 4 and 5; only a Setup's profile counts
    ++ map (λ (t : List Slot). record { edge = Damage; shown = answers t [] ((malformed, Err MalformedItem) ∷ (too_long, Err MalformedItem) ∷ (bare (setup 9), Err MalformedProfile) ∷ (bare (release 9), Err DamagedTable) ∷ (setup 7, Err DamagedTable) ∷ []) }) damaged
    ++ map (λ (t : List Slot). record { edge = Damage; shown = answers t [] ((too_long, Err MalformedItem) ∷ (bare (setup 7), Err MalformedProfile) ∷ (bare (release 9), Err CallNotOpen) ∷ (setup 7, Err CallOpen) ∷ []) }) sound

pub cases : map (λ (c : Case). computed c.shown) shown ≡ map (λ (c : Case). wanted c.shown) shown
unfolding flatten bytes.all contains leads same item_bytes item_in_range rest_at body_from body_of item_of is_item read_item entry_of fields_of profile_bytes profile_in_range numbers_at numbers_end view_at profile_of is_profile some_matches triggers some_armed nothing_armed entries_of are_good are_possible armed_with met continued aborted respond_in early_of set_up_of open_of places_in_range number_in_range in_range_of are_fields_blank is_blank log final next find all fresh once is_sound unless store seat setup_at other_at serve damage table_step blank_slot
cases = refl

-- ---- a Setup that is handed in as a value, on a fresh table and on a damaged one; a time past the last clock reading would be written as 1000

abbrev value_at : ℕ → Item
value_at time = record { call = 7; time = record { 0 = time }; body = body.Setup (setup_of Originating 4 0 false 1) }

abbrev fed_at : ℕ → List Answer
fed_at time = map (λ (t : List Slot). (feed_item_of t (value_at time) (4 ∷ []) plain).0) (fresh our_slots ∷ drop 1 (fresh our_slots) ∷ [])

pub as_values : map fed_at (1000 ∷ 281474976711656 ∷ []) ≡ (triggered ∷ Err DamagedTable ∷ []) ∷ (Err MalformedItem ∷ Err MalformedItem ∷ []) ∷ []
unfolding flatten bytes.all contains leads same item_bytes item_in_range rest_at body_from body_of item_of is_item read_item entry_of fields_of profile_bytes profile_in_range numbers_at numbers_end view_at profile_of is_profile some_matches triggers some_armed nothing_armed entries_of are_good are_possible armed_with met continued aborted respond_in early_of set_up_of open_of places_in_range number_in_range in_range_of are_fields_blank is_blank log final next find all fresh once is_sound unless store seat setup_at other_at serve damage table_step blank_slot
as_values = refl

-- ---- two calls by turns, an originating and a terminating one, the first closed and opened again as a terminating one; and a third that is not open

abbrev turns : List (Input × Answer)
turns =
    (setup 7, triggered) ∷ (terminating 8, triggered_at12) ∷ (release 7, ended) ∷ (release 7, Err CallNotOpen) ∷ (setup 8, Err CallOpen) ∷ (release 9, Err CallNotOpen) ∷ (terminating 7, triggered_at12)
    ∷ (bare (terminating 8), Err MalformedProfile) ∷ (release 8, ended) ∷ []

abbrev items : List Input
items = map (λ (e : Input × Answer). e.0) turns

abbrev answers_in : List (Input × Answer) → List Answer
answers_in = map (λ (e : Input × Answer). e.1)

abbrev owners_in : List Slot → List (Option ℕ)
owners_in t = map (λ (e : Slot). e.owner) (take 4 t)

-- an item as the code takes it, by the definitions of its parts: what `feed_read` promises
abbrev code_step : List Slot → Input → Answer × List Slot
code_step t x = fed_of t (item_in x) (rest_in x) x.profile

-- the answers on the table, of each call by itself, and of the code's parts
pub by_turns : answers_in (log feed_step (fresh our_slots) items) ∷ answers_in (each_alone by_itself (of_call our_call) our_call.call None [] items) ∷ answers_in (log code_step (fresh our_slots) items) ∷ []
    ≡ answers_in turns ∷ answers_in turns ∷ answers_in turns ∷ []
unfolding flatten bytes.all contains leads same item_bytes item_in_range rest_at body_from body_of item_of is_item read_item entry_of fields_of profile_bytes profile_in_range numbers_at numbers_end view_at profile_of is_profile some_matches triggers some_armed nothing_armed entries_of are_good are_possible armed_with met continued aborted respond_in early_of set_up_of open_of places_in_range number_in_range in_range_of are_fields_blank is_blank log final next find all fresh once is_sound unless store seat setup_at other_at serve damage table_step blank_slot each_alone only cons_if alone_step
by_turns = refl

-- what they leave: call 7 in slot 0
pub left_by_turns : map owners_in (final feed_step (fresh our_slots) items ∷ final code_step (fresh our_slots) items ∷ []) ≡ map (λ (n : ℕ). Some 7 ∷ None ∷ None ∷ None ∷ []) (1 ∷ 2 ∷ [])
unfolding flatten bytes.all contains leads same item_bytes item_in_range rest_at body_from body_of item_of is_item read_item entry_of fields_of profile_bytes profile_in_range numbers_at numbers_end view_at profile_of is_profile some_matches triggers some_armed nothing_armed entries_of are_good are_possible armed_with met continued aborted respond_in early_of set_up_of open_of places_in_range number_in_range in_range_of are_fields_blank is_blank log final next find all fresh once is_sound unless store seat setup_at other_at serve damage table_step blank_slot
left_by_turns = refl

-- ---- of each call: its items, their answers, and its record in a table (by its kept timer)

abbrev two : List Slot
two = set open7 1 (owned_by 8 (keeps 30))

abbrev kept_in : Option Record → Option ℕ
kept_in None = None
kept_in (Some r) = Some r.kept.0

abbrev its : ℕ → List Input × List Answer × Option ℕ
its k = (items_of our_call k items, answers_in (lines_of our_call k turns), kept_in (look our_slots k two))

pub of_each_call : map its (7 ∷ 8 ∷ 9 ∷ [])
    ≡ (setup 7 ∷ release 7 ∷ release 7 ∷ terminating 7 ∷ [], triggered ∷ ended ∷ Err CallNotOpen ∷ triggered_at12 ∷ [], Some 0)
    ∷ (terminating 8 ∷ setup 8 ∷ bare (terminating 8) ∷ release 8 ∷ [], triggered_at12 ∷ Err CallOpen ∷ Err MalformedProfile ∷ ended ∷ [], Some 30)
    ∷ (release 9 ∷ [], Err CallNotOpen ∷ [], None)
    ∷ []
unfolding flatten bytes.all contains leads same item_bytes item_in_range rest_at body_from body_of item_of is_item read_item entry_of fields_of profile_bytes profile_in_range numbers_at numbers_end view_at profile_of is_profile some_matches triggers some_armed nothing_armed entries_of are_good are_possible armed_with met continued aborted respond_in early_of set_up_of open_of places_in_range number_in_range in_range_of are_fields_blank is_blank log final next find all fresh once is_sound unless store seat setup_at other_at serve damage table_step blank_slot only cons_if look first
of_each_call = refl

-- ---- the code's parts: where a call stands, with room and on a full table; one call twice; what is answered on a damaged table

-- owned by the calls n, …, 1
abbrev full : ℕ → List Slot
full zero = []
full (suc n) = owned_by (suc n) record7 ∷ full n

abbrev located : List Spot
located = map (λ (k : ℕ). locate_of k two) (7 ∷ 8 ∷ 9 ∷ []) ++ map (λ (k : ℕ). locate_of k (full 64)) (1 ∷ 65 ∷ [])

abbrev are_once : List Bool
are_once = map (λ (t : List Slot). is_once (calls t)) (two ∷ set two 9 (owned_by 7 record7) ∷ [])

abbrev on_damage : List Answer
on_damage = map (λ (x : Input). (fed_of (drop 1 two) (item_in x) (rest_in x) x.profile).0) (bare (setup 9) ∷ bare (release 9) ∷ setup 7 ∷ [])

pub parts : (located ≡ spot.Own 0 ∷ spot.Own 1 ∷ spot.Free 2 ∷ spot.Own 63 ∷ spot.Nowhere ∷ [])
    × (are_once ≡ true ∷ false ∷ [])
    × (on_damage ≡ Err MalformedProfile ∷ Err DamagedTable ∷ Err DamagedTable ∷ [])
unfolding flatten bytes.all contains leads same item_bytes item_in_range rest_at body_from body_of item_of is_item read_item entry_of fields_of profile_bytes profile_in_range numbers_at numbers_end view_at profile_of is_profile some_matches triggers some_armed nothing_armed entries_of are_good are_possible armed_with met continued aborted respond_in early_of set_up_of open_of places_in_range number_in_range in_range_of are_fields_blank is_blank log final next find all fresh once is_sound unless store seat setup_at other_at serve damage table_step blank_slot calls among is_once
parts = (refl, refl, refl)
