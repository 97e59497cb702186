-- Computed cases: what document 01's P1, P2, P6 and P7 say ('Both sides of each edge'); each row of its tables at the first and the last value of each range, and at the first outside; and document 02's T-02 and T-03 at their edges.
-- Expected values are the papers': a definition that says something else is refused here, also where the code says the same.
-- `edges` is a list of bytes and what they read as: the one statement over P1 to P10 takes it up.
use Prim.Native.Nat.{ℕ, ◌+◌}
use mathlib.Core.Path.{◌≡◌, refl}
use mathlib.Core.List.{List, [], ◌∷◌, ◌++◌, map}
use mathlib.Core.Bool.{true, false}
use lib.ListN.{length, replicate}
use Rattle.std.specs.Prelude.{Some, None, Result, Ok, Err}
use Rattle.forms.specs.Bytes.{pad, all, leads, same}
use Rattle.forms.specs.Units.{period_of, timer_of, tenths_of}
use Rattle.forms.specs.Framing.{framing_of, item_framing, profile_framing}
use Rattle.forms.specs.Item.{item_bytes, item_in_range, rest_at, setup_of, body_from, body_of, item_of, is_item, read_item, read_item_at, entry_of, read_entry}
use Rattle.forms.specs.Write.{writable, written, after}
use Rattle.forms.specs.Feeder.{gathered, holding, new_feeder, stopped_feeder, is_closed, take_of, without_item, feed_of, reset_of, joined}
use Rattle.forms.specs.Comparison.{leading, not_leading, pairs_of, compare_on, comparison}
use Rattle.forms.specs.Profile.{Profile, fields_of, profile_bytes, profile_in_range, numbers_at, numbers_end, view_at, view_of, profile_of, is_profile, read_profile, Number, matches, some_matches}
use Rattle.forms.specs.declared.refusal.Refusal.{Refusal}
use Rattle.forms.specs.declared.refusal.Refusal.TheVariants.{MalformedItem, MalformedProfile, BadEntry, FeederClosed}
use Rattle.forms.specs.declared.framing.Framing.TheVariants as F
use Rattle.forms.specs.declared.item.Item.{Item}
use Rattle.forms.specs.declared.item.Leg.TheVariants.{One, Two}
use Rattle.forms.specs.declared.item.Body.{Body}
use Rattle.forms.specs.declared.item.Bcsm.TheVariants.{Originating, Terminating}
use Rattle.forms.specs.declared.item.Body.TheVariants as B
use Rattle.forms.specs.declared.feeder.Feeder.{Feeder}
use Rattle.forms.specs.declared.profile.Handling.TheVariants.{Continue, Release}
use Rattle.forms.specs.declared.profile.Criterion.TheVariants.{Absent, Enabling, Inhibiting}

pub record Case : Type 0 where
  pub bytes : List ℕ
  pub says : Result (Item × ℕ) Refusal

abbrev of_call7 : ℕ → Body → Item
of_call7 time body = record { call = 7; time = record { 0 = time }; body = body }

-- bytes that are the item of call 7 with this time and body, whose digits or entries begin at this place
abbrev reads : List ℕ → ℕ → Body → ℕ → Case
reads bytes time body place = record { bytes = bytes; says = Ok (of_call7 time body, place) }

abbrev malformed : List ℕ → Case
malformed bytes = record { bytes = bytes; says = Err MalformedItem }

-- bytes of call 7 at 1000: length, version, kind and body as given
abbrev item : ℕ → ℕ → ℕ → List ℕ → List ℕ
item length version kind body = 0 ∷ length ∷ version ∷ kind ∷ 0 ∷ 0 ∷ 0 ∷ 7 ∷ 0 ∷ 0 ∷ 0 ∷ 0 ∷ 0x03 ∷ 0xE8 ∷ body

-- P2 arm 6 leg 2 mode 0 timer 30 at 1000
abbrev pub p2 : List ℕ
p2 = 0x00 ∷ 0x14 ∷ 0x01 ∷ 0x14 ∷ 0x00 ∷ 0x00 ∷ 0x00 ∷ 0x07 ∷ 0x00 ∷ 0x00 ∷ 0x00 ∷ 0x00 ∷ 0x03 ∷ 0xE8 ∷ 0x01 ∷ 0x06 ∷ 0x02 ∷ 0x00 ∷ 0x00 ∷ 0x1E ∷ []

abbrev pub edges : List Case
edges =
    -- P1 Answer, call 7, 5000
    reads (0x00 ∷ 0x0E ∷ 0x01 ∷ 0x06 ∷ 0x00 ∷ 0x00 ∷ 0x00 ∷ 0x07 ∷ 0x00 ∷ 0x00 ∷ 0x00 ∷ 0x00 ∷ 0x13 ∷ 0x88 ∷ []) 5000 B.Answer 14
    ∷ reads p2 1000 (B.RequestReport 1) 15
    -- P7 period 864000 accepted, 864001 and 0 malformed
    ∷ reads (item 19 1 24 (2 ∷ 0x00 ∷ 0x0D ∷ 0x2F ∷ 0x00 ∷ [])) 1000 (B.ApplyCharging Two (record { 0 = 864000 })) 19
    ∷ malformed (item 19 1 24 (2 ∷ 0x00 ∷ 0x0D ∷ 0x2F ∷ 0x01 ∷ []))
    ∷ malformed (item 19 1 24 (2 ∷ 0 ∷ 0 ∷ 0 ∷ 0 ∷ []))
    ∷ []

pub edges_hold : map (λ (c : Case). read_item c.bytes) edges ≡ map (λ (c : Case). c.says) edges
unfolding all same item_bytes item_in_range rest_at body_from body_of item_of is_item read_item
edges_hold = refl

pub p2_entry : read_entry p2 15 ≡ Some (record { point = 6; leg = 2; mode = 0; timer = record { 0 = 30 } }, 20)
unfolding read_entry entry_of
p2_entry = refl

-- Units: periods at both ends of 1..864000, 1 outside; timers at both ends of 0..2047, 11 outside (P7, P10); and "seconds × 10 = tenths", as for P3's 30 seconds
pub periods : map period_of (0 ∷ 1 ∷ 864000 ∷ 864001 ∷ []) ≡ Err MalformedItem ∷ Ok (record { 0 = 1 }) ∷ Ok (record { 0 = 864000 }) ∷ Err MalformedItem ∷ []
periods = refl

pub timers : map timer_of (0 ∷ 2047 ∷ 2048 ∷ []) ≡ Ok (record { 0 = 0 }) ∷ Ok (record { 0 = 2047 }) ∷ Err BadEntry ∷ []
timers = refl

pub across : map (λ (n : ℕ). (tenths_of (record { 0 = n })).0) (0 ∷ 30 ∷ 2047 ∷ []) ≡ 0 ∷ 300 ∷ 20470 ∷ []
across = refl

-- document 01's table of kinds: bytes of call 7 at 1000 with this kind and body, what they say, and the place after the fields
abbrev row : ℕ → List ℕ → Body → ℕ → Case
row kind bytes body place = reads (item (14 + length bytes) 1 kind bytes) 1000 body place

-- a line a kind, each field at its first and its last value
abbrev kinds : List Case
kinds =
    row 1 (0 ∷ 255 ∷ 0 ∷ 1 ∷ 0 ∷ []) (B.Setup (setup_of Originating 0 255 false 1)) 18 ∷ row 1 (127 ∷ 0 ∷ 1 ∷ 15 ∷ replicate 15 14) (B.Setup (setup_of Originating 127 0 true 15)) 18
    ∷ row 2 (0 ∷ []) (B.RouteFailure 0) 15 ∷ row 2 (127 ∷ []) (B.RouteFailure 127) 15
    ∷ row 3 (0 ∷ []) (B.Busy 0) 15 ∷ row 3 (127 ∷ []) (B.Busy 127) 15
    ∷ row 4 [] B.NoAnswer 14
    ∷ row 5 [] B.Seized 14
    ∷ row 6 [] B.Answer 14
    ∷ row 7 (0 ∷ []) (B.MidCall 0) 15 ∷ row 7 (14 ∷ []) (B.MidCall 14) 15
    ∷ row 8 [] B.Moved 14
    ∷ row 9 (1 ∷ 0 ∷ []) (B.Clear One 0) 16 ∷ row 9 (2 ∷ 127 ∷ []) (B.Clear Two 127) 16
    ∷ row 10 (1 ∷ []) (B.PeriodOver One) 15 ∷ row 10 (2 ∷ []) (B.PeriodOver Two) 15
    ∷ row 11 (0 ∷ 255 ∷ 0 ∷ 1 ∷ 0 ∷ []) (B.Setup (setup_of Terminating 0 255 false 1)) 18 ∷ row 11 (127 ∷ 0 ∷ 1 ∷ 15 ∷ replicate 15 14) (B.Setup (setup_of Terminating 127 0 true 15)) 18
    ∷ row 20 (1 ∷ replicate 5 255) (B.RequestReport 1) 15 ∷ row 20 (10 ∷ replicate 50 0) (B.RequestReport 10) 15
    ∷ row 21 [] B.Continue 14
    ∷ row 22 (0 ∷ 1 ∷ 0 ∷ []) (B.Connect 0 1) 16 ∷ row 22 (127 ∷ 15 ∷ replicate 15 14) (B.Connect 127 15) 16
    ∷ row 23 [] B.Release 14
    ∷ row 24 (1 ∷ 0 ∷ 0 ∷ 0 ∷ 1 ∷ []) (B.ApplyCharging One (record { 0 = 1 })) 19 ∷ row 24 (2 ∷ 0x00 ∷ 0x0D ∷ 0x2F ∷ 0x00 ∷ []) (B.ApplyCharging Two (record { 0 = 864000 })) 19
    ∷ row 25 [] B.ActivityTest 14
    ∷ row 26 [] B.Abort 14
    -- "call (4), time (6)", big-endian: ten different bytes; and the last call and clock reading
    ∷ record {
      bytes = 0 ∷ 14 ∷ 1 ∷ 6 ∷ 0x01 ∷ 0x02 ∷ 0x03 ∷ 0x04 ∷ 0x05 ∷ 0x06 ∷ 0x07 ∷ 0x08 ∷ 0x09 ∷ 0x0A ∷ [];
      says = Ok (record { call = 0x01020304; time = record { 0 = 0x05060708090A }; body = B.Answer }, 14);
    }
    ∷ record { bytes = 0 ∷ 14 ∷ 1 ∷ 6 ∷ replicate 10 255; says = Ok (record { call = 4294967295; time = record { 0 = 281474976710655 }; body = B.Answer }, 14) }
    ∷ []

pub kinds_read : map (λ (c : Case). read_item c.bytes) kinds ≡ map (λ (c : Case). c.says) kinds
unfolding all same item_bytes item_in_range rest_at body_from body_of item_of is_item read_item
kinds_read = refl

-- an item from a place on: P2 behind three bytes, its entries at 3 + 15; a byte too early; past the end
pub items_at :
    map (read_item_at (9 ∷ 9 ∷ 9 ∷ p2)) (3 ∷ 2 ∷ 24 ∷ [])
    ≡ Ok (of_call7 1000 (B.RequestReport 1), 18) ∷ Err MalformedItem ∷ Err MalformedItem ∷ []
unfolding all same item_bytes item_in_range rest_at body_from body_of item_of is_item read_item read_item_at
items_at = refl

-- "point, leg, mode, timer (2 bytes)": two entries from place 1 on, and the end where four bytes are left
pub entries :
    map (read_entry (2 ∷ 1 ∷ 2 ∷ 3 ∷ 4 ∷ 5 ∷ 255 ∷ 254 ∷ 253 ∷ 252 ∷ 251 ∷ 1 ∷ 2 ∷ 3 ∷ 4 ∷ [])) (1 ∷ 6 ∷ 11 ∷ 16 ∷ [])
    ≡ Some (record { point = 1; leg = 2; mode = 3; timer = record { 0 = 0x0405 } }, 6)
    ∷ Some (record { point = 255; leg = 254; mode = 253; timer = record { 0 = 0xFCFB } }, 11)
    ∷ None ∷ None ∷ []
unfolding read_entry entry_of
entries = refl

-- writing: an item with its digits or entries, a buffer, the answer, and the buffer afterwards
pub record Writing : Type 0 where
  pub item : Item
  pub rest : List ℕ
  pub buffer : List ℕ
  pub answer : Result ℕ Refusal
  pub left : List ℕ

-- an item of call 7 into n nines: written, nines behind it; or refused, and nothing is written
abbrev writes : ℕ → Body → List ℕ → ℕ → List ℕ → ℕ → Writing
writes time body rest n bytes behind = record { item = of_call7 time body; rest = rest; buffer = replicate n 9; answer = Ok (length bytes); left = bytes ++ replicate behind 9 }

abbrev refuses : ℕ → Body → List ℕ → ℕ → Writing
refuses time body rest n = record { item = of_call7 time body; rest = rest; buffer = replicate n 9; answer = Err MalformedItem; left = replicate n 9 }

-- P2's entry
abbrev entry : List ℕ
entry = 6 ∷ 2 ∷ 0 ∷ 0 ∷ 30 ∷ []

abbrev writings : List Writing
writings =
    -- P2 and an Abort: with room to spare, with just enough, with a byte too little
    writes 1000 (B.RequestReport 1) entry 22 p2 2 ∷ writes 1000 (B.RequestReport 1) entry 20 p2 0 ∷ refuses 1000 (B.RequestReport 1) entry 19
    ∷ writes 1000 B.Abort [] 16 (item 14 1 26 []) 2 ∷ writes 1000 B.Abort [] 14 (item 14 1 26 []) 0 ∷ refuses 1000 B.Abort [] 13
    -- a cause and a period past their range, and a period whose last four bytes say 1
    ∷ refuses 1000 (B.Busy 128) [] 20 ∷ refuses 1000 (B.ApplyCharging Two (record { 0 = 864001 })) [] 20 ∷ refuses 1000 (B.ApplyCharging Two (record { 0 = 4294967297 })) [] 20
    -- a digit too few, one too many, digit 15; an entry too many; a byte after a kind that has none
    ∷ refuses 1000 (B.Connect 4 2) (1 ∷ []) 20 ∷ refuses 1000 (B.Connect 4 2) (1 ∷ 2 ∷ 3 ∷ []) 20 ∷ refuses 1000 (B.Connect 4 1) (15 ∷ []) 20 ∷ refuses 1000 (B.RequestReport 1) (entry ++ entry) 30 ∷ refuses 1000 B.Abort (1 ∷ []) 20
    -- the last clock reading in six bytes, and the one after it
    ∷ writes 281474976710655 B.Abort [] 14 (0 ∷ 14 ∷ 1 ∷ 26 ∷ 0 ∷ 0 ∷ 0 ∷ 7 ∷ replicate 6 255) 0 ∷ refuses 281474976710656 B.Abort [] 14
    ∷ []

pub writings_hold :
    (map (λ (c : Writing). written c.item c.rest c.buffer) writings ≡ map (λ (c : Writing). c.answer) writings)
    × (map (λ (c : Writing). after c.item c.rest c.buffer) writings ≡ map (λ (c : Writing). c.left) writings)
unfolding all item_bytes item_in_range writable written after
writings_hold = (refl, refl)

-- P6 stored 491 matches 4915 and 491, not 49
pub p6 : map (matches (record { nature = 4; digits = 4 ∷ 9 ∷ 1 ∷ [] }) 4) ((4 ∷ 9 ∷ 1 ∷ 5 ∷ []) ∷ (4 ∷ 9 ∷ 1 ∷ []) ∷ (4 ∷ 9 ∷ []) ∷ []) ≡ true ∷ true ∷ false ∷ []
unfolding leads
p6 = refl

-- stored: 491 of nature 4, and 5 of nature 3. Dialled: 4915 and 52, each of nature 4 and of nature 3; and where nothing is stored
abbrev stored : List Number
stored = record { nature = 4; digits = 4 ∷ 9 ∷ 1 ∷ [] } ∷ record { nature = 3; digits = 5 ∷ [] } ∷ []

pub some_match :
    some_matches stored 4 (4 ∷ 9 ∷ 1 ∷ 5 ∷ []) ∷ some_matches stored 3 (4 ∷ 9 ∷ 1 ∷ 5 ∷ []) ∷ some_matches stored 4 (5 ∷ 2 ∷ []) ∷ some_matches stored 3 (5 ∷ 2 ∷ []) ∷ some_matches [] 3 (5 ∷ 2 ∷ []) ∷ []
    ≡ true ∷ false ∷ false ∷ true ∷ false ∷ []
unfolding leads some_matches
some_match = refl

-- T-03: of P6's numbers, how many digit pairs are compared: with 4915 and 491 all three, with 49 none; with 4925 the last, with 5915 that and the first; with 4815 all three, and no match
pub t03 :
    map (comparison (4 ∷ 9 ∷ 1 ∷ [])) ((4 ∷ 9 ∷ 1 ∷ 5 ∷ []) ∷ (4 ∷ 9 ∷ 1 ∷ []) ∷ (4 ∷ 9 ∷ []) ∷ (4 ∷ 9 ∷ 2 ∷ 5 ∷ []) ∷ (5 ∷ 9 ∷ 1 ∷ 5 ∷ []) ∷ (4 ∷ 8 ∷ 1 ∷ 5 ∷ []) ∷ [])
    ≡ leading 3 ∷ leading 3 ∷ not_leading 0 ∷ not_leading 1 ∷ not_leading 2 ∷ not_leading 3 ∷ []
unfolding pairs_of compare_on comparison
t03 = refl

-- a Setup of the kind k: nature 128, forwarded 2, digit counts 0 and 16, digit 15, counts that do not fit: a digit too few, one too many
abbrev bad_setups : ℕ → List (List ℕ)
bad_setups k =
    item 19 1 k (128 ∷ 0 ∷ 0 ∷ 1 ∷ 4 ∷ []) ∷ item 19 1 k (4 ∷ 0 ∷ 2 ∷ 1 ∷ 4 ∷ []) ∷ item 18 1 k (4 ∷ 0 ∷ 0 ∷ 0 ∷ []) ∷ item 34 1 k (4 ∷ 0 ∷ 0 ∷ 16 ∷ replicate 16 4)
    ∷ item 19 1 k (4 ∷ 0 ∷ 0 ∷ 1 ∷ 15 ∷ []) ∷ item 19 1 k (4 ∷ 0 ∷ 0 ∷ 2 ∷ 4 ∷ []) ∷ item 20 1 k (4 ∷ 0 ∷ 0 ∷ 1 ∷ 4 ∷ 4 ∷ [])
    ∷ []

abbrev bad_items : List (List ℕ)
bad_items =
    -- no bytes; 13 bytes; 66 bytes; the length one off; trailing bytes, counted and not
    [] ∷ (0 ∷ 13 ∷ 1 ∷ 6 ∷ replicate 9 0) ∷ item 66 1 20 (10 ∷ replicate 51 0) ∷ item 13 1 6 [] ∷ item 15 1 6 [] ∷ item 15 1 6 (0 ∷ []) ∷ item 14 1 6 (0 ∷ [])
    -- version 0 and 2; kinds that are none
    ∷ item 14 0 6 [] ∷ item 14 2 6 [] ∷ item 14 1 0 [] ∷ item 14 1 12 [] ∷ item 14 1 19 [] ∷ item 14 1 27 [] ∷ item 14 1 255 []
    -- Setups of both kinds
    ∷ bad_setups 1 ++ bad_setups 11
    -- causes 128, Mid-call digit 15, legs 0 and 3
    ++ (item 15 1 2 (128 ∷ []) ∷ item 15 1 3 (128 ∷ []) ∷ item 15 1 7 (15 ∷ []) ∷ item 16 1 9 (1 ∷ 128 ∷ []) ∷ item 16 1 9 (0 ∷ 16 ∷ []) ∷ item 16 1 9 (3 ∷ 16 ∷ [])
    ∷ item 15 1 10 (0 ∷ []) ∷ item 15 1 10 (3 ∷ []) ∷ item 19 1 24 (0 ∷ 0 ∷ 0 ∷ 0 ∷ 1 ∷ []) ∷ item 19 1 24 (3 ∷ 0 ∷ 0 ∷ 0 ∷ 1 ∷ [])
    -- entry counts 0 and 11, a byte of an entry missing; Connect: nature 128, digit counts 0 and 16, digit 15
    ∷ item 15 1 20 (0 ∷ []) ∷ item 70 1 20 (11 ∷ replicate 55 0) ∷ item 19 1 20 (1 ∷ replicate 4 0) ∷ item 17 1 22 (128 ∷ 1 ∷ 4 ∷ []) ∷ item 16 1 22 (4 ∷ 0 ∷ []) ∷ item 32 1 22 (4 ∷ 16 ∷ replicate 16 4) ∷ item 17 1 22 (4 ∷ 1 ∷ 15 ∷ [])
    ∷ [])

pub bad_items_refused : map read_item bad_items ≡ map (λ (s : List ℕ). Err MalformedItem) bad_items
unfolding all same item_bytes item_in_range rest_at body_from body_of item_of is_item read_item
bad_items_refused = refl

-- profiles: the listing program's; one with every list; the longest, each list and each range at its end; one with each range at its start; and one with a length alone
pub record ProfileCase : Type 0 where
  pub bytes : List ℕ
  pub value : Profile

abbrev profiles : List ProfileCase
profiles =
    record {
      bytes = 0x00 ∷ 0x0A ∷ 0x01 ∷ 0x00 ∷ 0x78 ∷ 0x00 ∷ 0x00 ∷ 0x00 ∷ 0x00 ∷ 0x00 ∷ [];
      value = record { handling = Continue; timer = record { 0 = 120 }; sense = Absent; numbers = []; lengths = []; services = []; forwarding = Absent };
    }
    ∷ record {
      bytes = 0 ∷ 20 ∷ 1 ∷ 1 ∷ 30 ∷ 1 ∷ 1 ∷ 4 ∷ 3 ∷ 4 ∷ 9 ∷ 1 ∷ 2 ∷ 11 ∷ 12 ∷ 3 ∷ 8 ∷ 9 ∷ 255 ∷ 2 ∷ [];
      value = record { handling = Release; timer = record { 0 = 30 }; sense = Enabling; numbers = record { nature = 4; digits = 4 ∷ 9 ∷ 1 ∷ [] } ∷ []; lengths = 11 ∷ 12 ∷ []; services = 8 ∷ 9 ∷ 255 ∷ []; forwarding = Inhibiting };
    }
    ∷ record {
      bytes = 0 ∷ 188 ∷ 1 ∷ 0 ∷ 180 ∷ 2 ∷ 10 ∷ (joined (replicate 10 (127 ∷ 15 ∷ replicate 15 14)) ++ (3 ∷ 1 ∷ 14 ∷ 15 ∷ 5 ∷ 0 ∷ 1 ∷ 2 ∷ 3 ∷ 4 ∷ 1 ∷ []));
      value = record { handling = Continue; timer = record { 0 = 180 }; sense = Inhibiting; numbers = replicate 10 (record { nature = 127; digits = replicate 15 14 }); lengths = 1 ∷ 14 ∷ 15 ∷ []; services = 0 ∷ 1 ∷ 2 ∷ 3 ∷ 4 ∷ []; forwarding = Enabling };
    }
    ∷ record {
      bytes = 0 ∷ 13 ∷ 1 ∷ 1 ∷ 10 ∷ 1 ∷ 1 ∷ 0 ∷ 1 ∷ 0 ∷ 0 ∷ 0 ∷ 0 ∷ [];
      value = record { handling = Release; timer = record { 0 = 10 }; sense = Enabling; numbers = record { nature = 0; digits = 0 ∷ [] } ∷ []; lengths = []; services = []; forwarding = Absent };
    }
    ∷ record {
      bytes = 0 ∷ 11 ∷ 1 ∷ 1 ∷ 10 ∷ 2 ∷ 0 ∷ 1 ∷ 1 ∷ 0 ∷ 0 ∷ [];
      value = record { handling = Release; timer = record { 0 = 10 }; sense = Inhibiting; numbers = []; lengths = 1 ∷ []; services = []; forwarding = Absent };
    }
    ∷ []

pub profiles_read : (map (λ (c : ProfileCase). read_profile c.bytes) profiles ≡ map (λ (c : ProfileCase). Ok (view_of c.bytes)) profiles) × (map (λ (c : ProfileCase). profile_of c.bytes) profiles ≡ map (λ (c : ProfileCase). c.value) profiles)
unfolding joined all same fields_of profile_bytes profile_in_range numbers_at numbers_end view_at profile_of is_profile read_profile
profiles_read = (refl, refl)

-- bytes of a profile: length, version and fields as given
abbrev profile : ℕ → ℕ → List ℕ → List ℕ
profile length version fields = 0 ∷ length ∷ version ∷ fields

abbrev bad_profiles : List (List ℕ)
bad_profiles =
    -- no bytes; the length one off; version 0 and 2; a byte after the forwarding byte; that byte missing
    [] ∷ profile 9 1 (0 ∷ 120 ∷ 0 ∷ 0 ∷ 0 ∷ 0 ∷ 0 ∷ []) ∷ profile 11 1 (0 ∷ 120 ∷ 0 ∷ 0 ∷ 0 ∷ 0 ∷ 0 ∷ []) ∷ profile 10 0 (0 ∷ 120 ∷ 0 ∷ 0 ∷ 0 ∷ 0 ∷ 0 ∷ []) ∷ profile 10 2 (0 ∷ 120 ∷ 0 ∷ 0 ∷ 0 ∷ 0 ∷ 0 ∷ [])
    ∷ profile 11 1 (0 ∷ 120 ∷ 0 ∷ 0 ∷ 0 ∷ 0 ∷ 0 ∷ 0 ∷ []) ∷ profile 9 1 (0 ∷ 120 ∷ 0 ∷ 0 ∷ 0 ∷ 0 ∷ [])
    -- handling 2; timers 9 and 181; sense 3; forwarding 3
    ∷ profile 10 1 (2 ∷ 120 ∷ 0 ∷ 0 ∷ 0 ∷ 0 ∷ 0 ∷ []) ∷ profile 10 1 (0 ∷ 9 ∷ 0 ∷ 0 ∷ 0 ∷ 0 ∷ 0 ∷ []) ∷ profile 10 1 (0 ∷ 181 ∷ 0 ∷ 0 ∷ 0 ∷ 0 ∷ 0 ∷ []) ∷ profile 11 1 (0 ∷ 120 ∷ 3 ∷ 0 ∷ 1 ∷ 4 ∷ 0 ∷ 0 ∷ []) ∷ profile 10 1 (0 ∷ 120 ∷ 0 ∷ 0 ∷ 0 ∷ 0 ∷ 3 ∷ [])
    -- a sense that does not go with the counts
    ∷ profile 10 1 (0 ∷ 120 ∷ 1 ∷ 0 ∷ 0 ∷ 0 ∷ 0 ∷ []) ∷ profile 10 1 (0 ∷ 120 ∷ 2 ∷ 0 ∷ 0 ∷ 0 ∷ 0 ∷ []) ∷ profile 11 1 (0 ∷ 120 ∷ 0 ∷ 0 ∷ 1 ∷ 4 ∷ 0 ∷ 0 ∷ []) ∷ profile 13 1 (0 ∷ 120 ∷ 0 ∷ 1 ∷ 4 ∷ 1 ∷ 9 ∷ 0 ∷ 0 ∷ 0 ∷ [])
    -- numbers: nature 128, digit counts 0 and 16, digit 15, 11 of them; lengths 0 and 16, 4 of them; 6 services
    ∷ profile 13 1 (0 ∷ 120 ∷ 1 ∷ 1 ∷ 128 ∷ 1 ∷ 9 ∷ 0 ∷ 0 ∷ 0 ∷ []) ∷ profile 12 1 (0 ∷ 120 ∷ 1 ∷ 1 ∷ 4 ∷ 0 ∷ 0 ∷ 0 ∷ 0 ∷ []) ∷ profile 28 1 (0 ∷ 120 ∷ 1 ∷ 1 ∷ 4 ∷ 16 ∷ replicate 19 0)
    ∷ profile 13 1 (0 ∷ 120 ∷ 1 ∷ 1 ∷ 4 ∷ 1 ∷ 15 ∷ 0 ∷ 0 ∷ 0 ∷ []) ∷ profile 43 1 (0 ∷ 120 ∷ 1 ∷ 11 ∷ (replicate 33 1 ++ replicate 3 0))
    ∷ profile 11 1 (0 ∷ 120 ∷ 1 ∷ 0 ∷ 1 ∷ 0 ∷ 0 ∷ 0 ∷ []) ∷ profile 11 1 (0 ∷ 120 ∷ 1 ∷ 0 ∷ 1 ∷ 16 ∷ 0 ∷ 0 ∷ []) ∷ profile 14 1 (0 ∷ 120 ∷ 1 ∷ 0 ∷ 4 ∷ 4 ∷ 4 ∷ 4 ∷ 4 ∷ 0 ∷ 0 ∷ []) ∷ profile 16 1 (0 ∷ 120 ∷ 0 ∷ 0 ∷ 0 ∷ 6 ∷ replicate 7 0)
    ∷ []

pub bad_profiles_refused : map read_profile bad_profiles ≡ map (λ (s : List ℕ). Err MalformedProfile) bad_profiles
unfolding all same fields_of profile_bytes profile_in_range numbers_at numbers_end view_at profile_of is_profile read_profile
bad_profiles_refused = refl

-- so many bytes, whose first two are so much
pub record Run : Type 0 where
  pub total : ℕ
  pub says : ℕ

abbrev run : ℕ → ℕ → Run
run total says = record { total = total; says = says }

-- an item of 14 to 65 bytes, a profile of 10 to 188 (the shortest and the longest of `profiles`): too few bytes for a length; a length outside; one byte missing; whole, with bytes behind it and without
pub item_runs :
    map (λ (r : Run). item_framing r.total r.says) (run 0 0 ∷ run 1 0 ∷ run 2 13 ∷ run 14 13 ∷ run 2 14 ∷ run 13 14 ∷ run 14 14 ∷ run 15 14 ∷ run 64 65 ∷ run 65 65 ∷ run 66 66 ∷ run 2 66 ∷ [])
    ≡ F.Short ∷ F.Short ∷ F.Bad ∷ F.Bad ∷ F.Short ∷ F.Short ∷ F.Whole 14 ∷ F.Whole 14 ∷ F.Short ∷ F.Whole 65 ∷ F.Bad ∷ F.Bad ∷ []
unfolding framing_of
item_runs = refl

pub profile_runs :
    map (λ (r : Run). profile_framing r.total r.says) (run 0 0 ∷ run 1 0 ∷ run 2 9 ∷ run 2 10 ∷ run 9 10 ∷ run 10 10 ∷ run 11 10 ∷ run 187 188 ∷ run 188 188 ∷ run 189 189 ∷ [])
    ≡ F.Short ∷ F.Short ∷ F.Bad ∷ F.Short ∷ F.Short ∷ F.Whole 10 ∷ F.Whole 10 ∷ F.Short ∷ F.Whole 188 ∷ F.Bad ∷ []
unfolding framing_of
profile_runs = refl

-- T-02: length fields 13, 14, 65 and 66, and a byte more, for a new feeder
pub length_fields :
    map (λ (n : ℕ). feed_of new_feeder (0 ∷ n ∷ 9 ∷ [])) (13 ∷ 14 ∷ 65 ∷ 66 ∷ [])
    ≡ without_item stopped_feeder 2 (Err MalformedItem)
    ∷ without_item (holding (gathered (0 ∷ 14 ∷ 9 ∷ []))) 3 (Ok None)
    ∷ without_item (holding (gathered (0 ∷ 65 ∷ 9 ∷ []))) 3 (Ok None)
    ∷ without_item stopped_feeder 2 (Err MalformedItem)
    ∷ []
unfolding framing_of is_closed take_of feed_of
length_fields = refl

-- a malformed item, of version 2: answered 1, and not handed out
pub malformed_fed : feed_of new_feeder (item 14 2 6 []) ≡ without_item new_feeder 14 (Err MalformedItem)
unfolding all same item_bytes item_in_range rest_at body_from body_of item_of is_item read_item framing_of is_closed take_of feed_of
malformed_fed = refl

-- feeders handed in that are 15: stopped, also with an unfinished item; with a length of 13 and of 66; with a whole item's bytes, with one more, and with more than there is room for
abbrev closed_feeders : List Feeder
closed_feeders =
    stopped_feeder ∷ record { held = gathered (0 ∷ 14 ∷ 1 ∷ []); stopped = true }
    ∷ holding (gathered (0 ∷ 13 ∷ [])) ∷ holding (gathered (0 ∷ 66 ∷ 1 ∷ []))
    ∷ holding (gathered (0 ∷ 14 ∷ replicate 12 0)) ∷ holding (gathered (0 ∷ 14 ∷ replicate 13 0)) ∷ holding (gathered (0 ∷ 65 ∷ replicate 63 0)) ∷ holding (record { bytes = pad 65 (0 ∷ 65 ∷ []); count = 66 })
    ∷ []

pub closed_refused : map (λ (f : Feeder). feed_of f (1 ∷ [])) closed_feeders ≡ map (λ (f : Feeder). without_item f 0 (Err FeederClosed)) closed_feeders
unfolding framing_of is_closed take_of feed_of
closed_refused = refl

pub closed_reset : map reset_of closed_feeders ≡ map (λ (f : Feeder). record { feeder = new_feeder; count = 0 }) closed_feeders
unfolding framing_of is_closed reset_of
closed_reset = refl

-- a reset of an unfinished item: of none of its bytes, of one, of five, of all but one
pub open_reset :
    map (λ (h : List ℕ). reset_of (holding (gathered h))) ([] ∷ (0 ∷ []) ∷ (0 ∷ 14 ∷ 1 ∷ 6 ∷ 0 ∷ []) ∷ (0 ∷ 65 ∷ replicate 62 1) ∷ [])
    ≡ map (λ (n : ℕ). record { feeder = new_feeder; count = n }) (0 ∷ 1 ∷ 5 ∷ 64 ∷ [])
unfolding framing_of is_closed reset_of
open_reset = refl
