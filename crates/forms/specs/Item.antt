-- Document 01, Forms: items. `form_of` is its table of kinds. Reading has no rules of its own: bytes read as the item whose written form they are.
use Rattle.std.specs.Prelude.{ℕ, ◌+◌, ◌*◌, List, [], ◌∷◌, ◌++◌, Bool, ◌&&◌, cond, length, get_or, drop, leb, eqb, Option, Some, None, Result, Ok, Err}
use Rattle.forms.specs.Bytes.{to_bytes, from_bytes, pad, same}
use Rattle.forms.specs.Units.{is_clock_reading}
use Rattle.forms.specs.Fields.{Field, nature, service, forwarded, digit_count, digits, digit, cause, leg, entry_count, period, bytes_in, all_in_range, frame, framed}
use Rattle.forms.specs.declared.item.Leg.{Leg}
use Rattle.forms.specs.declared.item.Leg.TheVariants.{One, Two}
use Rattle.forms.specs.declared.item.Bcsm.{Bcsm}
use Rattle.forms.specs.declared.item.Bcsm.TheVariants.{Originating, Terminating}
use Rattle.forms.specs.declared.item.Setup.{Setup}
use Rattle.forms.specs.declared.item.Body.{Body}
use Rattle.forms.specs.declared.item.Body.TheVariants as B
use Rattle.forms.specs.declared.item.Rest.{Rest}
use Rattle.forms.specs.declared.item.Rest.TheVariants.{Nothing, Digits, Entries}
use Rattle.forms.specs.declared.item.Fixed.{Fixed}
use Rattle.forms.specs.declared.item.Item.{Item}
use Rattle.forms.specs.declared.item.Entry.{Entry}
use Rattle.forms.specs.declared.refusal.Refusal.{Refusal}
use Rattle.forms.specs.declared.refusal.Refusal.TheVariants.{MalformedItem}

-- ---- the table of kinds. In the standards' words: Period over is the expiry of Tcp, Request report is RequestReportBCSMEvent, Release is ReleaseCall, Moved a change of position

-- a row: the kind's number, its fields, and what follows them
pub record Form : Type 0 where
  pub kind : ℕ
  pub fields : List Field
  pub rest : Rest

abbrev pub form : ℕ → List Field → Rest → Form
form kind fields rest = record { kind = kind; fields = fields; rest = rest }

-- "Kind 11 is a terminating Setup with Setup's body" (T-04, document 02)
abbrev pub setup_kind : Bcsm → ℕ
setup_kind Originating = 1
setup_kind Terminating = 11

abbrev pub form_of : Body → Form
form_of (B.Setup s) = form (setup_kind s.bcsm) (nature s.nature ∷ service s.service ∷ forwarded s.forwarded ∷ digit_count s.count ∷ []) (Digits s.count)
form_of (B.RouteFailure c) = form 2 (cause c ∷ []) Nothing
form_of (B.Busy c) = form 3 (cause c ∷ []) Nothing
form_of B.NoAnswer = form 4 [] Nothing
form_of B.Seized = form 5 [] Nothing
form_of B.Answer = form 6 [] Nothing
form_of (B.MidCall d) = form 7 (digit d ∷ []) Nothing
form_of B.Moved = form 8 [] Nothing
form_of (B.Clear l c) = form 9 (leg l ∷ cause c ∷ []) Nothing
form_of (B.PeriodOver l) = form 10 (leg l ∷ []) Nothing
form_of (B.RequestReport c) = form 20 (entry_count c ∷ []) (Entries c)
form_of B.Continue = form 21 [] Nothing
form_of (B.Connect n c) = form 22 (nature n ∷ digit_count c ∷ []) (Digits c)
form_of B.Release = form 23 [] Nothing
form_of (B.ApplyCharging l p) = form 24 (leg l ∷ period p ∷ []) Nothing
form_of B.ActivityTest = form 25 [] Nothing
form_of B.Abort = form 26 [] Nothing

-- what follows: nothing; "one byte per digit 0..14"; or, "each: point, leg, mode, timer (2 bytes), of any value", five bytes an entry
abbrev pub rest_in_range : Rest → List ℕ → Bool
rest_in_range Nothing t = eqb (length t) 0
rest_in_range (Digits count) t = eqb (length t) count && (digits t).in_range
rest_in_range (Entries count) t = eqb (length t) (count * 5)

-- ---- an item, t its digits or entries, as bytes: "length, version, kind (1 byte), call (4), time (6), body"

abbrev pub field_bytes : Body → List ℕ
field_bytes b = bytes_in (form_of b).fields

unfoldable pub item_bytes : Item → List ℕ → List ℕ
item_bytes i t = framed ((form_of i.body).kind ∷ (to_bytes 4 i.call ++ (to_bytes 6 i.time.0 ++ (field_bytes i.body ++ t))))

-- every field is in its range, and t is what follows
unfoldable pub item_in_range : Item → List ℕ → Bool
item_in_range i t = (all_in_range (form_of i.body).fields && rest_in_range (form_of i.body).rest t) && is_clock_reading i.time

-- where the digits or the entries begin
unfoldable pub rest_at : Body → ℕ
rest_at b = 14 + length (field_bytes b)

-- ---- reading

abbrev pub leg_of : Bool → Leg
leg_of two = cond two Two One

abbrev pub setup_of : Bcsm → ℕ → ℕ → Bool → ℕ → Setup
setup_of bcsm nature service forwarded count = record { bcsm = bcsm; nature = nature; service = service; forwarded = forwarded; count = count }

-- the first body of the list that is of the kind n. Where none is, an Abort: its form has the kind 26, so the bytes are not it
abbrev pub choose : ℕ → List Body → Body
choose n [] = B.Abort
choose n (b ∷ bs) = cond (eqb n (form_of b).kind) b (choose n bs)

-- the bodies whose values the bytes are, one of each kind but Abort: b0 to b3 are the first bytes, l the leg that b0 stands for, p the number from b1 on
abbrev pub bodies_from : ℕ → ℕ → ℕ → ℕ → Leg → ℕ → List Body
bodies_from b0 b1 b2 b3 l p =
    B.Setup (setup_of Originating b0 b1 (eqb b2 1) b3)
    ∷ B.RouteFailure b0 ∷ B.Busy b0 ∷ B.NoAnswer ∷ B.Seized ∷ B.Answer ∷ B.MidCall b0 ∷ B.Moved ∷ B.Clear l b1 ∷ B.PeriodOver l
    ∷ B.Setup (setup_of Terminating b0 b1 (eqb b2 1) b3)
    ∷ B.RequestReport b0 ∷ B.Continue ∷ B.Connect b0 b1 ∷ B.Release ∷ B.ApplyCharging l (record { 0 = p }) ∷ B.ActivityTest
    ∷ []

unfoldable pub body_from : ℕ → ℕ → ℕ → ℕ → ℕ → Leg → ℕ → Body
body_from n b0 b1 b2 b3 l p = choose n (bodies_from b0 b1 b2 b3 l p)

unfoldable pub body_of : ℕ → List ℕ → Body
body_of n b = body_from n (get_or b 0 0) (get_or b 1 0) (get_or b 2 0) (get_or b 3 0) (leg_of (eqb (get_or b 0 0) 2)) (from_bytes 4 (drop 1 b))

-- the values at their places, whatever the bytes are
abbrev pub call_in : List ℕ → ℕ
call_in s = from_bytes 4 (drop 4 s)

unfoldable pub item_of : List ℕ → Item
item_of s = record { call = call_in s; time = record { 0 = from_bytes 6 (drop 8 s) }; body = body_of (get_or s 3 0) (drop 14 s) }

-- the digits or the entries of the body b, in the item's bytes
abbrev pub rest_of : Body → List ℕ → List ℕ
rest_of b s = drop (rest_at b) s

-- s is the written form of the item i with what follows in s, and i is in range
unfoldable pub is_item : Item → List ℕ → Bool
is_item i s = same (item_bytes i (rest_of i.body s)) s && item_in_range i (rest_of i.body s)

-- what the bytes say: the item that is written so, and the place where its digits or entries begin; else refusal 1
unfoldable pub read_item : List ℕ → Result (Item × ℕ) Refusal
read_item s = let i = item_of s in cond (is_item i s) (Ok (i, rest_at i.body)) (Err MalformedItem)

-- the same for the bytes from place a on
abbrev pub placed : ℕ → Result (Item × ℕ) Refusal → Result (Item × ℕ) Refusal
placed a (Ok (i, n)) = Ok (i, a + n)
placed a (Err r) = Err r

unfoldable pub read_item_at : List ℕ → ℕ → Result (Item × ℕ) Refusal
read_item_at s a = placed a (read_item (drop a s))

-- ---- the entries of a Request report (detection point, legID, monitor mode, application timer): "point, leg, mode, timer (2 bytes)", written and read

abbrev pub entry_bytes : Entry → List ℕ
entry_bytes e = e.point ∷ e.leg ∷ e.mode ∷ to_bytes 2 e.timer.0

unfoldable pub entry_of : List ℕ → Entry
entry_of e = record { point = get_or e 0 0; leg = get_or e 1 0; mode = get_or e 2 0; timer = record { 0 = from_bytes 2 (drop 3 e) } }

-- the entry at place a, and the place after it; none where no whole entry is left
unfoldable pub read_entry : List ℕ → ℕ → Option (Entry × ℕ)
read_entry s a = cond (leb 5 (length (drop a s))) (Some (entry_of (drop a s), a + 5)) None

-- ---- only for the code's shape: what it keeps of a row, the fields' bytes in five places; and the 14 bytes before them in a form of n bytes

abbrev pub head_of : ℕ → ℕ → ℕ → ℕ → List ℕ
head_of n kind call time = frame n ++ (kind ∷ (to_bytes 4 call ++ to_bytes 6 time))

abbrev pub fixed : ℕ → List ℕ → Bool → Rest → Fixed
fixed kind bytes in_range rest = record { kind = kind; len = length bytes; bytes = pad 5 bytes; in_range = in_range; rest = rest }

abbrev pub fixed_of : Form → Fixed
fixed_of f = fixed f.kind (bytes_in f.fields) (all_in_range f.fields) f.rest
