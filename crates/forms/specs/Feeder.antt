-- Document 02, T-02: items that arrive in bits. What a feeder answers goes by the bytes that it holds and those of the chunk, one behind the other.
use Rattle.std.specs.Prelude.{ℕ, zero, suc, ◌+◌, ◌-◌, List, [], ◌∷◌, ◌++◌, Bool, true, false, ◌||◌, not, cond, length, take, drop, eqb, Option, Some, None, Result, Ok, Err}
use Rattle.forms.specs.Bytes.{from_bytes, pad}
use Rattle.forms.specs.Framing.{is_short, item_framing}
use Rattle.forms.specs.Item.{read_item}
use Rattle.forms.specs.declared.framing.Framing.{Framing}
use Rattle.forms.specs.declared.framing.Framing.TheVariants as F
use Rattle.forms.specs.Refusal.{number_of}
use Rattle.forms.specs.declared.refusal.Refusal.{Refusal}
use Rattle.forms.specs.declared.refusal.Refusal.TheVariants.{MalformedItem, FeederClosed}
use Rattle.forms.specs.declared.item.Item.{Item}
use Rattle.forms.specs.declared.feeder.Gathered.{Gathered}
use Rattle.forms.specs.declared.feeder.Feeder.{Feeder}
use Rattle.forms.specs.declared.feeder.Taken.{Taken}
use Rattle.forms.specs.declared.feeder.Taken.TheVariants as T
use Rattle.forms.specs.declared.feeder.Handed.{Handed}
use Rattle.forms.specs.declared.feeder.Fed.{Fed}
use Rattle.forms.specs.declared.feeder.Dropped.{Dropped}

-- ---- the feeder

-- the bytes gathered, and how they are kept: in 65 places, zeros behind them
abbrev pub bytes_of : Gathered → List ℕ
bytes_of g = take g.count g.bytes

abbrev pub gathered : List ℕ → Gathered
gathered s = record { bytes = pad 65 s; count = length s }

-- a feeder that holds the bytes g of an unfinished item; one as new; one that a length field has stopped
abbrev pub holding : Gathered → Feeder
holding g = record { held = g; stopped = false }

abbrev pub new_feeder : Feeder
new_feeder = holding (gathered [])

abbrev pub stopped_feeder : Feeder
stopped_feeder = record { held = gathered []; stopped = true }

-- ---- a call

-- what is completed: an item, with the place of its digits or entries and its bytes, or none yet; or refusal 1 or 15
abbrev pub Completed : Type 0
Completed = Result (Option Handed) Refusal

-- what a run of bytes begins with: an item not whole yet, a length field outside 14..65, or a whole item
abbrev pub begins : List ℕ → Framing
begins s = item_framing (length s) (from_bytes 2 s)

-- refusal 15: "feeder stopped, or handed in holding a length outside 14..65 or a whole item's bytes or more"
abbrev pub closed_as : Bool → List ℕ → Bool
closed_as stopped h = stopped || not (is_short (begins h))

unfoldable pub is_closed : Feeder → Bool
is_closed f = closed_as f.stopped (bytes_of f.held)

-- what is taken of the chunk c behind the bytes h: "a call ends with the item it completes, or with the chunk"; of a length field outside 14..65 "its two bytes used"
abbrev pub taken_as : Framing → List ℕ → Taken
taken_as F.Short h = T.Unfinished
taken_as F.Bad h = T.Bad (2 - length h)
taken_as (F.Whole n) h = T.Whole (n - length h)

-- 15 comes "before 1, using no byte"
unfoldable pub take_of : Feeder → List ℕ → Taken
take_of f c = let h = bytes_of f.held in cond (is_closed f) T.Closed (taken_as (begins (h ++ c)) h)

-- the next feeder, how many bytes of the chunk were used, and what was completed, where that is no item
abbrev pub without_item : Feeder → ℕ → Completed → Fed
without_item f n c = record { feeder = f; used = n; completed = c }

-- a whole item of the bytes s: handed out with its bytes, read as the reader reads them; "a malformed one is answered 1 instead and feeding goes on"
abbrev pub whole_fed_as : Result (Item × ℕ) Refusal → ℕ → List ℕ → Fed
whole_fed_as (Ok i) n s = record { feeder = new_feeder; used = n; completed = Ok (Some (record { item = i.0; at = i.1; bytes = gathered s })) }
whole_fed_as (Err r) n s = without_item new_feeder n (Err r)

abbrev pub whole_fed : ℕ → List ℕ → Fed
whole_fed n s = whole_fed_as (read_item s) n s

-- 15 of a closed feeder; 1 for a length field outside 14..65; else the chunk is held, or completes an item
abbrev pub fed_as : Taken → Feeder → List ℕ → Fed
fed_as T.Closed f c = without_item f 0 (Err FeederClosed)
fed_as (T.Bad n) f c = without_item stopped_feeder n (Err MalformedItem)
fed_as T.Unfinished f c = without_item (holding (gathered (bytes_of f.held ++ c))) (length c) (Ok None)
fed_as (T.Whole n) f c = whole_fed n (bytes_of f.held ++ take n c)

unfoldable pub feed_of : Feeder → List ℕ → Fed
feed_of f c = fed_as (take_of f c) f c

-- ---- "A reset drops the unfinished item and says how many bytes that was, 0 where feeding would be 15."

unfoldable pub reset_of : Feeder → Dropped
reset_of f = record { feeder = new_feeder; count = cond (is_closed f) 0 (length (bytes_of f.held)) }

-- ---- a run in chunks: "However a byte run fed after a reset is cut, the items, the answers 1 and their places are the same as for one chunk, its rest offered again."

-- an item or an answer 1, and its place: how many bytes of the run are used when it is given
pub record Placed : Type 0 where
  pub completed : Completed
  pub place : ℕ

-- the items and the answers 1 in order, and the feeder that is left
pub record Got : Type 0 where
  pub answers : List Placed
  pub left : Feeder

abbrev pub placed : Fed → ℕ → List Placed
placed r p = record { completed = r.completed; place = p } ∷ []

abbrev pub nothing_but : Feeder → Got
nothing_but f = record { answers = []; left = f }

-- what was got before, and what is got then
abbrev pub and_then : List Placed → Got → Got
and_then before g = record { answers = before ++ g.answers; left = g.left }

abbrev pub is_answer : Completed → Bool
is_answer (Ok (Some i)) = true
is_answer (Ok None) = false
is_answer (Err r) = eqb (number_of r) 1

-- a chunk that begins at place p of the run, "its rest offered again" after each answer, in n calls at most
unfoldable pub offered : ℕ → Feeder → ℕ → List ℕ → Got
offered zero f p c = nothing_but f
offered (suc n) f p c =
    let r = feed_of f c in
    let q = p + r.used in
    cond (is_answer r.completed)
    (and_then (placed r q) (offered n r.feeder q (drop r.used c)))
    (nothing_but r.feeder)

-- as each answer uses a byte, one call more than there are bytes is enough (`FeederTheorems.enough`)
abbrev pub chunk_fed : Feeder → ℕ → List ℕ → Got
chunk_fed f p c = offered (suc (length c)) f p c

-- chunks one after the other, the first beginning at place p
unfoldable pub chunks_fed : Feeder → ℕ → List (List ℕ) → Got
chunks_fed f p [] = nothing_but f
chunks_fed f p (c ∷ cs) = let g = chunk_fed f p c in and_then g.answers (chunks_fed g.left (p + length c) cs)

-- the run that the chunks are a cutting of
unfoldable pub joined : List (List ℕ) → List ℕ
joined [] = []
joined (c ∷ cs) = c ++ joined cs

-- ---- the same run by itself, without a feeder: items and answers 1, each from where the last one ended, up to a length field outside 14..65 or an unfinished item

-- the run s begins at place p, and `next k` is what follows its first k bytes; a length field outside 14..65 is answered 1
abbrev pub run_as : Framing → ℕ → List ℕ → (ℕ → Got) → Got
run_as F.Short p s next = nothing_but (holding (gathered s))
run_as F.Bad p s next = and_then (placed (without_item stopped_feeder 2 (Err MalformedItem)) (p + 2)) (nothing_but stopped_feeder)
run_as (F.Whole k) p s next = and_then (placed (whole_fed k (take k s)) (p + k)) (next k)

-- in n turns at most
unfoldable pub run_from : ℕ → ℕ → List ℕ → Got
run_from zero p s = nothing_but new_feeder
run_from (suc n) p s = run_as (begins s) p s (λ (k : ℕ). run_from n (p + k) (drop k s))

-- as an item has 14 bytes at least, one turn more than there are bytes is enough
abbrev pub run_of : List ℕ → Got
run_of s = run_from (suc (length s)) 0 s
