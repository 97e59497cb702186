-- Document 01, The listing program: the text of a line, from an item's number and the values of its answer (`call`, Answers.antt), byte by byte.
use Rattle.std.specs.Prelude.{ℕ, zero, suc, ◌+◌, ◌/◌, ◌%◌, ◌≤◌, Bool, true, false, cond, List, [], ◌∷◌, ◌++◌, ◌≡◌, leb, ltb, length, Option, None, Some}
use Prim.Native.Char.{code}
use Prim.Native.String.{String, [] as end, ◌∷◌ as ◌then◌}
use Rattle.std.proofs.lemmas.List.Edits.{sets}
use Rattle.call.specs.Answers.{Pair, EventReport, Told, Values, refusal, accepted}
use Rattle.table.specs.declared.line.Text.{Text}

-- the bytes of a text in ASCII
abbrev pub text : String → List ℕ
text end = []
text (c then s) = code c ∷ text s

abbrev pub digit : ℕ → List ℕ
digit d = (48 + d) ∷ []

-- a number in decimal, with no leading zero: a single digit, or those of a tenth of it and then the last.
-- The first argument, no smaller than the number, falls with each digit: antt asks for one that does. The second says that one digit is left.
unfoldable pub digits : ℕ → Bool → ℕ → List ℕ
digits zero one n = digit n
digits (suc k) true n = digit n
digits (suc k) false n = digits k (ltb (n / 10) 10) (n / 10) ++ digit (n % 10)

unfoldable pub decimal : ℕ → List ℕ
decimal n = digits n (ltb n 10) n

-- the name of a field and its number, or nothing
abbrev pub field : List ℕ → Option ℕ → List ℕ
field name None = []
field name (Some n) = name ++ decimal n

-- "none", "monitor" or "control"
abbrev pub word_text : String → List ℕ
word_text word = text " " ++ text word

-- the point of suspension: its number alone
abbrev pub suspended_text : Option Pair → List ℕ
suspended_text None = text " -"
suspended_text (Some q) = text " " ++ decimal q.point

-- "`n` marks a notification"
abbrev pub mark_of : Bool → List ℕ
mark_of true = text " r"
mark_of false = text " n"

abbrev pub pair_text : Pair → List ℕ
pair_text q = decimal q.point ++ (text "/" ++ decimal q.leg)

abbrev pub event_text : Option EventReport → List ℕ
event_text None = []
event_text (Some e) = mark_of e.interrupting ++ pair_text e.met

-- "`c2=123` a charge of leg 2"; "Reports come in this order: event, charge of leg 1, charge of leg 2."
abbrev pub reports_text : Option EventReport → Option ℕ → Option ℕ → List ℕ
reports_text event charge1 charge2 = event_text event ++ (field (text " c1=") charge1 ++ field (text " c2=") charge2)

abbrev pub over_text : Bool → List ℕ
over_text true = text " over"
over_text false = []

-- "after the reports come the deadline, then `over`"
abbrev pub told_text : Told → List ℕ
told_text t =
    text " ok" ++ (word_text t.relationship ++ (suspended_text t.suspended
    ++ (reports_text t.event t.charge1 t.charge2 ++ (field (text " d") t.deadline ++ over_text t.over))))

abbrev pub values_text : Values → List ℕ
values_text (accepted t) = told_text t
values_text (refusal n) = text " refused " ++ decimal n

unfoldable pub line_of : ℕ → Values → List ℕ
line_of number values = decimal number ++ (values_text values ++ text "\n")

unfoldable pub header : List ℕ
header = text "item answer\n"

-- ---- storing it

-- no line is longer
abbrev pub longest : ℕ
longest = 128

-- Where the buffer d has room for the longest line from place i on, the line is stored there and all else stays as it was; the answer is the place after it.
-- Else nothing is stored, and the answer says so.
unfoldable pub printed : List ℕ → List ℕ → ℕ → Option ℕ × List ℕ
printed line d i = cond (leb (i + longest) (length d)) (Some (i + length line), sets d i line) (None, d)

-- n more bytes fit into the buffer
abbrev pub HasRoom : ℕ → Text → Type 0
HasRoom n s = s.at + n ≤ length s.out.now

-- what the methods of a text promise: t has at most n bytes and is stored in the same buffer from the text's place on, and the next place is behind it
pub record Puts (n : ℕ) (t : List ℕ) (s e : Text) : Type 0 where
  pub same : e.out.ghost_name ≡ s.out.ghost_name
  pub size : length e.out.now ≡ length s.out.now
  pub most : length t ≤ n
  pub place : e.at ≡ s.at + length t
  pub bytes : e.out.now ≡ sets s.out.now s.at t
