-- Document 01, A call by itself: "It is fed one call's items in their order, each Setup with its profile, and nothing else. It keeps a record with One call's fields, or nothing; at first nothing."
use Rattle.std.specs.Prelude.{ℕ, cond, List, Option, Some, None, Ok, Err}
use Rattle.forms.specs.Item.{item_of, rest_of}
use Rattle.call.specs.Types.{Item, Record, Answer, Check, Stepped}
use Rattle.forms.specs.declared.refusal.Refusal.TheVariants.{CallNotOpen, CallOpen}
use Rattle.call.specs.Answers.{first_of, remains}
use Rattle.call.specs.Refusals.{early_rows_in}
use Rattle.call.specs.Kind.{is_setup}
use Rattle.call.specs.Step.{respond_of}
use Rattle.call.specs.Setup.{open_of}

-- what is handed in: an item's bytes, and those of a profile (a Setup's)
pub record Input : Type 0 where
  pub item : List ℕ
  pub profile : List ℕ

-- the answer, and what is kept after it
abbrev pub keep : Option Record → Stepped → Answer × Option Record
keep k s = (s.answer, remains s.answer k None (Some s.next))

-- "first any refusal checked before 3"; "A refusal leaves what is kept."
abbrev pub unless_refused : Check → Option Record → Answer × Option Record → Answer × Option Record
unless_refused (Err n) k then = (Err n, k)
unless_refused (Ok _) k then = then

-- "Setup: …; then 5 if a record is kept; else Triggering's answer, …, and a record"
abbrev pub setup_alone : Option Record → Item → List ℕ → List ℕ → Answer × Option Record
setup_alone (Some r) i rest profile = (Err CallOpen, Some r)
setup_alone None i rest profile = keep None (open_of i rest profile)

-- "Other items: 4 if nothing is kept; else the first of 7 to 14 that applies; else One call's answer and next record"
abbrev pub other_alone : Option Record → Item → List ℕ → Answer × Option Record
other_alone None i rest = (Err CallNotOpen, None)
other_alone (Some r) i rest = keep (Some r) (respond_of r i rest)

-- the bytes of an item and those of its profile
unfoldable pub alone_step : Option Record → List ℕ → List ℕ → Answer × Option Record
alone_step k item profile =
    let i = item_of item in
    let rest = rest_of i.body item in
    unless_refused (first_of (early_rows_in item profile)) k (cond (is_setup i) (setup_alone k i rest profile) (other_alone k i rest))
