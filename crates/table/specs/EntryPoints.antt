-- The entry points: each public function that can refuse, of every layer, and the numbers that it can give. (Demand 1: "Every entry point answers, or gives one of document 01's numbered refusals." 15 is T-02's.)
use Rattle.std.specs.Prelude.{ℕ, true, false, List, [], ◌∷◌, ◌≡◌, Option, None, Some, Result, Ok, Err}
use Rattle.forms.specs.Units.{period_of, timer_of}
use Rattle.forms.specs.Item.{read_item, read_item_at}
use Rattle.forms.specs.Write.{written}
use Rattle.forms.specs.Profile.{read_profile}
use Rattle.forms.specs.Feeder.{feed_of as feeder_of}
use Rattle.forms.specs.Refusal.{number_of}
use Rattle.forms.specs.declared.feeder.Feeder.{Feeder}
use Rattle.call.specs.Step.{respond_of, step_of}
use Rattle.call.specs.Setup.{early_of, set_up_of, open_of}
use Rattle.table.specs.Types.{Item, Refusal, Record, Opening, Slot}
use Rattle.table.specs.Feed.{is_sound_table, feed_of, feed_item_of}

-- ---- an entry point, with what it is handed. (`feeder::take` says 15 by a variant of its own, `Closed`; `answers::refuse` gives the number that it is handed.)

pub data EntryPoint : Type 0 where
  -- `forms`: `Tenths::period`, `Seconds::timer`, `read_item`, `read_item_at` (`Reader::item` asks it), `write_item`, `read_profile`, `feeder::feed`
  period : ℕ → EntryPoint
  timer : ℕ → EntryPoint
  reads_item : List ℕ → EntryPoint
  reads_item_at : List ℕ → ℕ → EntryPoint
  write_item : Item → List ℕ → List ℕ → EntryPoint
  reads_profile : List ℕ → EntryPoint
  feed_chunk : Feeder → List ℕ → EntryPoint
  -- `call`: `setup::early_of`, `setup::set_up`, `setup::open`, `step::respond`, `step::step`
  says_early : Item → List ℕ → List ℕ → EntryPoint
  set_up : Item → List ℕ → Opening → EntryPoint
  open_call : Item → List ℕ → List ℕ → EntryPoint
  respond : Record → Item → List ℕ → EntryPoint
  step : Record → Item → List ℕ → EntryPoint
  -- `table`: `feed`, `feed_item`, and `feed_sound`, which asks for a sound table
  feed : List Slot → List ℕ → List ℕ → EntryPoint
  feed_item : List Slot → Item → List ℕ → List ℕ → EntryPoint
  feed_sound : (t : List Slot) → is_sound_table t ≡ true → List ℕ → List ℕ → EntryPoint

-- ---- the numbers that it can give

abbrev pub numbers : EntryPoint → List ℕ
numbers (period n) = 1 ∷ []
numbers (timer n) = 11 ∷ []
numbers (reads_item s) = 1 ∷ []
numbers (reads_item_at s a) = 1 ∷ []
numbers (write_item i rest d) = 1 ∷ []
numbers (reads_profile s) = 2 ∷ []
numbers (feed_chunk f c) = 1 ∷ 15 ∷ []
numbers (says_early i rest s) = 2 ∷ []
numbers (set_up i rest o) = 1 ∷ 4 ∷ []
numbers (open_call i rest s) = 1 ∷ 2 ∷ 4 ∷ []
numbers (respond r i rest) = 1 ∷ 5 ∷ 7 ∷ 8 ∷ 9 ∷ 10 ∷ 11 ∷ 12 ∷ 13 ∷ 14 ∷ []
numbers (step r i rest) = 1 ∷ 3 ∷ 5 ∷ 7 ∷ 8 ∷ 9 ∷ 10 ∷ 11 ∷ 12 ∷ 13 ∷ 14 ∷ []
numbers (feed t item profile) = 1 ∷ 2 ∷ 3 ∷ 4 ∷ 5 ∷ 6 ∷ 7 ∷ 8 ∷ 9 ∷ 10 ∷ 11 ∷ 12 ∷ 13 ∷ 14 ∷ []
numbers (feed_item t i rest profile) = 1 ∷ 2 ∷ 3 ∷ 4 ∷ 5 ∷ 6 ∷ 7 ∷ 8 ∷ 9 ∷ 10 ∷ 11 ∷ 12 ∷ 13 ∷ 14 ∷ []
numbers (feed_sound t h item profile) = 1 ∷ 2 ∷ 4 ∷ 5 ∷ 6 ∷ 7 ∷ 8 ∷ 9 ∷ 10 ∷ 11 ∷ 12 ∷ 13 ∷ 14 ∷ []

-- ---- the refusal that it gives, if it gives one: what its promise says, and the number in it

abbrev pub in_result : {A : Type 0} → Result A Refusal → Option ℕ
in_result (Ok a) = None
in_result (Err n) = Some (number_of n)

abbrev pub refusal : EntryPoint → Option ℕ
refusal (period n) = in_result (period_of n)
refusal (timer n) = in_result (timer_of n)
refusal (reads_item s) = in_result (read_item s)
refusal (reads_item_at s a) = in_result (read_item_at s a)
refusal (write_item i rest d) = in_result (written i rest d)
refusal (reads_profile s) = in_result (read_profile s)
refusal (feed_chunk f c) = in_result (feeder_of f c).completed
refusal (says_early i rest s) = in_result (early_of false i rest s)
refusal (set_up i rest o) = in_result (set_up_of i rest o).answer
refusal (open_call i rest s) = in_result (open_of i rest s).answer
refusal (respond r i rest) = in_result (respond_of r i rest).answer
refusal (step r i rest) = in_result (step_of r i rest).answer
refusal (feed t item profile) = in_result (feed_of t item profile).0
refusal (feed_item t i rest profile) = in_result (feed_item_of t i rest profile).0
refusal (feed_sound t h item profile) = in_result (feed_of t item profile).0
