-- Two arming requests in turn, for demand 3's last sentence: "within one call, whatever its record, two arming requests that name no pair of leg and point in common leave equal records in either order, whenever both orders are accepted". "An arming request is kind 20."
use Rattle.std.specs.Prelude.{ℕ, ◌≡◌, true}
use mathlib.Core.List.{List, Memᴰ as In}
use Rattle.call.specs.Types.{Entry, Tenths, Record, Stepped}
use Rattle.forms.specs.declared.item.Body.TheVariants as body
use Rattle.call.specs.Answers.{is_accepted}
use Rattle.call.specs.Request.{entries_of}
use Rattle.call.specs.Step.{respond_of}

-- how many entries, and their bytes
pub record Request : Type 0 where
  pub count : ℕ
  pub bytes : List ℕ

abbrev pub entries : Request → List Entry
entries a = entries_of a.count a.bytes

-- "name no pair of leg and point in common"
abbrev pub Apart : Entry → Entry → Type 0
Apart e f = e.leg ≡ f.leg → e.point ≡ f.point → ⊥

abbrev pub Disjoint : Request → Request → Type 0
Disjoint a b = (e f : Entry) → In e (entries a) → In f (entries b) → Apart e f

-- the call n is asked a at t; a at t, and then b at u
abbrev pub asked : ℕ → Record → Request → Tenths → Stepped
asked n r a t = respond_of r (record { call = n; time = t; body = body.RequestReport a.count }) a.bytes

abbrev pub in_turn : ℕ → Record → Request → Tenths → Request → Tenths → Stepped
in_turn n r a t b u = asked n (asked n r a t).next b u

-- "both orders are accepted": this one, a at t and then b at u
pub record BothAccepted (n : ℕ) (r : Record) (a : Request) (t : Tenths) (b : Request) (u : Tenths) : Type 0 where
  pub first : is_accepted (asked n r a t).answer ≡ true
  pub second : is_accepted (in_turn n r a t b u).answer ≡ true
