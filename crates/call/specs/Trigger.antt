-- Document 01, Triggering (004, triggering criteria of the O-CSI at Collected_Info), and T-04's for a terminating call.
use Rattle.std.specs.Prelude.{ℕ, Bool, true, not, ◌&&◌, ◌||◌, List, eqb, length}
use Rattle.forms.specs.Bytes.{contains}
use Rattle.forms.specs.Profile.{Profile, some_matches}
use Rattle.call.specs.Types.{Bcsm, Setup, Criterion}
use Rattle.forms.specs.declared.item.Bcsm.TheVariants.{Originating, Terminating}
use Rattle.forms.specs.declared.profile.Criterion.TheVariants.{Absent, Enabling, Inhibiting}

-- a criterion holds if it is absent, enabling and b is so, or inhibiting and b is not
abbrev pub holds : Criterion → Bool → Bool
holds Absent b = true
holds Enabling b = b
holds Inhibiting b = not b

-- "Enabling: some number or some length matches. Inhibiting: no number and no length matches." A length matches if it is the Setup's digit count
abbrev pub number_holds : Profile → Setup → List ℕ → Bool
number_holds p s dialled = holds p.sense (some_matches p.numbers s.nature dialled || contains s.count p.lengths)

-- "Service: list empty, or the call's service is in it."
abbrev pub service_holds : List ℕ → ℕ → Bool
service_holds services service = eqb (length services) 0 || contains service services

-- "Forwarding: enabling wants a forwarded call, inhibiting one that isn't. All present criteria must hold."
abbrev pub all_hold : Profile → Setup → List ℕ → Bool
all_hold p s dialled = number_holds p s dialled && service_holds p.services s.service && holds p.forwarding s.forwarded

-- T-04: a terminating Setup is "triggered by the service list alone"
abbrev pub triggers_in : Bcsm → Profile → Setup → List ℕ → Bool
triggers_in Originating p s dialled = all_hold p s dialled
triggers_in Terminating p s dialled = service_holds p.services s.service

unfoldable pub triggers : Profile → Setup → List ℕ → Bool
triggers p s dialled = triggers_in s.bcsm p s dialled
