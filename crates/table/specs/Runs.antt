-- Runs of a machine: a step takes a state and an item to an answer and the next state.
use Rattle.std.specs.Prelude.{Bool, true, false, List, [], ◌∷◌, ◌++◌}

-- `x ∷ l` if the test passed, else `l`
unfoldable pub cons_if : {A : Type 0} → Bool → A → List A → List A
cons_if true x l = x ∷ l
cons_if false x l = l

-- the members that pass a test, in their order
unfoldable pub only : {A : Type 0} → (A → Bool) → List A → List A
only p [] = []
only p (x ∷ l) = cons_if (p x) x (only p l)

-- each member has the property
abbrev pub All : {A : Type 0} → (A → Type 0) → List A → Type 0
All P [] = Unit {0}
All P (x ∷ l) = P x × All P l

module _ {S X A : Type 0} (step : S → X → A × S) where
  -- the items of a run, each with the answer that it got: each meets the state that the one before left
  unfoldable pub log : S → List X → List (X × A)
  log s [] = []
  log s (x ∷ l) = (x, (step s x).0) ∷ log (step s x).1 l

  -- the state that a run leaves
  unfoldable pub final : S → List X → S
  final s [] = s
  final s (x ∷ l) = final (step s x).1 l

-- Each item with the answer that its own machine gives, which starts at p and is fed only the items of that key before it.
module _ {P X A K : Type 0} (alone : P → X → A × P) (mine : K → X → Bool) (key : X → K) (p : P) where
  unfoldable pub each_alone : List X → List X → List (X × A)
  each_alone past [] = []
  each_alone past (x ∷ l) = (x, (alone (final alone p (only (mine (key x)) past)) x).0) ∷ each_alone (past ++ (x ∷ [])) l
