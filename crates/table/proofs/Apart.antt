-- A machine whose every step serves one of many as if it were alone does so over every run.
use mathlib.Core.Path.{◌≡◌, refl, sym, subst, ap, ap₂, ◌∙◌}
use mathlib.Core.Bool.{Bool, true, false}
use mathlib.Core.List.{List, [], ◌∷◌, ◌++◌}
use mathlib.Core.Logic.{◌≢◌}
use Rattle.table.specs.Runs.{cons_if, only, All, log, final, each_alone}
use Rattle.table.proofs.Lists.{only_append}

final_append : {S X A : Type 0} (step : S → X → A × S) (s : S) (l l' : List X) → final step s (l ++ l') ≡ final step (final step s l) l'
unfolding final
final_append step s [] l' = refl
final_append step s (x ∷ l) l' = final_append step (step s x).1 l l'

-- One item of k's: it gets k's answer and makes k's next state; or k, that holds nothing, is refused for room, and holds nothing still.
pub data Met {P A : Type 0} (room : A) (nothing : P) (a : A) (p p' : P) (r : A × P) : Type 0 where
  served : (a, p') ≡ r → Met room nothing a p p' r
  crowded : a ≡ room → p ≡ nothing → p' ≡ nothing → Met room nothing a p p' r

-- `view k s` is what the state s holds for k, and `mine k x` says that the item x is k's: every other item leaves what k has.
pub record Apart {S P X A K : Type 0} (step : S → X → A × S) (alone : P → X → A × P) (view : K → S → P) (mine : K → X → Bool) (room : A) (nothing : P) (Inv : S → Type 0) : Type 0 where
  pub keeps : (s : S) (x : X) → Inv s → Inv (step s x).1
  pub meets : (s : S) (x : X) (k : K) → Inv s → mine k x ≡ true → Met room nothing (step s x).0 (view k s) (view k (step s x).1) (alone (view k s) x)
  pub leaves : (s : S) (x : X) (k : K) → Inv s → mine k x ≡ false → view k (step s x).1 ≡ view k s

module _ {S P X A K : Type 0} {step : S → X → A × S} {alone : P → X → A × P} {view : K → S → P} {mine : K → X → Bool} {room : A} {nothing : P} {Inv : S → Type 0}
    (apart : Apart step alone view mine room nothing Inv) where
  seated : (s : S) (x : X) (k : K) → Inv s → mine k x ≡ true → (step s x).0 ≢ room → ((step s x).0, view k (step s x).1) ≡ alone (view k s) x
  seated s x k i e h = go (apart.meets s x k i e)
    where
      go : Met room nothing (step s x).0 (view k s) (view k (step s x).1) (alone (view k s) x) → ((step s x).0, view k (step s x).1) ≡ alone (view k s) x
      go (served q) = q
      go (crowded q _ _) = absurd (h q)

  abbrev Roomy : S → List X → Type 0
  Roomy s l = All (λ e. e.1 ≢ room) (log step s l)

  abbrev lines : K → S → List X → List (X × A)
  lines k s l = only (λ e. mine k e.0) (log step s l)

  pub invariant : (l : List X) {s : S} → Inv s → Inv (final step s l)
  unfolding final
  invariant [] i = i
  invariant (x ∷ l) {s} i = invariant l (apart.keeps s x i)

  abbrev AsAlone : K → S → List X → Type 0
  AsAlone k s l = (lines k s l ≡ log alone (view k s) (only (mine k) l)) × (view k (final step s l) ≡ final alone (view k s) (only (mine k) l))

  one_more : (k : K) (s : S) (x : X) (l : List X) → Inv s → (step s x).0 ≢ room → AsAlone k (step s x).1 l → AsAlone k s (x ∷ l)
  unfolding only cons_if log final
  one_more k s x l i h ih = go (mine k x) refl
    where
      rest : List X
      rest = only (mine k) l

      go : (b : Bool) → mine k x ≡ b → AsAlone k s (x ∷ l)
      go true e =
          let m = seated s x k i e h in
          rw e (ap (λ r. (x, (step s x).0) ∷ r) ih.0 ∙ ap (λ q. (x, q.0) ∷ log alone q.1 rest) m, ih.1 ∙ ap (λ q. final alone q.1 rest) m)
      go false e = rw (e, ← apart.leaves s x k i e) ih

  -- k's lines of a run are k's run by itself, and so is what the run leaves for k
  pub as_alone : (l : List X) {s : S} → Inv s → Roomy s l → (k : K) → AsAlone k s l
  unfolding only log final
  as_alone [] i h k = (refl, refl)
  as_alone (x ∷ l) {s} i h k = one_more k s x l i h.0 (as_alone l (apart.keeps s x i) h.1 k)

  -- two runs with the same items of k, from states that hold the same for k
  pub alike : (l l' : List X) {s s' : S} → Inv s → Inv s' → Roomy s l → Roomy s' l' → (k : K) → view k s ≡ view k s' → only (mine k) l ≡ only (mine k) l'
      → (lines k s l ≡ lines k s' l') × (view k (final step s l) ≡ view k (final step s' l'))
  alike l l' i i' h h' k q e =
      let a = as_alone l i h k in
      let a' = as_alone l' i' h' k in
      (cc, cc)

  -- where each item has an owner
  module _ (key : X → K) (own : (x : X) → mine (key x) x ≡ true) where
    -- what holds of every answer that is given alone, and of the one for room, holds of every answer of a run
    pub answers_have : (Q : A → Type 0) → Q room → ((p : P) (x : X) → Q (alone p x).0) → (l : List X) {s : S} → Inv s → All (λ e. Q e.1) (log step s l)
    unfolding log
    answers_have Q r q [] i = tt
    answers_have Q r q (x ∷ l) {s} i = (go (apart.meets s x (key x) i (own x)), answers_have Q r q l (apart.keeps s x i))
      where
        go : Met room nothing (step s x).0 (view (key x) s) (view (key x) (step s x).1) (alone (view (key x) s) x) → Q (step s x).0
        go (served e) = subst Q (sym (ap (λ o. o.0) e)) (q (view (key x) s) x)
        go (crowded e _ _) = subst Q (sym e) r

    -- the whole run as one list
    each_from : (p : P) (l past : List X) (s : S) → Inv s → Roomy s l → ((k : K) → view k s ≡ final alone p (only (mine k) past))
        → log step s l ≡ each_alone alone mine key p past l
    unfolding log final each_alone
    each_from p [] past s i h v = refl
    each_from p (x ∷ l) past s i h v =
        ap₂ (λ a r. (x, a) ∷ r) (ap (λ q. q.0) (seated s x (key x) i (own x) h.0) ∙ ap (λ q. (alone q x).0) (v (key x)))
        (each_from p l (past ++ (x ∷ [])) (step s x).1 (apart.keeps s x i) h.1 v')
      where
        v' : (k : K) → view k (step s x).1 ≡ final alone p (only (mine k) (past ++ (x ∷ [])))
        v' k = rw (only_append, final_append, ← v k) (as_alone (x ∷ []) i (h.0, tt) k).1

    pub each_alone_lem : (p : P) (l : List X) {s : S} → Inv s → Roomy s l → ((k : K) → view k s ≡ p) → log step s l ≡ each_alone alone mine key p [] l
    unfolding only final
    each_alone_lem p l {s} i h v = each_from p l [] s i h v
