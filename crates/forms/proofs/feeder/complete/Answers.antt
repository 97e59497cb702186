-- The bytes that are read back are the two runs, one behind the other.
use Rattle.std.proofs.Common.{◌≡◌, ◌≤◌, ◌+◌, ◌++◌, ℕ, List, Result, Ok, Err, Option, Some, MatchResult, IsOkAnd, length, ap, ◌∙◌, rules, length-append}
use Rattle.forms.specs.Item.{read_item}
use Rattle.forms.specs.Feeder.{Completed, bytes_of, gathered, new_feeder, whole_fed_as}
use Rattle.forms.specs.declared.feeder.Handed.{Handed}
use Rattle.forms.specs.declared.feeder.Gathered.{Gathered}
use Rattle.forms.specs.declared.item.Item.{Item}
use Rattle.forms.specs.declared.refusal.Refusal.{Refusal}
use Rattle.forms.proofs.ByteLaws.{pad_front}
use Rattle.forms.proofs.feeder.complete.Goals as goal

whole : (h c : List ℕ) → length h + length c ≤ 65 → {g : Gathered} → g ≡ gathered (h ++ c) → {t : List ℕ} → t ≡ bytes_of g → {r : Result (Item × ℕ) Refusal} → r ≡ read_item t → r ≡ read_item (h ++ c)
whole h c l e p q = q ∙ ap read_item (p ∙ rw e (pad_front 65 (h ++ c) (rw (length-append h c) l)))

-- an item that was read is handed out with its bytes s; a refusal goes on
handed : (n : ℕ) (s : List ℕ) (r : Result (Item × ℕ) Refusal) (x : Completed) (P : Item × ℕ → Option Handed → Type 0) → ((p : Item × ℕ) (o : Option Handed) → P p o → o ≡ Some (record { item = p.0; at = p.1; bytes = gathered s })) → MatchResult r (λ p. IsOkAnd x (P p)) (λ e. x ≡ Err e) → record { feeder = new_feeder; used = n; completed = x } ≡ whole_fed_as r n s
handed n s (Ok p) (Ok o) P says m = rw (says p o m)
handed n s (Ok p) (Err y) P says m = absurd m
handed n s (Err y) x P says m = rw m

pub returns : goal.returns
returns c =
    rw (c.new.ensures, ← whole c.args.h.now c.args.c.now c.requires c.join-g.ensures c.bytes.ensures c.read_item-read.ensures) (handed _ _ _ _ _ (λ p o k. search rules) c.map.ensures.cases)
