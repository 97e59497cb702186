-- Laws of writing, for the proofs of `write_item` and the functions below it.
use Prim.Native.Nat.{ℕ, ◌+◌, ◌≤◌, ◌<◌}
use mathlib.Core.Path.{◌≡◌, sym}
use mathlib.Core.List.{List, ◌++◌}
use mathlib.Core.Bool.{true, false}
use native.Mathlib.Nat.{zero-add}
use native.Mathlib.Omega.{arith}
use borrow.Author.Tests.{le-leb, lt-leb}
use lib.ListN.{length, length-append}
use lib.Seq.{sets, sets-eq}
use Rattle.std.specs.Prelude.{Ok, Err}
use Rattle.forms.specs.Item.{item_bytes, item_in_range, rest_at}
use Rattle.forms.specs.Write.{writable, written, after}
use Rattle.forms.specs.declared.item.Item.{Item}
use Rattle.forms.specs.declared.refusal.Refusal.TheVariants.{MalformedItem}
use Rattle.forms.proofs.ByteLaws.{sets_then}
use Rattle.forms.proofs.ItemLaws.{item_length}

-- three parts stored one after the other
pub parts : (a b t d : List ℕ) → sets (sets (sets d 0 a) (length a) b) (length a + length b) t ≡ sets d 0 (a ++ b ++ t)
parts a b t d = rw (sets_then a b d 0 (length a) (sym (zero-add (length a)))) (sets_then (a ++ b) t d 0 _ (omega (arith, length-append a b)))

-- the three answers
module _ (i : Item) (t d : List ℕ) where
  pub with_room : item_in_range i t ≡ true → rest_at i.body + length t ≤ length d → (Ok (rest_at i.body + length t) ≡ written i t d) × (sets d 0 (item_bytes i t) ≡ after i t d)
  unfolding written after writable
  with_room h l =
      let b = item_bytes i t in
      let e : 0 + length b ≡ length b = zero-add _ in
      let r : length b ≤ length d = rw (item_length i t) l in
      (rw (h, le-leb _ _ r, item_length i t), rw (h, le-leb _ _ r, ← e) (sets-eq b d 0 (rw e r)))

  pub no_room : item_in_range i t ≡ true → length d < rest_at i.body + length t → (Err MalformedItem ≡ written i t d) × (d ≡ after i t d)
  unfolding written after writable
  no_room h l = let r : length d < length (item_bytes i t) = rw (item_length i t) l in (rw (h, lt-leb _ _ r), rw (h, lt-leb _ _ r))

  pub out_of_range : item_in_range i t ≡ false → (Err MalformedItem ≡ written i t d) × (d ≡ after i t d)
  unfolding written after writable
  out_of_range h = (rw h, rw h)
