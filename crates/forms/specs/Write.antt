-- Document 01, Forms: "Writing an item into a lent buffer leaves the bytes after it unchanged; a value outside its field's range, or a buffer too short,
-- is refusal 1 and writes nothing."
use Rattle.std.specs.Prelude.{ℕ, List, ◌++◌, Bool, ◌&&◌, cond, length, drop, leb, Result, Ok, Err}
use Rattle.forms.specs.Item.{item_bytes, item_in_range}
use Rattle.forms.specs.declared.item.Item.{Item}
use Rattle.forms.specs.declared.refusal.Refusal.{Refusal}
use Rattle.forms.specs.declared.refusal.Refusal.TheVariants.{MalformedItem}

-- it is in range, and the buffer d is long enough
unfoldable pub writable : Item → List ℕ → List ℕ → Bool
writable i t d = item_in_range i t && leb (length (item_bytes i t)) (length d)

-- the answer, and the whole buffer afterwards
unfoldable pub written : Item → List ℕ → List ℕ → Result ℕ Refusal
written i t d = cond (writable i t d) (Ok (length (item_bytes i t))) (Err MalformedItem)

unfoldable pub after : Item → List ℕ → List ℕ → List ℕ
after i t d = cond (writable i t d) (item_bytes i t ++ drop (length (item_bytes i t)) d) d
