-- Demand 3, calls do not touch each other: what it says of every list of items, over any layer of one call. (`Demands.antt` says it of what `feed` does.)
use Rattle.std.specs.Prelude.{ℕ, true, List, [], ◌≡◌, ◌≢◌, None}
use Rattle.table.specs.Runs.{only, All, log, final, each_alone}
use Rattle.table.specs.Table.{OneCall, Slots, of_call, look, fresh, is_sound, table_step}

module _ (c : OneCall) where
  open c use {Item, Answer}

  -- an item with its answer
  abbrev pub Line : Type 0
  Line = Item × Answer

  -- "only that call's items in their order", and their lines: "Items of two lists correspond by their place within their call."
  abbrev pub items_of : ℕ → List Item → List Item
  items_of k = only (of_call c k)

  abbrev pub lines_of : ℕ → List Line → List Line
  lines_of k = only (λ e. of_call c k e.0)

module _ (c : OneCall) (m : Slots c.Rec) where
  open c use {Item, refused, call, alone, DamagedTable, TableFull}
  open m use {Slot}

  -- "fed one after another to a fresh table; each item meets the table as the one before left it": the lines, and the table after the list
  abbrev pub table_log : List Item → List (Line c)
  table_log = log (table_step c m) (fresh m)

  abbrev pub table_after : List Item → List Slot
  table_after = final (table_step c m) (fresh m)

  -- "none is refused for room"; "refused for room means 6"
  abbrev pub Seated : List Item → Type 0
  Seated l = All (λ e. e.1 ≢ refused TableFull) (table_log l)

  -- "each item gets exactly the answer that document 01's call by itself gives, fed only that call's items in their order";
  -- "and after the list each call's record equals the one it has by itself"
  pub record AsAlone (l : List Item) : Type 0 where
    pub each : table_log l ≡ each_alone alone (of_call c) call None [] l
    pub records : (k : ℕ) → look m k (table_after l) ≡ final alone None (items_of c k l)

  -- "alike in each item's answer and in each call's final record"
  pub record Alike (l l' : List Item) : Type 0 where
    pub answers : (k : ℕ) → lines_of c k (table_log l) ≡ lines_of c k (table_log l')
    pub records : (k : ℕ) → look m k (table_after l) ≡ look m k (table_after l')

  -- refusal 3 never arises; a list that is not refused for room is served as if each call were by itself;
  -- two such lists with "those of any one call in the same order" are alike, "whatever the order between calls"
  pub record Independence : Type 0 where
    pub sound : (l : List Item) → is_sound m (table_after l) ≡ true
    pub never_3 : (l : List Item) → All (λ e. e.1 ≢ refused DamagedTable) (table_log l)
    pub by_itself : (l : List Item) → Seated l → AsAlone l
    pub alike : (l l' : List Item) → Seated l → Seated l' → ((k : ℕ) → items_of c k l ≡ items_of c k l') → Alike l l'
