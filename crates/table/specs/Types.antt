-- The types that the code declares, here and below, under one name for the definitions.
pub use Rattle.forms.specs.declared.item.Item.{Item}
pub use Rattle.forms.specs.declared.refusal.Refusal.{Refusal}
pub use Rattle.call.specs.declared.record.Record.{Record}
pub use Rattle.call.specs.declared.setup.Opening.{Opening}
pub use Rattle.call.specs.Types.{Answer, Stepped, Early}
pub use Rattle.table.specs.declared.slot.Slot.{Slot}
pub use Rattle.table.specs.declared.lookup.Spot.{Spot}
