-- What an item asks of a call (document 01, Forms: "Kinds 2 to 9 are events, 20 to 26 operations, 1 and 10 neither").
use Rattle.std.specs.Prelude.{Bool, true, false}
use Rattle.forms.specs.declared.item.Body.TheVariants as body
use Rattle.call.specs.Types.{Body, Item, Setup, Kind}
use Rattle.call.specs.declared.events.Event.TheVariants as event
use Rattle.call.specs.declared.kind.Kind.TheVariants as kind

abbrev pub kind_of : Body → Kind
kind_of (body.Setup s) = kind.Setup s
kind_of (body.RouteFailure cause) = kind.Event event.RouteFailure
kind_of (body.Busy cause) = kind.Event event.Busy
kind_of body.NoAnswer = kind.Event event.NoAnswer
kind_of body.Seized = kind.Event event.Seized
kind_of body.Answer = kind.Event event.Answer
kind_of (body.MidCall digit) = kind.Event event.MidCall
kind_of body.Moved = kind.Event event.Moved
kind_of (body.Clear l cause) = kind.Event (event.Clear l)
kind_of (body.PeriodOver l) = kind.PeriodOver l
kind_of (body.RequestReport count) = kind.RequestReport count
kind_of body.Continue = kind.Continue
kind_of (body.Connect nature count) = kind.Connect nature count
kind_of body.Release = kind.Release
kind_of (body.ApplyCharging l period) = kind.ApplyCharging l period
kind_of body.ActivityTest = kind.ActivityTest
kind_of body.Abort = kind.Abort

-- what f says of a Setup's fields; x of all else
abbrev pub if_setup : {A : Type 0} → Kind → (Setup → A) → A → A
if_setup (kind.Setup s) f x = f s
if_setup (kind.Event e) f x = x
if_setup (kind.PeriodOver l) f x = x
if_setup (kind.RequestReport n) f x = x
if_setup kind.Continue f x = x
if_setup (kind.Connect nature count) f x = x
if_setup kind.Release f x = x
if_setup (kind.ApplyCharging l period) f x = x
if_setup kind.ActivityTest f x = x
if_setup kind.Abort f x = x

abbrev pub is_setup : Item → Bool
is_setup i = if_setup (kind_of i.body) (λ s. true) false
