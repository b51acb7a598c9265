-- Forms are told apart.
use Rattle.std.specs.Prelude.{◌≡◌, ℕ, ◌^◌, ◌<◌, List, ◌++◌}
use Rattle.model.specs.declared.Cell.{Cell}
use Rattle.model.specs.declared.Event.{Event}
use Rattle.record.specs.Numbers.{number_form}
use Rattle.record.specs.Events.{event_form, Writable}

-- no two numbers have one form, and no form begins another
abbrev pub NumbersApart : Type 0
NumbersApart = (m n : ℕ) (r s : List ℕ) → m < 2 ^ 63 → n < 2 ^ 63 → number_form m ++ r ≡ number_form n ++ s → (m ≡ n) × (r ≡ s)

-- no two events have one form, and no form begins another
abbrev pub EventsApart : Type 0
EventsApart = (d e : Event Cell) (r s : List ℕ) → Writable d → Writable e → event_form d ++ r ≡ event_form e ++ s → (d ≡ e) × (r ≡ s)
