-- What is still to come of numbers' forms.
use Rattle.std.specs.Prelude.{◌≡◌, ℕ, ◌^◌, ◌<◌, List, [], ◌++◌, length, Option, Some, None, Ok, Err, Result}
use Rattle.record.specs.declared.fault.ByteFault.{ByteFault}
use Rattle.record.specs.declared.fault.ByteFault.TheVariants.{TooLarge}
use Rattle.record.specs.declared.form.FormBytes.{FormBytes}
use Rattle.record.specs.Numbers.{number_form, numbers_form, InRange}

-- the form of the number that is left, or nothing
abbrev pub form_of : Option ℕ → List ℕ
form_of None = []
form_of (Some n) = number_form n

-- the bytes that are still to come
abbrev pub form_left : FormBytes → List ℕ
form_left f = form_of f.number ++ numbers_form f.rest.now

-- the forms of the numbers ns are to come, or one of ns is too large
abbrev pub Formed : List ℕ → Result FormBytes ByteFault → Type 0
Formed ns (Ok f) = InRange ns × (form_left f ≡ numbers_form ns)
Formed ns (Err f) = (InRange ns → ⊥) × (f ≡ TooLarge)

-- the number n whose next group is to come of f, which is g then; none where nothing is to come
abbrev pub NumberTaken : FormBytes → Option ℕ → FormBytes → Type 0
NumberTaken f None g = (form_left f ≡ []) × (form_left g ≡ [])
NumberTaken f (Some n) g = (n < 2 ^ 63) × (g.number ≡ None) × (form_left f ≡ number_form n ++ numbers_form g.rest.now)

-- the bytes g of the number that comes first of f, which is h then; none where nothing is to come
abbrev pub FormTaken : FormBytes → Option FormBytes → FormBytes → Type 0
FormTaken f None h = (form_left f ≡ []) × (form_left h ≡ [])
FormTaken f (Some g) h = (g.rest.now ≡ []) × (0 < length (form_left g)) × (form_left f ≡ form_left g ++ form_left h)
