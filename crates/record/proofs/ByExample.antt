-- The examples, by computation.
use Rattle.std.proofs.Common.{refl}
use Rattle.record.specs.Numbers.{number_form}
use Rattle.record.specs.Examples.{NumberExamples, EventExamples}

pub number_examples : NumberExamples
unfolding number_form
number_examples = (refl, refl, refl, refl, refl, refl, refl)

pub event_examples : EventExamples
unfolding number_form
event_examples = (refl, refl, refl, refl, refl, refl, refl)
