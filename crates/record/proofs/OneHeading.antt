-- Bytes begin with at most one heading, and are refused for at most one reason: a wrong byte is not the heading's front.
use Rattle.std.proofs.Common.{◌≡◌, ℕ, List, length, sym, refl, ap, ◌∙◌, arith, length-append}
use Rattle.std.proofs.lemmas.List.{append_cancel_left}
use Rattle.std.proofs.lemmas.List.Prefix.{front_fits, front_reads}
use Rattle.record.specs.declared.fault.ByteFault.{ByteFault}
use Rattle.record.specs.declared.fault.ByteFault.TheVariants.{WrongHeading, Short}
use Rattle.record.specs.Heading.{heading, HeadingRead, HeadingRefused, WrongByte, ShortHeading}

wrong_or_short : (bs : List ℕ) → WrongByte bs → ShortHeading bs → ⊥
wrong_or_short bs w s = w.wrong (sym (front_reads 0 heading bs s.missing s.front w.at w.there))

pub heading_back : (bs r s : List ℕ) → HeadingRead bs r → HeadingRead bs s → r ≡ s
heading_back bs r s p q = append_cancel_left heading r s (sym p ∙ q)

pub heading_not_refused : (bs rest : List ℕ) (f : ByteFault) → HeadingRead bs rest → HeadingRefused bs f → ⊥
heading_not_refused bs rest WrongHeading e w = w.wrong (front_reads 0 bs heading rest e w.at w.within)
heading_not_refused bs rest Short e s = omega (arith, front_fits bs heading rest e, ap length s.front ∙ length-append bs s.missing)
heading_not_refused bs rest _ e r = absurd r

pub heading_one_fault : (bs : List ℕ) (f g : ByteFault) → HeadingRefused bs f → HeadingRefused bs g → f ≡ g
heading_one_fault bs WrongHeading WrongHeading p q = refl
heading_one_fault bs WrongHeading Short p q = absurd (wrong_or_short bs p q)
heading_one_fault bs Short WrongHeading p q = absurd (wrong_or_short bs q p)
heading_one_fault bs Short Short p q = refl
heading_one_fault bs WrongHeading _ p q = absurd q
heading_one_fault bs Short _ p q = absurd q
heading_one_fault bs _ g p q = absurd p
