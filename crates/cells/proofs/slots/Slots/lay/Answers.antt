-- What is laid is put, by what slots mean.
use Rattle.std.proofs.Common.{rules, ◌≡◌, ◌+◌, ◌<◌, ◌∙◌, sym, ap, subst, arith, length, set}
use Rattle.std.proofs.lemmas.List.{length-map, map-set}
use Rattle.cells.specs.declared.slots.Seek.TheVariants.{Found, Free, Full}
use Rattle.cells.specs.Slots.{pairs_in, used_in, Sought, laid}
use Rattle.cells.proofs.Meant.{held_new, used_in-free, used_in-again, used_in-room, only_pair, answered_by, meant_after_laid}
use Rattle.cells.proofs.slots.Slots.lay.Goals as goal

pub overflow_add-self : goal.overflow_add-self
overflow_add-self g c =
    let xs = pairs_in g.R.Record.held c.args.self.now in
    let s = subst (Sought g.R.Key.PartialEq.eq c.args.key xs) c.in-Free.is c.requires.sought in
    let n : length xs ≡ length c.args.self.now.records.now = length-map c.args.self.now.records.now g.R.Record.held in
    let r : used_in xs < length xs = used_in-room xs c.in-Free.i s.0 s.1 in
    let room : c.args.self.now.used < length c.args.self.now.records.now = omega (arith, n, r, c.requires.counted) in
    search rules

pub returns-in-Full-clause-answered : goal.returns-in-Full-clause-answered
returns-in-Full-clause-answered g c =
    answered_by g.R.Key.PartialEq.eq g.met.R.Key.Eq.laws.refl g.met.R.Key.StoreKey.exact _ c.args.key c.args.seek Full c.requires.sought c.in-Full.is

pub returns-in-Full-clause-kept : goal.returns-in-Full-clause-kept
returns-in-Full-clause-kept g c =
    meant_after_laid g.R.Key.PartialEq.eq g.met.R.Key.Eq.laws.refl g.met.R.Key.StoreKey.exact _ _ c.args.key c.args.value c.args.seek
    c.requires.sought (sym (ap (λ s. laid s (c.args.key, c.args.value) (pairs_in g.R.Record.held c.args.self.now)) c.in-Full.is))

pub returns-in-Found-clause-laid : goal.returns-in-Found-clause-laid
returns-in-Found-clause-laid g c =
    let xs = pairs_in g.R.Record.held c.args.self.now in
    map-set g.R.Record.held c.args.self.now.records.now c.in-Found.i c.new.result ∙ ap (set xs c.in-Found.i) (held_new g.R.Record.held (g.met.R.Record.holds c.args.key c.args.value) c.new.ensures.value)
    ∙ sym (ap (λ s. laid s (c.args.key, c.args.value) xs) c.in-Found.is)

pub returns-in-Found-clause-counted : goal.returns-in-Found-clause-counted
returns-in-Found-clause-counted g c =
    let xs = pairs_in g.R.Record.held c.args.self.now in
    let s = subst (Sought g.R.Key.PartialEq.eq c.args.key xs) c.in-Found.is c.requires.sought in
    let (v, e) = only_pair g.R.Key.PartialEq.eq g.met.R.Key.Eq.laws.refl g.met.R.Key.StoreKey.exact xs c.args.key c.in-Found.i s.1 in
    c.requires.counted ∙ sym (used_in-again xs c.in-Found.i (c.args.key, c.args.value) (c.args.key, v) s.0 e)
    ∙ sym (ap used_in (returns-in-Found-clause-laid g c ∙ ap (λ s. laid s (c.args.key, c.args.value) xs) c.in-Found.is))

pub returns-in-Found-clause-answered : goal.returns-in-Found-clause-answered
returns-in-Found-clause-answered g c =
    answered_by g.R.Key.PartialEq.eq g.met.R.Key.Eq.laws.refl g.met.R.Key.StoreKey.exact _ c.args.key c.args.seek (Found c.in-Found.i)
    c.requires.sought c.in-Found.is

pub returns-in-Found-clause-kept : goal.returns-in-Found-clause-kept
returns-in-Found-clause-kept g c =
    meant_after_laid g.R.Key.PartialEq.eq g.met.R.Key.Eq.laws.refl g.met.R.Key.StoreKey.exact _ _ c.args.key c.args.value c.args.seek
    c.requires.sought (returns-in-Found-clause-laid g c)

pub returns-in-Free-clause-laid : goal.returns-in-Free-clause-laid
returns-in-Free-clause-laid g c =
    let xs = pairs_in g.R.Record.held c.args.self.now in
    map-set g.R.Record.held c.args.self.now.records.now c.in-Free.i c.new-in-Free.result ∙ ap (set xs c.in-Free.i) (held_new g.R.Record.held (g.met.R.Record.holds c.args.key c.args.value) c.new-in-Free.ensures.value)
    ∙ sym (ap (λ s. laid s (c.args.key, c.args.value) xs) c.in-Free.is)

pub returns-in-Free-clause-counted : goal.returns-in-Free-clause-counted
returns-in-Free-clause-counted g c =
    let xs = pairs_in g.R.Record.held c.args.self.now in
    let s = subst (Sought g.R.Key.PartialEq.eq c.args.key xs) c.in-Free.is c.requires.sought in
    ap (λ n. n + 1) c.requires.counted ∙ sym (used_in-free xs c.in-Free.i (c.args.key, c.args.value) s.0 s.1)
    ∙ sym (ap used_in (returns-in-Free-clause-laid g c ∙ ap (λ s. laid s (c.args.key, c.args.value) xs) c.in-Free.is))

pub returns-in-Free-clause-answered : goal.returns-in-Free-clause-answered
returns-in-Free-clause-answered g c =
    answered_by g.R.Key.PartialEq.eq g.met.R.Key.Eq.laws.refl g.met.R.Key.StoreKey.exact _ c.args.key c.args.seek (Free c.in-Free.i)
    c.requires.sought c.in-Free.is

pub returns-in-Free-clause-kept : goal.returns-in-Free-clause-kept
returns-in-Free-clause-kept g c =
    meant_after_laid g.R.Key.PartialEq.eq g.met.R.Key.Eq.laws.refl g.met.R.Key.StoreKey.exact _ _ c.args.key c.args.value c.args.seek
    c.requires.sought (returns-in-Free-clause-laid g c)
