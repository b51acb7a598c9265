-- Worked examples of the rules: what each call of a list is answered.
use Rattle.std.specs.Prelude.{◌≡◌, ℕ, suc, ◌^◌, List, [], ◌∷◌, Some, None}
use Rattle.model.specs.declared.Cell.{Cell}
use Rattle.model.specs.declared.Event.{Event}
use Rattle.model.specs.declared.Event.TheVariants.{Spawn, End, Open, Close, Read, Write}
use Rattle.model.specs.declared.RaceKind.{RaceKind}
use Rattle.model.specs.declared.RaceKind.TheVariants.{WriteRead, WriteWrite, ReadWrite}
use Rattle.model.specs.declared.Race.{Race}
use Rattle.model.specs.declared.Call.{Call}
use Rattle.model.specs.declared.Call.TheVariants.{Feed, Seal}
use Rattle.model.specs.Rules.{Limits}
use Rattle.model.specs.Runs.{Reply, took, stopped, turned_away, gave_verdict, replies}
use Rattle.model.specs.Orders.{Order, emptied, spawned, opened}
use Rattle.model.specs.Trees.{Tree, planted, spawn_tree, open_tree}
use Rattle.model.specs.Mailboxes.{mailbox_cells}

-- calls and their answers, both in the order in which they are made
pub record Example : Type 0 where
  pub limits : Limits
  pub calls : List (Call Cell)
  pub answers : List (Reply Cell)

-- a list the other way round, ahead of ys
abbrev turned_round : {A : Type 0} → List A → List A → List A
turned_round [] ys = ys
turned_round (x ∷ xs) ys = turned_round xs (x ∷ ys)

-- a run of job 7 gives these answers
abbrev pub Gives : Example → Type 0
Gives e = replies mailbox_cells (record { job = 7; limits = e.limits }) (turned_round e.calls []) ≡ turned_round e.answers []

-- P holds of each of them
abbrev pub Each : {A : Type 0} → (A → Type 0) → List A → Type 0
Each P [] = Unit {0}
Each P (e ∷ es) = P e × Each P es

-- the events, fed in turn
abbrev fed : List (Event Cell) → List (Call Cell)
fed [] = []
fed (e ∷ es) = Feed e ∷ fed es

-- n events are taken with no race, and then come these answers
abbrev after : ℕ → List (Reply Cell) → List (Reply Cell)
after ℕ.zero rs = rs
after (suc n) rs = took None ∷ after n rs

-- limits that no example of these meets
abbrev wide : Limits
wide = record { events = 65535; steps = 1001; cells = 512; names = 256 }

-- the cells of the examples: 1/5, 1/6 and 2/5
abbrev x : Cell
x = record { mailbox = 1; block = 5 }

abbrev y : Cell
y = record { mailbox = 1; block = 6 }

abbrev z : Cell
z = record { mailbox = 2; block = 5 }

-- a race over the cell 1/5
abbrev race : RaceKind → ℕ → ℕ → Race Cell
race kind i j = record { kind = kind; cell = x; first = i; second = j }

-- an example with these limits
abbrev ex : List (Event Cell) → List (Reply Cell) → Example
ex es rs = record { limits = wide; calls = fed es; answers = rs }

-- the eleven runs that docs/RULES.md goes through
abbrev pub examples : List Example
examples =
    ex (Write 0 x ∷ Spawn 0 1 ∷ Write 1 x ∷ []) (after 3 [])
    ∷ ex (Spawn 0 1 ∷ Write 1 x ∷ Write 0 x ∷ []) (after 2 (took (Some (race WriteWrite 1 2)) ∷ []))
    ∷ ex (Open 0 ∷ Spawn 0 1 ∷ Write 1 x ∷ End 1 ∷ Close 0 ∷ Write 0 x ∷ []) (after 6 [])
    ∷ ex (Spawn 0 1 ∷ Write 1 x ∷ End 1 ∷ Write 0 x ∷ []) (after 3 (took (Some (race WriteWrite 1 3)) ∷ []))
    ∷ ex (Open 0 ∷ Spawn 0 1 ∷ Spawn 1 2 ∷ End 1 ∷ Close 0 ∷ []) (after 4 (turned_away 15 4 ∷ []))
    ∷ ex (Spawn 0 1 ∷ Read 1 x ∷ Read 0 x ∷ []) (after 3 [])
    ∷ ex (Spawn 0 1 ∷ Read 1 x ∷ Spawn 0 2 ∷ Read 2 x ∷ Read 0 x ∷ Write 0 x ∷ []) (after 5 (took (Some (race ReadWrite 1 5)) ∷ []))
    ∷ ex (Spawn 0 1 ∷ Read 1 x ∷ Read 0 x ∷ Write 1 x ∷ []) (after 3 (took (Some (race ReadWrite 2 3)) ∷ []))
    ∷ ex (Read 0 x ∷ Spawn 0 1 ∷ Read 1 x ∷ Read 0 x ∷ Write 0 x ∷ []) (after 4 (took (Some (race ReadWrite 2 4)) ∷ []))
    ∷ ex (Spawn 0 1 ∷ Write 1 x ∷ Read 0 y ∷ Read 0 z ∷ []) (after 4 [])
    ∷ ex (Spawn 0 1 ∷ Write 1 x ∷ Read 0 x ∷ End 1 ∷ []) (after 2 (took (Some (race WriteRead 1 2)) ∷ stopped (race WriteRead 1 2) ∷ []))
    ∷ []

-- each of the eleven gives its answers
abbrev pub ExamplesHold : Type 0
ExamplesHold = Each Gives examples

-- an example with limits of its own
abbrev within : ℕ → ℕ → ℕ → ℕ → List (Event Cell) → List (Reply Cell) → Example
within events steps cells names es rs =
    record { limits = record { events = events; steps = steps; cells = cells; names = names }; calls = fed es; answers = rs }

-- cells with a number that is too large
abbrev large : Cell
large = record { mailbox = 2 ^ 63; block = 0 }

abbrev high : Cell
high = record { mailbox = 0; block = 2 ^ 63 }

-- the largest number that is in range
abbrev largest : ℕ
largest = 9223372036854775807

-- each refusal at least once, from 6 to 18; and a raced run whose verdict names its race
abbrev pub refused_examples : List Example
refused_examples =
    ex (Read 0 large ∷ []) (turned_away 6 0 ∷ [])
    ∷ ex (Read 1 x ∷ []) (turned_away 7 0 ∷ [])
    ∷ ex (Spawn 0 0 ∷ Spawn 0 1 ∷ Spawn 1 1 ∷ []) (turned_away 8 0 ∷ took None ∷ turned_away 8 1 ∷ [])
    ∷ within 9 9 9 1 (Spawn 0 1 ∷ Spawn 0 2 ∷ []) (after 1 (turned_away 9 1 ∷ []))
    ∷ within 1 9 9 9 (Read 0 x ∷ Read 0 x ∷ []) (after 1 (turned_away 10 1 ∷ []))
    ∷ record {
      limits = wide;
      calls = Seal 8 ∷ Seal 7 ∷ Feed (Read 0 x) ∷ Seal 7 ∷ [];
      answers = turned_away 12 0 ∷ gave_verdict 7 None 0 ∷ turned_away 11 0 ∷ turned_away 11 0 ∷ [];
    }
    ∷ ex (End 0 ∷ Read 0 x ∷ []) (after 1 (turned_away 13 1 ∷ []))
    ∷ ex (Close 0 ∷ []) (turned_away 14 0 ∷ [])
    ∷ ex (Open 0 ∷ Spawn 0 1 ∷ Close 0 ∷ []) (after 2 (turned_away 15 2 ∷ []))
    ∷ ex (Open 0 ∷ End 0 ∷ []) (after 1 (turned_away 16 1 ∷ []))
    ∷ within 9 3 9 9 (Spawn 0 1 ∷ Open 0 ∷ []) (after 1 (turned_away 17 1 ∷ []))
    ∷ within 9 2 9 9 (Spawn 0 1 ∷ []) (turned_away 17 0 ∷ [])
    ∷ within 9 9 1 9 (Read 0 x ∷ Read 0 y ∷ Write 0 x ∷ []) (took None ∷ turned_away 18 1 ∷ took None ∷ [])
    ∷ record {
      limits = wide;
      calls = Feed (Spawn 0 1) ∷ Feed (Write 1 x) ∷ Feed (Write 0 x) ∷ Seal 7 ∷ Feed (End 1) ∷ [];
      answers = after 2 (took (Some (race WriteWrite 1 2)) ∷ gave_verdict 7 (Some (race WriteWrite 1 2)) 3 ∷ turned_away 11 3 ∷ []);
    }
    ∷ ex (Spawn 0 (2 ^ 63) ∷ Spawn 0 largest ∷ Read 0 high ∷ Read 0 x ∷ []) (turned_away 6 0 ∷ took None ∷ turned_away 6 1 ∷ took None ∷ [])
    ∷ []

-- each of these gives its answers
abbrev pub RefusalsMet : Type 0
RefusalsMet = Each Gives refused_examples

-- calls on a run of these limits, and the last answers to them, ahead of which n events are taken with no race
abbrev calling : Limits → List (Call Cell) → ℕ → List (Reply Cell) → Example
calling l cs n rs = record { limits = l; calls = cs; answers = after n rs }

-- where two answers fit, the one that is given; at the edge of a limit, and one past it
abbrev pub first_examples : List Example
first_examples =
    -- the race is with the last write ahead of a read, and with the left read ahead of the right one
    ex (Spawn 0 1 ∷ Write 1 x ∷ Read 1 x ∷ Write 0 x ∷ []) (after 3 (took (Some (race WriteWrite 1 3)) ∷ []))
    ∷ ex (Spawn 0 1 ∷ Read 1 x ∷ Spawn 0 2 ∷ Read 2 x ∷ Write 0 x ∷ []) (after 4 (took (Some (race ReadWrite 1 4)) ∷ []))
    -- a spawn: 8, 9, 13, 17
    ∷ within 9 9 9 1 (Spawn 0 1 ∷ Spawn 0 1 ∷ Spawn 0 2 ∷ []) (after 1 (turned_away 8 1 ∷ turned_away 9 1 ∷ []))
    ∷ within 9 9 9 1 (Spawn 0 1 ∷ End 1 ∷ Spawn 1 2 ∷ []) (after 2 (turned_away 9 2 ∷ []))
    ∷ within 9 3 9 9 (Spawn 0 1 ∷ End 1 ∷ Spawn 1 1 ∷ Spawn 1 2 ∷ Spawn 0 2 ∷ [])
    (after 2 (turned_away 8 2 ∷ turned_away 13 2 ∷ turned_away 17 2 ∷ []))
    -- an open and a close: 13 comes first; the end of a task that has ended is 13 too
    ∷ within 9 3 9 9 (Spawn 0 1 ∷ End 1 ∷ Open 1 ∷ Close 1 ∷ End 1 ∷ [])
    (after 2 (turned_away 13 2 ∷ turned_away 13 2 ∷ turned_away 13 2 ∷ []))
    -- a close: 14, 15, 17
    ∷ within 9 3 9 9 (Spawn 0 1 ∷ Close 0 ∷ []) (after 1 (turned_away 14 1 ∷ []))
    ∷ within 9 4 9 9 (Open 0 ∷ Spawn 0 1 ∷ Close 0 ∷ End 1 ∷ Close 0 ∷ [])
    (after 2 (turned_away 15 2 ∷ took None ∷ turned_away 17 3 ∷ []))
    ∷ within 9 3 9 9 (Open 0 ∷ Close 0 ∷ []) (after 2 [])
    -- an access: 13 ahead of the race, and of 18
    ∷ ex (Spawn 0 1 ∷ End 1 ∷ Write 0 x ∷ Write 1 x ∷ []) (after 3 (turned_away 13 3 ∷ []))
    ∷ within 9 9 1 9 (Spawn 0 1 ∷ End 1 ∷ Read 0 x ∷ Read 1 y ∷ []) (after 3 (turned_away 13 3 ∷ []))
    -- any event: 10, 6, 7, and only then by kind
    ∷ within 0 9 9 9 (Read 0 large ∷ []) (turned_away 10 0 ∷ [])
    ∷ ex (Read (2 ^ 63) x ∷ Read largest x ∷ Spawn 1 0 ∷ []) (turned_away 6 0 ∷ turned_away 7 0 ∷ turned_away 7 0 ∷ [])
    -- step 0 is held with a limit of 0 too; a cell wants room in the store
    ∷ within 9 0 9 9 (Read 0 x ∷ Open 0 ∷ []) (after 1 (turned_away 17 1 ∷ []))
    ∷ within 9 9 0 9 (Read 0 x ∷ []) (turned_away 18 0 ∷ [])
    -- a raced run has stopped ahead of all but a seal; a sealed run refuses by 11, and another job's token by 12
    ∷ within 3 9 9 9 (Spawn 0 1 ∷ Write 1 x ∷ Write 0 x ∷ Read 5 large ∷ [])
    (after 2 (took (Some (race WriteWrite 1 2)) ∷ stopped (race WriteWrite 1 2) ∷ []))
    ∷ calling wide (Seal 7 ∷ Seal 8 ∷ []) 0 (gave_verdict 7 None 0 ∷ turned_away 11 0 ∷ [])
    ∷ calling wide (Feed (Spawn 0 1) ∷ Feed (Write 1 x) ∷ Feed (Write 0 x) ∷ Seal 8 ∷ Seal 7 ∷ []) 2
    (took (Some (race WriteWrite 1 2)) ∷ turned_away 12 3 ∷ gave_verdict 7 (Some (race WriteWrite 1 2)) 3 ∷ [])
    -- a name is never used again, and 0 is always in use
    ∷ ex (Spawn 0 1 ∷ End 1 ∷ Spawn 0 1 ∷ Spawn 0 0 ∷ []) (after 2 (turned_away 8 2 ∷ turned_away 8 2 ∷ []))
    ∷ []

-- each of these gives its answers
abbrev pub FirstRefusals : Type 0
FirstRefusals = Each Gives first_examples

-- the labels of the steps after spawn 0 1, open 0, spawn 0 2, as docs/RULES.md tells them
abbrev pub LabelsTold : Type 0
LabelsTold =
    let a : Order = emptied 9 in
    let b : Order = spawned a 0 in
    let c : Order = opened b 0 in
    let w : Tree = spawn_tree c 0 (open_tree b 0 (spawn_tree a 0 planted)) in
    (w.step 0 ∷ w.step 1 ∷ w.step 2 ∷ w.finish 1 ∷ w.step 3 ∷ w.step 4 ∷ w.step 5 ∷ [])
    ≡ ((0 ∷ []) ∷ (1 ∷ 0 ∷ []) ∷ (2 ∷ []) ∷ (4 ∷ []) ∷ (4 ∷ 0 ∷ []) ∷ (4 ∷ 1 ∷ 0 ∷ []) ∷ (4 ∷ 2 ∷ []) ∷ [])
