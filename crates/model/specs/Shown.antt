-- The text of a cell, an event, a race and a layer.
use Rattle.std.specs.Prelude.{ℕ, List, ◌++◌, Some, codes, decimal, Option}
use Rattle.std.specs.Fmt.{option_append}
use Rattle.model.specs.declared.Cell.{Cell}
use Rattle.model.specs.declared.Event.{Event}
use Rattle.model.specs.declared.Event.TheVariants.{Spawn, End, Open, Close, Read, Write}
use Rattle.model.specs.declared.RaceKind.{RaceKind}
use Rattle.model.specs.declared.RaceKind.TheVariants.{WriteRead, WriteWrite, ReadWrite}
use Rattle.model.specs.declared.Race.{Race}
use Rattle.model.specs.declared.Layer.{Layer}
use Rattle.model.specs.declared.Layer.TheVariants.{Bytes, Run, Order, Cells}

-- a cell is its mailbox, a slash and its block: 1/5
abbrev pub cell_text : Cell → List ℕ
cell_text c = decimal c.mailbox ++ (codes "/" ++ decimal c.block)

-- an event is its kind, its task, and its child or its cell: spawn 0 1, end 1, write 1 1/5
module _ {C : Type 0} (shown : C → Option (List ℕ)) where
  abbrev pub event_shown : Event C → Option (List ℕ)
  event_shown (Spawn t u) = Some (codes "spawn " ++ (decimal t ++ (codes " " ++ decimal u)))
  event_shown (End t) = Some (codes "end " ++ decimal t)
  event_shown (Open t) = Some (codes "open " ++ decimal t)
  event_shown (Close t) = Some (codes "close " ++ decimal t)
  event_shown (Read t c) = option_append (Some (codes "read ")) (option_append (Some (decimal t)) (option_append (Some (codes " ")) (shown c)))
  event_shown (Write t c) = option_append (Some (codes "write ")) (option_append (Some (decimal t)) (option_append (Some (codes " ")) (shown c)))

-- a kind is the first letters of the two accesses, the earlier one first
abbrev pub kind_text : RaceKind → List ℕ
kind_text WriteRead = codes "wr"
kind_text WriteWrite = codes "ww"
kind_text ReadWrite = codes "rw"

-- a race is its kind, its cell and its places: ww cell 1/5 first 1 second 2
abbrev pub race_shown : {C : Type 0} → (C → Option (List ℕ)) → Race C → Option (List ℕ)
race_shown shown r =
    option_append (Some (kind_text r.kind)) (option_append (Some (codes " cell ")) (option_append (shown r.cell)
    (Some (codes " first " ++ (decimal r.first ++ (codes " second " ++ decimal r.second))))))

-- a layer is its name in small letters
abbrev pub layer_text : Layer → List ℕ
layer_text Bytes = codes "bytes"
layer_text Run = codes "run"
layer_text Order = codes "order"
layer_text Cells = codes "cells"
