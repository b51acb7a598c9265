-- Rooms, the runs that are opened in them, and pairs of a keeper and a store.
use Rattle.std.specs.Prelude.{◌≡◌, ℕ, ◌+◌, ◌/◌, List, ◌++◌, codes, decimal, vec_len}
use Rattle.model.specs.Runs.{Opening}
use Rattle.runplay.specs.declared.room.Room.{Room}
use Rattle.runplay.specs.declared.memory.Memory.{Memory}
use Rattle.runplay.specs.declared.pair.Pair.{Pair}
use Rattle.runplay.specs.declared.pair.Pair.TheVariants.{TreeTable, TreeSearch, GraphTable, GraphSearch}

-- what a run is opened with
abbrev pub opening_with : ℕ → ℕ → ℕ → ℕ → ℕ → Opening
opening_with job events steps cells names =
    record { job = job; limits = record { events = events; steps = steps; cells = cells; names = names } }

-- so in a room: the keeper may hold a step, and one more for every four records
abbrev pub opening_in : ℕ → Room → Opening
opening_in job room = opening_with job room.events (1 + room.keeper / 4) room.cells room.names

-- so many records are there
pub record Fits (room : Room) (m : Memory) : Type 0 where
  pub keeper : vec_len m.keeper ≡ room.keeper
  pub cells : vec_len m.cells ≡ room.cells
  pub nodes : vec_len m.nodes ≡ room.cells
  pub names : vec_len m.names ≡ room.names

-- `keeper 64, cells 8, names 8, events 100`
abbrev pub room_text : Room → List ℕ
room_text r =
    codes "keeper " ++ (decimal r.keeper ++ (codes ", cells " ++ (decimal r.cells
    ++ (codes ", names " ++ (decimal r.names ++ (codes ", events " ++ decimal r.events))))))

-- the keeper, and the store
abbrev pub pair_text : Pair → List ℕ
pair_text TreeTable = codes "tree, table"
pair_text TreeSearch = codes "tree, search tree"
pair_text GraphTable = codes "graph, table"
pair_text GraphSearch = codes "graph, search tree"
