-- The graph of a keeper's steps as its calls grow it, and how it is searched.
use Rattle.std.specs.Prelude.{ℕ, suc, ◌+◌, Bool, cond, ◌&&◌, [], ◌∷◌, ◌++◌, ◌==◌, nat_lt, nat_le}
use Rattle.model.specs.Lists.{head_or, put}
use Rattle.model.specs.Orders.{Order}
use Rattle.model.specs.Reached.{Reached, start, by_spawn, by_open, by_close, by_end}
use Rattle.model.specs.Labels.{Label}

-- what the edges are told by: an edge leads to each step from the one that it comes from, which its task was on, or its spawner;
-- and into a close's step from the last step of each task that lived in the finish (`Edges` has them one by one)
pub record Ways : Type 0 where
  -- the step that a step comes from
  pub from : ℕ → ℕ
  -- the finish that the task of a step lives in
  pub home : ℕ → ℕ
  -- the step that a finish was closed by, or 0 while it is open
  pub shut : ℕ → ℕ

-- step 0, of task 0 in the outer finish
abbrev pub unwalked : Ways
unwalked = record { from = λ x. 0; home = λ x. 0; shut = λ f. 0 }

-- the child's first step and the spawner's next come from the spawner's step; the child lives in the spawner's innermost finish
abbrev pub spawn_ways : Order → ℕ → Ways → Ways
spawn_ways m t w =
    let s : ℕ = (m.task t).current in
    record w {
      from = put (put w.from m.steps s) (m.steps + 1) s;
      home = put (put w.home m.steps (head_or (m.task t).finishes 0)) (m.steps + 1) (w.home s);
    }

-- one more step of the task
abbrev pub next_ways : Order → ℕ → Ways → Ways
next_ways m t w =
    let s : ℕ = (m.task t).current in
    record w { from = put w.from m.steps s; home = put w.home m.steps (w.home s) }

-- one more step of the task, and the innermost finish is closed by it
abbrev pub close_ways : Order → ℕ → Ways → Ways
close_ways m t w = record (next_ways m t w) { shut = put w.shut (head_or (m.task t).finishes 0) m.steps }

-- the graph that the calls grow which lead to an order
abbrev pub ways_of : {limit : ℕ} {m : Order} → Reached limit m → Ways
ways_of start = unwalked
ways_of (by_spawn m t r run) = spawn_ways m t (ways_of r)
ways_of (by_open m t r run) = next_ways m t (ways_of r)
ways_of (by_close m t f g fs r run own none) = close_ways m t (ways_of r)
ways_of (by_end m t f r run own) = ways_of r

-- the steps on the way to x from step 0, which is left out
abbrev pub way_in : Ways → ℕ → ℕ → Label
way_in w ℕ.zero x = []
way_in w (suc k) x = cond (x == 0) [] (way_in w k (w.from x) ++ (x ∷ []))

abbrev pub way : Ways → ℕ → Label
way w x = way_in w x x

-- from y on to the step that closed the finish in which its task lives, and so on, as long as these are at most b; at most k times
abbrev pub outlet : Ways → ℕ → ℕ → ℕ → ℕ
outlet w ℕ.zero b y = y
outlet w (suc k) b y = cond (nat_lt y (w.shut (w.home y)) && nat_le (w.shut (w.home y)) b) (outlet w k b (w.shut (w.home y))) y

-- whether y is met on the way back from x; at most k steps back
abbrev pub met : Ways → ℕ → ℕ → ℕ → Bool
met w ℕ.zero y x = x == y
met w (suc k) y x = cond (nat_lt y x) (met w k y (w.from x)) (x == y)

-- whether a search finds that a is before b: out of the finishes around a up to b, and then back from b to where that led
-- each walk takes b steps at most, since numbers only rise on the one and only fall on the other
abbrev pub searched : Ways → ℕ → ℕ → Bool
searched w a b = nat_lt a b && met w b (outlet w b b a) b
