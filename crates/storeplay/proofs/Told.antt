-- Puts and looks, told one at a time.
use Rattle.std.proofs.Common.{◌≡◌, ℕ, ◌+◌, Bool, true, false, cond, refl, sym, ap, ◌∙◌, add-one, ◌∷◌, Ok, Err, Option, Result, is_err, option_map}
use Rattle.model.specs.Parts.{Keyed, no_room}
use Rattle.cells.specs.declared.fault.CellFault.{CellFault}
use Rattle.cells.specs.declared.fault.CellFault.TheVariants.{NoRoom}
use Rattle.cells.specs.Stores.{put_answer, after_put}
use Rattle.cells.specs.Puts.{put_refused}
use Rattle.cells.proofs.Lasting.{meant_of, put_one, room_told}
use Rattle.storeplay.specs.declared.row.Row.{Row}
use Rattle.storeplay.specs.declared.tally.Tally.{Tally}
use Rattle.storeplay.specs.Rows.{number_in}
use Rattle.storeplay.specs.Tallies.{put_told, look_told}
use Rattle.storeplay.specs.Plays.{past, meant, puts_told, looks_told}

module _ {K V : Type 0} (same : K → K → Bool) (key : ℕ → K) (value : ℕ → V) (n : ℕ) (row : Row) where
  abbrev put_of : ℕ → K × V
  put_of i = (key (number_in row i), value i)

  pub meant_more : (i : ℕ) (m m₂ : Keyed K V) (k : K) (v : V) → k ≡ key (number_in row i) → v ≡ value i → m ≡ meant same key value n row i
      → m₂ ≡ after_put same m k v → m₂ ≡ meant same key value n row (i + 1)
  meant_more i m m₂ k v a b e f =
      f ∙ ap (λ q. after_put same m q v) a ∙ ap (after_put same m (key (number_in row i))) b
      ∙ ap (λ q. after_put same q (put_of i).0 (put_of i).1) e ∙ put_one same n (past same key value n row i) (put_of i) ∙ next i
    where
      next : (i : ℕ) → meant_of same n (cond (put_refused same n (past same key value n row i) (put_of i).0) (past same key value n row i) (put_of i ∷ past same key value n row i))
          ≡ meant same key value n row (i + 1)
      next i = ap (meant same key value n row) (sym (add-one i))

  -- a put is told as it is answered
  refused_told : (m : Keyed K V) (k : K) → is_err (put_answer m k) ≡ no_room m k
  refused_told m k = go (no_room m k)
    where
      go : (t : Bool) → is_err (cond {A = Result (Unit {0}) CellFault} t (Err NoRoom) (Ok tt)) ≡ t
      go true = refl
      go false = refl

  pub told_more : (i : ℕ) (m : Keyed K V) (k : K) (r : Result (Unit {0}) CellFault) (t u o : Tally) → k ≡ key (number_in row i)
      → m ≡ meant same key value n row i → r ≡ put_answer m k → t ≡ puts_told same key value n row i o → u ≡ put_told (is_err r) t
      → u ≡ puts_told same key value n row (i + 1) o
  told_more i m k r t u o a e f g h =
      let told : is_err r ≡ put_refused same n (past same key value n row i) (put_of i).0 =
      ap is_err f ∙ refused_told m k ∙ ap (λ q. no_room q k) e ∙ ap (no_room (meant same key value n row i)) a
      ∙ room_told same n (past same key value n row i) (put_of i).0 in
      h ∙ ap (λ b. put_told b t) told ∙ ap (put_told (put_refused same n (past same key value n row i) (put_of i).0)) g
      ∙ ap (λ j. puts_told same key value n row j o) (sym (add-one i))

pub looks_more : {K V : Type 0} (key : ℕ → K) (told : V → ℕ) (find : K → Option V) (j : ℕ) (t u o : Tally) (x : Option ℕ)
    → x ≡ option_map told (find (key j)) → t ≡ looks_told key told find j o → u ≡ look_told x t → u ≡ looks_told key told find (j + 1) o
looks_more key told find j t u o x a e f =
    f ∙ ap (λ y. look_told y t) a ∙ ap (look_told (option_map told (find (key j)))) e ∙ ap (λ i. looks_told key told find i o) (sym (add-one j))
