-- The work does not look at the rooms, and the answer only at whether they are long enough: with room for 64 result states and 5,184 working
-- states it is what it is with exactly the room that is needed.
use Rattle.std.specs.Prelude.{Err, Ok}
use mathlib.Core.Path.{◌≡◌, refl, ap, ap₂, ◌∙◌}
use mathlib.Core.Bool.{Bool, true, false, ◌&&◌}
use mathlib.Core.List.{List, [], ◌∷◌, ◌++◌}
use Prim.Native.Nat.{ℕ, zero, suc, ◌-◌, ◌≤◌}
use native.Mathlib.Nat.{le_refl}
use native.Mathlib.Omega.{arith}
use borrow.Author.Tests.{le-ltb}
use lib.ListN.{length}
use Rattle.rules.specs.declared.Cache.{Cache}
use Rattle.rules.specs.Answers.{Verdict}
use Rattle.rules.specs.Units.{units}
use Rattle.rules.specs.Contents.{Last}
use Rattle.rules.specs.Input.{Input, input_in, input_of, run_of, edges_of, predecessors, joins_to}
use Rattle.rules.specs.AnyTable.{Kind, Worked as AnyWorked, Entries, no_pairings, behind, run as run_any, enter_by as enter_any, node_by as node_of, worked_by as worked_of, finished_by as finished_of, all_fit as all_fit_of}
use Rattle.rules.specs.Table.{Work}
use Rattle.rules.specs.Graph.{Worked, table_at, at_start, last_before, node_last, lasts_to, worked_by, finished, enter_fits, all_fit}
use Rattle.rules.specs.Fold.{states}
use Rattle.rules.specs.Refusals.{outside, reasons, verdict, answered, outcome}
use Rattle.rules.proofs.Refusals.{within}

answered_alike : (v : Verdict) (i j : Input) → finished i ≡ finished j → answered v i ≡ answered v j
answered_alike (Ok tt) i j e = ap (λ (d : Work). Ok (record { states = length d.table; aside = units d.aside })) e
answered_alike (Err r) i j e = refl

module _ (c : Cache) (K : ℕ) (ts ns bs es : List ℕ) (r w : ℕ) where
  same_lasts : (n : ℕ) → lasts_to (input_of c K ts ns bs es) n ≡ lasts_to (input_in c K ts ns bs es r w) n
  unfolding lasts_to node_last run_of
  same_lasts zero = refl
  same_lasts (suc n) = ap (λ (ls : List Last). ls ++ (node_last (input_in c K ts ns bs es r w) n ls ∷ [])) (same_lasts n)

  -- for any kind of table whose start does not look at the rooms
  module _ {A : Type 0} (k : Kind A) (starts : k.start (input_of c K ts ns bs es) ≡ k.start (input_in c K ts ns bs es r w)) where
    pub same_worked_any : (q : Entries) (n : ℕ) → worked_of k q (input_of c K ts ns bs es) n ≡ worked_of k q (input_in c K ts ns bs es r w) n
    unfolding worked_of node_of run_of
    same_worked_any q zero = refl
    same_worked_any q (suc n) =
        ap₂ (λ (d : AnyWorked A) (ls : List Last). after (k.start (input_of c K ts ns bs es)) d ls) (same_worked_any q n) (same_lasts n)
        ∙ ap (λ (s : A). after s (worked_of k q (input_in c K ts ns bs es r w) n) (lasts_to (input_in c K ts ns bs es r w) n)) starts
      where
        after : A → AnyWorked A → List Last → AnyWorked A
        after s d ls =
            let ps = predecessors (edges_of es) n in
            let v = run_any k c.ways c.sets K ts (last_before ls ps) (run_of (input_of c K ts ns bs es) n) (enter_any k (behind (joins_to (edges_of es) n) q) K s d ps) in
            record { tables = d.tables ++ (v.table ∷ []); aside = v.aside }

  pub same_worked : (q : Entries) (n : ℕ) → worked_by q (input_of c K ts ns bs es) n ≡ worked_by q (input_in c K ts ns bs es r w) n
  unfolding at_start
  same_worked q n = same_worked_any states refl q n

  pub same_fit : (q : Entries) (n : ℕ) → all_fit q (input_of c K ts ns bs es) n ≡ all_fit q (input_in c K ts ns bs es r w) n
  unfolding all_fit_of
  same_fit q zero = refl
  same_fit q (suc n) =
      ap₂ (λ (b : Bool) (d : Worked). b && enter_fits (behind (joins_to (edges_of es) n) q) K d (predecessors (edges_of es) n)) (same_fit q n) (same_worked q n)

  pub same_finished : finished (input_of c K ts ns bs es) ≡ finished (input_in c K ts ns bs es r w)
  unfolding finished_of
  same_finished = ap (λ (d : Worked). record { table = table_at d (length ns - 1); aside = d.aside }) (same_worked no_pairings (length ns))

  module _ (result : 64 ≤ r) (working : 5184 ≤ w) where
    same_verdict : verdict (input_of c K ts ns bs es) ≡ verdict (input_in c K ts ns bs es r w)
    unfolding verdict reasons
    same_verdict = go (outside 1 64 K) refl
      where
        go : (b : Bool) → outside 1 64 K ≡ b → verdict (input_of c K ts ns bs es) ≡ verdict (input_in c K ts ns bs es r w)
        go true e = rw e
        go false e =
            let few : K ≤ 64 = (within 1 64 K e).1 in
            rw (le-ltb K K (le_refl K), le-ltb r K (omega arith), le-ltb w 5184 working)

    pub same_outcome : outcome (input_of c K ts ns bs es) ≡ outcome (input_in c K ts ns bs es r w)
    unfolding outcome
    same_outcome =
        ap (λ (v : Verdict). answered v (input_of c K ts ns bs es)) same_verdict
        ∙ answered_alike (verdict (input_in c K ts ns bs es r w)) (input_of c K ts ns bs es) (input_in c K ts ns bs es r w) same_finished
