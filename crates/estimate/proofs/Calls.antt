-- What a call leaves: the finished table is that of the last slot, and the entries for its joins have the form or not. The answers are in calls/proofs/Leaving.
use Rattle.std.specs.Prelude.{Err, Ok}
use mathlib.Core.Path.{◌≡◌, refl, sym, ap, ◌∙◌}
use mathlib.Core.Bool.{Bool, true, false}
use mathlib.Core.List.{List, []}
use Prim.Native.Nat.{ℕ, ◌-◌, ◌/◌, ◌≤◌, ◌<◌}
use native.Mathlib.Omega.{arith}
use lib.ListN.{length, replicate}
use Rattle.rules.specs.declared.Cache.{Cache}
use Rattle.rules.specs.declared.State.{State}
use Rattle.rules.specs.declared.Units.{Units}
use Rattle.rules.specs.declared.Refusal.TheVariants.{Pairing}
use Rattle.rules.specs.Input.{Input, input_of, nodes, edges_of, joins_to}
use Rattle.rules.specs.AnyTable.{Entries, finished_by as finished_any}
use Rattle.rules.specs.Graph.{Worked, table_at, worked_by, finished_by, all_fit}
use Rattle.rules.specs.Entries.{rows_told, entry_of, in_form, joins_of, entries_fit}
use Rattle.rules.proofs.Refusals.{Checked}
use Rattle.rules.proofs.Rooms.{same_worked, same_fit}
use Rattle.rules.proofs.Entries.{Formed, formed}
use Rattle.rules.proofs.Graph.{finished_table, node_table_lem}
use Rattle.estimate.specs.Rooms.{table_in, worked_in}
use Rattle.rules.specs.Refusals.{verdict}
use Rattle.calls.proofs.Leaving.{leaves_unfit, leaves_paired}
use Rattle.estimate.specs.Call.{handed, closed, analysed_paired}
use Rattle.rules.specs.Table.{listing}
use Rattle.tables.proofs.Nodes.{tables_in_at}

-- the last slot holds the finished table
module _ (c : Cache) (K : ℕ) (ts ns bs es rs ws : List ℕ) (a : ℕ) (T : List State) (some : 0 < length ns)
    (q : Entries) (done : worked_in (length ns) a T ≡ worked_by q (input_of c K ts ns bs es) (length ns)) where
  pub last_table : table_in (length ns - 1) T ≡ (finished_by q (handed c K ts ns bs es rs ws)).table
  unfolding finished_any
  last_table =
      sym (tables_in_at listing (length ns) T (length ns - 1) (omega arith))
      ∙ ap (λ (d : Worked). table_at d (length ns - 1)) (done ∙ same_worked c K ts ns bs es (length rs / 5) (length ws / 5) q (length ns))

  pub last_aside : a ≡ (finished_by q (handed c K ts ns bs es rs ws)).aside
  unfolding finished_any
  last_aside = ap (λ (d : Worked). d.aside) (done ∙ same_worked c K ts ns bs es (length rs / 5) (length ws / 5) q (length ns))

-- which the result room has room for
pub finished_fits : (q : Entries) (i : Input) → Checked i → length (finished_by q i).table ≤ i.limit
finished_fits q i ok = rw (finished_table q i ok.some_nodes) (node_table_lem q i ok (nodes i - 1) (omega (arith, ok.some_nodes))).short

-- ---- with pairings

-- the entries have the form or not, and are accepted or not
module _ (c : Cache) (K : ℕ) (ts ns bs es qs ps rs ws : List ℕ) where
  abbrev input : Input
  input = handed c K ts ns bs es rs ws

  pub unformed : (f : Bool) → f ≡ in_form (joins_of input) qs ps → f ≡ false → entries_fit input qs ps ≡ false
  unfolding entries_fit
  unformed f e z = rw (← e, z)

  pub fit_so : (f g : Bool) → f ≡ in_form (joins_of input) qs ps → f ≡ true → g ≡ all_fit (entry_of qs ps) (input_of c K ts ns bs es) (length ns) → entries_fit input qs ps ≡ g
  unfolding entries_fit
  fit_so f g e z h = rw (← e, z) (sym (h ∙ same_fit c K ts ns bs es (length rs / 5) (length ws / 5) (entry_of qs ps) (length ns)))

  -- what the end of the call leaves is what the call leaves
  pub closed_leaves : (f : Bool) (T : List State) (a : Units) (k : ℕ) → Ok tt ≡ verdict input → entries_fit input qs ps ≡ f → T ≡ (finished_by (entry_of qs ps) input).table
      → a.0 ≡ (finished_by (entry_of qs ps) input).aside → k ≡ length ws → closed f T a rs k ≡ analysed_paired c K ts ns bs es qs ps rs ws
  closed_leaves true T a k v f t b e = leaves_paired c K ts ns bs es qs ps rs ws (length T) a.0 T _ _ v f t b refl refl (ap (λ (n : ℕ). replicate n 0) e)
  closed_leaves false T a k v f t b e = leaves_unfit c K ts ns bs es qs ps rs ws (Err Pairing) _ v f refl (ap (λ (n : ℕ). replicate n 0) e)

-- no entries at all have the form
pub no_form : Formed 0 [] []
unfolding rows_told
no_form = record { each = refl; few = refl; all = refl }

-- the joins are counted, and the form is that of the call
pub form_of : (joins : ℕ) (es ns qs ps : List ℕ) {f : Bool} → joins ≡ joins_to (edges_of es) (length ns) → f ≡ in_form joins qs ps → f ≡ in_form (joins_to (edges_of es) (length ns)) qs ps
form_of joins es ns qs ps e h = h ∙ ap (λ (k : ℕ). in_form k qs ps) e

pub formed_so : (joins : ℕ) (qs ps : List ℕ) (f : Bool) → f ≡ in_form joins qs ps → f ≡ true → Formed (length qs) qs ps
formed_so joins qs ps f e t =
    let g = formed joins qs ps (sym e ∙ t) in
    record { each = refl; few = g.few; all = g.all }
