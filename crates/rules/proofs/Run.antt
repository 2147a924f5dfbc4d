-- What every table of the work is: rising, at most K states, each in shape, units totalling WHOLE. The start is one, and an access
-- with its folds, a run and a join with its folds make one of one.
use mathlib.Core.List.{List, [], flat_map}
use Prim.Native.Nat.{ℕ, suc, ◌+◌, ◌*◌, ◌≤◌, ◌<◌, suc-le-suc}
use native.Mathlib.Nat.{mul-le-mul}
use native.Mathlib.Omega.{arith}
use lib.ListN.{length}
use Rattle.rules.specs.Units.{whole}
use Rattle.rules.specs.Contents.{Target, Last, size}
use Rattle.rules.specs.Filling.{Filled, filled_at}
use Rattle.rules.specs.AnyTable.{access as access_of, advance as advance_of}
use Rattle.rules.specs.Table.{State, begin, initial, present, Work}
use Rattle.rules.specs.Step.{at_risk, successors, access}
use Rattle.rules.specs.Fold.{states}
use Rattle.rules.specs.Run.{advance, run}
use Rattle.rules.specs.Shape.{Every, Aimed, Loose, Shaped, Table}
use Rattle.rules.proofs.Lists.{every_weaker}
use Rattle.rules.proofs.Splitting.{more_most}
use Rattle.rules.proofs.Sets.{aimed, room_risk}
use Rattle.rules.proofs.Table.{states_lawful, Rising, length_add}
use Rattle.rules.proofs.Step.{Fits, successors_loose, one_total, length_access}
use Rattle.rules.proofs.Fold.{folded_aside, states_keep, states_start}
use Rattle.rules.proofs.AnyTable.{Follows, shaped_access, rising_access as rising_access_any, sound_wider, sound_start, sound_advance, sound_run}

pub fits_shaped : (N Z : ℕ) (ts : List ℕ) (M : ℕ) (T : List State) → Every (Shaped N Z ts M) T → N ≤ 16 → (x : Target) → Aimed Z ts x → Fits N x T
fits_shaped N Z ts M T h few x aim =
    every_weaker (Shaped N Z ts M) (λ s. size (at_risk N x s.filled s.mask) ≤ N) (λ s p. room_risk N Z ts few x aim s.mask s.filled p.0.small) T h

pub table_fits : (N Z : ℕ) (ts : List ℕ) (K M : ℕ) (T : List State) → Table N Z ts K M T → N ≤ 16 → (x : Target) → Aimed Z ts x → Fits N x T
table_fits N Z ts K M T t few x aim = fits_shaped N Z ts M T t.shaped few x aim

-- what follows a state at an access is in shape, and all its units go on
pub states_follow : (N Z : ℕ) (ts : List ℕ) → 0 < N → N ≤ 16 → Follows states N (Aimed Z ts) (Loose N Z ts)
states_follow N Z ts some few =
    record {
      keeps = states_keep N Z ts;
      after = λ M x s aim h. successors_loose N Z ts M x some few aim s h;
      totals = λ M x s aim h. one_total N x some s (room_risk N Z ts few x aim s.mask s.filled h.small);
    }

pub advance_aside : (N K : ℕ) (x : Target) (w : Work) → (advance N K x w).aside ≤ whole
unfolding advance_of
advance_aside N K x w = folded_aside K _ (more_most _ _)

pub access_shaped : (N Z : ℕ) (ts : List ℕ) (M : ℕ) (x : Target) → 0 < N → N ≤ 16 → Aimed Z ts x → (T : List State) → Every (Shaped N Z ts M) T
    → Every (Shaped N Z ts (suc M)) (access N x T)
access_shaped N Z ts M x some few aim T h = shaped_access (states_follow N Z ts some few) M x aim T h

pub table_wider : (N Z : ℕ) (ts : List ℕ) (K M L : ℕ) (T : List State) → M ≤ L → Table N Z ts K M T → Table N Z ts K L T
table_wider N Z ts K M L T l t = sound_wider (states_keep N Z ts) K M L T l t

module _ (N Z : ℕ) (ts : List ℕ) (K : ℕ) (some : 0 < N) (few : N ≤ 16) (room : 0 < K) where
  pub table_begin : (F : Filled) → ((j : ℕ) → filled_at F j ≤ N) → Table N Z ts K 0 (begin F)
  table_begin F most = sound_start (states_keep N Z ts) K room (initial F) (states_start N Z ts F most)

  pub rising_access : (x : Target) (T : List State) → Rising (access N x T)
  rising_access x T = rising_access_any states states_lawful (successors N x) T

  pub table_advance : (M : ℕ) (x : Target) (w : Work) → Aimed Z ts x → Table N Z ts K M w.table → Table N Z ts K (suc M) (advance N K x w).table
  table_advance M x w l t = sound_advance (states_follow N Z ts some few) K room M x w l t

-- an access lists at most 17 × K states before adding, and so gives no more
pub access_room : (N Z : ℕ) (ts : List ℕ) (K M : ℕ) (x : Target) (T : List State) → N ≤ 16 → Aimed Z ts x → Table N Z ts K M T → length (present (flat_map (successors N x) T)) ≤ 17 * K
access_room N Z ts K M x T few aim t =
    omega (arith, length_access N x T (table_fits N Z ts K M T t few x aim), mul-le-mul t.short (suc-le-suc few))

pub access_length : (N Z : ℕ) (ts : List ℕ) (K M : ℕ) (x : Target) (T : List State) → N ≤ 16 → Aimed Z ts x → Table N Z ts K M T → length (access N x T) ≤ 17 * K
unfolding access_of
access_length N Z ts K M x T few aim t = omega (arith, length_add (flat_map (successors N x) T) [], access_room N Z ts K M x T few aim t)

module _ (N Z K : ℕ) (ts : List ℕ) (some : 0 < N) (few : N ≤ 16) (sets : 0 < Z) (few_sets : Z ≤ 16) (room : 0 < K) where
  pub table_run : (M : ℕ) (l : Last) (bs : List ℕ) (w : Work) → Table N Z ts K M w.table
      → Table N Z ts K (length bs + M) (run N Z K ts l bs w).table
  table_run M l bs w t = sound_run (states_follow N Z ts some few) K room Z ts (aimed Z ts sets few_sets) M l bs w t
