-- The lines of the cores, put one core behind the other: that no number in them wraps, and what is put after some of them.
use mathlib.Core.Path.{◌≡◌, sym, ap}
use mathlib.Core.List.{List, ◌++◌}
use Prim.Native.Nat.{ℕ, ◌+◌, ◌-◌, ◌*◌, ◌≤◌, ◌<◌}
use native.Mathlib.Nat.{le_of_lt, mul-le-mul}
use native.Mathlib.Numerals.{add-one}
use native.Mathlib.Omega.{arith}
use lib.ListN.{length}
use Rattle.rules.specs.declared.Core.{Core}
use Rattle.rules.specs.Units.{whole}
use Rattle.rules.specs.Cycles.{cores, core_at}
use Rattle.rules.proofs.Cycles.{miss_above_hit_lem, small_cycles}
use Rattle.writing.specs.Put.{Put}
use Rattle.writing.proofs.Putting.{put_is, put_none, put_then}
use Rattle.lines.specs.Lines.{lines_below}
use Rattle.lines.specs.Cores.{core_line}
use Rattle.lines.specs.Counts.{count_lines, core_counts}

-- ---- one core

module _ (k : ℕ) (known : k < 12) (L : ℕ) (path : L ≤ 4294967295) (c : Core) (is : c ≡ core_at k) where
  pub hit_no_dearer : c.hit ≤ c.miss
  unfolding cores
  hit_no_dearer = rw is (le_of_lt (miss_above_hit_lem k known))

  pub hits_fit : L * c.hit ≤ 4294967295 * 100
  hits_fit = rw is (mul-le-mul path (small_cycles k).0)

  pub numbers_fit : (us : List ℕ) → length us ≤ 4097 → L * c.hit + length us * (c.miss - c.hit) ≤ 18446744073709551615
  numbers_fit us few =
      let extra : c.miss - c.hit ≤ 100 = rw is (omega (arith, (small_cycles k).1)) in
      omega (arith, hits_fit, mul-le-mul few extra)

  pub core_put : (us : List ℕ) (at r : ℕ) (o o₁ : List ℕ) → Put (core_line k c ++ count_lines (L * c.hit) (c.miss - c.hit) 0 whole us) at r o o₁
      → Put (core_counts L us k) at r o o₁
  unfolding core_counts
  core_put us at r o o₁ done = rw is at done

-- ---- one behind the other

module _ (L : ℕ) (us : List ℕ) where
  pub cores_none : (at : ℕ) (o : List ℕ) → Put (lines_below (core_counts L us) 0) at at o o
  unfolding lines_below
  cores_none at o = put_none at o

  -- the lines of the cores before core n are put, and end at e
  pub cores_more : (at n e : ℕ) (o o₁ : List ℕ) → Put (lines_below (core_counts L us) n) at e o o₁ → (e₂ : ℕ) (o₂ : List ℕ) → Put (core_counts L us n) e e₂ o₁ o₂
      → Put (lines_below (core_counts L us) (n + 1)) at e₂ o o₂
  unfolding lines_below
  cores_more at n e o o₁ so_far e₂ o₂ next =
      put_is _ _ at e₂ o o₂ (put_then (lines_below (core_counts L us) n) at e o o₁ so_far (core_counts L us n) e₂ o₂ next) (ap (lines_below (core_counts L us)) (sym (add-one n)))
