-- A run, accounted for from its first access to its last: what the table it starts from is worth along its accesses, against
-- N ^ (its length) times what the table it ends in is worth. Each access is one factor N.
use Rattle.std.specs.Prelude.{Some}
use mathlib.Core.Path.{◌≡◌, ap, ◌∙◌}
use mathlib.Core.Logic.{◌⊎◌, inl, inr}
use mathlib.Core.List.{List, [], ◌∷◌}
use Prim.Native.Nat.{ℕ, suc, ◌+◌, ◌*◌, ◌^◌, ◌≤◌, ◌<◌}
use native.Mathlib.Nat.{le_trans, le_of_eq, mul-le-mul_left, pow-zero, pow-succ'}
use native.Mathlib.Omega.{arith}
use lib.ListN.{length}
use Rattle.rules.specs.declared.Target.{Target}
use Rattle.rules.specs.declared.Filled.{Filled}
use Rattle.rules.specs.Units.{whole, more}
use Rattle.rules.specs.Contents.{target_of, Last}
use Rattle.rules.specs.AnyTable.{advance as advance_of, run as run_of_any}
use Rattle.rules.specs.Table.{total, Work}
use Rattle.rules.specs.Step.{access, access_aside}
use Rattle.rules.specs.Run.{advance, run}
use Rattle.rules.specs.Shape.{Every, Aimed, Room, Shaped, Table}
use Rattle.rules.proofs.Splitting.{more_stops, more_cases}
use Rattle.rules.proofs.Sets.{aimed}
use Rattle.rules.proofs.Table.{Weight, worth}
use Rattle.rules.proofs.Step.{ahead, access_total}
use Rattle.rules.proofs.Run.{access_shaped, table_fits, table_advance}
use Rattle.promises.proofs.Value.{value, value_most, targets_of, all_aimed, length_targets}
use Rattle.promises.proofs.Accesses.{access_high, access_even}
use Rattle.promises.proofs.Folds.{aside_none, Kept, kept_folded}

-- ---- one access with its folds

module _ (N Z : ℕ) (ts : List ℕ) (K M : ℕ) (x : Target) (some : 0 < N) (few : N ≤ 16) (aim : Aimed Z ts x) (w : Work) (t : Table N Z ts K M w.table) where
  -- after the access, before the folds
  abbrev stepped : Work
  stepped = record { table = access N x w.table; aside = more w.aside (access_aside N x w.table) }

  kept : Kept N Z ts (suc M) stepped (advance N K x w)
  unfolding advance_of
  kept = kept_folded N Z ts (suc M) K stepped

  full : total w.table ≤ whole
  full = omega (arith, t.full)

  after : Every (Shaped N Z ts (suc M)) (access N x w.table) × (total (access N x w.table) ≤ whole)
  after = (
    access_shaped N Z ts M x some few aim w.table t.shaped,
    le_trans (le_of_eq (access_total N x some w.table (table_fits N Z ts K M w.table t few x aim) full)) full,
  )

  pub advance_stopped : w.aside ≡ whole → (advance N K x w).aside ≡ whole
  advance_stopped e = kept.stopped (more_stops w.aside (access_aside N x w.table) (omega arith))

  -- unless the count has stopped
  pub advance_high : (f : Weight) (B : ℕ) → ((C m : ℕ) (F : Filled) → Room N Z ts C F → f C m F ≤ B)
      → ((advance N K x w).aside ≡ whole)
      ⊎ (N * worth f (advance N K x w).table + N * (w.aside * B) ≤ worth (ahead N x f) w.table + N * ((advance N K x w).aside * B))
  advance_high f B most = go (more_cases w.aside (access_aside N x w.table)) (kept.high f B most after)
    where
      v : Work
      v = advance N K x w

      go : (stepped.aside ≡ whole) ⊎ (stepped.aside ≡ w.aside + access_aside N x w.table)
          → (v.aside ≡ whole) ⊎ (worth f v.table + stepped.aside * B ≤ worth f stepped.table + v.aside * B)
          → (v.aside ≡ whole) ⊎ (N * worth f v.table + N * (w.aside * B) ≤ worth (ahead N x f) w.table + N * (v.aside * B))
      go (inl e) h = inl (kept.stopped e)
      go (inr e) (inl h) = inl h
      go (inr e) (inr h) =
          inr (omega (
            arith,
            mul-le-mul_left N h,
            ap (λ (a : ℕ). N * (a * B)) e,
            access_high N Z ts M x aim some few w.table t.shaped full f B most,
          ))

  pub advance_even : (advance N K x w).aside ≡ 0
      → (w.aside ≡ 0) × ((f : Weight) → N * worth f (advance N K x w).table ≡ worth (ahead N x f) w.table)
  advance_even e =
      let (p, same) = kept.even after e in
      let (q, none) = aside_none w.aside (access_aside N x w.table) p in
      (q, λ f. ap (N *◌) (same f) ∙ access_even N Z ts M x aim some few w.table t.shaped full f none)

-- ---- a run

module _ (N Z K : ℕ) (ts : List ℕ) (some : 0 < N) (few : N ≤ 16) (sets : 0 < Z) (few_sets : Z ≤ 16) (room : 0 < K) where
  aim : (l : Last) (b : ℕ) → Aimed Z ts (target_of Z ts l b)
  aim l b = aimed Z ts sets few_sets l b

  -- what the accesses to bs are after, and the run over them, where l was accessed directly before
  abbrev to : Last → List ℕ → List Target
  to l bs = targets_of Z ts l bs

  abbrev ran : Last → List ℕ → Work → Work
  ran l bs w = run N Z K ts l bs w

  next : (M : ℕ) (l : Last) (b : ℕ) (w : Work) → Table N Z ts K M w.table → Table N Z ts K (suc M) (advance N K (target_of Z ts l b) w).table
  next M l b w t = table_advance N Z ts K some few room M (target_of Z ts l b) w (aim l b) t

  run_stopped : (M : ℕ) (l : Last) (bs : List ℕ) (w : Work) → Table N Z ts K M w.table → w.aside ≡ whole → (ran l bs w).aside ≡ whole
  unfolding run_of_any
  run_stopped M l [] w t e = e
  run_stopped M l (b ∷ bs) w t e =
      run_stopped (suc M) (Some b) bs (advance N K (target_of Z ts l b) w) (next M l b w t)
      (advance_stopped N Z ts K M (target_of Z ts l b) some few (aim l b) w t e)

  pub run_high : (W : Weight) → ((C m : ℕ) (F : Filled) → W C m F ≤ 1) → (M : ℕ) (l : Last) (bs : List ℕ) (w : Work) → Table N Z ts K M w.table
      → ((ran l bs w).aside ≡ whole)
      ⊎ (N ^ length bs * worth W (ran l bs w).table + w.aside * N ^ length bs
      ≤ worth (value W N (to l bs)) w.table + (ran l bs w).aside * N ^ length bs)
  unfolding run_of_any value
  run_high W most M l [] w t = inr (rw (pow-zero N) (omega arith))
  run_high W most M l (b ∷ bs) w t =
      go (advance_high N Z ts K M (target_of Z ts l b) some few (aim l b) w t (value W N (to (Some b) bs)) (N ^ length bs) top)
      (run_high W most (suc M) (Some b) bs v (next M l b w t))
    where
      v : Work
      v = advance N K (target_of Z ts l b) w

      top : (C m : ℕ) (F : Filled) → Room N Z ts C F → value W N (to (Some b) bs) C m F ≤ N ^ length bs
      top C m F h = rw (length_targets Z ts (Some b) bs) at (value_most N Z ts few W most (to (Some b) bs) (all_aimed Z ts sets few_sets (Some b) bs) C m F h)

      z : Work
      z = ran (Some b) bs v

      go : (v.aside ≡ whole)
          ⊎ (N * worth (value W N (to (Some b) bs)) v.table + N * (w.aside * N ^ length bs)
          ≤ worth (value W N (to l (b ∷ bs))) w.table + N * (v.aside * N ^ length bs))
          → (z.aside ≡ whole)
          ⊎ (N ^ length bs * worth W z.table + v.aside * N ^ length bs ≤ worth (value W N (to (Some b) bs)) v.table + z.aside * N ^ length bs)
          → (z.aside ≡ whole)
          ⊎ (N ^ suc (length bs) * worth W z.table + w.aside * N ^ suc (length bs)
          ≤ worth (value W N (to l (b ∷ bs))) w.table + z.aside * N ^ suc (length bs))
      go (inl e) h = inl (run_stopped (suc M) (Some b) bs v (next M l b w t) e)
      go (inr g) (inl h) = inl h
      go (inr g) (inr h) = inr (rw (pow-succ' N (length bs)) (omega (arith, g, mul-le-mul_left N h)))

  pub run_even : (W : Weight) (M : ℕ) (l : Last) (bs : List ℕ) (w : Work) → Table N Z ts K M w.table → (ran l bs w).aside ≡ 0
      → (w.aside ≡ 0) × (N ^ length bs * worth W (ran l bs w).table ≡ worth (value W N (to l bs)) w.table)
  unfolding run_of_any value
  run_even W M l [] w t e = (e, rw (pow-zero N) (omega arith))
  run_even W M l (b ∷ bs) w t e =
      let v = advance N K (target_of Z ts l b) w in
      let (p, rest) = run_even W (suc M) (Some b) bs v (next M l b w t) e in
      let (q, here) = advance_even N Z ts K M (target_of Z ts l b) some few (aim l b) w t p in
      (q, rw (pow-succ' N (length bs)) (omega (arith, here (value W N (to (Some b) bs)), ap (N *◌) rest)))
