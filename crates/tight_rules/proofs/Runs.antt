-- A run, accounted for from its first access to its last: what the table it starts from is worth along its accesses, against N ^ (its length) times what the table it
-- ends in is worth. Each access is one factor N.
use Rattle.std.specs.Prelude.{Some}
use mathlib.Core.Path.{◌≡◌, ap, ◌∙◌}
use mathlib.Core.Logic.{◌⊎◌, inl, inr}
use mathlib.Core.List.{List, [], ◌∷◌}
use Prim.Native.Nat.{ℕ, suc, ◌+◌, ◌*◌, ◌^◌, ◌≤◌, ◌<◌}
use native.Mathlib.Nat.{mul-le-mul_left, pow-zero, pow-succ'}
use native.Mathlib.Omega.{arith}
use lib.ListN.{length}
use Rattle.rules.specs.declared.Target.{Target}
use Rattle.rules.specs.Units.{whole}
use Rattle.rules.specs.Contents.{find, with, target_of, Last}
use Rattle.rules.specs.Table.{total}
use Rattle.rules.specs.Step.{access_aside}
use Rattle.rules.specs.Shape.{Aimed}
use Rattle.rules.proofs.Splitting.{more_stops, more_cases}
use Rattle.rules.proofs.Contents.{with_keeps, with_new}
use Rattle.rules.proofs.Sets.{aimed}
use Rattle.rules.proofs.Table.{Weight}
use Rattle.rules.proofs.Step.{ahead, access_total}
use Rattle.rules.proofs.Run.{fits_shaped, access_shaped}
use Rattle.promises.proofs.Value.{value, ahead_rises, ahead_most, targets_of}
use Rattle.promises.proofs.Accesses.{access_low, access_high}
use Rattle.tight_rules.specs.Rows.{Rows, narrowed}
use Rattle.tight_rules.specs.Reduction.{reduced}
use Rattle.tight_rules.specs.Ends.{ends}
use Rattle.tight_rules.specs.Run.{living, alive, stepped, advance, run}
use Rattle.tight_rules.proofs.Dead.{Deaf, deaf_wider, ahead_deaf}
use Rattle.tight_rules.proofs.Moves.{Fit, worth_of_all, Good, Sure, sure_onward, sure_narrowed, sure_reduced, sure_ends, sure_evened}

-- ---- one access

module _ (N Z : ℕ) (ts : List ℕ) (some : 0 < N) (few : N ≤ 16) (M : ℕ) (x : Target) (aim : Aimed Z ts x) (r : Rows) (fit : Fit N Z ts M r) where
  -- after document 01's step
  abbrev pub after : Rows
  after = record { kept = stepped N x r.kept; lost = r.lost }

  full : total r.kept.table ≤ whole
  full = omega (arith, fit.full)

  pub after_fit : Fit N Z ts (suc M) after
  unfolding stepped
  after_fit =
      record {
        shaped = access_shaped N Z ts M x some few aim r.kept.table fit.shaped;
        full = ap (◌+ r.lost) (access_total N x some r.kept.table (fits_shaped N Z ts M r.kept.table fit.shaped few x aim) full) ∙ fit.full;
      }

  module _ (f : Weight) (B : ℕ) (good : Good N Z ts f B) (L : ℕ) where
    -- what comes after the step
    pub settles : (K W k : ℕ) → Sure N Z ts (suc M) f B good L after (advance N K W k x L r)
    unfolding advance
    settles K W k =
        let a = sure_narrowed N Z ts (suc M) f B good L after.kept r.lost after_fit in
        let b = sure_reduced N Z ts (suc M) f B good L K k (alive L x.place) (narrowed L after.kept) r.lost a.fit in
        let red : Rows = record { kept = reduced K k (alive L x.place) (narrowed L after.kept); lost = r.lost } in
        let c = sure_ends N Z ts (suc M) f B good L W red b.fit in
        let d = sure_evened N Z ts (suc M) f B good L (ends W red).kept (ends W red).lost c.fit in
        sure_onward N Z ts (suc M) f B good L after (ends W red) _
        (sure_onward N Z ts (suc M) f B good L after red (ends W red)
        (sure_onward N Z ts (suc M) f B good L after (record { kept = narrowed L after.kept; lost = r.lost }) red a b) c) d

    pub advance_low : (K W k : ℕ) → worth_of_all (ahead N x f) (N * B) r ≤ N * worth_of_all f B (advance N K W k x L r)
    unfolding stepped
    advance_low K W k =
        omega (arith, access_low N Z ts M x aim some few r.kept.table fit.shaped full f good.rises, mul-le-mul_left N (settles K W k).low)

    pub advance_high : (K W k : ℕ) → Deaf N Z ts L f
        → ((advance N K W k x L r).kept.aside ≡ whole)
        ⊎ (N * worth_of_all f B (advance N K W k x L r) + N * (r.kept.aside * B) ≤ worth_of_all (ahead N x f) (N * B) r + N * ((advance N K W k x L r).kept.aside * B))
    unfolding stepped
    advance_high K W k deaf = go (more_cases r.kept.aside (access_aside N x r.kept.table)) ((settles K W k).high deaf)
      where
        v : Rows
        v = advance N K W k x L r

        go : (after.kept.aside ≡ whole) ⊎ (after.kept.aside ≡ r.kept.aside + access_aside N x r.kept.table)
            → (v.kept.aside ≡ whole) ⊎ (worth_of_all f B v + after.kept.aside * B ≤ worth_of_all f B after + v.kept.aside * B)
            → (v.kept.aside ≡ whole) ⊎ (N * worth_of_all f B v + N * (r.kept.aside * B) ≤ worth_of_all (ahead N x f) (N * B) r + N * (v.kept.aside * B))
        go (inl e) h = inl ((settles K W k).stopped e)
        go (inr e) (inl h) = inl h
        go (inr e) (inr h) =
            inr (omega (
              arith,
              mul-le-mul_left N h,
              ap (λ (a : ℕ). N * (a * B)) e,
              access_high N Z ts M x aim some few r.kept.table fit.shaped full f B good.most,
            ))

    pub advance_stopped : (K W k : ℕ) → r.kept.aside ≡ whole → (advance N K W k x L r).kept.aside ≡ whole
    unfolding stepped
    advance_stopped K W k e = (settles K W k).stopped (more_stops r.kept.aside (access_aside N x r.kept.table) (omega arith))

-- ---- a weight before a run

module _ (N Z : ℕ) (ts : List ℕ) (few : N ≤ 16) (sets : 0 < Z) (few_sets : Z ≤ 16) where
  -- before the accesses bs, where p was accessed directly before
  abbrev pub before : Last → List ℕ → Weight → Weight
  before p bs f = value f N (targets_of Z ts p bs)

  pub good_before : (f : Weight) (B : ℕ) → Good N Z ts f B → (p : Last) (bs : List ℕ) → Good N Z ts (before p bs f) (N ^ length bs * B)
  unfolding value
  good_before f B good p [] = rw (pow-zero N, one_times B) good
    where
      one_times : (n : ℕ) → 1 * n ≡ n
      one_times n = omega arith
  good_before f B good p (b ∷ bs) =
      rw (pow-succ' N (length bs), regroup (N ^ length bs)) (step (good_before f B good (Some b) bs))
    where
      regroup : (n : ℕ) → N * n * B ≡ N * (n * B)
      regroup n = omega arith

      aim : Aimed Z ts (target_of Z ts p b)
      aim = aimed Z ts sets few_sets p b

      step : {g : Weight} {D : ℕ} → Good N Z ts g D → Good N Z ts (λ C m F. ahead N (target_of Z ts p b) g C m F) (N * D)
      step {g} {D} h =
          record {
            rises = ahead_rises N Z ts few (target_of Z ts p b) aim g h.rises;
            most = ahead_most N Z ts few (target_of Z ts p b) aim g D h.most;
          }

  -- what is accessed in bs is live before it
  pub deaf_before : (f : Weight) (B : ℕ) → Good N Z ts f B → (L : ℕ) → Deaf N Z ts L f → (p : Last) (bs : List ℕ) → Deaf N Z ts (living ts L bs) (before p bs f)
  unfolding value living target_of
  deaf_before f B good L deaf p [] = deaf
  deaf_before f B good L deaf p (b ∷ bs) =
      ahead_deaf N Z ts few (target_of Z ts p b) (aimed Z ts sets few_sets p b) (with (living ts L bs) (find ts b))
      (λ i e. rw e (with_new (living ts L bs) i)) (before (Some b) bs f) (good_before f B good (Some b) bs).rises
      (deaf_wider N Z ts (living ts L bs) (with (living ts L bs) (find ts b)) (before (Some b) bs f) (λ i h. with_keeps (living ts L bs) (find ts b) i h)
      (good_before f B good (Some b) bs).rises (deaf_before f B good L deaf (Some b) bs))

-- ---- a run

module _ (N Z K W : ℕ) (ts : List ℕ) (some : 0 < N) (few : N ≤ 16) (sets : 0 < Z) (few_sets : Z ≤ 16) (L : ℕ) where
  abbrev ran : Last → List ℕ → Rows → Rows
  ran p bs r = run N Z K W ts L p bs r

  -- after the first of the accesses b and bs
  abbrev next : Last → ℕ → List ℕ → Rows → Rows
  next p b bs r = advance N K W (length ts) (target_of Z ts p b) (living ts L bs) r

  abbrev prior : Last → List ℕ → Weight → Weight
  prior p bs f = before N Z ts few sets few_sets p bs f

  aim : (p : Last) (b : ℕ) → Aimed Z ts (target_of Z ts p b)
  aim p b = aimed Z ts sets few_sets p b

  module _ (f : Weight) (B : ℕ) (good : Good N Z ts f B) where
    -- what the rest of the run is to be worth
    rest : (b : ℕ) (bs : List ℕ) → Good N Z ts (prior (Some b) bs f) (N ^ length bs * B)
    rest b bs = good_before N Z ts few sets few_sets f B good (Some b) bs

    pub next_fit : (M : ℕ) (p : Last) (b : ℕ) (bs : List ℕ) (r : Rows) → Fit N Z ts M r → Fit N Z ts (suc M) (next p b bs r)
    next_fit M p b bs r fit =
        (settles N Z ts some few M (target_of Z ts p b) (aim p b) r fit (prior (Some b) bs f) (N ^ length bs * B) (rest b bs) (living ts L bs) K W (length ts)).fit

    pub run_fit : (M : ℕ) (p : Last) (bs : List ℕ) (r : Rows) → Fit N Z ts M r → Fit N Z ts (length bs + M) (ran p bs r)
    unfolding run
    run_fit M p [] r fit = rw (none M) fit
      where
        none : (n : ℕ) → 0 + n ≡ n
        none n = omega arith
    run_fit M p (b ∷ bs) r fit = rw (shift (length bs)) (run_fit (suc M) (Some b) bs (next p b bs r) (next_fit M p b bs r fit))
      where
        shift : (n : ℕ) → suc n + M ≡ n + suc M
        shift n = omega arith

    pub run_low : (M : ℕ) (p : Last) (bs : List ℕ) (r : Rows) → Fit N Z ts M r
        → worth_of_all (prior p bs f) (N ^ length bs * B) r ≤ N ^ length bs * worth_of_all f B (ran p bs r)
    unfolding run value
    run_low M p [] r fit = rw (pow-zero N) (omega arith)
    run_low M p (b ∷ bs) r fit =
        rw (pow-succ' N (length bs))
        (omega (
          arith,
          advance_low N Z ts some few M (target_of Z ts p b) (aim p b) r fit (prior (Some b) bs f) (N ^ length bs * B) (rest b bs) (living ts L bs) K W (length ts),
          mul-le-mul_left N (run_low (suc M) (Some b) bs (next p b bs r) (next_fit M p b bs r fit)),
        ))

    run_stopped : (M : ℕ) (p : Last) (bs : List ℕ) (r : Rows) → Fit N Z ts M r → r.kept.aside ≡ whole → (ran p bs r).kept.aside ≡ whole
    unfolding run
    run_stopped M p [] r fit e = e
    run_stopped M p (b ∷ bs) r fit e =
        run_stopped (suc M) (Some b) bs (next p b bs r) (next_fit M p b bs r fit)
        (advance_stopped N Z ts some few M (target_of Z ts p b) (aim p b) r fit (prior (Some b) bs f) (N ^ length bs * B) (rest b bs) (living ts L bs) K W (length ts) e)

    pub run_high : (M : ℕ) (p : Last) (bs : List ℕ) (r : Rows) → Fit N Z ts M r → Deaf N Z ts L f
        → ((ran p bs r).kept.aside ≡ whole)
        ⊎ (N ^ length bs * worth_of_all f B (ran p bs r) + r.kept.aside * (N ^ length bs * B)
        ≤ worth_of_all (prior p bs f) (N ^ length bs * B) r + (ran p bs r).kept.aside * (N ^ length bs * B))
    unfolding run value
    run_high M p [] r fit deaf = inr (rw (pow-zero N) (omega arith))
    run_high M p (b ∷ bs) r fit deaf =
        go (advance_high N Z ts some few M (target_of Z ts p b) (aim p b) r fit g D (rest b bs) (living ts L bs) K W (length ts)
        (deaf_before N Z ts few sets few_sets f B good L deaf (Some b) bs))
        (run_high (suc M) (Some b) bs v (next_fit M p b bs r fit) deaf)
      where
        v : Rows
        v = next p b bs r

        z : Rows
        z = ran (Some b) bs v

        g : Weight
        g = prior (Some b) bs f

        D : ℕ
        D = N ^ length bs * B

        go : (v.kept.aside ≡ whole)
            ⊎ (N * worth_of_all g D v + N * (r.kept.aside * D) ≤ worth_of_all (ahead N (target_of Z ts p b) g) (N * D) r + N * (v.kept.aside * D))
            → (z.kept.aside ≡ whole)
            ⊎ (N ^ length bs * worth_of_all f B z + v.kept.aside * D ≤ worth_of_all g D v + z.kept.aside * D)
            → (z.kept.aside ≡ whole)
            ⊎ (N ^ suc (length bs) * worth_of_all f B z + r.kept.aside * (N ^ suc (length bs) * B)
            ≤ worth_of_all (ahead N (target_of Z ts p b) g) (N ^ suc (length bs) * B) r + z.kept.aside * (N ^ suc (length bs) * B))
        go (inl e) h = inl (run_stopped (suc M) (Some b) bs v (next_fit M p b bs r fit) e)
        go (inr y) (inl h) = inl h
        go (inr y) (inr h) = inr (rw (pow-succ' N (length bs)) (omega (arith, y, mul-le-mul_left N h)))
