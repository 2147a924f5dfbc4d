-- An access from slot to slot is `advance` (tight_rules), and accesses one after the other are a run. What is set aside adds up: what is left over, what the plan sets aside and what the
-- row ends set aside. No more units are lost at an access than may leave, so that a table always has more than that.
use Rattle.std.specs.Prelude.{None, Some}
use mathlib.Core.Path.{◌≡◌, ap, subst, ◌∙◌}
use mathlib.Core.List.{List, [], ◌∷◌}
use Prim.Native.Nat.{ℕ, suc, ◌+◌, ◌^◌, ◌≤◌, ◌<◌}
use native.Mathlib.Omega.{arith}
use lib.ListN.{length}
use Rattle.rules.specs.declared.Target.{Target}
use Rattle.rules.specs.Contents.{target_of, Last}
use Rattle.rules.specs.Table.{Work}
use Rattle.rules.specs.Units.{whole, more}
use Rattle.rules.specs.Shape.{Aimed}
use Rattle.rules.proofs.Splitting.{more_adds, more_more}
use Rattle.rules.proofs.Questions.{smallest_serves}
use Rattle.tight_rules.specs.Rows.{Rows, narrowed}
use Rattle.tight_rules.specs.Ends.{allowance, cut, highest, ends}
use Rattle.tight_rules.specs.Run.{living, stepped, advance, run}
use Rattle.tight_rules.proofs.Moves.{Fit}
use Rattle.tight_rules.proofs.Few.{good_none}
use Rattle.tight_rules.proofs.Runs.{settles}
use Rattle.plan.specs.Plan.{units_at}
use Rattle.tight_rows.specs.Rows.{comes_to}
use Rattle.tight.specs.Accessed.{left_in_all, sum_for, Accessed, Holding, Advanced, Ran}
use Rattle.tight_ends.specs.Ended.{RowsEnded}
use Rattle.tight_rows.specs.Grid.{Grid, grid_of, rows_of}
use Rattle.tight_rows.specs.Room.{words_of}
use Rattle.tight_ends.specs.Stage.{groups_of}
use Rattle.tight.proofs.Accessed.{plan, sums, ends as ends_of, fit_from, reduces, reduced_rows, staged}
use Rattle.tight.proofs.Sent.{left_sent}

-- ---- one access

-- the row ends lose no more than may leave
ends_lost : (W : ℕ) (r : Rows) → (ends W r).lost ≤ r.lost + allowance
unfolding ends cut highest
ends_lost W r = omega (arith, smallest_serves allowance r.kept.table)

pub advance_lost : (N K W k : ℕ) (x : Target) (L : ℕ) (r : Rows) → (advance N K W k x L r).lost ≤ r.lost + allowance
unfolding advance
advance_lost N K W k x L r = ends_lost W _

module _ (N Z : ℕ) (ts : List ℕ) (K W M : ℕ) (some : 0 < N) (few : N ≤ 16) (two : 2 ≤ W) (short : M < 4294967296) (x : Target) (aim : Aimed Z ts x) (g : Grid) (holds : Holding N Z ts K W M g) (L : ℕ) (ws : List ℕ)
    (room : 2 ^ length ts + 2 ^ length ts ≤ length ws) (units : (C : ℕ) → C < 2 ^ length ts → units_at ws C ≡ sum_for N x g (comes_to L C)) (number : ℕ → ℕ) (at stage : ℕ) (xs ys : List ℕ)
    (so : Accessed (length ts) K N x L (sums N Z ts K W M some few x aim g holds L ws room units) (ends_of N Z ts K W M some few x aim g holds L ws room units) number g (grid_of K W at (words_of xs))
    (groups_of W stage (words_of xs))) (u : ℕ) (ended : RowsEnded K W at stage u xs ys) where
  -- what is set aside in all
  abbrev pub aside_of : ℕ
  aside_of = left_in_all N x g + (plan N Z ts K W M some few x aim g holds L ws room units).aside + u

  aside_is : (a : ℕ) → more (reduced_rows N Z ts K W M some few x aim g holds L ws room units a).kept.aside u ≡ more a aside_of
  unfolding narrowed stepped
  aside_is a =
      ap (λ (w : Work). more w.aside u) (reduces N Z ts K W M some few x aim g holds L ws room units a).moves
      ∙ ap (λ (n : ℕ). more (more (more a n) p) u) (left_sent N x g)
      ∙ ap (λ (n : ℕ). more n u) (more_more a (left_in_all N x g) p) ∙ more_more a (left_in_all N x g + p) u
    where
      p : ℕ
      p = (plan N Z ts K W M some few x aim g holds L ws room units).aside

  means : (a : ℕ) → advance N K W (length ts) x L (rows_of a g) ≡ rows_of (more a aside_of) (grid_of K W at (words_of ys))
  unfolding advance
  means a =
      ended.means (reduced_rows N Z ts K W M some few x aim g holds L ws room units a)
      (staged N Z ts K W M some few x aim g holds L ws room units number (grid_of K W at (words_of xs)) (groups_of W stage (words_of xs)) so short a)
      ∙ ap (λ (n : ℕ). rows_of n (grid_of K W at (words_of ys))) (aside_is a)

  after_fit : Fit N Z ts (suc M) (rows_of (more 0 aside_of) (grid_of K W at (words_of ys)))
  after_fit =
      subst (Fit N Z ts (suc M)) (means 0)
      (settles N Z ts some few M x aim (rows_of 0 g) (fit_from N Z ts K W M some few x aim g holds L 0) (λ C m F. 0) 0 (good_none N Z ts (suc M) K None g.lost) L K W (length ts)).fit

  pub advanced : Advanced N Z ts K W M x L g (grid_of K W at (words_of ys)) aside_of
  advanced =
      record {
        holds = record {
          neat = ended.neat;
          room = ended.room two;
          fit = record { shaped = after_fit.shaped; full = after_fit.full };
          few = omega (arith, ap (λ (r : Rows). r.lost) (means 0), advance_lost N K W (length ts) x L (rows_of 0 g), holds.few);
        };
        means = means;
      }

-- ---- a run

module _ (N Z : ℕ) (ts : List ℕ) (K W M L : ℕ) (p : Last) (bs : List ℕ) (g : Grid) where
  -- before the first
  pub ran_none : Holding N Z ts K W M g → Ran N Z ts K W M L p bs g 0 p bs g 0
  ran_none holds =
      record {
        holds = subst (λ (m : ℕ). Holding N Z ts K W m g) (let z : M ≡ 0 + M = omega arith in z) holds;
        means = λ a l. ap (λ (n : ℕ). run N Z K W ts L p bs (rows_of n g)) (let z : a ≡ more a 0 = omega (arith, more_adds a 0 (omega arith)) in z);
      }

  module _ (n : ℕ) (q : Last) (b : Grid) (u : ℕ) where
    -- one more
    pub ran_next : (c : ℕ) (cs : List ℕ) → Ran N Z ts K W M L p bs g n q (c ∷ cs) b u → (h : Grid) (v : ℕ) → Advanced N Z ts K W (n + M) (target_of Z ts q c) (living ts L cs) b h v
        → Ran N Z ts K W M L p bs g (n + 1) (Some c) cs h (u + v)
    unfolding run
    ran_next c cs so h v one =
        record {
          holds = subst (λ (m : ℕ). Holding N Z ts K W m h) (let z : suc (n + M) ≡ n + 1 + M = omega arith in z) one.holds;
          means = λ a l. so.means a l ∙ ap (run N Z K W ts L (Some c) cs) (one.means (more a u)) ∙ ap (λ (m : ℕ). run N Z K W ts L (Some c) cs (rows_of m h)) (more_more a u v);
        }

    -- all of them
    pub ran_all : Ran N Z ts K W M L p bs g n q [] b u → (a : ℕ) → a ≤ whole → run N Z K W ts L p bs (rows_of a g) ≡ rows_of (more a u) b
    unfolding run
    ran_all so a l = so.means a l
