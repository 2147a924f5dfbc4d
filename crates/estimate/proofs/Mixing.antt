-- The heads of all runs of a table, in whatever order they stand: what is to come of all of them is what comes of the table, and what is done with the states of each run is done with those
-- of the table.
use mathlib.Core.Path.{◌≡◌, refl, sym, ap, ◌∙◌, subst}
use mathlib.Core.List.{List, [], ◌∷◌, ◌++◌, map, flat_map, map-append}
use Prim.Native.Nat.{ℕ, ◌+◌}
use native.Mathlib.Omega.{arith}
use Rattle.basics.specs.Sums.{sum_over}
use Rattle.basics.proofs.Sums.{sum_append}
use Rattle.rules.specs.declared.State.{State}
use Rattle.rules.specs.declared.Target.{Target}
use Rattle.rules.specs.Shape.{Every}
use Rattle.rules.specs.Table.{add}
use Rattle.rules.proofs.Lists.{every_append, every_weaker}
use Rattle.rules.proofs.Table.{add_append}
use Rattle.heads.specs.Row.{Among}
use Rattle.estimate.specs.Merging.{in_all}
use Rattle.estimate.specs.ToCome.{run_in, to_come, runs_in, Whole, Mixed, Runs}
use Rattle.estimate.proofs.Adding.{add_nothing, add_swap}
use Rattle.estimate.proofs.Runs.{none_left}
use Rattle.estimate.proofs.Streams.{in_all_append}
use Rattle.estimate.proofs.StillToCome.{among_first}
use Rattle.estimate.proofs.RunHeads.{whole_comes}

-- ---- one among the others

front_rear : (P : ℕ → Type 0) (hs gs : List ℕ) → Every P (hs ++ gs) → Every P hs × Every P gs
front_rear P [] gs e = (tt, e)
front_rear P (h ∷ hs) gs e = let (a, b) = front_rear P hs gs e.1 in ((e.0, a), b)

-- what is so of it and of the others is so of all
pub among_every : (P : ℕ → Type 0) (h : ℕ) (hs gs : List ℕ) → Among h hs gs → P h → Every P hs → Every P gs
among_every P h hs gs a p e = let (l, r) = front_rear P a.before a.behind (subst (Every P) a.without e) in
    subst (Every P) (sym a.with) (every_append P a.before (h ∷ a.behind) l (p, r))

-- and what is so of all is so of it and of the others
pub every_among : (P : ℕ → Type 0) (h : ℕ) (hs gs : List ℕ) → Among h hs gs → Every P gs → P h × Every P hs
every_among P h hs gs a e = let (l, r) = front_rear P a.before (h ∷ a.behind) (subst (Every P) a.with e) in
    (r.0, subst (Every P) (sym a.without) (every_append P a.before a.behind l r.1))

-- sums take it first
pub sum_first : (f : ℕ → ℕ) (h : ℕ) (hs gs : List ℕ) → Among h hs gs → sum_over f gs ≡ sum_over f hs + f h
sum_first f h hs gs a =
    ap (sum_over f) a.with ∙ sum_append f a.before (h ∷ a.behind)
    ∙ omega (arith, sym (ap (sum_over f) a.without ∙ sum_append f a.before a.behind))

-- ---- all of them

module _ (T : List State) where
  -- P h is, of each head, what F makes of its run, and F goes run by run
  module _ (F : List State → List State) (P : ℕ → List State) (none : (X : List State) → add (F []) X ≡ X) (next : (R S X : List State) → add (F (R ++ S)) X ≡ add (F S) (add (F R) X)) where
    mixed_all : (bs hs : List ℕ) → Mixed bs hs → Every (λ h. (X : List State) → add (P h) X ≡ add (F (run_in T h)) X) hs → (X : List State) → add (flat_map P hs) X ≡ add (F (runs_in T bs)) X
    unfolding flat_map runs_in
    mixed_all [] hs m e X = ap (λ (gs : List ℕ). add (flat_map P gs) X) m ∙ add_nothing X ∙ sym (none X)
    mixed_all (b ∷ bs) hs (gs, a, m) e X =
        let (here, rest) = every_among (λ h. (X : List State) → add (P h) X ≡ add (F (run_in T h)) X) b gs hs a e in
        ap (λ (is : List ℕ). add (flat_map P is) X) a.with
        ∙ among_first P a.before a.behind b X
        ∙ ap (λ (is : List ℕ). add (flat_map P is) (add (P b) X)) (sym a.without)
        ∙ mixed_all bs gs m rest (add (P b) X)
        ∙ ap (add (F (runs_in T bs))) (here X)
        ∙ add_swap (F (runs_in T bs)) (F (run_in T b)) X
        ∙ sym (next (runs_in T bs) (run_in T b) X)

  mixed_sums : (f : State → ℕ) (bs hs : List ℕ) → Mixed bs hs → sum_over (λ h. sum_over f (run_in T h)) hs ≡ sum_over f (runs_in T bs)
  unfolding runs_in
  mixed_sums f [] hs m = ap (sum_over (λ h. sum_over f (run_in T h))) m
  mixed_sums f (b ∷ bs) hs (gs, a, m) =
      sum_first (λ h. sum_over f (run_in T h)) b gs hs a
      ∙ ap (◌+ sum_over f (run_in T b)) (mixed_sums f bs gs m)
      ∙ sym (sum_append f (runs_in T bs) (run_in T b))

  module _ (N : ℕ) (x : Target) (hs : List ℕ) (r : Runs N x T hs) where
    pub all_to_come : (X : List State) → add (flat_map (to_come N x T) hs) X ≡ add (in_all N x T 19) X
    all_to_come X =
        mixed_all (λ S. in_all N x S 19) (to_come N x T) (λ Y. none_left N x Y 19) (λ R S Y. in_all_append N x R S 19 Y) r.runs hs r.mixed
        (every_weaker (Whole N x T) (λ h. (Y : List State) → add (to_come N x T h) Y ≡ add (in_all N x (run_in T h) 19) Y) (whole_comes N x T) hs r.heads) X
        ∙ ap (λ (S : List State). add (in_all N x S 19) X) r.all

    pub all_mapped : (g : State → State) (X : List State) → add (map g (flat_map (run_in T) hs)) X ≡ add (map g T) X
    unfolding flat_map
    all_mapped g X =
        ap (λ (U : List State). add U X) (map_runs hs)
        ∙ mixed_all (map g) (λ h. map g (run_in T h)) add_nothing (λ R S Y. ap (λ (U : List State). add U Y) (map-append g R S) ∙ add_append (map g R) (map g S) Y) r.runs hs r.mixed
        (each hs) X
        ∙ ap (λ (S : List State). add (map g S) X) r.all
      where
        map_runs : (is : List ℕ) → map g (flat_map (run_in T) is) ≡ flat_map (λ h. map g (run_in T h)) is
        map_runs [] = refl
        map_runs (h ∷ is) = map-append g (run_in T h) (flat_map (run_in T) is) ∙ ap (map g (run_in T h) ++◌) (map_runs is)

        each : (is : List ℕ) → Every (λ h. (Y : List State) → add (map g (run_in T h)) Y ≡ add (map g (run_in T h)) Y) is
        each [] = tt
        each (h ∷ is) = (λ Y. refl, each is)

    pub all_summed : (f : State → ℕ) → sum_over f (flat_map (run_in T) hs) ≡ sum_over f T
    unfolding flat_map
    all_summed f = sum_runs hs ∙ mixed_sums f r.runs hs r.mixed ∙ ap (sum_over f) r.all
      where
        sum_runs : (is : List ℕ) → sum_over f (flat_map (run_in T) is) ≡ sum_over (λ h. sum_over f (run_in T h)) is
        sum_runs [] = refl
        sum_runs (h ∷ is) = sum_append f (run_in T h) (flat_map (run_in T) is) ∙ ap (sum_over f (run_in T h) +◌) (sum_runs is)
